use Rattle.std.proofs.Common.{List, ℕ, ◌++◌, ap, ◌∙◌}
use Rattle.l4_model.specs.Machine.{Declaration}
use Rattle.l4_counts.specs.Inner.Threads.{counts_lines}
use Rattle.l4_counts.proofs.Each.{lines_told}
use Rattle.l4_counts.proofs.lines.write_counts.Goals as goal

pub returns-clause-ok : goal.returns-clause-ok
returns-clause-ok c =
    let ds = c.args.machine.now.threads in
    c.in_ok-extend_from_slice.ensures.items
    ∙ ap (λ (text : List ℕ). c.args.out.now.items ++ text)
    (c.as_bytes.ensures.value ∙ c.in_ok-push_all.ensures
    ∙ ap (λ (text : List ℕ). text ++ counts_lines c.threads.result.now c.as_slice.result.now) c.new-text.ensures.bytes
    ∙ ap (λ (ds : List Declaration). counts_lines ds c.as_slice.result.now) c.threads.ensures.value
    ∙ ap (counts_lines ds) (c.as_slice.ensures.value ∙ c.in_ok-counts.ensures)
    ∙ lines_told ds c.args.history.now.steps)
