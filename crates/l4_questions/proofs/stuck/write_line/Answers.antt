use Rattle.std.proofs.Common.{◌≡◌, ◌++◌, ℕ, List, codes, decimal, slice_get, append_assoc, ap, sym, ◌∙◌, arith}
use Rattle.std.specs.String.{string_bytes}
use Rattle.l4_futures.specs.Endings.{length_of}
use Rattle.l4_futures.specs.Traces.{trace_along}
use Rattle.l4_stuck.specs.Stuck.{stuck_from}
use Rattle.l4_questions.specs.Stuck.{declared_word}
use Rattle.l4_questions.proofs.StuckThreads.{leads}
use Rattle.l4_questions.proofs.stuck.write_line.Goals as goal

pub returns : goal.returns
returns c =
    let m = c.args.machine.now in
    let s = stuck_from c.args.stuck.now in
    let word : List ℕ = declared_word (slice_get m.threads s.thread) in
    let start : string_bytes c.push_str.new.self ≡ codes "stuck"
    = c.in_ok-push_str.ensures.bytes ∙ ap (λ b. b ++ codes "stuck") c.new-line.ensures.bytes in
    let named : string_bytes c.push_declared.new.line ≡ codes "stuck" ++ codes " " ++ word
    = c.in_ok-push_declared.ensures ∙ ap (λ b. b ++ codes " " ++ word) start in
    let counted : c.len.result ≡ length_of (trace_along m s.entries)
    = omega (
      arith,
      c.len.ensures,
      c.args.stuck.now.entries.ok.0,
      (leads m s.entries c.know_times.ensures c.requires.led).1.long,
    ) in
    let told = c.in_ok-writeln.ensures.bytes
    ∙ ap (λ b. b ++ (codes " for ever, steps " ++ decimal c.len.result ++ codes "\n")) named
    ∙ ap (λ n. codes "stuck" ++ codes " " ++ word ++ (codes " for ever, steps " ++ decimal n
    ++ codes "\n")) counted in
    c.in_ok-extend_from_slice.ensures.items
    ∙ ap (λ b. c.args.lines.now.items ++ b) (c.as_bytes.ensures.value ∙ told
    ∙ ap (λ b. codes "stuck " ++ b) (sym (append_assoc word
    (codes " for ever, steps " ++ decimal (length_of (trace_along m s.entries))) (codes "\n"))))
