use Rattle.std.proofs.Common.{◌≡◌, ◌++◌, ℕ, List, codes, decimal, ap, ap₂, ◌∙◌, arith}
use Rattle.std.specs.String.{string_bytes}
use Rattle.l4_futures.specs.Choices.{world_after}
use Rattle.l4_futures.specs.Endings.{length_of}
use Rattle.l4_futures.specs.Traces.{trace_along}
use Rattle.l4_always.specs.Always.{world_told}
use Rattle.l4_questions.specs.Always.{met_line}
use Rattle.l4_questions.proofs.StuckThreads.{leads}
use Rattle.l4_questions.proofs.always.met_text.Goals as goal

pub returns : goal.returns
returns c =
    let m = c.args.machine.now in
    let met = c.args.met.now in
    let entries = met.entries.items in
    let counted : c.len.result ≡ length_of (trace_along m entries)
    = omega (arith, c.len.ensures, met.entries.ok.0, (leads m entries c.know_times.ensures c.requires).1.long) in
    let line : string_bytes c.writeln.new.self ≡ met_line m met
    = c.in_ok-writeln.ensures.bytes
    ∙ ap (λ b. b ++ (codes "met, steps " ++ (decimal c.len.result ++ (c.or_fewer-fewer.result.now ++ codes "\n")))) c.new-line.ensures.bytes
    ∙ ap₂ (λ (n : ℕ) (f : List ℕ). codes "met, steps " ++ (decimal n ++ (f ++ codes "\n"))) counted c.or_fewer-fewer.ensures in
    c.in_ok-extend_from_slice.ensures.items
    ∙ ap₂ (λ (a b : List ℕ). a ++ b) (ap (λ v. v.items) c.into_bytes-lines.ensures.value ∙ line)
    (c.deref-2.ensures.value ∙ c.in_ok-told.ensures ∙ ap (λ es. world_told m (world_after m es)) c.deref.ensures.value)
