use Rattle.std.proofs.Common.{subst}
use Rattle.std.specs.Prelude.{IfSome}
use Rattle.l4_condition_lines.specs.Conditions.{meets}
use Rattle.l4_condition_lines.proofs.Judging.{lines_alike}
use Rattle.l4_invariants.specs.Inner.Searched.{IsFirstMet}
use Rattle.l4_always.proofs.Saying.{meets_at}
use Rattle.l4_always.proofs.search.met_among.Goals as goal

pub nearest-requires-clause-meets : goal.nearest-requires-clause-meets
nearest-requires-clause-meets g c =
    let m = c.args.machine.now in
    let asked = c.args.condition.now in
    let found = c.args.found.now in
    let first = subst (λ o. IfSome o (IsFirstMet m found (meets m asked))) c.in-Some.is c.in_ok-place.ensures.some in
    meets_at m (meets m asked) c.know_times.ensures (λ w v good. lines_alike m asked w v c.facts.ensures good)
    found c.in-Some.place c.in_ok-entries.entries.items c.requires.short first c.in_ok-entries.ensures
