use Rattle.std.proofs.Common.{◌≡◌, ◌≤◌, ℕ, zero, suc, List, [], ◌∷◌, length, drop, subst, sym, refl, arith}
use Rattle.std.specs.List.{AllByRecursion}
use Rattle.l4_model.specs.Machine.{Declaration}
use Rattle.l4_worlds.specs.Histories.{IsShortIn}
use Rattle.l4_outlooks.proofs.Homes.{homes}
use Rattle.l4_outlooks.proofs.timed.know_times.Goals as goal

none_left : (n : ℕ) (ds : List Declaration) → length ds ≤ n → drop n ds ≡ []
none_left zero [] h = refl
none_left (suc n) [] h = refl
none_left zero (d ∷ ds) h = absurd (omega arith)
none_left (suc n) (d ∷ ds) h = none_left n ds (omega arith)

abbrev AllShort : List Declaration → Type 0
AllShort ds = AllByRecursion (λ (d : Declaration). AllByRecursion IsShortIn d.script) ds

pub returns : goal.returns
returns c =
    let none = none_left c.loop-declared.declared-index c.threads-threads.result.now (omega arith) in
    record {
      processors = homes c.args.machine.now c.threads-threads.ensures.lawful;
      periods = subst AllShort c.threads-threads.ensures.value (c.loop-declared.invariant (subst AllShort (sym none) tt));
    }
