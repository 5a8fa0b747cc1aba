-- The next item where it is the number of a processor.
use Rattle.std.proofs.Common.{◌≡◌, ℕ, ◌+◌, ◌-◌, ◌<◌, ◌≤◌, false, Option, Some, None, Err, List, [], ◌∷◌, ◌++◌, length, refl, ap, sym, ◌∙◌, arith}
use Rattle.std.specs.Prelude.{decimal, nat_lt}
use Rattle.std.proofs.lemmas.Bool.{lt-ltb}
use Rattle.std.proofs.lemmas.Bool.Decides.{nat_tests}
use Rattle.l4_model.specs.Machine.{Machine}
use Rattle.l4_core_model.specs.Schedules.{Entry, TurnOf}
use Rattle.l4_replay.specs.declared.fault.RunFault.TheVariants.{Schedule}
use Rattle.l4_schedules.specs.Items.{if_entry, machine_entry, or_fault, read_items}
use Rattle.l4_schedules.proofs.ItemSpelling.{item_spells, teen}

pub two_digits : (d : ℕ) → d < 6 → decimal (10 + d) ≡ 49 ∷ (48 + d) ∷ []
two_digits d small =
    let same : (10 + d) - 10 ≡ d = omega arith in
    teen (10 + d) (omega arith) (omega arith) ∙ ap (λ (n : ℕ). 49 ∷ (48 + n) ∷ []) same

module _ (m : Machine) (entries : List Entry) (cpu : ℕ) (items rest : List (List ℕ)) (small : cpu < 16) (is : items ≡ decimal cpu ∷ rest) where
  said : machine_entry m (decimal cpu) ≡ if_entry m (Some (TurnOf cpu))
  said = ap (if_entry m) (item_spells (TurnOf cpu) (lt-ltb cpu 16 small))

  step : (judged : Option Entry) → machine_entry m (decimal cpu) ≡ judged
      → read_items m entries items ≡ or_fault (length entries + 1) judged (λ entry. read_items m (entries ++ entry ∷ []) rest)
  step judged e = ap (read_items m entries) is ∙ ap (λ (e : Option Entry). or_fault (length entries + 1) e (λ entry. read_items m (entries ++ entry ∷ []) rest)) e

  pub turn_read : cpu < m.cpus → read_items m entries items ≡ read_items m (entries ++ TurnOf cpu ∷ []) rest
  turn_read below = step (Some (TurnOf cpu)) (said ∙ rw (lt-ltb cpu m.cpus below) refl)

  pub turn_missed : (size : ℕ) → size ≡ length entries → m.cpus ≤ cpu → read_items m entries items ≡ Err (Schedule (size + 1))
  turn_missed size sized above =
      let none : nat_lt cpu m.cpus ≡ false = grind (arith, nat_tests) in
      step None (said ∙ rw none refl) ∙ ap (λ (n : ℕ). Err (Schedule (n + 1))) (sym sized)
