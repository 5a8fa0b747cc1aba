-- The script of the last thread, changed instruction by instruction.
use Rattle.std.proofs.Common.{◌≡◌, ℕ, ◌+◌, ◌-◌, ◌<◌, List, ◌∷◌, length, get_or, set, drop, sym, ap, ◌∙◌, arith, length-set}
use Rattle.std.proofs.lemmas.List.{at_drop_more, set-set, set-get_or, get_or-set_same}
use Rattle.l4_model.specs.Machine.{Instr, Declaration, Machine}
use Rattle.l4_core_model.specs.Local.{undeclared}
use Rattle.l4_script.specs.Machines.{last_place, last_thread, with_last_script}
use Rattle.l4_script.specs.Second.Texts.{Label, Target, found_place, placed_at, placed}

abbrev with_script : List Instr → Declaration → Declaration
with_script script d = record d { script = script }

module _ (script : List Instr) (m : Machine) (some : 0 < length m.threads) where
  pub last_is : last_thread (with_last_script script m) ≡ with_script script (last_thread m)
  last_is =
      let within : last_place m < length m.threads = omega arith in
      rw (length-set m.threads (last_place m) (with_script script (last_thread m)))
      (get_or-set_same m.threads (last_place m) (with_script script (last_thread m)) undeclared within)

  pub twice : (later : List Instr) → with_last_script later (with_last_script script m) ≡ with_last_script later m
  twice later =
      let d = with_script script (last_thread m) in
      let place = length-set m.threads (last_place m) d in
      let last = last_is in
      ap (λ (ds : List Declaration). record m { threads = ds })
      (ap (λ (x : Declaration). set (set m.threads (last_place m) d) (last_place (with_last_script script m)) (with_script later x)) last
      ∙ ap (λ (n : ℕ). set (set m.threads (last_place m) d) (n - 1) (with_script later (last_thread m))) place
      ∙ set-set m.threads (last_place m) d (with_script later (last_thread m)))

  pub some_left : 0 < length (with_last_script script m).threads
  some_left = omega (arith, length-set m.threads (last_place m) (with_script script (last_thread m)))

pub unchanged : (m : Machine) → with_last_script (last_thread m).script m ≡ m
unchanged m = ap (λ (ds : List Declaration). record m { threads = ds }) (set-get_or m.threads (last_place m) undeclared)

-- What is left to place, once the first of it is placed.
pub one_placed : (labels : List Label) (targets : List Target) (i : ℕ) (t : Target) (m after total : Machine) → i < length targets → t ≡ get_or targets i t → 0 < length m.threads
    → after ≡ with_last_script (placed_at t.at (found_place labels t.place) (last_thread m).script) m
    → total ≡ with_last_script (placed labels (drop i targets) (last_thread m).script) m
    → total ≡ with_last_script (placed labels (drop (i + 1) targets) (last_thread after).script) after
one_placed labels targets i t m after total within at some is so_far =
    let script = placed_at t.at (found_place labels t.place) (last_thread m).script in
    let left = drop (i + 1) targets in
    so_far
    ∙ at_drop_more (λ (ts : List Target). with_last_script (placed labels ts (last_thread m).script) m) targets i t within
    ∙ ap (λ (x : Target). with_last_script (placed labels (x ∷ left) (last_thread m).script) m) (sym at)
    ∙ sym (twice script m some (placed labels left script))
    ∙ ap (λ (d : Declaration). with_last_script (placed labels left d.script) (with_last_script script m)) (sym (last_is script m some))
    ∙ ap (λ (x : Machine). with_last_script (placed labels left (last_thread x).script) x) (sym is)
