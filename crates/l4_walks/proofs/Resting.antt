-- What a walk of placed threads comes to.
use Rattle.std.proofs.Common.{◌≡◌, ℕ, ◌≤◌, Bool, true, false, ◌⊎◌, Option, None, Some, List, [], ◌∷◌, ◌++◌, length, map, refl, ap, sym, subst, ◌∙◌, arith, Global}
use Rattle.std.specs.Prelude.{Vec, if◌then◌else◌, is_some}
use Rattle.std.proofs.lemmas.List.{length-map, map-append}
use Rattle.l4_model.specs.Machine.{Machine}
use Rattle.l4_core_model.specs.Runs.{at_rest, opening_run}
use Rattle.l4_core_model.specs.Schedules.{Entry}
use Rattle.l4_replay.specs.Entries.{after_entry as after_entry_of_run, entry_from}
use Rattle.l4_replay.specs.UnderWay.{GoesOn, IsRun, UnderWay}
use Rattle.l4_replay.specs.declared.entries.Entry as code
use Rattle.l4_states.specs.Choices.{after_entry, choice, IsLeastRun}
use Rattle.l4_states.specs.Endings.{entries_of, led}
use Rattle.l4_states.proofs.Chosen.{least_run}
use Rattle.l4_states.proofs.Endings.{replayed, IsReplayed}
use Rattle.l4_endings.specs.Inner.Tried.{entries_from}
use Rattle.l4_endings.specs.Inner.Walked.{IsWalked}
use Rattle.l4_endings.proofs.Walking.{leads_on, told_choice, walked_on, walked_start, IsNearIn}
use Rattle.l4_walks.specs.Inner.Placed.{IsOver, IsUnderWay, IsWalk, LeadsOn, LeadsToRest}
use Rattle.l4_walks.specs.Replays.{IsReplay}

module _ (m : Machine) (s : List ℕ) (w : UnderWay) (walked : IsWalked m s w) where
  goes : IsReplayed m (opening_run m) walked.run.system s
  goes = replayed m s (opening_run m) walked.run.system walked.leads

  is_replay : IsReplay m (entries_of m s)
  is_replay =
      let g = goes in
      let long = length-map s (choice m) in
      record {
        run = subst (λ n. IsLeastRun m n (led m (entries_of m s))) (sym long)
            (subst (IsLeastRun m (length s)) (sym g.system)
            (least_run m s walked.run.system walked.leads));
        events = omega (arith, g.count, long);
      }

  rests : (most : ℕ) → length (entries_of m s) ≤ most → at_rest m walked.run.system ≡ true →
      LeadsToRest m most (entries_of m s)
  rests most near rest =
      let g = goes in
      record { replay = is_replay; rest = ap (at_rest m) g.system ∙ rest; near = near }

  on : (most : ℕ) → (length (entries_of m s) ≡ most) ⊎ IsOver m walked.run.system →
      at_rest m walked.run.system ≡ false → LeadsOn m most
  on most many goes_on =
      let g = goes in
      record {
        entries = entries_of m s;
        replay = is_replay;
        goes_on = ap (at_rest m) g.system ∙ goes_on;
        as_many =
            subst (λ g. (length (entries_of m s) ≡ most) ⊎ IsOver m g) (sym g.system) many;
      }

-- The entries of a walk are told where it has come to rest.
pub comes : (m : Machine) (most : ℕ) (entries : Vec code.Entry Global) (w : UnderWay)
    (u : IsUnderWay m entries.items w) (o : Option (Vec code.Entry Global)) →
    length entries.items ≤ most →
    (length entries.items ≡ most) ⊎ IsOver m u.walked.run.system →
    o ≡ (if at_rest m u.walked.run.system then Some entries else None) → IsWalk m most o
comes m most entries w u o near many is =
    subst (IsWalk m most) (sym is) (by (at_rest m u.walked.run.system) refl)
  where
    long : length (entries_of m u.numbers) ≡ length entries.items
    long = ap length (sym u.are) ∙ length-map entries.items entry_from

    by : (b : Bool) → at_rest m u.walked.run.system ≡ b →
        IsWalk m most (if b then Some entries else None)
    by true rest =
        subst (LeadsToRest m most) (sym u.are)
        (rests m u.numbers w u.walked most (omega (arith, near, long)) rest)
    by false goes_on =
        on m u.numbers w u.walked most
        (subst (λ n. (n ≡ most) ⊎ IsOver m u.walked.run.system) (sym long) many) goes_on

pub started : (m : Machine) (entries : List code.Entry) (w : UnderWay) → entries ≡ [] →
    IsRun m (opening_run m) w → IsUnderWay m entries w
started m entries w none run = record {
  numbers = [];
  are = ap entries_from none;
  walked = walked_start m w run;
}

-- One more entry
pub went_on : (m : Machine) (old new : List code.Entry) (entry : code.Entry) (w v : UnderWay)
    (e cpus : ℕ) → (u : IsUnderWay m old w) → cpus ≡ m.cpus →
    is_some (after_entry m u.walked.run.system (choice m e)) ≡ true → new ≡ old ++ entry ∷ [] →
    entry_from entry ≡ told_choice cpus e → GoesOn (after_entry_of_run (told_choice cpus e)) w v →
    IsNearIn w cpus e → IsUnderWay m new v
went_on m old new entry w v e cpus u count possible more is goes near = record {
  numbers = u.numbers ++ e ∷ [];
  are =
      ap entries_from more ∙ map-append entry_from old (entry ∷ [])
      ∙ ap (λ es. es ++ entry_from entry ∷ []) u.are
      ∙ ap (λ x. entries_of m u.numbers ++ x ∷ []) (is ∙ ap (λ n. told_choice n e) count)
      ∙ sym (map-append (choice m) u.numbers (e ∷ []));
  walked =
      walked_on m u.numbers w v e cpus u.walked (leads_on m u.numbers w e u.walked possible) count
      goes near;
}
