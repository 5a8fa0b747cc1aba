-- On a machine of one processor the world is what that processor has.
use Rattle.std.proofs.Common.{◌≡◌, ℕ, ◌<◌, ◌≤◌, Bool, true, false, [], ◌∷◌, map, filter, length, refl, ap, sym, ◌∙◌, subst, arith, inl, inr, ◌⊎◌}
use Rattle.std.specs.Prelude.{◌&&◌, ◌==◌, slice_index_or}
use Rattle.std.specs.List.{cons_option}
use Rattle.std.proofs.lemmas.Bool.{cases_lt}
use Rattle.std.proofs.lemmas.List.{ext_get_or, get_or-map, get_or_past, length-map}
use Rattle.l4_model.specs.Machine.{Machine, is_place, place_of}
use Rattle.l4_model.specs.World.{Owed, World, opening_thread}
use Rattle.l4_core_model.specs.Local.{Local, owed_beside, undeclared}
use Rattle.l4_core_model.specs.Runs.{IsMachine, System}
use Rattle.l4_core_model.proofs.Changed.{same_nat}
use Rattle.l4_refines.specs.Laws.{IsState, blocks_in, is_owed_since}
use Rattle.l4_refines.proofs.Relation.Views.{home, scene, view}
use Rattle.l4_refines.proofs.Relation.Rows.{AreTogether}
use Rattle.l4_refines.proofs.Relation.Whereabouts.{same_together}
use Rattle.l4_refines.proofs.Relation.Owing.{home_of, is_at_one, is_beside}
use Rattle.l4_refines.proofs.Relation.Relates.{IsSized, Relates}

home_alone : (m : Machine) (i : ℕ) → IsMachine m → m.cpus ≡ 1 → home m i ≡ 0
home_alone m i machine alone = by (cases_lt i (length m.threads))
  where
    by : ((i < length m.threads) ⊎ (length m.threads ≤ i)) → home m i ≡ 0
    by (inl lt) = let below = machine.homed i lt in omega arith
    by (inr le) = ap (λ d. d.cpu) (get_or_past m.threads i undeclared le)

pub all_together : (m : Machine) → IsMachine m → m.cpus ≡ 1 → AreTogether m
all_together m machine alone i j = home_alone m i machine alone ∙ sym (home_alone m j machine alone)

pub state_of_one : (m : Machine) (g : System) (w : World) → IsMachine m → m.cpus ≡ 1 → Relates m g w → IsState m ((scene g).locals 0) w
state_of_one m g w machine alone relates = record {
  threads = ext_get_or opening_thread w.threads l.threads (relates.sized_world.threads ∙ sym sized.threads) thread_same;
  waiting = ext_get_or [] w.waiting (map blocks_in l.lists.waiting)
      (relates.sized_world.lists ∙ sym sized.lists ∙ sym (length-map l.lists.waiting blocks_in)) list_same;
  clocks = ext_get_or 0 w.clocks (l.clock ∷ []) (relates.sized_world.clocks ∙ alone) clock_same;
  owed = owed_same;
}
  where
    l : Local
    l = (scene g).locals 0

    together : AreTogether m
    together = all_together m machine alone

    sized : IsSized m l
    sized = relates.sized 0 (omega (arith, alone))

    thread_same : (i : ℕ) → i < length w.threads → slice_index_or w.threads i opening_thread ≡ slice_index_or l.threads i opening_thread
    thread_same i lt =
        same_together m i (view m (scene g) w i) (relates.places i (omega (arith, relates.sized_world.threads)) tt).known together
        ∙ ap (λ c. slice_index_or ((scene g).locals c).threads i opening_thread) (home_alone m i machine alone)

    list_same : (r : ℕ) → r < length w.waiting → slice_index_or w.waiting r [] ≡ slice_index_or (map blocks_in l.lists.waiting) r []
    list_same r lt =
        relates.lists r (omega (arith, relates.sized_world.lists))
        ∙ ap (λ c. blocks_in (slice_index_or ((scene g).locals c).lists.waiting r [])) (home_alone m r machine alone)
        ∙ sym (get_or-map blocks_in l.lists.waiting r [] [] (omega (arith, sized.lists, relates.sized_world.lists)))

    clock_same : (c : ℕ) → c < length w.clocks → slice_index_or w.clocks c 0 ≡ slice_index_or (l.clock ∷ []) c 0
    clock_same c lt =
        let first : c ≡ 0 = omega (arith, relates.sized_world.clocks, alone) in
        subst (λ c. slice_index_or w.clocks c 0 ≡ slice_index_or (l.clock ∷ []) c 0) (sym first) (relates.clocks 0 (omega (arith, alone)))

    beside_it : (r : ℕ) (o : Owed) → is_owed_since m r o ≡ is_beside m r o
    beside_it r o =
        let one : is_at_one m o ≡ true = ap (λ c. c == home_of m o.new_partner) (together _ _) ∙ same_nat (home_of m o.new_partner) in
        rw one (by (is_place (place_of m o.new_partner) r))
      where
        by : (b : Bool) → b ≡ (b && true)
        by true = refl
        by false = refl

    owed_same : (r : ℕ) → r < length m.threads → filter (is_owed_since m r) w.owed ≡ cons_option (owed_beside l r) []
    owed_same r lt =
        ap (λ (p : Owed → Bool). filter p w.owed) (λ d o. beside_it r o d) ∙ relates.owing.kept r lt
        ∙ ap (λ c. cons_option (owed_beside ((scene g).locals c) r) []) (home_alone m r machine alone)
