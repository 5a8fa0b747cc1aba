-- What a run in rounds comes to.
use Rattle.std.proofs.Common.{◌≡◌, ◌↔◌, ◌⊎◌, ℕ, ◌+◌, ◌<◌, ◌≤◌, true, List, map, length, ap, sym, ◌∙◌, subst, inl, inr, ⊎_elim, arith}
use Rattle.std.proofs.lemmas.List.Sorted.{length_permutation, IsPermutation-trans}
use Rattle.l4_model.specs.Machine.{Machine}
use Rattle.l4_core_model.specs.Runs.{Run, merged, told, at_rest}
use Rattle.l4_merge.specs.LocalTraces.{AreWholePasts, all_events}
use Rattle.l4_merge.specs.Merges.{AreAtRest, EndsAt}
use Rattle.l4_merge.specs.Rounds.{IsInRounds}
use Rattle.l4_merge.proofs.Alone.{alone}
use Rattle.l4_merge.proofs.Permuted.{merged_moves}
use Rattle.l4_merge.proofs.Rest.{rests as run_rests, rested as run_rested}
use Rattle.l4_merge.proofs.Wholes.{whole_sorts_as_merged}
use Rattle.l4_mail.specs.Ports.{AreWhole}
use Rattle.l4_proc.specs.declared.processor.Processor.{Processor}
use Rattle.l4_proc.proofs.Rested.{port_of}
use Rattle.l4_machine.specs.Outcomes.{Findings, IsFoundFor, IsOutcomeOf, in_order}
use Rattle.l4_machine.specs.Gathers.{AreResting}
use Rattle.l4_machine.specs.Gathered.{IsGathered}
use Rattle.l4_machine.specs.Inner.Teams.{pasts, count_events, AreInOrder, HaveCome}
use Rattle.l4_machine.proofs.InOneHand.{rests, whole_pasts}
use Rattle.l4_machine.proofs.Rising.{merged_sorted}
use Rattle.l4_machine.proofs.Members.{in_order_have_numbers, pasts_are}

pub count_is : (m : Machine) (ps : List Processor) (r : Run) → HaveCome m ps r → count_events ps ≡ length r.events
count_is m ps r come = sym (length_permutation (all_events (pasts ps)) r.events come.events)

-- An outcome is told of any run with the same events, at rest where that one is.
same_outcome : (m : Machine) (r other : Run) (o : Findings) → other.events ≡ r.events → (at_rest m other.system ≡ true) ↔ (at_rest m r.system ≡ true) →
    IsOutcomeOf m r o → IsOutcomeOf m other o
same_outcome m r other o events rest is = record {
  is_true = is.is_true;
  history = is.history ∙ ap told (sym events);
  turns = is.turns ∙ ap length (sym events);
  quiet = ((λ q. rest.1 (is.quiet.0 q)), (λ e. is.quiet.1 (rest.0 e)));
}

whole_here : (m : Machine) (ps : List Processor) (r : Run) → HaveCome m ps r → AreWhole (map port_of ps) → AreWholePasts m (pasts ps)
whole_here m ps r come whole =
    let all = come.in_order in
    subst (AreWholePasts m) (pasts_are m ps all) (whole_pasts m ps all.of_one (in_order_have_numbers m ps all) whole)

-- However its events are told, they are merged to the same.
merged_same : (m : Machine) (ps : List Processor) (r : Run) → HaveCome m ps r → AreWhole (map port_of ps) → merged r.events ≡ merged (all_events (pasts ps))
merged_same m ps r come whole =
    whole_sorts_as_merged m (pasts ps) (whole_here m ps r come whole) (merged r.events)
    (IsPermutation-trans (all_events (pasts ps)) r.events (merged r.events) come.events (merged_moves r.events))
    (merged_sorted r.events)

pub found : (m : Machine) (most : ℕ) (ps : List Processor) (r : Run) (o : Findings) → HaveCome m ps r → IsInRounds m most r → AreWhole (map port_of ps) →
    (most ≤ count_events ps) ⊎ AreResting ps → count_events ps < most + m.cpus → IsGathered m ps o → IsFoundFor m most o
found m most ps r o come rounds whole least fewer g = record {
  run = r;
  is = record {
    rounds = rounds;
    least = ends;
    fewer = omega (arith, count);
    alone = λ one. alone m most most r one rounds (omega (arith, count, one)) ends;
  };
  outcome = same_outcome m g.run (in_order r) o
      (merged_same m ps r come whole ∙ sym (g.whole.events ∙ ap (λ done. merged (all_events done)) (pasts_are m ps all)))
      ((λ e. run_rests m (pasts ps) g.run there (run_rested m (pasts ps) r come.ends e)), (λ e. run_rests m (pasts ps) r come.ends (run_rested m (pasts ps) g.run there e)))
      g.outcome;
}
  where
    all : AreInOrder m ps
    all = come.in_order

    count : count_events ps ≡ length r.events
    count = count_is m ps r come

    there : EndsAt g.run (pasts ps)
    there = subst (EndsAt g.run) (pasts_are m ps all) g.whole.ends

    ends : (most ≤ length r.events) ⊎ (at_rest m r.system ≡ true)
    ends = ⊎_elim
        (λ used. inl (omega (arith, count)))
        (λ resting. inr (run_rests m (pasts ps) r come.ends
        (subst (AreAtRest m) (pasts_are m ps all) (rests m ps all.of_one (in_order_have_numbers m ps all) whole resting))))
        least
