-- The processors of a machine where nothing has happened, and behind a rest.
use Rattle.std.proofs.Common.{◌≡◌, ℕ, suc, ◌+◌, Option, Some, None, List, [], ◌∷◌, ◌++◌, map, length, refl, ap, ap₂, sym, ◌∙◌, subst, arith}
use Rattle.std.specs.Prelude.{slice_get}
use Rattle.std.specs.List.{range_with_len}
use Rattle.std.specs.List.Sorted.{IsPermutation}
use Rattle.std.proofs.lemmas.Option.{slice_get_within}
use Rattle.std.proofs.lemmas.List.{length-map}
use Rattle.std.proofs.lemmas.List.Sorted.{IsPermutation-refl}
use Rattle.l4_model.specs.Machine.{Machine}
use Rattle.l4_core_model.specs.Local.{Local, opening_local}
use Rattle.l4_core_model.specs.Runs.{Run, opening_run}
use Rattle.l4_merge.specs.LocalTraces.{LocalTrace, posted_in, handled_in, letters_posted, letters_handled, all_events}
use Rattle.l4_merge.specs.Merges.{EndsAt}
use Rattle.l4_merge.proofs.InRounds.{opening_in_rounds, is_core_run}
use Rattle.l4_mail.specs.Ports.{AreOneFabric}
use Rattle.l4_proc.specs.Inner.Assembled.{AreAssembled}
use Rattle.l4_proc.specs.Rests.{AreAsBefore}
use Rattle.l4_proc.specs.Working.{past}
use Rattle.l4_proc.specs.declared.worker.Worker.{Worker}
use Rattle.l4_proc.specs.declared.processor.Processor.{Processor}
use Rattle.l4_proc.proofs.Rested.{port_of, same_at, same_pasts}
use Rattle.l4_machine.specs.Inner.Teams.{pasts, count_events, HaveCome}
use Rattle.l4_machine.proofs.InOneHand.{none_handled}
use Rattle.l4_machine.proofs.Members.{some_there, mapped_range, assembled_in_order, in_order_same}
use Rattle.l4_machine.proofs.Turned.{past_at, count_same}

no_events : (ps : List Processor) → ((i : ℕ) (p : Processor) → slice_get ps i ≡ Some p → (past p).events ≡ []) → all_events (pasts ps) ≡ []
no_events [] none = refl
no_events (p ∷ ps) none = ap₂ (λ xs ys. xs ++ ys) (none 0 p refl) (no_events ps (λ i q at. none (suc i) q at))

locals_of : (ps : List Processor) → map (λ (d : LocalTrace). d.local) (pasts ps) ≡ map (λ (p : Processor). p.worker.core.local) ps
locals_of [] = refl
locals_of (p ∷ ps) = ap (λ ls. p.worker.core.local ∷ ls) (locals_of ps)

none_carried : {room : ℕ} (m : Machine) (ps : List Processor) → AreAssembled room m ps → (from to : ℕ) →
    (letters_posted (pasts ps) from to ≡ []) × (letters_handled (pasts ps) from to ≡ [])
none_carried m ps a from to = (posted (slice_get (pasts ps) from) refl, handled (slice_get (pasts ps) to) refl)
  where
    posted : (o : Option LocalTrace) → slice_get (pasts ps) from ≡ o → posted_in to o ≡ []
    posted None at = refl
    posted (Some done) at =
        let p = past_at ps from done at in
        ap (λ (d : LocalTrace). d.posted to) (sym p.1.1) ∙ ((a.each from p.0 p.1.0).posted to)

    handled : (o : Option LocalTrace) → slice_get (pasts ps) to ≡ o → handled_in from o ≡ []
    handled None at = refl
    handled (Some done) at =
        let p = past_at ps to done at in
        ap (λ (d : LocalTrace). d.handled from) (sym p.1.1) ∙ none_handled p.0 from ((a.each to p.0 p.1.0).taken from)

pub opening_come : {room : ℕ} (m : Machine) (ps : List Processor) → AreAssembled room m ps → HaveCome m ps (opening_run m)
opening_come m ps a =
    let none = no_events ps (λ i p at. (a.each i p at).events) in
    record {
      in_order = assembled_in_order m ps a;
      core_run = is_core_run m 0 (opening_run m) (opening_in_rounds m 0);
      ends = record {
        locals =
            ap (λ n. map (opening_local m) (range_with_len 0 n)) (sym a.count)
            ∙ mapped_range (opening_local m) (λ (p : Processor). p.worker.core.local) ps 0
            (λ k p at. let same : 0 + k ≡ k = omega arith in ap (opening_local m) same ∙ sym (a.each k p at).local)
            ∙ sym (locals_of ps);
        mail = λ from to. let both = none_carried m ps a from to in both.0 ∙ ap (λ ls. ls ++ []) (sym both.1);
      };
      events = subst (λ es. IsPermutation es []) (sym none) (IsPermutation-refl []);
      clocks = λ i p at. let still = ap (λ (l : Local). l.clock) (a.each i p at).local in omega arith;
    }

pub opening_count : {room : ℕ} (m : Machine) (ps : List Processor) → AreAssembled room m ps → count_events ps ≡ 0
opening_count m ps a = ap length (no_events ps (λ i p at. (a.each i p at).events))

pub come_same : (m : Machine) (olds news : List Processor) (r : Run) → AreAsBefore olds news → AreOneFabric (map port_of news) → HaveCome m olds r → HaveCome m news r
come_same m olds news r same one come = record {
  in_order = in_order_same m olds news same one come.in_order;
  core_run = come.core_run;
  ends = subst (EndsAt r) (sym (same_pasts olds news same)) come.ends;
  events = subst (λ done. IsPermutation (all_events done) r.events) (sym (same_pasts olds news same)) come.events;
  clocks = λ i p at.
      let count : length news ≡ length olds = sym (length-map news (λ (p : Processor). p.worker)) ∙ ap length same.workers
      ∙ length-map olds (λ (p : Processor). p.worker) in
      let lt = slice_get_within news i p at in
      let old = some_there olds i (omega (arith, count)) in
      let here = ap (λ (w : Worker). w.core.local.clock) (same_at olds news i old.0 p same old.1 at).worker in
      let events = count_same olds news same in
      let low = come.clocks i old.0 old.1 in
      omega (arith, here, events);
}
