use Rattle.std.proofs.Common.{◌≡◌, ◌++◌, ◌∷◌, [], List, ◌∙◌, None, ap, append_assoc, refl, subst, sym, rules}
use Rattle.std.specs.Prelude.{is_some}
use Rattle.std.proofs.lemmas.List.{append-nil}
use Rattle.l4_model.specs.Steps.{Step}
use Rattle.l4_core_model.specs.Runs.{Event, merged, told}
use Rattle.l4_machine.specs.Inner.EventsLeft.{all_left, first_stamp}
use Rattle.l4_machine.proofs.EventsLeft.{at_place, chosen, none_chosen, taken}
use Rattle.l4_machine.specs.declared.unmerged.Unmerged.{Unmerged}
use Rattle.l4_machine.proofs.unmerged.tell_all.Goals as goal

blank : Unmerged
blank = record { place = 0; count = 0; left = 0; stamp = None }

pub bounds-logs-place : goal.bounds-logs-place
bounds-logs-place g c =
    let ps = c.args.processors.now in
    let next = (chosen ps c.loop-place.logs c.in-Some.place c.loop-place.invariant.whole c.loop-place.invariant.rising (sym c.first_place.ensures ∙ c.in-Some.is)).next in
    (at_place ps c.loop-place.logs c.in-Some.place blank (next.event ∷ next.rest) c.loop-place.invariant.whole next.here).0

pub offset_bounds-logs-place : goal.offset_bounds-logs-place
offset_bounds-logs-place g c =
    let ps = c.args.processors.now in
    let next = (chosen ps c.loop-place.logs c.in-Some.place c.loop-place.invariant.whole c.loop-place.invariant.rising (sym c.first_place.ensures ∙ c.in-Some.is)).next in
    let lt = (at_place ps c.loop-place.logs c.in-Some.place blank (next.event ∷ next.rest) c.loop-place.invariant.whole next.here).0 in
    search rules

pub take_first-steps-requires-clause-whole : goal.take_first-steps-requires-clause-whole
take_first-steps-requires-clause-whole g c =
    let ps = c.args.processors.now in
    let next = (chosen ps c.loop-place.logs c.in-Some.place c.loop-place.invariant.whole c.loop-place.invariant.rising (sym c.first_place.ensures ∙ c.in-Some.is)).next in
    (at_place ps c.loop-place.logs c.in-Some.place _ (next.event ∷ next.rest) c.loop-place.invariant.whole next.here).1

pub take_first-steps-requires-clause-some : goal.take_first-steps-requires-clause-some
take_first-steps-requires-clause-some g c =
    let ps = c.args.processors.now in
    let next = (chosen ps c.loop-place.logs c.in-Some.place c.loop-place.invariant.whole c.loop-place.invariant.rising (sym c.first_place.ensures ∙ c.in-Some.is)).next in
    let there = at_place ps c.loop-place.logs c.in-Some.place _ (next.event ∷ next.rest) c.loop-place.invariant.whole next.here in
    ap is_some (there.1.stamp ∙ ap first_stamp there.2)

pub loop-place-smaller : goal.loop-place-smaller
loop-place-smaller g c =
    let ps = c.args.processors.now in
    let t = taken ps c.loop-place.logs c.in-Some.place _ c.take_first-steps.new.log _ c.loop-place.invariant.whole c.loop-place.invariant.rising
    (sym c.first_place.ensures ∙ c.in-Some.is) c.take_first-steps.ensures in
    t.less

pub loop-place-init : goal.loop-place-init
loop-place-init g c = record {
  whole = c.requires.whole;
  rising = c.requires.rising;
  heard = ([], g.met.T.Listener.heard_none c.args.listener.now, refl);
}

pub loop-place-preserved : goal.loop-place-preserved
loop-place-preserved g c =
    let ps = c.args.processors.now in
    let t = taken ps c.loop-place.logs c.in-Some.place _ c.take_first-steps.new.log _ c.loop-place.invariant.whole c.loop-place.invariant.rising
    (sym c.first_place.ensures ∙ c.in-Some.is) c.take_first-steps.ensures in
    let before = c.loop-place.invariant.heard.0 in
    let steps : List Step = c.take_first-steps.result in
    record {
      whole = t.whole;
      rising = t.rising;
      heard = (
        before ++ steps,
        g.met.T.Listener.heard_both c.args.listener.now c.loop-place.listener c.hear.new.self before steps c.loop-place.invariant.heard.1 c.in_ok-hear.ensures,
        c.loop-place.invariant.heard.2 ∙ ap (λ (h : List Step). before ++ h) t.told ∙ sym (append_assoc before steps _),
      );
    }

pub returns : goal.returns
returns g c =
    let ps = c.args.processors.now in
    let none = none_chosen ps c.loop-place.logs c.loop-place.invariant.whole (sym c.first_place.ensures ∙ c.in_default.is) in
    let before = c.loop-place.invariant.heard.0 in
    let all : told (merged (all_left ps c.args.logs.now)) ≡ before =
    c.loop-place.invariant.heard.2 ∙ ap (λ (es : List Event). before ++ told (merged es)) none ∙ append-nil before in
    subst (λ (h : List Step). g.T.Listener.hears c.args.listener.now h c.loop-place.listener) (sym all) c.loop-place.invariant.heard.1
