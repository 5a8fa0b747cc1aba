use Rattle.std.proofs.Common.{◌≡◌, inl, inr, ap, map, refl, subst, sym, take, true, ◌∙◌}
use Rattle.l4_explore.specs.Search.{seen_at}
use Rattle.l4_explore.specs.Inner.Views.{next_from}
use Rattle.l4_futures.specs.Choices.{possible, tried}
use Rattle.l4_forever.specs.Inner.Walks.{are_fresh}
use Rattle.l4_outlooks.specs.Inner.Foreseen.{IsLed}
use Rattle.l4_all_endings.specs.Tried.{entries_of, nexts_at, AreOpen}
use Rattle.l4_all_endings.proofs.Leading.{by_entries, possible_open, tried_open}
use Rattle.l4_stuck.proofs.walks.Walks.choices_after.Goals as goal

pub choices_by-requires-clause-possible : goal.choices_by-requires-clause-possible
choices_by-requires-clause-possible c =
    let o = c.in_ok-outlook.outlook in
    subst (AreOpen o.machine o.world) (sym (c.deref.ensures.value ∙ c.in_ok-tried.ensures))
    (tried_open o.machine o.world)

pub returns-then-are_later-clause-are : goal.returns-then-are_later-clause-are
returns-then-are_later-clause-are c =
    let m = c.args.self.now.machine.now in
    let o = c.in_ok-outlook.outlook in
    let found = c.args.found.now in
    let place = c.args.place in
    let led = subst (λ n. IsLed n c.args.entries.now o) c.args.self.now.same
    c.in_ok-outlook.ensures.led in
    let same = led.machine in
    record {
      world = o.world;
      leads = led.leads;
      are = inr (
        c.in_ok-choices.ensures
            ∙ ap (λ n. nexts_at n o.world c.deref.result.now) same
            ∙ ap (nexts_at m o.world) (c.deref.ensures.value ∙ c.in_ok-tried.ensures
            ∙ ap (λ n. entries_of (tried n o.world)) same)
            ∙ sym (by_entries m o.world (tried m o.world)),
        subst (λ xs. are_fresh (take place found) (seen_at found place) (map next_from xs) ≡ true)
            c.deref-2.ensures.value (c.if-are_later.ensures refl),
      );
    }

pub choices_by-requires-2-clause-possible : goal.choices_by-requires-2-clause-possible
choices_by-requires-2-clause-possible c =
    let o = c.in_ok-outlook.outlook in
    subst (AreOpen o.machine o.world) (sym (c.deref-3.ensures.value ∙ c.in_ok-all.ensures))
    (possible_open o.machine o.world)

pub returns-clause-are : goal.returns-clause-are
returns-clause-are c =
    let m = c.args.self.now.machine.now in
    let o = c.in_ok-outlook.outlook in
    let led = subst (λ n. IsLed n c.args.entries.now o) c.args.self.now.same
    c.in_ok-outlook.ensures.led in
    let same = led.machine in
    record {
      world = o.world;
      leads = led.leads;
      are = inl
          (c.in_ok-every.ensures
          ∙ ap (λ n. nexts_at n o.world c.deref-3.result.now) same
          ∙ ap (nexts_at m o.world) (c.deref-3.ensures.value ∙ c.in_ok-all.ensures
          ∙ ap (λ n. entries_of (possible n o.world)) same)
          ∙ sym (by_entries m o.world (possible m o.world)));
    }
