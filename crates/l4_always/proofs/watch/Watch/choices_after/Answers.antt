use Rattle.std.proofs.Common.{ap, inl, subst, sym, ◌∙◌}
use Rattle.l4_futures.specs.Choices.{possible}
use Rattle.l4_outlooks.specs.Inner.Foreseen.{IsLed}
use Rattle.l4_all_endings.specs.Tried.{entries_of, nexts_at, AreOpen}
use Rattle.l4_all_endings.proofs.Leading.{by_entries, possible_open}
use Rattle.l4_always.proofs.watch.Watch.choices_after.Goals as goal

pub choices_by-requires-clause-possible : goal.choices_by-requires-clause-possible
choices_by-requires-clause-possible c =
    let o = c.in_ok-outlook.outlook in
    subst (AreOpen o.machine o.world) (sym (c.deref-in-None.ensures.value ∙ c.in_ok-all.ensures))
    (possible_open o.machine o.world)

pub returns-clause-are : goal.returns-clause-are
returns-clause-are c =
    let m = c.args.self.now.machine.now in
    let o = c.in_ok-outlook.outlook in
    let led = subst (λ n. IsLed n c.args.entries.now o) c.args.self.now.same
    c.in_ok-outlook.ensures.led in
    let same = led.machine in
    record {
      world = o.world;
      leads = led.leads;
      are = inl
          (c.in_ok-choices_by-in-None.ensures
          ∙ ap (λ n. nexts_at n o.world c.deref-in-None.result.now) same
          ∙ ap (nexts_at m o.world) (c.deref-in-None.ensures.value ∙ c.in_ok-all.ensures
          ∙ ap (λ n. entries_of (possible n o.world)) same)
          ∙ sym (by_entries m o.world (possible m o.world)));
    }
