use Rattle.std.proofs.Common.{◌+◌, arith, refl, subst, sym, take, ◌∙◌}
use Rattle.l4_outlooks.specs.Inner.Foreseen.{IsLed}
use Rattle.l4_all_endings.proofs.Leading.{one_led, open_on_way}
use Rattle.l4_all_endings.proofs.way.Way.outlook.Goals as goal

pub take-requires-clause-possible : goal.take-requires-clause-possible
take-requires-clause-possible c =
    open_on_way c.args.self.now c.args.entries.now c.loop-place.place c.loop-place.outlook
    (omega (arith, c.loop-place-test.true)) c.requires.leads c.loop-place.invariant.led

pub keep-requires-clause-led : goal.keep-requires-clause-led
keep-requires-clause-led c =
    subst (λ m. IsLed m (take (c.loop-place.place + 1) c.args.entries.now) c.take.new.self)
    (sym c.loop-place.invariant.same)
    (one_led c.args.self.now c.args.entries.now c.loop-place.place _ c.loop-place.outlook
    c.take.new.self (omega (arith, c.loop-place-test.true)) refl c.loop-place.invariant.led
    c.in_ok-take.ensures.ok)

pub loop-place-preserved : goal.loop-place-preserved
loop-place-preserved c = record {
  same = c.keep.ensures ∙ c.loop-place.invariant.same;
  led = one_led c.args.self.now c.args.entries.now c.loop-place.place _ c.loop-place.outlook
      c.take.new.self (omega (arith, c.loop-place-test.true)) refl c.loop-place.invariant.led
      c.in_ok-take.ensures.ok;
}
