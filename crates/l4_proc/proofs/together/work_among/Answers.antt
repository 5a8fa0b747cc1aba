use Rattle.std.proofs.Common.{◌≡◌, rules, sym, ◌∙◌, arith, refl}
use denote.Enum.Bare.{same_true}
use Rattle.l4_proc.specs.contracts.stops.Stop.{the_type}
use Rattle.l4_proc.specs.declared.stops.Stop.TheVariants as stop
use Rattle.l4_proc.proofs.Joint.{some_left, looked_in_vain, looked_and_worked}
use Rattle.l4_proc.proofs.together.work_among.Goals as goal

pub returns-then-not-look_on : goal.returns-then-not-look_on
returns-then-not-look_on g c =
    let idle : c.loop-processor.processor.worker.stop ≡ stop.Idle = sym c.stop.ensures ∙ same_true the_type (search rules) _ _ (sym c.loop-processor-test.ensures) in
    looked_in_vain c.args.turns c.args.processor.now c.loop-processor.processor c.look_on.new.processor c.loop-processor.invariant.worked idle c.look_on.ensures.worked
    (λ used. absurd (let no = c.if-not-look_on.ensures.found.1 used in cc))

pub loop-processor-preserved : goal.loop-processor-preserved
loop-processor-preserved g c =
    let i = c.loop-processor.invariant in
    let idle : c.loop-processor.processor.worker.stop ≡ stop.Idle = sym c.stop.ensures ∙ same_true the_type (search rules) _ _ (sym c.loop-processor-test.ensures) in
    let found = c.if-not-look_on.ensures.found.0 refl in
    let some = some_left c.args.turns c.loop-processor.left c.args.processor.now c.loop-processor.processor i.worked idle i.left in
    record {
      worked = looked_and_worked c.args.turns c.loop-processor.left c.args.processor.now c.loop-processor.processor c.look_on.new.processor
          c.take_turns-left.new.processor i.worked c.look_on.ensures.worked found idle i.left some _ (omega arith) c.take_turns-left.ensures.worked;
      left =
          let one = c.look_on.ensures.worked.used.0 found in
          let count = c.take_turns-left.ensures.count in
          let most = c.take_turns-left.ensures.worked.most in
          let all = i.left in
          omega arith;
    }
