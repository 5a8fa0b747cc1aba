use Rattle.std.proofs.Common.{◌+◌, ◌*◌, ◌<◌, get_or, length, take, ap, refl, sym, subst, ◌∙◌, arith}
use Rattle.std.proofs.lemmas.List.{length-take-le, take_all}
use Rattle.l4_model.specs.Machine.{Machine}
use Rattle.l4_core_model.specs.Runs.{opening_run}
use Rattle.l4_replay.specs.UnderWay.{IsRun}
use Rattle.l4_endings.specs.Inner.Walked.{IsWalked}
use Rattle.l4_endings.proofs.Walking.{has_run, number_at, events_count, walked_more, walked_start}
use Rattle.l4_endings.proofs.walks.walk_to.Goals as goal

pub loop-number-init : goal.loop-number-init
loop-number-init c = walked_start c.args.aims.now c.in_ok-walk.walk
    (subst (λ (m : Machine). IsRun m (opening_run m) c.in_ok-walk.walk) c.machine.ensures c.in_ok-walk.ensures)

pub make-requires-clause-run : goal.make-requires-clause-run
make-requires-clause-run c =
    has_run c.args.aims.now (take c.loop-number.number-index c.args.numbers.now)
    c.loop-number.walk c.loop-number.invariant

pub make-requires-clause-few : goal.make-requires-clause-few
make-requires-clause-few c =
    let inside : c.loop-number.number-index < length c.args.numbers.now = omega (
      arith,
      c.loop-number-test.true,
    ) in
    omega (
      arith,
      c.requires.few,
      inside,
      events_count c.args.aims.now (take c.loop-number.number-index c.args.numbers.now)
          c.loop-number.walk c.loop-number.invariant,
      length-take-le c.loop-number.number-index c.args.numbers.now (omega (arith, inside)),
    )

pub make-requires-clause-cpus : goal.make-requires-clause-cpus
make-requires-clause-cpus c =
    c.cpus-cpus.ensures.value
    ∙ sym (ap (λ (n : Machine). n.cpus) c.loop-number.invariant.is.machine)

pub make-requires-clause-number : goal.make-requires-clause-number
make-requires-clause-number c =
    subst (λ n. get_or c.args.numbers.now c.loop-number.number-index 0 < n * (n + 2))
    (sym c.cpus-cpus.ensures.value)
    (number_at c.args.aims.now c.args.numbers.now c.loop-number.number-index
    (get_or c.args.numbers.now c.loop-number.number-index 0) c.cpus-cpus.ensures.lawful
    c.requires.choices (omega (arith, c.loop-number-test.true)) refl)

pub loop-number-preserved : goal.loop-number-preserved
loop-number-preserved c =
    walked_more c.args.aims.now c.args.numbers.now c.loop-number.walk c.make.new.walk
    c.loop-number.number-index (get_or c.args.numbers.now c.loop-number.number-index 0)
    c.cpus-cpus.result c.loop-number.invariant c.requires.choices
    (omega (arith, c.loop-number-test.true)) refl c.cpus-cpus.ensures.value
    c.in_ok-make.ensures.goes c.in_ok-make.ensures.near

pub returns : goal.returns
returns c =
    subst (λ s. IsWalked c.args.aims.now s c.loop-number.walk)
    (take_all c.loop-number.number-index c.args.numbers.now (omega (arith, c.loop-number-test.false)))
    c.loop-number.invariant
