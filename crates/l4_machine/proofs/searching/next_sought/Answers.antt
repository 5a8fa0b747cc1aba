use Rattle.std.proofs.Common.{◌∙◌, List, [], drop, take, ap, sym, refl, arith}
use Rattle.std.specs.Prelude.{filter_map}
use Rattle.l4_core_model.specs.Runs.{told}
use Rattle.l4_model.specs.Steps.{Step}
use Rattle.l4_proc.specs.Logs.{events}
use Rattle.l4_replay.specs.Inner.Waiting.{sought}
use Rattle.l4_machine.proofs.Sought.{one_passed}
use Rattle.l4_machine.proofs.searching.next_sought.Goals as goal

pub loop-i-init : goal.loop-i-init
loop-i-init c = record { passed = []; are = refl; silent = tt }

pub loop-i-preserved : goal.loop-i-preserved
loop-i-preserved c =
    let es = events c.args.log.now in
    let f = sought c.args.search.now in
    let steps = drop c.places-start.result.0 (take c.places-start.result.1 (told es)) in
    let silent = ap (λ (h : List Step). filter_map f (drop c.places-start.result.0 (take c.places-start.result.1 h))) (sym c.history-history.ensures) ∙ c.if-finds_between.ensures refl in
    one_passed f (drop c.args.from es) es c.loop-i.i steps (omega (arith, c.loop-i-test.true, c.len-i-end.ensures)) c.places-start.ensures.steps silent c.loop-i.invariant
