use Rattle.std.proofs.Common.{◌≡◌, sym, ◌∙◌, ap, arith, take, ℕ}
use Rattle.std.specs.Prelude.{filter_map}
use Rattle.l4_replay.specs.Inner.Waiting.{count_undecided, sought}
use Rattle.l4_replay.proofs.Enough.{few_sought, none_before, one_none, one_some, step_before}
use Rattle.l4_replay.proofs.waiting.Search.start.Goals as goal

pub loop-start-preserved : goal.loop-start-preserved
loop-start-preserved c =
    let step = step_before (sought c.args.self.now) c.args.history.now.steps c.loop-start.start c.send_at.result c.loop-start-test.true c.loop-start.invariant.within c.send_at.ensures in
    let one = one_none c.send_at.result (sym c.is_some.ensures ∙ c.if-is_some.false) in
    record { within = omega (arith, c.loop-start.invariant.within); found = omega (arith, step, one, c.loop-start.invariant.found) }

pub loop-start-preserved-then-is_some : goal.loop-start-preserved-then-is_some
loop-start-preserved-then-is_some c =
    let step = step_before (sought c.args.self.now) c.args.history.now.steps c.loop-start.start c.send_at.result c.loop-start-test.true c.loop-start.invariant.within c.send_at.ensures in
    let one = one_some c.send_at.result (sym c.is_some.ensures ∙ c.if-is_some.true) in
    record { within = omega (arith, c.loop-start.invariant.within); found = omega (arith, step, one, c.loop-start.invariant.found, c.if-missing-gt0.true) }

pub returns-else-missing-gt0-clause-none : goal.returns-else-missing-gt0-clause-none
returns-else-missing-gt0-clause-none c =
    let s = c.args.self.now in
    let sends = s.at_home.now.sends.items in
    none_before (sought s) c.args.history.now.steps c.loop-start.start (count_undecided sends)
    (few_sought s.machine.now c.args.history.now.steps sends c.requires.once) (omega (arith, c.if-missing-gt0.false, c.loop-start.invariant.found))

pub returns-after-loop-start-clause-none : goal.returns-after-loop-start-clause-none
returns-after-loop-start-clause-none c =
    let first : c.loop-start.start ≡ 0 = omega (arith, c.loop-start-test.false) in
    ap (λ (n : ℕ). filter_map (sought c.args.self.now) (take n c.args.history.now.steps)) first
