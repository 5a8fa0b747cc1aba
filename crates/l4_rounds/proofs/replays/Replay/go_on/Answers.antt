use Rattle.std.proofs.Common.{◌≡◌, suc, ◌+◌, ◌-◌, inl, inr, subst, arith}
use Rattle.l4_rounds.proofs.Replaying.{few_events, going_ended, going_on, IsGoing}
use Rattle.l4_rounds.proofs.replays.Replay.go_on.Goals.{then-after-before-via-then-after-before, then-after-before-via-else-after-before+then-after-most}
use Rattle.l4_rounds.proofs.replays.Replay.go_on.Goals as goal

pub overflow_add-most : goal.overflow_add-most
overflow_add-most c =
    let few = few_events c.args.self.now c.requires.replay in
    omega (arith, few, c.requires.few, c.events.ensures)

pub returns-then-after-before : goal.returns-then-after-before
returns-then-after-before c =
    let a = c.args.self.now in
    let b = c.loop-done.self in
    let left = c.args.turns - (c.loop-done.done + 1) in
    let next : c.args.turns - c.loop-done.done ≡ suc left = omega (arith, c.loop-done-test.true) in
    let is : IsGoing a c.args.turns (suc left) b =
    subst (λ n. IsGoing a c.args.turns n b) next c.loop-done.invariant.going in
    let before = c.events-before.ensures in
    let after = c.events-after.ensures in
    let most = c.loop-done.invariant.most in
    going_ended a b c.go_round.new.self c.args.turns left is c.in_ok-go_round.ensures
    (elim c.then-after-before.branch [
      | then-after-before-via-then-after-before w ↦ inl (omega (arith, w.if-after-before.true, before, after))
      | then-after-before-via-else-after-before+then-after-most w ↦ inr (omega (arith, w.if-after-most.true, most, after))
    ])

pub loop-done-preserved : goal.loop-done-preserved
loop-done-preserved c =
    let a = c.args.self.now in
    let b = c.loop-done.self in
    let left = c.args.turns - (c.loop-done.done + 1) in
    let next : c.args.turns - c.loop-done.done ≡ suc left = omega (arith, c.loop-done-test.true) in
    let is : IsGoing a c.args.turns (suc left) b =
    subst (λ n. IsGoing a c.args.turns n b) next c.loop-done.invariant.going in
    let before = c.events-before.ensures in
    let after = c.events-after.ensures in
    let most = c.loop-done.invariant.most in
    record {
      going =
          going_on a b c.go_round.new.self c.args.turns left is c.in_ok-go_round.ensures
          (omega (arith, c.if-after-before.false, before, after))
          (omega (arith, c.if-after-most.false, most, after));
      most = most;
    }
