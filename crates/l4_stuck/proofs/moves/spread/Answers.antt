use Rattle.std.proofs.Common.{◌≡◌, ◌+◌, ◌-◌, refl, subst, arith}
use Rattle.l4_stuck.proofs.Growing.{item_at}
use Rattle.l4_stuck.proofs.Marking.{IsRoundOn, round_kept, round_marked}
use Rattle.l4_stuck.proofs.moves.spread.Goals as goal

pub loop-left-preserved-then-mark : goal.loop-left-preserved-then-mark
loop-left-preserved-then-mark c =
    let g = c.args.graph.now in
    let left = c.loop-left.left in
    let next : left ≡ left - 1 + 1 = omega (arith, c.loop-left-test.true) in
    record {
      round =
          round_marked g c.args.thread c.args.moves.now.items c.loop-left.moves.items
          c.mark.new.moves.items (left - 1) c.loop-left.has_spread c.index.result.now
          (item_at g.edges.items (left - 1) c.index.result.now c.index.result.now
          (omega (arith, c.loop-left-test.true, c.loop-left.invariant.within)) c.index.ensures) (c.if-mark.ensures.marked refl)
          (subst (λ n. IsRoundOn g c.args.thread c.args.moves.now.items c.loop-left.moves.items n
          c.loop-left.has_spread) next c.loop-left.invariant.round);
      within = omega (arith, c.loop-left.invariant.within);
    }

pub loop-left-preserved : goal.loop-left-preserved
loop-left-preserved c =
    let g = c.args.graph.now in
    let left = c.loop-left.left in
    let next : left ≡ left - 1 + 1 = omega (arith, c.loop-left-test.true) in
    record {
      round =
          round_kept g c.args.thread c.args.moves.now.items c.loop-left.moves.items
          c.mark.new.moves.items (left - 1) c.loop-left.has_spread c.index.result.now
          (item_at g.edges.items (left - 1) c.index.result.now c.index.result.now
          (omega (arith, c.loop-left-test.true, c.loop-left.invariant.within)) c.index.ensures)
          (c.if-mark.ensures.kept refl).0 (c.if-mark.ensures.kept refl).1
          (subst (λ n. IsRoundOn g c.args.thread c.args.moves.now.items c.loop-left.moves.items n
          c.loop-left.has_spread) next c.loop-left.invariant.round);
      within = omega (arith, c.loop-left.invariant.within);
    }
