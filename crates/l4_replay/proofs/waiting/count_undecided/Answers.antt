use Rattle.std.proofs.Common.{ap, sym, ◌∙◌, length, arith}
use Rattle.std.specs.Option.{option_to_list}
use Rattle.l4_replay.specs.declared.homes.LastSend.{LastSend}
use Rattle.l4_replay.proofs.Enough.{one_more, one_none, one_some}
use Rattle.l4_replay.proofs.waiting.count_undecided.Goals as goal
use Rattle.l4_replay.proofs.waiting.count_undecided.Goals.{then-is_some, else-is_some}

pub loop-send-preserved : goal.loop-send-preserved
loop-send-preserved c =
    let more = one_more c.args.sends.now c.loop-send.send-index c.send-item.result c.loop-send-test.true in
    let here = ap (λ (s : LastSend). length (option_to_list s.to)) c.send-item.is in
    let so_far = c.loop-send.invariant.0 in
    let low = c.loop-send.invariant.1 in
    elim c.if-is_some.branch [
      | then-is_some w ↦
          let one = one_some c.send-item.result.to (sym c.is_some.ensures ∙ w.if-is_some.true) in
          (omega (arith, more, here, one, so_far, w.count-is), omega (arith, low, w.count-is))
      | else-is_some w ↦
          let one = one_none c.send-item.result.to (sym c.is_some.ensures ∙ w.if-is_some.false) in
          (omega (arith, more, here, one, so_far, w.count-is), omega (arith, low, w.count-is))
    ]
