use Rattle.std.proofs.Common.{◌≡◌, ◌∙◌, ◌++◌, ℕ, List, drop, ap}
use Rattle.std.proofs.lemmas.List.{take_rest}
use Rattle.l4_trace.proofs.Blocks.{block_more, block_spelled}
use Rattle.l4_trace.proofs.traces.TraceWriter.write.Goals as goal

pub loop-left-preserved : goal.loop-left-preserved
loop-left-preserved c =
    let left = c.loop-left.left in
    let start = c.write.new.self.start in
    let before : List ℕ = c.loop-left.self.lines.items in
    let after : List ℕ = c.extend_from_slice.new.self.items in
    let block : List ℕ = c.write.new.self.bytes.items in
    let appended : after ≡ before ++ drop start block =
    c.in_ok-extend_from_slice.ensures.items
    ∙ ap (λ (xs : List ℕ). before ++ xs) (take_rest c.deref.result.now start ∙ ap (λ (xs : List ℕ). drop start xs) c.deref.ensures.value) in
    rw c.take_first.ensures.left
    (record {
      room = c.write.ensures.room;
      lines = block_more before after (drop start block) left c.take_first.result 8 appended c.write.ensures.lines c.take_first.ensures.first ∙ c.loop-left.invariant.lines;
      spelled = block_spelled left c.take_first.result 8 c.take_first.ensures.first c.write.ensures.spelled ∙ c.loop-left.invariant.spelled;
    })
