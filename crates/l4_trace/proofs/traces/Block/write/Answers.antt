use Rattle.std.proofs.Common.{◌∙◌, refl, arith}
use Rattle.l4_trace.proofs.Blocks.{line_more, none_written, room_left, spelled_more}
use Rattle.l4_trace.proofs.traces.Block.write.Goals as goal

pub loop-left-init : goal.loop-left-init
loop-left-init c =
    record {
      room = c.requires.room;
      within = omega arith;
      enough = omega (arith, c.requires.few);
      lines = none_written c.args.steps c.args.self.now.bytes.items 9640 (omega (arith, c.requires.room));
      spelled = refl;
    }

pub loop-left-preserved : goal.loop-left-preserved
loop-left-preserved c =
    let (step, last, before) = c.show_last.ensures in
    let left = c.loop-left.left in
    let rest = c.show_last.new.self in
    record {
      room = before.same_room ∙ c.loop-left.invariant.room;
      within = omega (arith, before.within, c.loop-left.invariant.within);
      enough = room_left left rest step c.loop-left.self.start c.show_last.new.visitor.start last c.loop-left.invariant.enough before.few;
      lines = line_more left rest c.args.steps step c.loop-left.self.bytes.items c.show_last.new.visitor.bytes.items c.loop-left.self.start c.show_last.new.visitor.start last before c.loop-left.invariant.lines;
      spelled = spelled_more left rest step last before.spelled ∙ c.loop-left.invariant.spelled;
    }
