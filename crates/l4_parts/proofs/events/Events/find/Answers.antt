use Rattle.std.proofs.Common.{◌-◌, ◌∙◌, arith}
use Rattle.std.proofs.lemmas.Option.{slice_get_read}
use Rattle.l4_parts.proofs.events.Events.find.Goals as goal

pub returns-then-is_event : goal.returns-then-is_event
returns-then-is_event c = record {
  event = c.index.result.now;
  at = slice_get_read c.args.self.now.events.items c.len.result (c.loop-next.next - 1)
      c.index.result.now (c.len.ensures ∙ c.args.self.now.events.ok.0) (omega (arith, c.if-number-len.false)) c.index.ensures;
  choice_is = c.is_event.ensures.choice c.if-is_event.true;
  part_is = c.is_event.ensures.part c.if-is_event.true;
  queue_is = c.is_event.ensures.queue c.if-is_event.true;
  fit = c.is_event.ensures.fit c.if-is_event.true;
}
