use Rattle.std.proofs.Common.{get_or, refl}
use Rattle.l4_parts.proofs.Knowing.{looked_at, none_written}
use Rattle.l4_parts.proofs.events.writes_of.Goals as goal

pub loop-place-init : goal.loop-place-init
loop-place-init c = none_written c.args.old.now c.args.new.now _ c.new-writes.ensures.items

pub loop-place-preserved : goal.loop-place-preserved
loop-place-preserved c =
    looked_at c.args.old.now c.args.new.now c.loop-place.place c.loop-place.writes.items
    c.put_write.new.writes.items
    (record {
      place = c.loop-place.place;
      old = get_or c.args.old.now c.loop-place.place 0;
      new = get_or c.args.new.now c.loop-place.place 0;
    })
    c.in_ok-put_write.ensures refl refl refl c.loop-place.invariant
