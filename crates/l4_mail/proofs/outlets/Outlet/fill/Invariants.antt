use Rattle.std.proofs.Common.{◌≡◌, ◌≤◌, ◌+◌}
use Rattle.rtrb.specs.Ring.{known_free}
use Rattle.l4_mail.specs.Ends.{outlet_ring, outlet_posted, outlet_room}
use Rattle.l4_mail.proofs.outlets.Outlet.fill.Given as goal

abbrev pub invariant-loop : goal.invariant-loop
invariant-loop l = record {
  ring : outlet_ring l.self ≡ outlet_ring l.fn.self;
  posted : outlet_posted l.self ≡ outlet_posted l.fn.self;
  room : outlet_room l.fn.self ≤ outlet_room l.self;
  free : known_free l.self.ring + l.counter ≡ l.end;
}
