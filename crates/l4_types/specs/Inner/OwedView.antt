-- An owed retarget of the program as one of the model.
use Rattle.l4_types.specs.declared.owed.Owed.{Owed}
use Rattle.l4_model.specs.World as world

abbrev pub owed_of : Owed → world.Owed
owed_of o = record {
  send = o.send;
  originator = o.originator;
  old_partner = o.old_partner;
  new_partner = o.new_partner;
}
