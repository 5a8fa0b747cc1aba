use Rattle.std.proofs.Common.{refl}
use Rattle.l4_told.proofs.Coming.{next_stamp_fits, turned_come}
use Rattle.l4_told.proofs.alone.Alone.turn.Goals as goal

pub turn_into-requires-clause-stamp : goal.turn_into-requires-clause-stamp
turn_into-requires-clause-stamp c =
    let run = c.requires.run in
    next_stamp_fits run.0 run.1 run.2 c.args.self.now run.3 c.requires.few

pub returns-in-Some-clause-goes : goal.returns-in-Some-clause-goes
returns-in-Some-clause-goes c = λ m r before come.
    turned_come m r before c.args.self.now _ c.in-Some.field-0 come c.requires.open c.in-Some.ensures refl refl refl
