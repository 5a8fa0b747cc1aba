use Rattle.std.proofs.Common.{refl, ap, sym}
use Rattle.l4_core.specs.Processor.{Processor}
use Rattle.l4_told.proofs.Coming.{opening_come}
use Rattle.l4_told.proofs.alone.Alone.new.Goals as goal

pub returns-clause-come : goal.returns-clause-come
returns-clause-come c =
    opening_come c.args.machine.now _ c.requires
    (rw (sym (ap (λ (p : Processor). p.machine) c.in_ok-core.ensures)) c.facts.ensures.machine)
    refl c.in_ok-core.ensures refl c.new-2.ensures.untold c.new-2.ensures.none
