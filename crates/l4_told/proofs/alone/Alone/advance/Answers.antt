use Rattle.std.proofs.Common.{◌≡◌, ◌++◌, Option, None, refl, sym, ap}
use Rattle.std.specs.Prelude.{is_some}
use Rattle.l4_core_model.specs.Acts.{Work}
use Rattle.l4_core_model.specs.Turns.{advance}
use Rattle.l4_core.specs.EventBuffers.{EventBuffer}
use Rattle.l4_told.proofs.Coming.{advanced_come, no_event, not_refused, same_come, unadvanced_come}
use Rattle.l4_told.proofs.alone.Alone.advance.Goals as goal

pub returns-in-Ok-clause-goes : goal.returns-in-Ok-clause-goes
returns-in-Ok-clause-goes c = λ m r before come.
    advanced_come c.args.to m r before c.args.self.now _ c.in-Ok.field-0 come c.requires.open
    c.in-Ok.ensures.ok refl refl refl

refused : (c : goal.In-Err) → advance c.args.self.now.core.machine c.args.self.now.core.cpu c.args.to
    c.args.self.now.core.local ≡ None
refused c =
    let has = c.requires.run in
    no_event _ _ _ _ c.in-Err.ensures.faults c.in-Err.ensures.clock.0
    (λ is. absurd (not_refused has.0 has.1 has.2 c.args.self.now has.3 c.requires.few (c.in-Err.ensures.stamp.0 is).1))

pub returns-in-Err-clause-goes : goal.returns-in-Err-clause-goes
returns-in-Err-clause-goes c = λ m r before come.
    same_come m _ before c.args.self.now _ refl c.in-Err.ensures.err.0 refl refl
    (ap (λ (b : EventBuffer). b.before ++ b.steps) c.in-Err.ensures.err.1)
    (unadvanced_come c.args.to m r before c.args.self.now come (refused c))

pub returns-in-Err-clause-did : goal.returns-in-Err-clause-did
returns-in-Err-clause-did c = sym (ap (λ (o : Option Work). is_some o) (refused c))
