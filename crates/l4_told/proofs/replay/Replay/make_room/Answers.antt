use Rattle.l4_replay.proofs.Replays.{on_ok}
use Rattle.l4_told.proofs.Going.{told_and, told_nothing}
use Rattle.l4_told.proofs.replay.Replay.make_room.Goals as goal

pub returns-then-not-are_many-clause-told : goal.returns-then-not-are_many-clause-told
returns-then-not-are_many-clause-told g c =
    on_ok c.begin.result _ _
    (λ goes. told_nothing (λ steps. g.L.Listener.hears c.args.listener.now steps c.args.listener.now)
    c.args.self.now c.begin.new.self
    (g.met.L.Listener.heard_none c.args.listener.now) goes)
    c.begin.ensures.same

pub returns-clause-told : goal.returns-clause-told
returns-clause-told g c =
    on_ok c.begin-2.result _ _
    (λ goes. told_and (λ steps. g.L.Listener.hears c.args.listener.now steps c.tell.new.listener) (λ m r. r)
    c.args.self.now c.tell.new.self c.begin-2.new.self c.in_ok-tell.ensures.told goes)
    c.begin-2.ensures.same
