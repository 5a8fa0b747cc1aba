use Rattle.std.proofs.Common.{refl, ap, ◌∙◌}
use Rattle.l4_proc.specs.declared.worker.Worker.{Worker}
use Rattle.std.proofs.lemmas.Result.{err_from_is_err_and}
use Rattle.l4_proc.proofs.Turning.{same_port, letters_have_room, letters_have_ways, refused_stopped, refused_taken, tried_turn, turn_taken, unready_taken}
use Rattle.l4_proc.proofs.processor.Processor.take_turn.Goals as goal

pub returns-in_err-get_ready-clause-err : goal.returns-in_err-get_ready-clause-err
returns-in_err-get_ready-clause-err c =
    let p = err_from_is_err_and c.from_residual.result c.from_residual.ensures.1 in
    rw p.1 (unready_taken c.args.self.now c.get_ready.new.self c.in_err-get_ready.ensures.err)

pub returns-in_err-take_turn-clause-err : goal.returns-in_err-take_turn-clause-err
returns-in_err-take_turn-clause-err c =
    let p = err_from_is_err_and c.from_residual-in_err-take_turn.result c.from_residual-in_err-take_turn.ensures.1 in
    rw p.1 (refused_taken c.args.self.now c.get_ready.new.self _ c.in_ok-get_ready.ensures.ok refl c.in_err-take_turn.ensures.err)

pub returns-in_err-take_turn-clause-stopped : goal.returns-in_err-take_turn-clause-stopped
returns-in_err-take_turn-clause-stopped c =
    let p = err_from_is_err_and c.from_residual-in_err-take_turn.result c.from_residual-in_err-take_turn.ensures.1 in
    rw (p.1, p.2) (refused_stopped c.args.self.now c.get_ready.new.self _ _ c.in_ok-get_ready.ensures.ok refl c.in_err-take_turn.ensures.err c.in_err-take_turn.ensures.why)

pub invariant_of-self : goal.invariant_of-self
invariant_of-self c = record {
  whole = tried_turn c.args.self.now c.get_ready.new.self c.take_turn.new.self c.take_turn.result c.in_ok-get_ready.ensures.ok
      c.args.self.now.whole c.get_ready.new.self.whole c.take_turn.ensures.ok c.take_turn.ensures.err;
}

pub send_all-requires-clause-ways : goal.send_all-requires-clause-ways
send_all-requires-clause-ways c =
    let t = c.in_ok-take_turn.ensures.ok in
    rw t.ended.buffer (letters_have_ways c.get_ready.new.self t.middle t.stamp c.get_ready.new.self.whole
    c.in_ok-take_turn.ensures.machine c.in_ok-take_turn.ensures.cpu t.done)

pub send_all-requires-clause-room : goal.send_all-requires-clause-room
send_all-requires-clause-room c =
    let t = c.in_ok-take_turn.ensures.ok in
    rw t.ended.buffer (letters_have_room c.args.self.now c.get_ready.new.self t.middle t.stamp
    c.in_ok-get_ready.ensures.ok c.in_ok-take_turn.ensures.machine c.in_ok-take_turn.ensures.cpu t.done)

pub returns-clause-ok : goal.returns-clause-ok
returns-clause-ok c =
    let t = c.in_ok-take_turn.ensures.ok in
    turn_taken c.args.self.now c.get_ready.new.self c.send_all.new.self _ t.middle c.take_turn.new.self.log t.stamp t.choice
    c.args.self.now.whole c.get_ready.new.self.whole c.args.self.now.worker.log.few
    c.in_ok-get_ready.ensures.ok t.done t.happened t.ended c.send_all.ensures.port
    (c.send_all.ensures.core ∙ ap (λ (w : Worker). w.core) t.is) (c.send_all.ensures.hand ∙ ap (λ (w : Worker). w.hand) t.is)
    c.send_all.ensures.log (same_port c.send_all.new.self.port) refl
