use Rattle.std.proofs.Common.{ap, sym, ◌∙◌}
use Rattle.l4_model.specs.World.{opening_context}
use Rattle.l4_states.specs.Inner.Codes.{context_code, thread_code}
use Rattle.l4_codes.specs.Inner.States.{standing_code}
use Rattle.l4_codes.proofs.Writing.{last, same_last}
use Rattle.l4_worlds.specs.Bare.{bare_thread}
use Rattle.l4_outlooks.proofs.Coding.{forgotten_is, forgotten_told, kept_is}
use Rattle.l4_outlooks.proofs.code.put_bare.Goals as goal

pub returns-then-not-is_deleted : goal.returns-then-not-is_deleted
returns-then-not-is_deleted c =
    let t = c.args.block.now.thread in
    same_last c.put_thread.result (thread_code t) (thread_code (bare_thread t)) c.args.code.now c.put_thread.new.code
    (λ rest. ap (λ x. thread_code x rest) (sym (kept_is t (sym c.is_deleted.ensures ∙ c.if-not-is_deleted.true)))) c.put_thread.ensures

pub returns : goal.returns
returns c =
    let t = c.args.block.now.thread in
    same_last c.put_standing.result (λ rest. context_code opening_context (standing_code t rest)) (thread_code (bare_thread t)) c.args.code.now c.put_standing.new.code
    (λ rest. forgotten_told t rest ∙ ap (λ x. thread_code x rest) (sym (forgotten_is t (sym c.is_deleted.ensures ∙ c.if-not-is_deleted.false))))
    (last c.put_standing.result (context_code opening_context) (standing_code t) c.args.code.now c.put_context.new.code c.put_standing.new.code
    (rw c.new.ensures at c.in_ok-put_context.ensures) c.put_standing.ensures)
