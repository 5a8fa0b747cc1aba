use Rattle.std.proofs.Common.{Some, ap, sym, ◌∙◌}
use Rattle.l4_model.specs.Conditions.{Found}
use Rattle.l4_states.specs.Inner.Codes.{thread_code}
use Rattle.l4_codes.proofs.Writing.{same_last}
use Rattle.l4_worlds.specs.Bare.{bare_thread}
use Rattle.l4_outlooks.proofs.Coding.{bare_at, found_now, found_there}
use Rattle.l4_outlooks.proofs.code.put_found.Goals as goal

pub returns-in-Some : goal.returns-in-Some
returns-in-Some c =
    let a = c.args.world.now in
    let t = c.found.inside.tcb.now.thread in
    let there = found_now a.machine a.world c.args.place c.in-Some.found (sym c.in-Some.ensures) ∙ sym (ap (λ (x : Found). Some x.now) c.found.view_is) in
    let here = bare_at a.world c.args.place t there in
    same_last c.put_bare.result (thread_code (bare_thread t)) _ c.args.code.now c.put_bare.new.code (λ rest. ap (λ x. thread_code x rest) (sym here)) c.put_bare.ensures

pub returns-in-None : goal.returns-in-None
returns-in-None c =
    let a = c.args.world.now in
    absurd (found_there a.machine a.world c.args.place c.requires c.facts.ensures.threads (sym c.in-None.ensures))
