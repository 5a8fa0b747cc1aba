use Rattle.std.proofs.Common.{◌∙◌, ◌++◌, ap}
use Rattle.std.specs.Prelude.{slice_get}
use Rattle.std.specs.String.{string_bytes}
use Rattle.l4_model.specs.Machine.{Machine}
use Rattle.l4_chart.specs.Changes.{sender_word}
use Rattle.l4_chart.proofs.Joined.{one_more}
use Rattle.l4_chart.proofs.changes.senders_at.Goals as goal

pub loop-sender-preserved : goal.loop-sender-preserved
loop-sender-preserved c =
    let l = c.loop-sender in
    let m = c.args.world.now.machine in
    one_more (λ place. sender_word (slice_get m.threads place)) c.in-Some.sender l.sender-iterator c.next.new.self (string_bytes l.senders)
    (string_bytes c.push_sender.new.words) _ l.invariant c.in-Some.ensures.steps
    (c.in_ok-push_sender.ensures ∙ ap (λ (x : Machine). string_bytes l.senders ++ sender_word (slice_get x.threads c.in-Some.sender)) c.machine.ensures)
