-- A delivery, and what it leaves owed.
use Rattle.std.proofs.Common.{◌≡◌, ℕ, Option, Some, None, refl, ap, sym, ◌∙◌}
use Rattle.l4_model.specs.World.{Send, Owed}
use Rattle.l4_model.specs.Rules.{owed_by, received_tag, is_cross}
use Rattle.l4_core_model.specs.Local.{declared, last_name, thread}
use Rattle.l4_core_model.specs.Acts.{Work, owes_for, delivers, delivers_message, delivers_send}
use Rattle.l4_core.specs.Processor.{Processor}
use Rattle.l4_core.specs.EventBuffers.{EventBuffer}
use Rattle.l4_core.specs.Inner.Turning.{hands_message, hands_over, hands_send, work, Does}

pub owes_nothing : (p : Processor) (r : ℕ) (told : EventBuffer) → Does (owes_for p.machine p.cpu r None) p p told told
owes_nothing p r told = record { machine = refl; cpu = refl; stamp = refl; kept = refl; work = refl }

-- A delivery hands the message over, and then owes.
pub delivers_both : (p q u : Processor) (r i : ℕ) (send : Send) (owed : Option Owed) (before middle after : EventBuffer) → (thread p.local i).send ≡ Some send → owed ≡ owed_by p.machine (last_name p.machine p.local i) send.message (declared p.machine r).id →
    Does (hands_over p.machine p.cpu r i) p q before middle → Does (owes_for q.machine q.cpu r owed) q u middle after → Does (delivers p.machine p.cpu r i) p u before after
delivers_both p q u r i send owed before middle after has is handed owing =
    let x : Work = work p.local before in
    let tag : ℕ = received_tag (is_cross p.machine (declared p.machine r).id send.message) send.message in
    let hands : hands_over p.machine p.cpu r i x ≡ hands_message p.machine p.cpu r i send.message tag x = ap (λ o. hands_send p.machine p.cpu r i o x) has in
    let whole : delivers p.machine p.cpu r i x ≡ delivers_message p.machine p.cpu r i send.message tag x = ap (λ o. delivers_send p.machine p.cpu r i o x) has in
    record {
      machine = owing.machine ∙ handed.machine;
      cpu = owing.cpu ∙ handed.cpu;
      stamp = owing.stamp ∙ handed.stamp;
      kept = owing.kept ∙ handed.kept;
      work = owing.work ∙ ap (λ m. owes_for m q.cpu r owed (work q.local middle)) handed.machine ∙ ap (λ n. owes_for p.machine n r owed (work q.local middle)) handed.cpu
          ∙ ap (owes_for p.machine p.cpu r owed) (handed.work ∙ hands) ∙ ap (λ o. owes_for p.machine p.cpu r o (hands_message p.machine p.cpu r i send.message tag x)) is ∙ sym whole;
    }
