-- A send is queued.
use Rattle.std.proofs.Common.{◌≡◌, ℕ, true, false, Some, ap, sym, ◌∙◌}
use Rattle.l4_model.specs.World.{Send}
use Rattle.l4_model.specs.Steps.{Queue}
use Rattle.l4_core_model.specs.Plain as plain
use Rattle.l4_core_model.specs.Local.{last_name, relists}
use Rattle.l4_model.specs.Machine.{is_place}
use Rattle.l4_core_model.specs.Acts.{Work, delivers, delivers_if_first, entry, first_acceptable, queues_send}
use Rattle.l4_core.specs.Processor.{Processor, with_local}
use Rattle.l4_core.specs.EventBuffers.{EventBuffer, with_step}
use Rattle.l4_core.specs.Inner.Turning.{work, Does}

if_first : (p : Processor) (r i : ℕ) (x y : Work) → x ≡ y → is_place (first_acceptable x.local r) i ≡ true → delivers_if_first p.machine p.cpu r i y ≡ delivers p.machine p.cpu r i x
if_first p r i x y e h = ap (delivers_if_first p.machine p.cpu r i) (sym e) ∙ rw h

if_not_first : (p : Processor) (r i : ℕ) (x y : Work) → x ≡ y → is_place (first_acceptable x.local r) i ≡ false → delivers_if_first p.machine p.cpu r i y ≡ x
if_not_first p r i x y e h = ap (delivers_if_first p.machine p.cpu r i) (sym e) ∙ rw h

-- The work after a send was queued.
abbrev pub queued_work : Processor → (r i : ℕ) → Send → EventBuffer → Work
queued_work p r i send before = work (relists (plain.queued r (entry p.machine r i send)) p.local) (with_step (Queue (last_name p.machine p.local i)) before)

queued_here : (p q : Processor) (r i : ℕ) (before middle : EventBuffer) (w : plain.Waiting) (send : Send) → middle ≡ with_step (Queue (last_name p.machine p.local i)) before → w ≡ entry p.machine r i send →
    q ≡ with_local p (relists (plain.queued r w) p.local) → work q.local middle ≡ queued_work p r i send before
queued_here p q r i before middle w send tells listed is =
    ap (λ (x : Processor). work x.local middle) is ∙ ap (λ v. work (relists (plain.queued r v) p.local) middle) listed ∙ ap (λ (t : EventBuffer). work (relists (plain.queued r (entry p.machine r i send)) p.local) t) tells

pub queue_delivers : (p q u : Processor) (r i : ℕ) (before middle after : EventBuffer) (w : plain.Waiting) (send : Send) → middle ≡ with_step (Queue (last_name p.machine p.local i)) before → w ≡ entry p.machine r i send →
    q ≡ with_local p (relists (plain.queued r w) p.local) → is_place (first_acceptable q.local r) i ≡ true → Does (delivers q.machine q.cpu r i) q u middle after → Does (queues_send p.machine p.cpu r i (Some send)) p u before after
queue_delivers p q u r i before middle after w send tells listed is first doing =
    let here = queued_here p q r i before middle w send tells listed is in
    record {
      machine = doing.machine ∙ ap (λ (x : Processor). x.machine) is;
      cpu = doing.cpu ∙ ap (λ (x : Processor). x.cpu) is;
      stamp = doing.stamp ∙ ap (λ (x : Processor). x.local.stamp) is;
      kept = doing.kept ∙ ap (λ (t : EventBuffer). t.before) tells;
      work = doing.work ∙ ap (λ (x : Processor). delivers x.machine x.cpu r i (work q.local middle)) is ∙ sym (if_first p r i (work q.local middle) _ here first);
    }

pub queue_waits : (p q : Processor) (r i : ℕ) (before after : EventBuffer) (w : plain.Waiting) (send : Send) → after ≡ with_step (Queue (last_name p.machine p.local i)) before → w ≡ entry p.machine r i send →
    q ≡ with_local p (relists (plain.queued r w) p.local) → is_place (first_acceptable q.local r) i ≡ false → Does (queues_send p.machine p.cpu r i (Some send)) p q before after
queue_waits p q r i before after w send tells listed is first =
    let here = queued_here p q r i before after w send tells listed is in
    record {
      machine = ap (λ (x : Processor). x.machine) is;
      cpu = ap (λ (x : Processor). x.cpu) is;
      stamp = ap (λ (x : Processor). x.local.stamp) is;
      kept = ap (λ (t : EventBuffer). t.before) tells;
      work = sym (if_not_first p r i (work q.local after) _ here first);
    }
