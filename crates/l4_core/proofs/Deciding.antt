-- A send is decided here.
use Rattle.std.proofs.Common.{◌≡◌, ℕ, true, false, ap, sym, ◌∙◌, subst}
use Rattle.l4_core_model.specs.Plain as plain
use Rattle.l4_core_model.specs.Local.{is_own, relists}
use Rattle.l4_core.specs.Inner.Parts.{AreCore}
use Rattle.l4_core.specs.Processor.{Processor, with_local}
use Rattle.l4_core.specs.Inner.Turning.{IsFree, IsSender}
use Rattle.l4_core.proofs.Fitting.{unready, sends_not_ready}
use Rattle.l4_core.proofs.Settling.{queued-none}

pub unqueued_is : (p q : Processor) (i : ℕ) → q ≡ with_local p (relists (plain.unqueued i) p.local) → plain.is_queued q.local.lists i ≡ false
unqueued_is p q i is = ap (λ (x : Processor). plain.is_queued x.local.lists i) is ∙ queued-none i p.local.lists.waiting

-- A sender of this processor whose send was taken out of its list stands in none.
pub sender_free : (p q : Processor) (i : ℕ) → AreCore p → IsSender p i → is_own p.machine p.cpu i ≡ true → q ≡ with_local p (relists (plain.unqueued i) p.local) → IsFree q i
sender_free p q i core sender own is = subst (λ (x : Processor). IsFree x i) (sym is) (record {
  own = record { within = sender.within; own = own };
  unready = unready p.machine p.cpu p.local i core.settled (sends_not_ready _ (core.settled.sending i own sender.sends));
  unqueued = queued-none i p.local.lists.waiting;
})
