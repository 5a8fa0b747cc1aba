-- A thread is asked for something.
use Rattle.std.proofs.Common.{◌≡◌, ℕ, ◌<◌, false, length, get_or, set, refl, ap, ◌∙◌}
use Rattle.std.specs.Prelude.{◌==◌}
use Rattle.l4_model.specs.Machine as model
use Rattle.l4_model.specs.Effects.{asked}
use Rattle.l4_core_model.specs.Plain.{Plain, dropped}
use Rattle.l4_core_model.specs.Local.{changes}
use Rattle.l4_core_model.specs.Acts.{asks}
use Rattle.l4_types.specs.declared.steps.OrderKind.{OrderKind}
use Rattle.l4_types.specs.declared.steps.OrderKind.TheVariants.{CancelSend, CancelReceive, CancelBoth, Delete}
use Rattle.l4_types.specs.StepView.{order_kind_of}
use Rattle.l4_thread.specs.Inner.Parts.{Block}
use Rattle.tcb_arena.specs.Inner.Blocks.{is_ready as is_ready_in}
use Rattle.l4_core.specs.Inner.PhaseLists.{enters_lists}
use Rattle.l4_core.specs.Processor.{Processor, with_local}
use Rattle.l4_core.specs.declared.known.ProcessorState.TheInside.{Inside}
use Rattle.l4_core.proofs.Fitting.{fits-deleted}
use Rattle.l4_core.proofs.Settling.{settled-dropped, none-filter}
use Rattle.l4_core.proofs.Writing.{Kept, KeptWith, come-written, kept-changed, kept-settled, lists-written, of_parts, state, with_blocks}

pub not_delete : (what : OrderKind) → (what ≡ Delete → ⊥) → order_kind_of what ≡ model.Delete → ⊥
not_delete CancelSend h e = cc
not_delete CancelReceive h e = cc
not_delete CancelBoth h e = cc
not_delete Delete h e = h refl

pub asks_other : (p : Processor) (what : OrderKind) (i : ℕ) → (what ≡ Delete → ⊥) → with_local p (changes i (asked (order_kind_of what)) p.local) ≡ with_local p (asks (order_kind_of what) i p.local)
asks_other p CancelSend i h = refl
asks_other p CancelReceive i h = refl
asks_other p CancelBoth i h = refl
asks_other p Delete i h = absurd (h refl)

-- A thread is deleted: it leaves the ready list first.

abbrev pub in_lists : Inside → Plain → Inside
in_lists s lists = record s { lists = lists }

pub unready-dropped : (s v : Plain) (i : ℕ) → v ≡ dropped i s → is_ready_in v i ≡ false
unready-dropped s v i is = ap (λ (w : Plain). is_ready_in w i) is ∙ none-filter (λ b. i == b) s.ready

kept-dropped : (s : Inside) (v : Plain) (i : ℕ) → Kept s → v ≡ dropped i s.lists → Kept (in_lists s v)
kept-dropped s v i k is = rw is (kept-settled s _ _ _ _ _ k (settled-dropped s.machine.now s.cpu (state s) i k.core.settled))

pub kept-deleted : (s : Inside) (v : Plain) (i : ℕ) (old new : Block) → Kept s → i < length s.machine.now.threads → v ≡ dropped i s.lists → old ≡ get_or s.threads.items i old → new ≡ record { id = old.id; thread = asked model.Delete old.thread } →
    KeptWith (in_lists s v) (set s.threads.items i new)
kept-deleted s v i old new k lt drops at is =
    let now = kept-dropped s v i k drops in
    kept-changed (in_lists s v) i (asked model.Delete) old new now at is (fits-deleted s.machine.now s.cpu (state (in_lists s v)) i now.core.settled lt (unready-dropped s.lists v i drops))

pub deleted-written : (s : Inside) (v : Plain) (i : ℕ) (old new : Block) (p r : Processor) → Kept s → i < length s.machine.now.threads → v ≡ dropped i s.lists → old ≡ get_or s.threads.items i old → new ≡ record { id = old.id; thread = asked model.Delete old.thread } →
    of_parts s (state s) ≡ p →
    r ≡ with_local (of_parts s (with_blocks (in_lists s v) (set s.threads.items i new))) (enters_lists i (with_blocks (in_lists s v) (set s.threads.items i new))) → r ≡ with_local p (asks model.Delete i p.local)
deleted-written s v i old new p r k lt drops at is view settled =
    come-written (in_lists s v) i (asked model.Delete) old new _ r (kept-dropped s v i k drops) lt at is (lists-written s (dropped i) v p drops view) settled
