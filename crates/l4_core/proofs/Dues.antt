-- What a duty says of the threads and the lists.
use Rattle.std.proofs.Common.{◌≡◌, ℕ, zero, suc, Bool, true, false, cond, ◌&&◌, ◌||◌, Option, Some, None, List, [], ◌∷◌, refl, ap, sym, ◌∙◌, subst, inl, inr, ◌⊎◌}
use Rattle.std.specs.Prelude.{◌==◌, find, nat_le, slice_get, slice_index_or}
use Rattle.std.specs.Option.{option_map}
use Rattle.std.specs.List.{list_any}
use Rattle.std.proofs.lemmas.Bool.{eq-eqb}
use Rattle.l4_model.specs.Words.{Id, AnyThread}
use Rattle.l4_model.specs.World.{Receive, Thread, Owed, is_deleted, receive_now}
use Rattle.l4_model.specs.Rules.{takes}
use Rattle.l4_core_model.specs.Plain as plain
use Rattle.l4_core_model.specs.Local.{thread, owed_beside}
use Rattle.l4_core_model.specs.Turns.{Duty, Retargets, DropsOwn, RefusesFirst, TellsGone, CancelsOwn, CancelsReceive, DeliversFirst, ClosesReceive, RefusesZero}
use Rattle.l4_core.specs.Inner.Covered.{after_retarget, duty_at, duty_of_thread, names_nobody, first_refusable, untold_of, or_tell, deleted_duty, or_close, receive_duty, or_refuse}
use Rattle.l4_core.specs.Inner.Parts.{AreCore}
use Rattle.l4_core.specs.Processor.{Processor}
use Rattle.l4_core.specs.Inner.Turning.{IsSender}
use Rattle.l4_core.proofs.Parting.{duty_is}
use Rattle.l4_core.proofs.Settling.{sooner, later}

abbrev Waits : List plain.Waiting → ℕ → Type 0
Waits ws s = list_any (λ (w : plain.Waiting). s == w.block) ws ≡ true

-- What a duty names waits in the list.
abbrev NamesWaiting : List plain.Waiting → Duty → Type 0
NamesWaiting ws (RefusesFirst s) = Waits ws s
NamesWaiting ws (DeliversFirst s) = Waits ws s
NamesWaiting ws (RefusesZero s) = Waits ws s
NamesWaiting ws (Retargets owed) = ⊥
NamesWaiting ws d = Unit {0}

found_waits : (p : plain.Waiting → Bool) (ws : List plain.Waiting) (v : plain.Waiting) → find p ws ≡ Some v → Waits ws v.block
found_waits p [] v e = cc
found_waits p (w ∷ ws) v e = by (p w) e (found_waits p ws v)
  where
    by : (b : Bool) → cond b (Some w) (find p ws) ≡ Some v → (find p ws ≡ Some v → Waits ws v.block) → Waits (w ∷ ws) v.block
    by true e f = let same : w ≡ v = cc in sooner _ _ (eq-eqb v.block w.block (ap (λ (x : plain.Waiting). x.block) (sym same)))
    by false e f = later _ _ (f e)

taken_waits : (from : Id) (ws : List plain.Waiting) (s : ℕ) → plain.first_taken from ws ≡ Some s → Waits ws s
taken_waits from ws s e = by (find (λ (w : plain.Waiting). takes from w.shown w.local) ws) refl e
  where
    by : (o : Option plain.Waiting) → find (λ (w : plain.Waiting). takes from w.shown w.local) ws ≡ o → option_map (λ (w : plain.Waiting). w.block) o ≡ Some s → Waits ws s
    by None f g = cc
    by (Some v) f g = let same : v.block ≡ s = cc in subst (Waits ws) same (found_waits _ ws v f)

tells : (ws : List plain.Waiting) (o untold : Option ℕ) (d : Duty) → ((s : ℕ) → o ≡ Some s → Waits ws s) → or_tell o untold ≡ Some d → NamesWaiting ws d
tells ws None None d f e = cc
tells ws None (Some cpu) d f e = let same : TellsGone cpu ≡ d = cc in subst (NamesWaiting ws) same tt
tells ws (Some s) untold d f e = let same : RefusesFirst s ≡ d = cc in subst (NamesWaiting ws) same (f s refl)

closes : (ws : List plain.Waiting) (o : Option ℕ) (nobody : Bool) (d : Duty) → ((s : ℕ) → o ≡ Some s → Waits ws s) → or_close o nobody ≡ Some d → NamesWaiting ws d
closes ws (Some s) nobody d f e = let same : DeliversFirst s ≡ d = cc in subst (NamesWaiting ws) same (f s refl)
closes ws None true d f e = let same : ClosesReceive ≡ d = cc in subst (NamesWaiting ws) same tt
closes ws None false d f e = cc

receives : (nobody : Id → Bool) (cancelled : Bool) (ws : List plain.Waiting) (r : Option Receive) (d : Duty) → receive_duty nobody cancelled ws r ≡ Some d → NamesWaiting ws d
receives nobody cancelled ws None d e = cc
receives nobody true ws (Some receive) d e = let same : CancelsReceive ≡ d = cc in subst (NamesWaiting ws) same tt
receives nobody false ws (Some receive) d e = closes ws (plain.first_taken receive.from ws) (nobody receive.from) d (taken_waits receive.from ws) e

refuses : (ws : List plain.Waiting) (o : Option Duty) (zeros : Option plain.Waiting) (d : Duty) → ((e : Duty) → o ≡ Some e → NamesWaiting ws e) → ((v : plain.Waiting) → zeros ≡ Some v → Waits ws v.block) → or_refuse o zeros ≡ Some d → NamesWaiting ws d
refuses ws (Some x) zeros d f g e = let same : x ≡ d = cc in subst (NamesWaiting ws) same (f x refl)
refuses ws None None d f g e = cc
refuses ws None (Some v) d f g e = let same : RefusesZero v.block ≡ d = cc in subst (NamesWaiting ws) same (g v refl)

either : (nobody : Id → Bool) (t : Thread) (dead cancelled queued : Bool) (ws : List plain.Waiting) (untold : Option ℕ) (zeros : Option plain.Waiting) (d : Duty) → ((v : plain.Waiting) → zeros ≡ Some v → Waits ws v.block) →
    cond dead (deleted_duty queued ws untold) (cond (cancelled && queued) (Some CancelsOwn) (or_refuse (receive_duty nobody t.cancel_receive ws (receive_now t.phase)) zeros)) ≡ Some d → NamesWaiting ws d
either nobody t true cancelled true ws untold zeros d g e = let same : DropsOwn ≡ d = cc in subst (NamesWaiting ws) same tt
either nobody t true cancelled false ws untold zeros d g e = tells ws (plain.first_taken AnyThread ws) untold d (taken_waits AnyThread ws) e
either nobody t false true true ws untold zeros d g e = let same : CancelsOwn ≡ d = cc in subst (NamesWaiting ws) same tt
either nobody t false true false ws untold zeros d g e = refuses ws (receive_duty nobody t.cancel_receive ws (receive_now t.phase)) zeros d (λ x f. receives nobody t.cancel_receive ws (receive_now t.phase) x f) g e
either nobody t false false queued ws untold zeros d g e = refuses ws (receive_duty nobody t.cancel_receive ws (receive_now t.phase)) zeros d (λ x f. receives nobody t.cancel_receive ws (receive_now t.phase) x f) g e

-- A duty is that of a retarget which is kept, or it names what waits.
abbrev IsNamed : Processor → ℕ → Duty → Type 0
IsNamed p i d = ((owed : Owed) × (owed_beside p.local i ≡ Some owed) × (Retargets owed ≡ d)) ⊎ NamesWaiting (plain.list_of p.local.lists i) d

names : (p : Processor) (i : ℕ) (d : Duty) → duty_at p.machine p.cpu p.local i ≡ Some d → IsNamed p i d
names p i d e = by (owed_beside p.local i) refl (sym (duty_is p.machine p.cpu p.local i) ∙ e)
  where
    by : (o : Option Owed) → owed_beside p.local i ≡ o →
        after_retarget o (duty_of_thread (names_nobody p.machine p.local) (thread p.local i) (plain.is_queued p.local.lists i) (plain.list_of p.local.lists i) (untold_of p.machine p.cpu p.local i) (first_refusable p.machine p.local i)) ≡ Some d → IsNamed p i d
    by (Some owed) at h = inl (owed, at, cc)
    by None at h =
        inr (either (names_nobody p.machine p.local) (thread p.local i) (is_deleted (thread p.local i).phase) (thread p.local i).cancel_send (plain.is_queued p.local.lists i) (plain.list_of p.local.lists i) (untold_of p.machine p.cpu p.local i) (first_refusable p.machine p.local i) d
        (λ v f. found_waits _ (plain.list_of p.local.lists i) v f) h)

somewhere : {A : Type 0} (p : A → Bool) (xss : List (List A)) (r : ℕ) → list_any p (slice_index_or xss r []) ≡ true → list_any (list_any p) xss ≡ true
somewhere p [] r e = e
somewhere p (xs ∷ xss) zero e = sooner _ _ e
somewhere p (xs ∷ xss) (suc r) e = later _ _ (somewhere p xss r e)

waits_sends : (p : Processor) (i s : ℕ) → AreCore p → Waits (plain.list_of p.local.lists i) s → IsSender p s
waits_sends p i s core e =
    let waits = core.settled.queued s (somewhere (λ (w : plain.Waiting). s == w.block) p.local.lists.waiting i e) in
    record { within = waits.within; sends = waits.sends }

pub refused_sends : (p : Processor) (i s : ℕ) → AreCore p → duty_at p.machine p.cpu p.local i ≡ Some (RefusesFirst s) → IsSender p s
refused_sends p i s core e = by (names p i (RefusesFirst s) e)
  where
    by : IsNamed p i (RefusesFirst s) → IsSender p s
    by (inl kept) = let wrong : Retargets kept.0 ≡ RefusesFirst s = kept.2 in cc
    by (inr waits) = waits_sends p i s core waits

pub delivered_sends : (p : Processor) (i s : ℕ) → AreCore p → duty_at p.machine p.cpu p.local i ≡ Some (DeliversFirst s) → IsSender p s
delivered_sends p i s core e = by (names p i (DeliversFirst s) e)
  where
    by : IsNamed p i (DeliversFirst s) → IsSender p s
    by (inl kept) = let wrong : Retargets kept.0 ≡ DeliversFirst s = kept.2 in cc
    by (inr waits) = waits_sends p i s core waits

pub zero_sends : (p : Processor) (i s : ℕ) → AreCore p → duty_at p.machine p.cpu p.local i ≡ Some (RefusesZero s) → IsSender p s
zero_sends p i s core e = by (names p i (RefusesZero s) e)
  where
    by : IsNamed p i (RefusesZero s) → IsSender p s
    by (inl kept) = let wrong : Retargets kept.0 ≡ RefusesZero s = kept.2 in cc
    by (inr waits) = waits_sends p i s core waits

-- The retarget that a duty is about is kept.
pub kept_there : (p : Processor) (i : ℕ) (owed : Owed) → duty_at p.machine p.cpu p.local i ≡ Some (Retargets owed) → owed_beside p.local i ≡ Some owed
kept_there p i owed e = by (names p i (Retargets owed) e)
  where
    by : IsNamed p i (Retargets owed) → owed_beside p.local i ≡ Some owed
    by (inl kept) = let h : Retargets kept.0 ≡ Retargets owed = kept.2 in let same : kept.0 ≡ owed = cc in kept.1 ∙ ap Some same
    by (inr none) = absurd none

-- A due thread is armed.
pub due_armed : (clock : ℕ) (es : List (ℕ × ℕ)) (i : ℕ) → plain.due_block clock es ≡ Some i → list_any (λ (e : ℕ × ℕ). i == e.1) es ≡ true
due_armed clock [] i e = cc
due_armed clock (x ∷ es) i e = by (nat_le x.0 clock) e
  where
    by : (b : Bool) → cond b (Some x.1) None ≡ Some i → ((i == x.1) || list_any (λ (e : ℕ × ℕ). i == e.1) es) ≡ true
    by true e = let same : x.1 ≡ i = cc in sooner _ _ (eq-eqb i x.1 (sym same))
    by false e = cc

-- The first ready thread is ready.
pub ready_there : (i : ℕ) (ready : List ℕ) → slice_get ready 0 ≡ Some i → list_any (λ b. i == b) ready ≡ true
ready_there i [] e = cc
ready_there i (b ∷ bs) e = let same : b ≡ i = cc in sooner _ _ (eq-eqb i b (sym same))
