-- What is known of a thread where its processor has nothing to do.
use Rattle.std.proofs.lemmas.Option.{slice_get-get_or}
use Rattle.l4_refines.proofs.Turns.Choices.{has_no_duty}
use Rattle.l4_core_model.proofs.Choosing.{none_of, guarded, both, accepts_none}
use Rattle.l4_core_model.proofs.Lists.{found_none}
use Rattle.l4_core_model.proofs.Apart.{apart}
use Rattle.std.proofs.Common.{◌≡◌, ℕ, zero, suc, ◌+◌, ◌<◌, ◌≤◌, Bool, true, false, Option, Some, None, List, [], ◌∷◌, length, refl, ap, ◌∙◌, arith}
use Rattle.std.specs.Prelude.{◌==◌, ◌&&◌, not, is_some, slice_get, slice_index_or}
use Rattle.std.specs.Option.{option_map}
use Rattle.std.specs.List.{AllByRecursion, list_all, range_with_len}
use Rattle.std.proofs.lemmas.Bool.{eqb-true}
use Rattle.l4_model.specs.Machine.{Machine}
use Rattle.l4_model.specs.World.{Receive, is_deleted, receive_now, Owed}
use Rattle.l4_model.specs.Conditions.{Found, is_nobody, ◌>>=◌, ◌>>◌}
use Rattle.l4_model.proofs.Chains.{some_is}
use Rattle.l4_core_model.specs.Plain as plain
use Rattle.l4_core_model.specs.Local.{Local, own_places, thread, held, held_by, owed_beside}
use Rattle.l4_core_model.specs.Acts.{first_acceptable, zero_refusable}
use Rattle.l4_core_model.specs.Turns.{DropsOwn, RefusesFirst, TellsGone, CancelsOwn, CancelsReceive, ClosesReceive, RefusesZero, next_untold, duty_drops_own, duty_refuses_waiting, duty_tells_gone, duty_cancels_own, duty_cancels_receive, duty_delivers_first, duty_closes_receive, duty_refuses_zero, duty_of, first_duty, Choice, ByDue, ByReady, choice, is_busy, Retargets, duty_retargets}
use Rattle.l4_core_model.specs.Runs.{System, Posted, processors, is_empty, local_at_rest, at_rest, IsMachine}
use Rattle.l4_refines.proofs.Relation.Views.{home, nowhere}

-- A thread of a processor that is idle and has nothing armed: none of its duties is one.
pub record IsIdle (m : Machine) (cpu : ℕ) (l : Local) (i : ℕ) : Type 0 where
  pub nothing_owed : owed_beside l i ≡ None
  pub no_drop : is_deleted (thread l i).phase ≡ true → plain.is_queued l.lists i ≡ true → ⊥
  pub no_refusal : is_deleted (thread l i).phase ≡ true → plain.list_of l.lists i ≡ []
  pub all_told : is_deleted (thread l i).phase ≡ true → next_untold m cpu (slice_index_or l.told i 0) ≡ None
  pub no_cancel : plain.is_queued l.lists i ≡ true → (thread l i).cancel_send ≡ true → ⊥
  pub no_wish : (receive : Receive) → receive_now (thread l i).phase ≡ Some receive → (thread l i).cancel_receive ≡ true → ⊥
  pub no_delivery : first_acceptable l i ≡ None
  pub no_close : (receive : Receive) → receive_now (thread l i).phase ≡ Some receive → is_nobody receive.from (held_by m l receive.from) ≡ true → ⊥
  pub no_zero : AllByRecursion (λ (e : plain.Waiting). zero_refusable m (held m l i) (thread l e.block).send ≡ false) (plain.list_of l.lists i)
  pub none_ready : l.lists.ready ≡ []
  pub none_armed : l.lists.armed ≡ []

-- It has no duty of any kind.

owes_none : (o : Option Owed) → (o >>= λ x. Some (Retargets x)) ≡ None → o ≡ None
owes_none None h = refl
owes_none (Some x) h = cc

refuses_none : (b : Bool) (es : List plain.Waiting) → (b >> (slice_get es 0 >>= λ e. Some (RefusesFirst e.block))) ≡ None → b ≡ true → es ≡ []
refuses_none true [] h gone = refl
refuses_none true (e ∷ es) h gone = cc
refuses_none false es h gone = cc

tells_none : (b : Bool) (o : Option ℕ) → (b >> (o >>= λ to. Some (TellsGone to))) ≡ None → b ≡ true → o ≡ None
tells_none true None h gone = refl
tells_none true (Some to) h gone = cc
tells_none false o h gone = cc

closes_none : (m : Machine) (l : Local) (receive : Receive) (o : Option Receive) →
    (o >>= λ r. is_nobody r.from (held_by m l r.from) >> Some ClosesReceive) ≡ None → o ≡ Some receive →
    is_nobody receive.from (held_by m l receive.from) ≡ true → ⊥
closes_none m l receive None h receiving nobody = cc
closes_none m l receive (Some other) h receiving nobody =
    let same : other ≡ receive = some_is other receive receiving in
    let is = ap (λ (r : Receive). is_nobody r.from (held_by m l r.from)) same ∙ nobody in
    let done = rw is at h in cc

idle_from : (m : Machine) (cpu : ℕ) (l : Local) (i : ℕ) → duty_of m cpu l (held m l i) ≡ None → l.lists.ready ≡ [] → l.lists.armed ≡ [] → IsIdle m cpu l i
idle_from m cpu l i h ready armed =
    let t : Found = held m l i in
    let d = none_of (duty_retargets l t ∷ duty_drops_own l t ∷ duty_refuses_waiting l t ∷ duty_tells_gone m cpu l t ∷ duty_cancels_own l t ∷ duty_cancels_receive
    t ∷ duty_delivers_first l t ∷ duty_closes_receive m l t ∷ duty_refuses_zero m l t ∷ []) h in
    record {
      nothing_owed = owes_none (owed_beside l i) d.0;
      no_drop = guarded (is_deleted (thread l i).phase) (plain.is_queued l.lists i) DropsOwn d.1.0;
      no_refusal = refuses_none (is_deleted (thread l i).phase) (plain.list_of l.lists i) d.1.1.0;
      all_told = tells_none (is_deleted (thread l i).phase) (next_untold m cpu (slice_index_or l.told i 0)) d.1.1.1.0;
      no_cancel = guarded (plain.is_queued l.lists i) (thread l i).cancel_send CancelsOwn d.1.1.1.1.0;
      no_wish = λ receive receiving.
          guarded (is_some (receive_now (thread l i).phase)) (thread l i).cancel_receive CancelsReceive d.1.1.1.1.1.0 (ap (λ o. is_some o) receiving);
      no_delivery = accepts_none (first_acceptable l i) d.1.1.1.1.1.1.0;
      no_close = λ receive receiving. closes_none m l receive (receive_now (thread l i).phase) d.1.1.1.1.1.1.1.0 receiving;
      no_zero = found_none (λ (e : plain.Waiting). zero_refusable m t (thread l e.block).send) (λ (e : plain.Waiting). Some (RefusesZero e.block)) (λ e h. cc)
          (plain.list_of l.lists i) d.1.1.1.1.1.1.1.1.0;
      none_ready = ready;
      none_armed = armed;
    }

idle_processor : (m : Machine) (cpu : ℕ) (l : Local) (i : ℕ) → home m i ≡ cpu → i < length m.threads →
    (not (is_busy m cpu l) && is_empty l.lists.armed) ≡ true → IsIdle m cpu l i
idle_processor m cpu l i here lt h =
    let t = both (not (is_busy m cpu l)) (is_empty l.lists.armed) h in
    let none = none_of (first_duty m cpu l (own_places m cpu) ∷ option_map ByDue (plain.due_block l.clock l.lists.armed) ∷ option_map ByReady
    (slice_get l.lists.ready 0) ∷ []) (idle (choice m cpu l) t.0) in
    idle_from m cpu l i (has_no_duty m cpu l none.0 i (record { within = lt; home = here })) (no_first l.lists.ready none.1.1.0) (nothing l.lists.armed t.1)
  where
    idle : (o : Option Choice) → not (is_some o) ≡ true → o ≡ None
    idle None h = refl
    idle (Some c) h = cc

    no_first : (is : List ℕ) → option_map ByReady (slice_get is 0) ≡ None → is ≡ []
    no_first [] h = refl
    no_first (i ∷ is) h = cc

    nothing : (es : List (ℕ × ℕ)) → is_empty es ≡ true → es ≡ []
    nothing [] h = refl
    nothing (e ∷ es) h = cc

-- A machine at rest

all_in_range : (p : ℕ → Bool) (a n i : ℕ) → list_all p (range_with_len a n) ≡ true → a ≤ i → i < a + n → p i ≡ true
all_in_range p a zero i h le lt = absurd (omega arith)
all_in_range p a (suc n) i h le lt =
    by (i == a) refl (both (p a) (list_all p (range_with_len (a + 1) n)) h) (λ t below. all_in_range p (a + 1) n i t below (omega arith))
  where
    by : (b : Bool) → (i == a) ≡ b → (p a ≡ true) × (list_all p (range_with_len (a + 1) n) ≡ true) →
        (list_all p (range_with_len (a + 1) n) ≡ true → a + 1 ≤ i → p i ≡ true) → p i ≡ true
    by true is t rest = ap p (eqb-true i a is) ∙ t.0
    by false is t rest = let ne = apart i a is in rest t.1 (omega arith)

pub none_posted : (m : Machine) (g : System) → at_rest m g ≡ true → g.mail ≡ []
none_posted m g h = nothing g.mail (both (list_all (local_at_rest m g) (processors m)) (is_empty g.mail) h).1
  where
    nothing : (ps : List Posted) → is_empty ps ≡ true → ps ≡ []
    nothing [] h = refl
    nothing (p ∷ ps) h = cc

-- The processor of a thread has nothing to do.
pub is_idle : (m : Machine) (g : System) (i : ℕ) → IsMachine m → i < length m.threads → length g.locals ≡ m.cpus → at_rest m g ≡ true →
    IsIdle m (home m i) (slice_index_or g.locals (home m i) nowhere) i
is_idle m g i machine lt counted h =
    let homed : home m i < length g.locals = omega (arith, machine.homed i lt, counted) in
    let all = (both (list_all (local_at_rest m g) (processors m)) (is_empty g.mail) h).0 in
    let here = all_in_range (local_at_rest m g) 0 m.cpus (home m i) all (omega arith) (omega arith) in
    let at = slice_get-get_or g.locals (home m i) nowhere homed in
    idle_processor m (home m i) (slice_index_or g.locals (home m i) nowhere) i refl lt (rw at at here)
