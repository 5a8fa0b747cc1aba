-- Where a core's turn is to tell of a deletion, it tells another processor of the machine.
use Rattle.std.proofs.Common.{◌≡◌, ◌≢◌, ℕ, ◌<◌, true, false, Option, Some, None, List, [], ◌∷◌, refl}
use Rattle.std.specs.Prelude.{Bool, is_some, find, slice_get, slice_index_or}
use Rattle.std.specs.List.{AllByRecursion}
use Rattle.std.specs.Option.{IfSome, option_map}
use Rattle.l4_model.specs.Machine.{Machine}
use Rattle.l4_model.specs.World.{is_deleted, receive_now}
use Rattle.l4_model.specs.Conditions.{Found, ◌>>=◌, ◌>>◌, is_nobody}
use Rattle.l4_core_model.specs.Plain as plain
use Rattle.l4_core_model.specs.Local.{Local, declared, own_places, held, held_by, thread, owed_beside}
use Rattle.l4_core_model.specs.Acts.{first_acceptable, zero_refusable}
use Rattle.l4_core_model.specs.Turns.{Duty, DropsOwn, TellsGone, CancelsOwn, CancelsReceive, DeliversFirst, ClosesReceive, Retargets, duty_retargets}
use Rattle.l4_core_model.specs.Turns.{duty_drops_own, duty_refuses_waiting, next_untold, duty_tells_gone, duty_cancels_own, duty_cancels_receive}
use Rattle.l4_core_model.specs.Turns.{duty_delivers_first, duty_closes_receive, duty_refuses_zero, first_some, duty_of, first_duty}
use Rattle.l4_core_model.specs.Turns.{Choice, ByDuty, ByDue, ByReady, choice}
use Rattle.l4_core_model.proofs.Choosing.{next_elsewhere}

-- Every place has a processor of the machine.
abbrev pub AllHomed : Machine → Type 0
AllHomed m = (i : ℕ) → (declared m i).cpu < m.cpus

-- Another processor, and one of the machine where every place has one.
abbrev pub IsElsewhere : Machine → (cpu to : ℕ) → Type 0
IsElsewhere m cpu to = (AllHomed m → to < m.cpus) × (to ≢ cpu)

-- The processor that a duty tells of a deletion, if it does, is another one.
abbrev pub IsAimed : Machine → (cpu : ℕ) → Duty → Type 0
IsAimed m cpu (TellsGone to) = IsElsewhere m cpu to
IsAimed m cpu duty = Unit {0}

abbrev pub IsChoiceAimed : Machine → (cpu : ℕ) → Choice → Type 0
IsChoiceAimed m cpu (ByDuty i duty) = IsAimed m cpu duty
IsChoiceAimed m cpu (ByDue i) = Unit {0}
IsChoiceAimed m cpu (ByReady i) = Unit {0}

-- What is so of the value that a chain of tests and options ends in, if it has one.

if_guarded : {A : Type 0} (P : A → Type 0) (b : Bool) (o : Option A) → IfSome o P → IfSome (b >> o) P
if_guarded P true o h = h
if_guarded P false o h = tt

if_bound : {A B : Type 0} (P : B → Type 0) (o : Option A) (f : A → Option B) → ((x : A) → o ≡ Some x → IfSome (f x) P) → IfSome (o >>= f) P
if_bound P None f h = tt
if_bound P (Some x) f h = h x refl

if_first : {A : Type 0} (P : A → Type 0) (os : List (Option A)) → AllByRecursion (λ o. IfSome o P) os → IfSome (first_some os) P
if_first P [] all = tt
if_first P (None ∷ os) all = if_first P os all.1
if_first P (Some x ∷ os) all = all.0

duty_aimed : (m : Machine) (cpu : ℕ) (l : Local) (t : Found) → IfSome (duty_of m cpu l t) (IsAimed m cpu)
duty_aimed m cpu l t =
    let aimed = IsAimed m cpu in
    let queued = plain.is_queued l.lists t.at in
    let deleted = is_deleted t.now.phase in
    let receiving = receive_now t.now.phase in
    let told = slice_index_or l.told t.at 0 in
    let drops = if_guarded aimed deleted _ (if_guarded aimed queued (Some DropsOwn) tt) in
    let refuses = if_guarded aimed deleted _ (if_bound aimed (slice_get (plain.list_of l.lists t.at) 0) _ (λ first is. tt)) in
    let other : (to : ℕ) → next_untold m cpu told ≡ Some to → IsElsewhere m cpu to =
    λ to is. (let next = next_elsewhere m cpu told to is in ((λ homes. next.0), next.1)) in
    let tells = if_guarded aimed deleted _ (if_bound aimed (next_untold m cpu told) (λ to. Some (TellsGone to)) other) in
    let cancels = if_guarded aimed queued _ (if_guarded aimed t.now.cancel_send (Some CancelsOwn) tt) in
    let fails = if_guarded aimed (is_some receiving) _ (if_guarded aimed t.now.cancel_receive (Some CancelsReceive) tt) in
    let delivers = if_bound aimed (first_acceptable l t.at) (λ first. Some (DeliversFirst first)) (λ first is. tt) in
    let closes = if_bound aimed receiving _ (λ receive is. if_guarded aimed (is_nobody receive.from (held_by m l receive.from)) (Some ClosesReceive) tt) in
    let turns = if_bound aimed (owed_beside l t.at) (λ o. Some (Retargets o)) (λ o is. tt) in
    let zero = if_bound aimed (find (λ w. zero_refusable m t (thread l w.block).send) (plain.list_of l.lists t.at)) _ (λ w is. tt) in
    if_first aimed
    (duty_retargets l t ∷ duty_drops_own l t ∷ duty_refuses_waiting l t ∷ duty_tells_gone m cpu l t ∷ duty_cancels_own l t ∷ duty_cancels_receive t
    ∷ duty_delivers_first l t ∷ duty_closes_receive m l t ∷ duty_refuses_zero m l t ∷ [])
    (turns, (drops, (refuses, (tells, (cancels, (fails, (delivers, (closes, (zero, tt)))))))))

first_duty_aimed : (m : Machine) (cpu : ℕ) (l : Local) (is : List ℕ) → IfSome (first_duty m cpu l is) (IsChoiceAimed m cpu)
first_duty_aimed m cpu l [] = tt
first_duty_aimed m cpu l (i ∷ is) =
    if_first (IsChoiceAimed m cpu) (option_map (ByDuty i) (duty_of m cpu l (held m l i)) ∷ first_duty m cpu l is ∷ [])
    (by (duty_of m cpu l (held m l i)) (duty_aimed m cpu l (held m l i)), (first_duty_aimed m cpu l is, tt))
  where
    by : (o : Option Duty) → IfSome o (IsAimed m cpu) → IfSome (option_map (ByDuty i) o) (IsChoiceAimed m cpu)
    by None h = tt
    by (Some duty) h = h

pub choice_aimed : (m : Machine) (cpu : ℕ) (l : Local) → IfSome (choice m cpu l) (IsChoiceAimed m cpu)
choice_aimed m cpu l =
    let overdue = plain.due_block l.clock l.lists.armed in
    let first = slice_get l.lists.ready 0 in
    if_first (IsChoiceAimed m cpu) (first_duty m cpu l (own_places m cpu) ∷ option_map ByDue overdue ∷ option_map ByReady first ∷ [])
    (first_duty_aimed m cpu l (own_places m cpu), (due overdue, (ready first, tt)))
  where
    due : (o : Option ℕ) → IfSome (option_map ByDue o) (IsChoiceAimed m cpu)
    due None = tt
    due (Some i) = tt

    ready : (o : Option ℕ) → IfSome (option_map ByReady o) (IsChoiceAimed m cpu)
    ready None = tt
    ready (Some i) = tt
