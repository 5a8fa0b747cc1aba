-- What an event does, piece by piece.
use Rattle.std.specs.Prelude.{ℕ, Bool, false, if◌then◌else◌, ◌&&◌, Option, Some, None, List, [], ◌∷◌, ◌++◌}
use Rattle.l4_model.specs.Options.{if_some}
use Rattle.l4_model.specs.Words.{GlobalId}
use Rattle.l4_model.specs.Machine.{Machine, OrderKind, Delete, same_space, place_of, is_place}
use Rattle.l4_model.specs.World.{Receive, Message, Send, PendingOrder, Owed, Phase, Receiving, is_deleted, Name}
use Rattle.l4_model.specs.Rules.{Failure, receive_code, RunsAlone, Sends, Receives, Orders, Act, received_tag, is_cross, owed_by}
use Rattle.l4_model.specs.Steps.{Step, OfThread, Fails, Local as RanLocal, Begin, Queue, Deliver, Wait, Order, Obey, Retarget}
use Rattle.l4_model.specs.Conditions.{Found, instruction, is_zero, is_refusable}
use Rattle.l4_model.specs.Effects.{runs, begins, waits, fails, decided, receives, asked, orders, obeyed, turns}
use Rattle.l4_core_model.specs.Plain as plain
use Rattle.l4_core_model.specs.Letters.{Refusal, TimedOut, Nobody, Result, Delivered, Refused, Cause, Content, SendLetter, DoneLetter, WithdrawLetter, OrderLetter, RetargetLetter, Letter, refusal_step, cause_of}
use Rattle.l4_core_model.specs.Local.{Local, declared, is_own, thread, held, destination_place, last_name, changes, keeps_beside, relists, comes_to, after_decision}

-- An event under way: the local state, the steps told so far, and the letters posted, each with the
-- processor that it goes to.
pub record Work : Type 0 where
  pub local : Local
  pub steps : List Step
  pub letters : List (ℕ × Letter)

-- Going on with what an event has done so far.
infixl 5 ◌▷◌
abbrev pub ◌▷◌ : Work → (Work → Work) → Work
x ▷ f = f x

abbrev pub tells : Step → Work → Work
tells step x = record x { steps = x.steps ++ step ∷ [] }

abbrev pub posts : ℕ → Content → Work → Work
posts cpu content x = record x {
  letters = x.letters ++
      (cpu, record { stamp = x.local.stamp; content = content }) ∷ [];
}

abbrev pub does : (Local → Local) → Work → Work
does f x = record x { local = f x.local }

-- A step that names the last send of a thread.
abbrev pub tells_send : Machine → (Name → Step) → ℕ → Work → Work
tells_send m step i x = tells (step (last_name m x.local i)) x

-- Sends

-- The send of the thread at place i is decided here. Its sender goes on, at once where it is of
-- this processor, else by a letter.
abbrev pub decides_send : Machine → (cpu : ℕ) → Result → ℕ → Work → Work
decides_send m cpu result i x =
    if is_own m cpu i
    then (x ▷ does (relists (plain.unqueued i))
    ▷ does (comes_to i (after_decision result x.local.clock)))
    else (x ▷ does (relists (plain.unqueued i)) ▷ does (changes i decided)
    ▷ posts (declared m i).cpu (DoneLetter (last_name m x.local i) result))

abbrev pub refuses : Machine → (cpu : ℕ) → Refusal → ℕ → Work → Work
refuses m cpu refusal i x = x ▷ tells_send m (refusal_step refusal) i
    ▷ decides_send m cpu (Refused refusal) i

-- A retarget that is owed since a message came to the thread at place r. It is kept beside that
-- thread if this is the originator's home. Otherwise a letter carries it to the originator's home.
abbrev pub owes : Machine → (cpu r : ℕ) → Owed → Option ℕ → Work → Work
owes m cpu r o =
    if_some (λ j x.
    if is_own m cpu j then (x ▷ does (keeps_beside r (Some o)))
    else posts (declared m j).cpu (RetargetLetter o) x)

abbrev pub owes_for : Machine → (cpu r : ℕ) → Option Owed → Work → Work
owes_for m cpu r = if_some (λ o x. owes m cpu r o (place_of m o.originator) x)

-- The originator, at place j, turns to the new partner.
abbrev pub retargets : Owed → (j : ℕ) → Work → Work
retargets o j x = x ▷ tells (Retarget o.send) ▷ does (changes j (turns o))

-- The message of the sender at place i is delivered to the thread at place r.
abbrev pub delivers_message : Machine → (cpu r i : ℕ) → Message → (tag : ℕ) → Work → Work
delivers_message m cpu r i message tag x =
    x
    ▷ tells (Deliver (last_name m x.local i) (declared m r).id message.shown message.actual tag
    message.words)
    ▷ does (comes_to r (receives message tag))
    ▷ decides_send m cpu Delivered i
    ▷ owes_for m cpu r (owed_by m (last_name m x.local i) message (declared m r).id)

abbrev pub delivers_send : Machine → (cpu r i : ℕ) → Option Send → Work → Work
delivers_send m cpu r i =
    if_some (λ send. delivers_message m cpu r i send.message
    (received_tag (is_cross m (declared m r).id send.message) send.message))

abbrev pub delivers : Machine → (cpu r i : ℕ) → Work → Work
delivers m cpu r i x = delivers_send m cpu r i (thread x.local i).send x

-- The first waiting send that a thread accepts where it receives.
abbrev pub first_of_list : plain.Plain → (place : ℕ) → Phase → Option ℕ
first_of_list s r (Receiving receive since) = plain.first_taken receive.from (plain.list_of s r)
first_of_list s r _ = None

abbrev pub first_acceptable : Local → ℕ → Option ℕ
first_acceptable l r = first_of_list l.lists r (thread l r).phase

abbrev pub delivers_if_first : Machine → (cpu r i : ℕ) → Work → Work
delivers_if_first m cpu r i x = if is_place (first_acceptable x.local r) i
    then delivers m cpu r i x else x

abbrev pub entry : Machine → (r i : ℕ) → Send → plain.Waiting
entry m r i send = record {
  block = i;
  shown = send.message.shown;
  local = same_space m send.message.shown (declared m r).id;
}

-- Whether a send of timeout zero may be refused, as far as is known here.
abbrev pub zero_refusable : Machine → Found → Option Send → Bool
zero_refusable m r None = false
zero_refusable m r (Some send) = is_zero send.period && is_refusable m send (Some r)

abbrev pub queues_send : Machine → (cpu r i : ℕ) → Option Send → Work → Work
queues_send m cpu r i =
    if_some (λ send x. x ▷ tells_send m Queue i ▷ does (relists (plain.queued r (entry m r i send)))
    ▷ delivers_if_first m cpu r i)

-- A send has come to its receiver's processor: it is refused, or queued, and delivered where the
-- receiver waits for it.
abbrev pub arrives : Machine → (cpu r i : ℕ) → Work → Work
arrives m cpu r i x =
    if is_deleted (thread x.local r).phase then refuses m cpu Nobody i x
    else if zero_refusable m (held m x.local r) (thread x.local i).send
    then refuses m cpu TimedOut i x
    else queues_send m cpu r i (thread x.local i).send x

abbrev pub posts_send : Machine → (r i : ℕ) → Send → Work → Work
posts_send m r i send x =
    posts (declared m r).cpu (SendLetter (last_name m x.local i) (declared m r).id send.message
    (is_zero send.period)) x

-- A begun send goes to its destination.
abbrev pub send_goes_to : Machine → (cpu i : ℕ) → Send → Option ℕ → Work → Work
send_goes_to m cpu i send None x = refuses m cpu Nobody i x
send_goes_to m cpu i send (Some r) x = if is_own m cpu r then arrives m cpu r i x
    else posts_send m r i send x

abbrev pub begins_send : Machine → (cpu i : ℕ) → Send → Work → Work
begins_send m cpu i send x =
    x ▷ does (comes_to i (begins send)) ▷ tells_send m Begin i
    ▷ send_goes_to m cpu i send (destination_place m send.to)

-- The split send of a thread of this processor: its receiver is of another.
abbrev pub split_receiver : Machine → (cpu : ℕ) → Option Send → Option ℕ
split_receiver m cpu None = None
split_receiver m cpu (Some send) = elsewhere (destination_place m send.to)
  where
    elsewhere : Option ℕ → Option ℕ
    elsewhere None = None
    elsewhere (Some r) = if is_own m cpu r then None else Some r

abbrev pub split_place : Machine → (cpu : ℕ) → Local → ℕ → Option ℕ
split_place m cpu l i = split_receiver m cpu (thread l i).send

abbrev pub withdraws : Machine → Cause → (i : ℕ) → Option ℕ → Work → Work
withdraws m cause i = if_some (λ r x. posts (declared m r).cpu
    (WithdrawLetter (last_name m x.local i) (declared m r).id cause) x)

-- Receive phases that fail

abbrev pub fails_receive : Machine → (GlobalId → Step) → (code i : ℕ) → Work → Work
fails_receive m step code i x = x ▷ tells (step (declared m i).id) ▷ does (comes_to i (fails code))

abbrev pub fails_for : Machine → Failure → ℕ → Work → Work
fails_for m why i x = fails_receive m (OfThread (Fails why)) (receive_code why) i x

-- Orders

-- A deleted thread is neither ready nor armed.
abbrev pub asks : OrderKind → ℕ → Local → Local
asks Delete i l = comes_to i (asked Delete) (relists (plain.dropped i) l)
asks what i l = changes i (asked what) l

abbrev pub withdraws_for : Machine → (cpu j : ℕ) → Option Cause → Work → Work
withdraws_for m cpu j = if_some (λ cause x. withdraws m cause j (split_place m cpu x.local j) x)

-- What the caller asks for is done to the thread at place j. A deleted thread's send is not
-- withdrawn again.
abbrev pub obeys : Machine → (cpu : ℕ) → (caller : GlobalId) → OrderKind → (j : ℕ) → Work → Work
obeys m cpu caller what j x =
    if is_deleted (thread x.local j).phase then (x ▷ tells (Obey caller) ▷ does (asks what j))
    else (x ▷ tells (Obey caller) ▷ does (asks what j) ▷ withdraws_for m cpu j (cause_of what))

abbrev pub order_goes_to : Machine → (cpu i : ℕ) → PendingOrder → Option ℕ → Work → Work
order_goes_to m cpu i order =
    if_some (λ j x.
    if is_own m cpu j then (x ▷ obeys m cpu (declared m i).id order.what j
    ▷ does (comes_to i obeyed))
    else posts (declared m j).cpu (OrderLetter (declared m i).id order.target order.what) x)

abbrev pub gives_order : Machine → (cpu i : ℕ) → PendingOrder → Work → Work
gives_order m cpu i order x =
    x ▷ does (comes_to i (orders order)) ▷ tells (Order (declared m i).id order.target order.what)
    ▷ order_goes_to m cpu i order (place_of m order.target)

-- Instructions

abbrev pub runs_alone_at : Machine → ℕ → Work → Work
runs_alone_at m i x = x ▷ tells (RanLocal (declared m i).id)
    ▷ does (comes_to i (runs (instruction (held m x.local i))))

abbrev pub waits_at : Machine → ℕ → Receive → Work → Work
waits_at m i receive x = x ▷ tells (Wait (declared m i).id)
    ▷ does (comes_to i (waits receive x.local.clock))

abbrev pub acts : Machine → (cpu i : ℕ) → Act → Work → Work
acts m cpu i RunsAlone x = runs_alone_at m i x
acts m cpu i (Sends send) x = begins_send m cpu i send x
acts m cpu i (Receives receive) x = waits_at m i receive x
acts m cpu i (Orders order) x = gives_order m cpu i order x
