-- Each act of an event tells and posts no more than it has room for, and its letters go to other processors of the machine.
use Rattle.l4_model.specs.Options.{if_some}
use Rattle.std.proofs.Common.{◌≡◌, false, refl, ℕ, suc, ◌+◌, ◌<◌, ◌≤◌, Option, Some, None, List, [], ◌∷◌, ◌++◌, length, ⊎_elim, ap, arith}
use Rattle.std.specs.List.{AllByRecursion}
use Rattle.std.specs.Option.{IfSome}
use Rattle.std.proofs.lemmas.Bool.{cases_lt}
use Rattle.std.proofs.lemmas.List.{length-append, get_or_past}
use Rattle.l4_model.specs.Words.{GlobalId}
use Rattle.l4_model.specs.Machine.{Machine, OrderKind, place_of, is_place}
use Rattle.l4_model.specs.World.{Message, Send, PendingOrder, is_deleted, Owed}
use Rattle.l4_model.specs.Effects.{orders}
use Rattle.l4_model.specs.Rules.{Failure, Act, RunsAlone, Sends, Receives, Orders, owed_by}
use Rattle.l4_model.specs.Steps.{Step, Queue, Order}
use Rattle.l4_model.proofs.Chains.{cond_keeps}
use Rattle.l4_core_model.specs.Plain as plain
use Rattle.l4_core_model.specs.Letters.{Letter, Result, Refusal, Refused, Nobody, TimedOut, Delivered, Cause, Content, cause_of}
use Rattle.l4_core_model.specs.Local.{Local, undeclared, declared, is_own, thread, held, destination_place, comes_to, relists, last_name}
use Rattle.l4_core_model.specs.Runs.{IsMachine}
use Rattle.l4_core_model.specs.Acts.{Work, ◌▷◌, tells, does, tells_send, entry, posts, decides_send, refuses, delivers_message, delivers_send, owes, owes_for, retargets}
use Rattle.l4_core_model.specs.Acts.{delivers, first_acceptable, delivers_if_first, queues_send, arrives, zero_refusable, send_goes_to}
use Rattle.l4_core_model.specs.Acts.{begins_send, split_receiver, withdraws, fails_for, withdraws_for, obeys, order_goes_to, gives_order, acts}
use Rattle.l4_core_model.proofs.Apart.{apart}
use Rattle.l4_merge.proofs.Lists.{all-append}
use Rattle.l4_merge.proofs.Aims.{AllHomed, IsElsewhere}

-- Of a declared thread the machine says that it has a processor of the machine, and past the end it is processor 0.
pub all_homed : (m : Machine) (cpu : ℕ) → IsMachine m → cpu < m.cpus → AllHomed m
all_homed m cpu is lt i =
    ⊎_elim (is.homed i) (λ past. let here = ap (λ d. d.cpu) (get_or_past m.threads i undeclared past) in omega arith)
    (cases_lt i (length m.threads))

-- A thread of another processor.
abbrev pub IsForeign : Machine → (cpu i : ℕ) → Type 0
IsForeign m cpu i = is_own m cpu i ≡ false

pub home_elsewhere : (m : Machine) (cpu i : ℕ) → IsForeign m cpu i → IsElsewhere m cpu (declared m i).cpu
home_elsewhere m cpu i foreign = ((λ homes. homes i), apart (declared m i).cpu cpu foreign)

-- A split send goes to a thread of another processor.
pub split_is_foreign : (m : Machine) (cpu : ℕ) (send : Option Send) → IfSome (split_receiver m cpu send) (IsForeign m cpu)
split_is_foreign m cpu None = tt
split_is_foreign m cpu (Some send) = by (destination_place m send.to) refl
  where
    by : (o : Option ℕ) → destination_place m send.to ≡ o → IfSome (split_receiver m cpu (Some send)) (IsForeign m cpu)
    by None to = rw to tt
    by (Some r) to = rw to (cond_keeps (λ o. IfSome o (IsForeign m cpu)) (is_own m cpu r) None (Some r) (λ own. tt) (λ foreign. foreign))

-- An event under way has room for some more steps of three and some more letters of two. Those posted so far go to other processors of the machine.
pub record HasRoom (m : Machine) (cpu steps letters : ℕ) (x : Work) : Type 0 where
  pub of_steps : length x.steps + steps ≤ 3
  pub of_letters : length x.letters + letters ≤ 2
  pub goals : AllByRecursion (λ p. IsElsewhere m cpu p.0) x.letters

-- An act that has so much room ends within it.
abbrev pub Fits : Machine → (cpu steps letters : ℕ) → (Work → Work) → Type 0
Fits m cpu s l act = (x : Work) → HasRoom m cpu s l x → HasRoom m cpu 0 0 (act x)

pub with_local : {m : Machine} {cpu s l : ℕ} {x : Work} {local : Local} → HasRoom m cpu s l x → HasRoom m cpu s l (record x { local = local })
with_local h = record { of_steps = h.of_steps; of_letters = h.of_letters; goals = h.goals }

pub less : {m : Machine} {cpu s l a b : ℕ} {x : Work} → a ≤ s → b ≤ l → HasRoom m cpu s l x → HasRoom m cpu a b x
less steps letters h = record { of_steps = omega (arith, h.of_steps); of_letters = omega (arith, h.of_letters); goals = h.goals }

pub at_end : {m : Machine} {cpu s l : ℕ} {x : Work} → HasRoom m cpu s l x → HasRoom m cpu 0 0 x
at_end h = less (omega arith) (omega arith) h

-- One more stands in a list.
one_more : {A : Type 0} (xs : List A) (y : A) (room most : ℕ) → length xs + suc room ≤ most → length (xs ++ y ∷ []) + room ≤ most
one_more xs y room most h = let size = length-append xs (y ∷ []) in omega (arith, h)

pub tells_fits : {m : Machine} {cpu s l : ℕ} {x : Work} (step : Step) → HasRoom m cpu (suc s) l x → HasRoom m cpu s l (tells step x)
tells_fits {s = s} {x = x} step h = record { of_steps = one_more x.steps step s 3 h.of_steps; of_letters = h.of_letters; goals = h.goals }

pub posts_fits : {m : Machine} {cpu s l : ℕ} {x : Work} (to : ℕ) (content : Content) → IsElsewhere m cpu to → HasRoom m cpu s (suc l) x →
    HasRoom m cpu s l (posts to content x)
posts_fits {m = m} {cpu = cpu} {l = l} {x = x} to content elsewhere h = record {
  of_steps = h.of_steps;
  of_letters = one_more x.letters _ l 2 h.of_letters;
  goals = all-append (λ (p : ℕ × Letter). IsElsewhere m cpu p.0) x.letters _ h.goals (elsewhere, tt);
}

-- sends

ends_fits : (m : Machine) (cpu : ℕ) (result : Result) (i l : ℕ) (x : Work) → HasRoom m cpu 0 (suc l) x → HasRoom m cpu 0 l (decides_send m cpu result i x)
ends_fits m cpu result i l x h =
    cond_keeps (HasRoom m cpu 0 l) (is_own m cpu i) _ _ (λ yes. with_local (less (omega arith) (omega arith) h))
    (λ no. posts_fits _ _ (home_elsewhere m cpu i no) (with_local h))

pub refuses_fits : (m : Machine) (cpu : ℕ) (refusal : Refusal) (i : ℕ) → Fits m cpu 1 1 (refuses m cpu refusal i)
refuses_fits m cpu refusal i x h = ends_fits m cpu (Refused refusal) i 0 _ (tells_fits _ h)

owes_fits : (m : Machine) (cpu r : ℕ) (o : Owed) (to : Option ℕ) → Fits m cpu 0 1 (owes m cpu r o to)
owes_fits m cpu r o None x h = at_end h
owes_fits m cpu r o (Some j) x h =
    cond_keeps (HasRoom m cpu 0 0) (is_own m cpu j) _ _ (λ yes. with_local (at_end h)) (λ no. posts_fits _ _ (home_elsewhere m cpu j no) h)

owes_for_fits : (m : Machine) (cpu r : ℕ) (o : Option Owed) → Fits m cpu 0 1 (owes_for m cpu r o)
owes_for_fits m cpu r None x h = at_end h
owes_for_fits m cpu r (Some o) x h = owes_fits m cpu r o (place_of m o.originator) x h

-- A delivery may post the decision and then the retarget that it owes.
delivers_message_fits : (m : Machine) (cpu r i : ℕ) (message : Message) (tag : ℕ) → Fits m cpu 1 2 (delivers_message m cpu r i message tag)
delivers_message_fits m cpu r i message tag x h =
    owes_for_fits m cpu r (owed_by m (last_name m x.local i) message (declared m r).id) _ (ends_fits m cpu Delivered i 1 _ (with_local (tells_fits _ h)))

delivers_send_fits : (m : Machine) (cpu r i : ℕ) (send : Option Send) → Fits m cpu 1 2 (delivers_send m cpu r i send)
delivers_send_fits m cpu r i None x h = at_end h
delivers_send_fits m cpu r i (Some send) x h = delivers_message_fits m cpu r i send.message _ x h

pub delivers_fits : (m : Machine) (cpu r i : ℕ) → Fits m cpu 1 2 (delivers m cpu r i)
delivers_fits m cpu r i x h = delivers_send_fits m cpu r i (thread x.local i).send x h

delivers_if_first_fits : (m : Machine) (cpu r i : ℕ) → Fits m cpu 1 2 (delivers_if_first m cpu r i)
delivers_if_first_fits m cpu r i x h =
    cond_keeps (HasRoom m cpu 0 0) (is_place (first_acceptable x.local r) i) _ _ (λ yes. delivers_fits m cpu r i x h)
    (λ no. at_end h)

queues_send_fits : (m : Machine) (cpu r i : ℕ) (send : Option Send) → Fits m cpu 2 2 (queues_send m cpu r i send)
queues_send_fits m cpu r i None x h = at_end h
queues_send_fits m cpu r i (Some send) x h =
    delivers_if_first_fits m cpu r i (x ▷ tells_send m Queue i ▷ does (relists (plain.queued r (entry m r i send)))) (with_local (tells_fits _ h))

pub arrives_fits : (m : Machine) (cpu r i : ℕ) → Fits m cpu 2 2 (arrives m cpu r i)
arrives_fits m cpu r i x h =
    let fewer = less (omega arith) (omega arith) h in
    cond_keeps (HasRoom m cpu 0 0) (is_deleted (thread x.local r).phase) _ _ (λ gone. refuses_fits m cpu Nobody i x fewer)
    (λ alive. cond_keeps (HasRoom m cpu 0 0) (zero_refusable m (held m x.local r) (thread x.local i).send) _ _
    (λ zero. refuses_fits m cpu TimedOut i x fewer) (λ waits. queues_send_fits m cpu r i (thread x.local i).send x h))

goes_to_fits : (m : Machine) (cpu i : ℕ) (send : Send) (to : Option ℕ) → Fits m cpu 2 2 (send_goes_to m cpu i send to)
goes_to_fits m cpu i send None x h = refuses_fits m cpu Nobody i x (less (omega arith) (omega arith) h)
goes_to_fits m cpu i send (Some r) x h =
    cond_keeps (HasRoom m cpu 0 0) (is_own m cpu r) _ _ (λ yes. arrives_fits m cpu r i x h)
    (λ no. posts_fits _ _ (home_elsewhere m cpu r no) (less (omega arith) (omega arith) h))

begins_send_fits : (m : Machine) (cpu i : ℕ) (send : Send) → Fits m cpu 3 2 (begins_send m cpu i send)
begins_send_fits m cpu i send x h = goes_to_fits m cpu i send (destination_place m send.to) _ (tells_fits _ (with_local h))

-- A letter less, and as much of other room as there was.
pub withdraws_fits : (m : Machine) (cpu : ℕ) (cause : Cause) (i : ℕ) (to : Option ℕ) → IfSome to (IsForeign m cpu) → (s l : ℕ) (x : Work) →
    HasRoom m cpu s (suc l) x → HasRoom m cpu s l (withdraws m cause i to x)
withdraws_fits m cpu cause i None foreign s l x h = less (omega arith) (omega arith) h
withdraws_fits m cpu cause i (Some r) foreign s l x h = posts_fits _ _ (home_elsewhere m cpu r foreign) h

pub fails_fits : (m : Machine) (cpu : ℕ) (why : Failure) (i : ℕ) → Fits m cpu 1 0 (fails_for m why i)
fails_fits m cpu why i x h = with_local (tells_fits _ h)

-- An originator turns to its new partner, wherever it stands.
pub retargets_fits : (m : Machine) (cpu : ℕ) (o : Owed) (to : Option ℕ) → Fits m cpu 1 0 (if_some (retargets o) to)
retargets_fits m cpu o None x h = at_end h
retargets_fits m cpu o (Some j) x h = with_local (tells_fits _ h)

-- orders

withdraws_for_fits : (m : Machine) (cpu j : ℕ) (cause : Option Cause) → (s l : ℕ) (x : Work) → HasRoom m cpu s (suc l) x →
    HasRoom m cpu s l (withdraws_for m cpu j cause x)
withdraws_for_fits m cpu j None s l x h = less (omega arith) (omega arith) h
withdraws_for_fits m cpu j (Some cause) s l x h = withdraws_fits m cpu cause j _ (split_is_foreign m cpu (thread x.local j).send) s l x h

pub obeys_fits : (m : Machine) (cpu : ℕ) (caller : GlobalId) (what : OrderKind) (j : ℕ) → (l : ℕ) (x : Work) → HasRoom m cpu 1 (suc l) x →
    HasRoom m cpu 0 l (obeys m cpu caller what j x)
obeys_fits m cpu caller what j l x h =
    cond_keeps (HasRoom m cpu 0 l) (is_deleted (thread x.local j).phase) _ _ (λ gone. with_local (tells_fits _ (less (omega arith) (omega arith) h)))
    (λ alive. withdraws_for_fits m cpu j (cause_of what) 0 l _ (with_local (tells_fits _ h)))

order_goes_to_fits : (m : Machine) (cpu i : ℕ) (order : PendingOrder) (to : Option ℕ) → Fits m cpu 1 1 (order_goes_to m cpu i order to)
order_goes_to_fits m cpu i order None x h = at_end h
order_goes_to_fits m cpu i order (Some j) x h =
    cond_keeps (HasRoom m cpu 0 0) (is_own m cpu j) _ _ (λ yes. with_local (obeys_fits m cpu (declared m i).id order.what j 0 x h))
    (λ no. posts_fits _ _ (home_elsewhere m cpu j no) (less (omega arith) (omega arith) h))

gives_order_fits : (m : Machine) (cpu i : ℕ) (order : PendingOrder) → Fits m cpu 2 1 (gives_order m cpu i order)
gives_order_fits m cpu i order x h =
    order_goes_to_fits m cpu i order (place_of m order.target)
    (x ▷ does (comes_to i (orders order)) ▷ tells (Order (declared m i).id order.target order.what)) (tells_fits _ (with_local h))

-- instructions

pub acts_fits : (m : Machine) (cpu i : ℕ) (a : Act) → Fits m cpu 3 2 (acts m cpu i a)
acts_fits m cpu i RunsAlone x h = with_local (tells_fits _ (less (omega arith) (omega arith) h))
acts_fits m cpu i (Sends send) x h = begins_send_fits m cpu i send x h
acts_fits m cpu i (Receives receive) x h = with_local (tells_fits _ (less (omega arith) (omega arith) h))
acts_fits m cpu i (Orders order) x h = gives_order_fits m cpu i order x (less (omega arith) (omega arith) h)
