-- What is promised is kept where a send begins, waits, is refused or delivered, and where an instruction concerns its thread alone.
use Rattle.l4_refines.proofs.Lists.{all_true}
use Rattle.std.proofs.Common.{◌≡◌, ℕ, ◌<◌, true, Option, Some, None, List, [], ◌∷◌, refl}
use Rattle.std.specs.List.{AllByRecursion}
use Rattle.std.proofs.lemmas.Bool.{eqb-true}
use Rattle.l4_model.specs.Words.{GlobalId}
use Rattle.l4_model.specs.Machine.{Machine, Instr, is_place, place_of}
use Rattle.l4_model.specs.World.{Receive, Send, Phase, Ready, Sending, Receiving, Ordering, Ended, Deleted, is_ready, is_deleted, Owed}
use Rattle.l4_model.specs.Rules.{Failure, receive_code, received_tag, is_cross, owed_by}
use Rattle.l4_model.specs.Steps.{OfThread, Fails, Step, Local as RanLocal, Begin, Queue, Deliver, Wait}
use Rattle.l4_model.specs.Conditions.{instruction, is_zero}
use Rattle.l4_model.specs.Effects.{runs, begins, waits, fails, decided, receives}
use Rattle.l4_model.proofs.Chains.{cond_keeps}
use Rattle.l4_core_model.specs.Plain as plain
use Rattle.l4_core_model.specs.Letters.{Refusal, TimedOut, Nobody, Result, Delivered, Refused, DoneLetter, SendLetter, refusal_step, RetargetLetter}
use Rattle.l4_core_model.specs.Local.{Local, declared, is_own, thread, held, destination_place, last_name, relists, changes, comes_to, after_decision, keeps_beside}
use Rattle.l4_core_model.specs.Acts.{Work, ◌▷◌, tells, does, posts, tells_send, decides_send, refuses, delivers_send, delivers, first_of_list, first_acceptable, entry, zero_refusable, queues_send, arrives, posts_send, send_goes_to, begins_send, fails_for, runs_alone_at, waits_at, owes, owes_for}
use Rattle.l4_core_model.specs.Runs.{Posted}
use Rattle.l4_core_model.proofs.Apart.{apart}
use Rattle.l4_refines.proofs.Relation.Views.{Scene, home, amid}
use Rattle.l4_refines.proofs.Promises.Promised.{MayFollow, IsNotWithdrawalOf, Promised}
use Rattle.l4_refines.proofs.Promises.Frames.{leaves_one, posts_keeps}
use Rattle.l4_refines.proofs.Promises.Locals.{relists_keeps, changes_away, comes_keeps, comes_on, local_keeps}
use Rattle.l4_refines.proofs.Promises.Phases.{IsWishless, receiving_wishless, runs_afresh, waits_afresh, begins_afresh, receives_afresh, fails_afresh, ended_afresh}

-- The middle of an event
abbrev pub StaysPromised : Machine → (cpu : ℕ) → Scene → Work → Type 0
StaysPromised m cpu s x = Promised m [] (amid cpu s x)

-- A decision

pub ends_here : (m : Machine) (cpu i : ℕ) (result : Result) (s : Scene) (x : Work) → cpu < m.cpus → home m i ≡ cpu → Promised m (i ∷ []) (amid cpu s x) →
    StaysPromised m cpu s (x ▷ does (relists (plain.unqueued i)) ▷ does (comes_to i (after_decision result x.local.clock)))
ends_here m cpu i result s x processor here p =
    comes_keeps m cpu i [] s (x ▷ does (relists (plain.unqueued i))) (after_decision result x.local.clock) processor here
    (ended_afresh result x.local.clock (thread x.local i))
    (relists_keeps m cpu (i ∷ []) s x (plain.unqueued i) processor refl p)

ends_away : (m : Machine) (cpu i : ℕ) (result : Result) (except : List ℕ) (s : Scene) (x : Work) → cpu < m.cpus → (home m i ≡ cpu → ⊥) →
    Promised m except (amid cpu s x) →
    Promised m except (amid cpu s
    (x ▷ does (relists (plain.unqueued i)) ▷ does (changes i decided) ▷ posts (declared m i).cpu (DoneLetter (last_name m x.local i) result)))
ends_away m cpu i result except s x processor away p =
    let y : Work = x ▷ does (relists (plain.unqueued i)) ▷ does (changes i decided) in
    let letter = DoneLetter (last_name m x.local i) result in
    posts_keeps m cpu (declared m i).cpu letter except s y (all_true (λ (q : Posted). MayFollow letter q.letter.content) (λ q. tt) (amid cpu s y).mail)
    (changes_away m cpu i except s (x ▷ does (relists (plain.unqueued i))) decided processor away (λ h. h)
    (relists_keeps m cpu except s x (plain.unqueued i) processor refl p))

-- A decision on this processor, wherever the sender is of.
ends_keeps : (m : Machine) (cpu i : ℕ) (result : Result) (s : Scene) (x : Work) → cpu < m.cpus → StaysPromised m cpu s x →
    StaysPromised m cpu s (decides_send m cpu result i x)
ends_keeps m cpu i result s x processor p = cond_keeps (StaysPromised m cpu s) (is_own m cpu i) _ _
    (λ own. ends_here m cpu i result s x processor (eqb-true (home m i) cpu own) (leaves_one m i [] (amid cpu s x) p))
    (λ other. ends_away m cpu i result [] s x processor (apart (home m i) cpu other) p)

-- A refusal.
pub refuses_keeps : (m : Machine) (cpu i : ℕ) (refusal : Refusal) (s : Scene) (x : Work) → cpu < m.cpus → StaysPromised m cpu s x →
    StaysPromised m cpu s (refuses m cpu refusal i x)
refuses_keeps m cpu i refusal s x processor p = ends_keeps m cpu i (Refused refusal) s (x ▷ tells_send m (refusal_step refusal) i) processor p

-- A delivery

-- the receiver of an acceptable send waits for it
first_wishless : (m : Machine) (l : Local) (r i : ℕ) → is_place (first_acceptable l r) i ≡ true → IsWishless (thread l r).phase
first_wishless m l r i h = by (thread l r).phase refl h
  where
    by : (p : Phase) → (thread l r).phase ≡ p → is_place (first_of_list l.lists r p) i ≡ true → IsWishless (thread l r).phase
    by (Receiving receive since) is h = receiving_wishless (thread l r).phase receive since is
    by Ready is h = cc
    by Sending is h = cc
    by Ordering is h = cc
    by Ended is h = cc
    by Deleted is h = cc

-- What is owed beside a thread is no matter of promises, nor is a letter of a retarget.
pub beside_keeps : (m : Machine) (cpu r : ℕ) (o : Option Owed) (s : Scene) (x : Work) → cpu < m.cpus → StaysPromised m cpu s x →
    StaysPromised m cpu s (x ▷ does (keeps_beside r o))
beside_keeps m cpu r o s x processor p = local_keeps m cpu [] s x (keeps_beside r o) processor (record {
  threads = refl;
  told_ones = refl;
  told = λ i. refl;
  calm = λ i lt here h. h;
  steady = λ i lt here out. record { armed = λ h. h; ending = λ send has ending. (has, (ending, refl)) };
  away = λ i lt away h. h;
}) p

owes_keeps : (m : Machine) (cpu r : ℕ) (o : Option Owed) (s : Scene) (x : Work) → cpu < m.cpus → StaysPromised m cpu s x →
    StaysPromised m cpu s (owes_for m cpu r o x)
owes_keeps m cpu r None s x processor p = p
owes_keeps m cpu r (Some o) s x processor p = by (place_of m o.originator)
  where
    by : (q : Option ℕ) → StaysPromised m cpu s (owes m cpu r o q x)
    by None = p
    by (Some j) = cond_keeps (StaysPromised m cpu s) (is_own m cpu j) (x ▷ does (keeps_beside r (Some o))) (posts (declared m j).cpu (RetargetLetter o) x)
        (λ own. beside_keeps m cpu r (Some o) s x processor p)
        (λ other. posts_keeps m cpu (declared m j).cpu (RetargetLetter o) [] s x
        (all_true (λ (q : Posted). MayFollow (RetargetLetter o) q.letter.content) (λ q. tt) (amid cpu s x).mail) p)

-- A delivery to the first that is accepted.
pub delivers_keeps : (m : Machine) (cpu r i : ℕ) (s : Scene) (x : Work) → cpu < m.cpus → home m r ≡ cpu → is_place (first_acceptable x.local r) i ≡ true →
    StaysPromised m cpu s x → StaysPromised m cpu s (delivers m cpu r i x)
delivers_keeps m cpu r i s x processor here first p = by (thread x.local i).send
  where
    by : (o : Option Send) → StaysPromised m cpu s (delivers_send m cpu r i o x)
    by None = p
    by (Some send) =
        let tag = received_tag (is_cross m (declared m r).id send.message) send.message in
        let y : Work = x ▷ does (comes_to r (receives send.message tag)) in
        owes_keeps m cpu r (owed_by m (last_name m x.local i) send.message (declared m r).id) s
        (decides_send m cpu Delivered i (x ▷ tells (Deliver (last_name m x.local i) (declared m r).id send.message.shown send.message.actual tag send.message.words)
        ▷ does (comes_to r (receives send.message tag)))) processor
        (ends_keeps m cpu i Delivered s
        (x ▷ tells (Deliver (last_name m x.local i) (declared m r).id send.message.shown send.message.actual tag send.message.words)
        ▷ does (comes_to r (receives send.message tag))) processor
        (comes_on m cpu r s x (receives send.message tag) processor here
        (receives_afresh send.message tag (thread x.local r) (first_wishless m x.local r i first)) p))

-- A send has come to its receiver's processor.
pub arrives_keeps : (m : Machine) (cpu r i : ℕ) (s : Scene) (x : Work) → cpu < m.cpus → home m r ≡ cpu → StaysPromised m cpu s x →
    StaysPromised m cpu s (arrives m cpu r i x)
arrives_keeps m cpu r i s x processor here p =
    cond_keeps (StaysPromised m cpu s) (is_deleted (thread x.local r).phase) _ _
    (λ gone. refuses_keeps m cpu i Nobody s x processor p)
    (λ alive. cond_keeps (StaysPromised m cpu s) (zero_refusable m (held m x.local r) (thread x.local i).send) _ _
    (λ zero_timeout. refuses_keeps m cpu i TimedOut s x processor p)
    (λ other. by (thread x.local i).send))
  where
    by : (o : Option Send) → StaysPromised m cpu s (queues_send m cpu r i o x)
    by None = p
    by (Some send) =
        let y : Work = x ▷ tells_send m Queue i ▷ does (relists (plain.queued r (entry m r i send))) in
        let q : StaysPromised m cpu s y = relists_keeps m cpu [] s x (plain.queued r (entry m r i send)) processor refl p in
        cond_keeps (StaysPromised m cpu s) (is_place (first_acceptable y.local r) i) (delivers m cpu r i y) y
        (λ first. delivers_keeps m cpu r i s y processor here first q) (λ none. q)

-- A send begins.
pub begins_keeps : (m : Machine) (cpu i : ℕ) (send : Send) (s : Scene) (x : Work) → cpu < m.cpus → home m i ≡ cpu → is_ready (thread x.local i).phase ≡ true →
    AllByRecursion (λ (q : Posted). IsNotWithdrawalOf (last_name m (comes_to i (begins send) x.local) i) q.letter.content) (amid cpu s x).mail →
    StaysPromised m cpu s x → StaysPromised m cpu s (begins_send m cpu i send x)
begins_keeps m cpu i send s x processor here ready none p = by (destination_place m send.to)
  where
    y : Work
    y = x ▷ does (comes_to i (begins send)) ▷ tells_send m Begin i

    q : StaysPromised m cpu s y
    q = comes_on m cpu i s x (begins send) processor here (begins_afresh send (thread x.local i) ready) p

    by : (o : Option ℕ) → StaysPromised m cpu s (send_goes_to m cpu i send o y)
    by None = refuses_keeps m cpu i Nobody s y processor q
    by (Some r) = cond_keeps (StaysPromised m cpu s) (is_own m cpu r) (arrives m cpu r i y) (posts_send m r i send y)
        (λ own. arrives_keeps m cpu r i s y processor (eqb-true (home m r) cpu own) q)
        (λ other. posts_keeps m cpu (declared m r).cpu (SendLetter (last_name m y.local i) (declared m r).id send.message (is_zero send.period)) [] s y none q)

-- A receive phase fails, also where its deadline has just gone.
pub fails_keeps : (m : Machine) (cpu i : ℕ) (why : Failure) (s : Scene) (x : Work) → cpu < m.cpus → home m i ≡ cpu →
    IsWishless (thread x.local i).phase → Promised m (i ∷ []) (amid cpu s x) → StaysPromised m cpu s (fails_for m why i x)
fails_keeps m cpu i why s x processor here free p =
    comes_keeps m cpu i [] s (x ▷ tells (OfThread (Fails why) (declared m i).id)) (fails (receive_code why)) processor here
    (fails_afresh (receive_code why) (thread x.local i) free) p

-- Instructions that concern their thread alone
pub runs_keeps : (m : Machine) (cpu i : ℕ) (s : Scene) (x : Work) → cpu < m.cpus → home m i ≡ cpu → is_ready (thread x.local i).phase ≡ true →
    StaysPromised m cpu s x → StaysPromised m cpu s (runs_alone_at m i x)
runs_keeps m cpu i s x processor here ready p =
    let instr : Instr = instruction (held m x.local i) in
    comes_on m cpu i s (x ▷ tells (RanLocal (declared m i).id)) (runs instr) processor here (runs_afresh instr (thread x.local i) ready) p

-- A wait.
pub waits_keeps : (m : Machine) (cpu i : ℕ) (receive : Receive) (s : Scene) (x : Work) → cpu < m.cpus → home m i ≡ cpu →
    is_ready (thread x.local i).phase ≡ true → StaysPromised m cpu s x → StaysPromised m cpu s (waits_at m i receive x)
waits_keeps m cpu i receive s x processor here ready p =
    comes_on m cpu i s (x ▷ tells (Wait (declared m i).id)) (waits receive x.local.clock) processor here
    (waits_afresh receive x.local.clock (thread x.local i) ready) p
