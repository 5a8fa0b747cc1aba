-- What a step does to a thread of the world, home does to its own, and they agree again.
use Rattle.std.proofs.Common.{◌≡◌, ℕ, ◌≤◌, Bool, true, false, cond, Option, Some, None, List, [], ◌∷◌, refl, ap, sym, ◌∙◌, subst, arith}
use Rattle.l4_model.specs.Machine.{Machine}
use Rattle.l4_model.specs.World.{Thread, Send, Receive, Message, Phase, Ready, Sending, Receiving, Ordering, Ended, Deleted, is_ready, is_alive}
use Rattle.l4_model.specs.Effects.{fails, decided, receives, goes_on}
use Rattle.l4_model.specs.Reached.{Suits}
use Rattle.l4_core_model.specs.Letters.{Result, Delivered, Refused, TimedOut, Nobody, Cancelled, Dropped, Content, SendLetter, DoneLetter, WithdrawLetter, GoneLetter, OrderLetter, OrderDoneLetter, RetargetLetter}
use Rattle.l4_core_model.specs.Local.{after_decision, was_delivered}
use Rattle.l4_core_model.specs.Runs.{Posted}
use Rattle.l4_refines.proofs.Relation.Rows.{AreTogether, IsEarlier, IsLeft, AgreesIn, AgreesByPhase, Agrees, learns, learned}

le_same : (n : ℕ) → n ≤ n
le_same n = omega arith

-- Where they are one

agrees_in : (p : Phase) (t : Thread) → t.phase ≡ p → AgreesIn p t t
agrees_in Ready t is = refl
agrees_in Sending t is = refl
agrees_in (Receiving receive since) t is = record { began = since; no_later = le_same since; same = ap (λ p. record t { phase = p }) is }
agrees_in Ordering t is = refl
agrees_in Ended t is = refl
agrees_in Deleted t is = record { deleted = is; begun = refl; send = refl; order = refl; cancel_send = refl }

pub same_by_phase : (world t : Thread) → world ≡ t → AgreesByPhase world t
same_by_phase world t e = subst (λ u. AgreesByPhase u t) (sym e) (agrees_in t.phase t refl)

pub same_agrees : {m : Machine} (world t : Thread) → world ≡ t → Agrees m world t
same_agrees world t e = record { by_phase = same_by_phase world t e; together = λ one. e }

-- Where there is a thread of another processor, nothing is to be shown of machines that have but one.
pub split_agrees : {m : Machine} (world t : Thread) → (AreTogether m → ⊥) → AgreesByPhase world t → Agrees m world t
split_agrees world t split a = record { by_phase = a; together = λ one. absurd (split one) }

-- In these phases they are one, or differ in `since` alone.

pub ready_is : {m : Machine} (world t : Thread) → is_ready t.phase ≡ true → Agrees m world t → world ≡ t
ready_is world t ready a = by t.phase ready a.by_phase
  where
    by : (p : Phase) → is_ready p ≡ true → AgreesIn p world t → world ≡ t
    by Ready h a = a
    by Sending h a = cc
    by (Receiving receive since) h a = cc
    by Ordering h a = cc
    by Ended h a = cc
    by Deleted h a = cc

pub receiving_is : {m : Machine} (receive : Receive) (since : ℕ) (world t : Thread) → t.phase ≡ Receiving receive since → Agrees m world t →
    IsEarlier receive since world t
receiving_is receive since world t is a = subst (λ p. AgreesIn p world t) is a.by_phase

pub receives_agrees : {m : Machine} (message : Message) (tag : ℕ) (receive : Receive) (since : ℕ) (world t : Thread) → t.phase ≡ Receiving receive since → Agrees m world t →
    receives message tag world ≡ receives message tag t
receives_agrees message tag receive since world t is a = ap (receives message tag) (receiving_is receive since world t is a).same

pub fails_agrees : {m : Machine} (code : ℕ) (receive : Receive) (since : ℕ) (world t : Thread) → t.phase ≡ Receiving receive since → Agrees m world t →
    fails code world ≡ fails code t
fails_agrees code receive since world t is a = ap (fails code) (receiving_is receive since world t is a).same ∙ rw is refl

-- A send is decided

-- A deleted thread only loses its send.
pub ended_deleted : (result : Result) (clock : ℕ) (t : Thread) (send : Send) → t.phase ≡ Deleted → t.send ≡ Some send → after_decision result clock t ≡ decided t
ended_deleted Delivered clock t send gone has = rw (has, gone) refl
ended_deleted (Refused TimedOut) clock t send gone has = rw gone refl
ended_deleted (Refused Nobody) clock t send gone has = rw gone refl
ended_deleted (Refused Cancelled) clock t send gone has = rw gone refl
ended_deleted (Refused Dropped) clock t send gone has = rw gone refl

decided_left : (world t : Thread) → t.phase ≡ Deleted → IsLeft world t → IsLeft (decided world) (decided t)
decided_left world t gone a = record { deleted = a.deleted; begun = a.begun; send = refl; order = a.order; cancel_send = refl }

ended_by_phase : (result : Result) (clock : ℕ) (world t : Thread) (send : Send) → t.send ≡ Some send → Suits t.phase (Some send) t.order →
    AgreesByPhase world t → AgreesByPhase (after_decision result clock world) (after_decision result clock t)
ended_by_phase result clock world t send has suits a = by t.phase refl suits a
  where
    by : (p : Phase) → t.phase ≡ p → Suits p (Some send) t.order → AgreesIn p world t →
        AgreesByPhase (after_decision result clock world) (after_decision result clock t)
    by Ready is s a = cc
    by Sending is s a = same_by_phase (after_decision result clock world) (after_decision result clock t) (ap (after_decision result clock) a)
    by (Receiving receive since) is s a = cc
    by Ordering is s a = cc
    by Ended is s a = cc
    by Deleted is s a =
        let left : AgreesIn Deleted (decided world) (decided t) = decided_left world t is a in
        let here : AgreesByPhase (decided world) (decided t) = subst (λ p. AgreesIn p (decided world) (decided t)) (sym is) left in
        let at = ended_deleted result clock t send is has in
        let there = ended_deleted result clock world send a.deleted (a.send ∙ has) in
        subst (λ u. AgreesByPhase u (after_decision result clock t)) (sym there) (subst (AgreesByPhase (decided world)) (sym at) here)

pub ended_agrees : {m : Machine} (result : Result) (clock : ℕ) (world t : Thread) (send : Send) → t.send ≡ Some send → Suits t.phase (Some send) t.order →
    Agrees m world t → Agrees m (after_decision result clock world) (after_decision result clock t)
ended_agrees result clock world t send has suits a = record {
  by_phase = ended_by_phase result clock world t send has suits a.by_phase;
  together = λ one. ap (after_decision result clock) (a.together one);
}

-- Home hears of it later

goes_on_later : (receive : Option Receive) (now later : ℕ) (world t : Thread) → now ≤ later → AgreesByPhase world (goes_on receive now t) →
    AgreesByPhase world (goes_on receive later t)
goes_on_later None now later world t le a = a
goes_on_later (Some receive) now later world t le a = record { began = a.began; no_later = omega (arith, a.no_later); same = a.same }

was_delivered_later : (o : Option Send) (now later : ℕ) (world t : Thread) → now ≤ later → AgreesByPhase world (was_delivered o now t) →
    AgreesByPhase world (was_delivered o later t)
was_delivered_later None now later world t le a = a
was_delivered_later (Some send) now later world t le a = by (is_alive t.phase) a
  where
    by : (b : Bool) → AgreesByPhase world (cond b (goes_on send.receive now t) (decided t)) → AgreesByPhase world (cond b (goes_on send.receive later t) (decided t))
    by true a = goes_on_later send.receive now later world t le a
    by false a = a

ended_later : (result : Result) (now later : ℕ) (world t : Thread) → now ≤ later → AgreesByPhase world (after_decision result now t) → AgreesByPhase world (after_decision result later t)
ended_later Delivered now later world t le a = was_delivered_later t.send now later world t le a
ended_later (Refused TimedOut) now later world t le a = a
ended_later (Refused Nobody) now later world t le a = a
ended_later (Refused Cancelled) now later world t le a = a
ended_later (Refused Dropped) now later world t le a = a

learns_later : (c : Content) (now later : ℕ) (world t : Thread) → now ≤ later → AgreesByPhase world (learns c now t) → AgreesByPhase world (learns c later t)
learns_later (SendLetter s receiver message zero_timeout) now later world t le a = a
learns_later (DoneLetter s result) now later world t le a = ended_later result now later world t le a
learns_later (WithdrawLetter s receiver cause) now later world t le a = a
learns_later (GoneLetter id) now later world t le a = a
learns_later (OrderLetter caller target what) now later world t le a = a
learns_later (OrderDoneLetter caller) now later world t le a = a
learns_later (RetargetLetter o) now later world t le a = a

-- On one processor there is no letter to hear of.
pub learned_later : {m : Machine} (ps : List Posted) (now later : ℕ) (world t : Thread) → now ≤ later → (AreTogether m → ps ≡ []) →
    Agrees m world (learned ps now t) → Agrees m world (learned ps later t)
learned_later [] now later world t le quiet a = a
learned_later (p ∷ ps) now later world t le quiet a =
    split_agrees world (learned (p ∷ ps) later t) (λ one. let none = quiet one in cc) (learns_later p.letter.content now later world t le a.by_phase)
