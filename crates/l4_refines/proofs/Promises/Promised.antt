-- What the processors and the letters promise each other: whoever is to hear of something has heard of it, or a letter is under way.
-- So a machine at rest, with no letter under way, is still. The promises say nothing of the world, and each event keeps them.
use Rattle.std.specs.Prelude.{ℕ, ◌<◌, ◌≡◌, ◌⊎◌, true, false, Option, Some, None, List, [], ◌∷◌, length}
use Rattle.std.specs.List.{AllByRecursion}
use Rattle.l4_model.specs.Words.{GlobalId}
use Rattle.l4_model.specs.Machine.{Machine}
use Rattle.l4_model.specs.World.{Name, Send, Thread, Phase, Sending, Deleted}
use Rattle.l4_core_model.specs.Letters.{Content, SendLetter, DoneLetter, WithdrawLetter, GoneLetter}
use Rattle.l4_core_model.specs.Local.{declared, destination_place, armed_period}
use Rattle.l4_core_model.specs.Runs.{Posted}
use Rattle.l4_core_model.proofs.Fit.{NotIn}
use Rattle.l4_refines.proofs.Relation.Views.{Kept, Scene, kept, home}
use Rattle.l4_refines.proofs.Relation.Rows.{name_of}

-- Some letter under way is such a one.
abbrev pub AnyOf : (Posted → Type 0) → List Posted → Type 0
AnyOf P [] = ⊥
AnyOf P (p ∷ ps) = P p ⊎ AnyOf P ps

-- This letter is no withdrawal of that send.
abbrev pub IsNotWithdrawalOf : Name → Content → Type 0
IsNotWithdrawalOf s (WithdrawLetter t receiver cause) = s ≡ t → ⊥
IsNotWithdrawalOf s _ = Unit {0}

-- A send may stand behind any letter but its own withdrawal.
abbrev pub MayFollow : Content → Content → Type 0
MayFollow (SendLetter s receiver message zero_timeout) before = IsNotWithdrawalOf s before
MayFollow _ before = Unit {0}

-- No withdrawal stands before its send.
abbrev pub InOrder : List Posted → Type 0
InOrder [] = Unit {0}
InOrder (p ∷ ps) = AllByRecursion (λ (q : Posted). MayFollow q.letter.content p.letter.content) ps × InOrder ps

-- A letter answers that a send is to end: it tells how the send was decided, or withdraws it, from its home to its receiver's.
abbrev pub IsAnswerIn : Name → (from to : ℕ) → Posted → Content → Type 0
IsAnswerIn s from to p (DoneLetter t result) = s ≡ t
IsAnswerIn s from to p (WithdrawLetter t receiver cause) = (s ≡ t) × ((p.from ≡ from) × (p.to ≡ to))
IsAnswerIn s from to p _ = ⊥

abbrev pub IsAnswer : Name → (from to : ℕ) → Posted → Type 0
IsAnswer s from to p = IsAnswerIn s from to p p.letter.content

-- A letter tells a processor that this thread is gone.
abbrev pub IsGoneIn : GlobalId → (to : ℕ) → Posted → Content → Type 0
IsGoneIn id to p (GoneLetter gone) = (id ≡ gone) × (p.to ≡ to)
IsGoneIn id to p _ = ⊥

abbrev pub IsGone : GlobalId → (to : ℕ) → Posted → Type 0
IsGone id to p = IsGoneIn id to p p.letter.content

-- A send goes to a thread of another processor than its sender's.
abbrev pub IsSplitSend : Machine → ℕ → Option Send → Type 0
IsSplitSend m i None = ⊥
IsSplitSend m i (Some send) = (r : ℕ) × ((destination_place m send.to ≡ Some r) × (home m r ≡ home m i → ⊥))

-- Where nothing is armed for a phase that has a deadline, it is that of such a send, which was then withdrawn.
abbrev pub IsArmedUnlessSplit : Machine → ℕ → Kept → Type 0
IsArmedUnlessSplit m i k = (IsSplitSend m i k.thread.send → ⊥) → k.armed ≡ [] → armed_period k.thread.phase k.thread.send ≡ None

-- Only while it sends, or once it is deleted, has a thread the wish that its send be cancelled.
abbrev pub IsCalm : Thread → Type 0
IsCalm t = (t.phase ≡ Sending → ⊥) → (t.phase ≡ Deleted → ⊥) → t.cancel_send ≡ false

-- A send is to end since its deadline is past,
abbrev pub IsLate : Kept → Type 0
IsLate k = (k.armed ≡ []) × (armed_period k.thread.phase k.thread.send ≡ None → ⊥)

-- or since a cancellation or a deletion was asked for.
abbrev pub IsWished : Thread → Type 0
IsWished t = (t.cancel_send ≡ true) ⊎ (t.phase ≡ Deleted)

-- The answer to the last send of the thread at i, which goes to the one at r, is under way.
abbrev pub HasAnswer : Machine → (i r : ℕ) → Kept → List Posted → Type 0
HasAnswer m i r k mail = AnyOf (IsAnswer (name_of m i k.thread) (home m i) (home m r)) mail

-- Where a send to another processor's thread is to end, its answer is under way.
abbrev pub IsAnswered : Machine → ℕ → Kept → List Posted → Type 0
IsAnswered m i k mail = (send : Send) (r : ℕ) → k.thread.send ≡ Some send → destination_place m send.to ≡ Some r → (home m r ≡ home m i → ⊥) →
    IsLate k ⊎ IsWished k.thread →
    HasAnswer m i r k mail

-- A processor knows that a thread is deleted, or hears it by a letter under way.
abbrev pub HasHeard : Machine → (i cpu : ℕ) → Phase → List Posted → Type 0
HasHeard m i cpu phase mail = (phase ≡ Deleted) ⊎ AnyOf (IsGone (declared m i).id cpu) mail

-- So does each processor that was told of a deletion.
abbrev pub IsTold : Machine → ℕ → (told : ℕ) → (phases : ℕ → Phase) → List Posted → Type 0
IsTold m i told phases mail = (cpu : ℕ) → cpu < m.cpus → (cpu ≡ home m i → ⊥) → cpu < told → HasHeard m i cpu (phases cpu) mail

-- What a processor keeps of the thread at a place, and the phase that it has there.
abbrev pub kept_at : Scene → (cpu i : ℕ) → Kept
kept_at s cpu i = kept (s.locals cpu) i

abbrev pub phases : Scene → (i cpu : ℕ) → Phase
phases s i cpu = (kept_at s cpu i).thread.phase

-- The promises of all threads. For the threads that are left out neither a deadline nor an answer is promised: this is so in the
-- middle of an event that is just about them.
pub record Promised (m : Machine) (except : List ℕ) (s : Scene) : Type 0 where
  pub threads : (cpu : ℕ) → cpu < m.cpus → length (s.locals cpu).threads ≡ length m.threads
  pub told_ones : (cpu : ℕ) → cpu < m.cpus → length (s.locals cpu).told ≡ length m.threads
  pub in_order : InOrder s.mail
  pub told : (i : ℕ) → i < length m.threads → IsTold m i (kept_at s (home m i) i).told (phases s i) s.mail
  pub calm : (i : ℕ) → i < length m.threads → IsCalm (kept_at s (home m i) i).thread
  pub armed : (i : ℕ) → i < length m.threads → NotIn i except → IsArmedUnlessSplit m i (kept_at s (home m i) i)
  pub answered : (i : ℕ) → i < length m.threads → NotIn i except → IsAnswered m i (kept_at s (home m i) i) s.mail
