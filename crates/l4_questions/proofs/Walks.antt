-- Answers by a walk.
use Rattle.std.proofs.Common.{◌≡◌, ◌≤◌, ℕ, inl, inr, true, false, Option, None, List, [], ◌∷◌, Global, arith}
use Rattle.std.specs.Prelude.{Vec}
use Rattle.l4_model.specs.Machine.{Machine}
use Rattle.std.specs.List.{AllByRecursion}
use Rattle.l4_replay.specs.declared.entries.Entry.{Entry}
use Rattle.l4_expect.specs.Expected.{Expected}
use Rattle.l4_questions.specs.Answers.{endings_after, IsAnswer}
use Rattle.l4_questions.specs.Beside.{Shown}
use Rattle.l4_questions.specs.Placed.{placed_endings, IsPlacedAnswer}
use Rattle.l4_questions.specs.PlacedWalked.{IsAnyPlacedAnswer, IsPlacedWalkAnswer}
use Rattle.l4_questions.specs.Walked.{IsAnyAnswer, IsWalkAnswer}
use Rattle.l4_questions.specs.declared.question.Question.{Question}
use Rattle.l4_questions.specs.Inner.Found.{IsReplayed}
use Rattle.l4_questions.specs.Inner.PlacedWalked as placed
use Rattle.l4_questions.specs.Inner.Walked.{IsWalkedBy, LeadsToAsked}
use Rattle.l4_questions.specs.Limits.{question_fault}
use Rattle.l4_questions.specs.declared.question.Wanted.TheVariants.{NoEnding}
use Rattle.l4_questions.proofs.Statuses.{none_by_status}

-- Where a walk came to an ending that should not exist, the status is not 0.
by_walk : {m : Machine} {q : Question} {shown : Shown} {expected : Option (List Expected)}
    {lines unmet : List ℕ} → IsWalkAnswer m q shown expected lines unmet 0 → ⊥
by_walk {m} {q} {shown} {expected} a =
    let is = none_by_status q expected (endings_after m (a.trace ∷ [])) false a.told.status_is
    a.walked.none in
    let bad : false ≡ true = is.1 in
    cc

-- So status 0 is that of a search.
pub by_search : {m : Machine} {q : Question} {shown : Shown} {expected : Option (List Expected)}
    {lines unmet : List ℕ} → IsAnyAnswer m q shown expected lines unmet 0 →
    IsAnswer m q shown expected lines unmet 0
by_search (inl a) = a
by_search (inr a) = absurd (by_walk a)

-- The same of placed threads
placed_by_walk : {m : Machine} {q : Question} {shown : Shown} {expected : Option (List Expected)}
    {lines unmet : List ℕ} → IsPlacedWalkAnswer m q shown expected lines unmet 0 → ⊥
placed_by_walk {m} {q} {shown} {expected} a =
    let is = none_by_status q expected (placed_endings m (a.entries ∷ [])) false a.told.status_is
    a.walked.none in
    let bad : false ≡ true = is.1 in
    cc

pub placed_by_search : {m : Machine} {q : Question} {shown : Shown}
    {expected : Option (List Expected)} {lines unmet : List ℕ} →
    IsAnyPlacedAnswer m q shown expected lines unmet 0 →
    IsPlacedAnswer m q shown expected lines unmet 0
placed_by_search (inl a) = a
placed_by_search (inr a) = absurd (placed_by_walk a)

-- Whatever entries are, they are replayed.
pub all_replayed : (m : Machine) (endings : List (Vec Entry Global)) →
    AllByRecursion (IsReplayed m) endings
all_replayed m [] = tt
all_replayed m (e ∷ endings) = (tt, all_replayed m endings)

-- A walk to an ending that is asked for, though none should exist.
pub walked_by : (m : Machine) (q : Question) (most : ℕ) (entries : Vec ℕ Global) →
    question_fault q ≡ None → q.wanted ≡ NoEnding → most ≤ q.depth →
    LeadsToAsked m q most entries → IsWalkedBy m q entries
walked_by m q most entries lawful none near walk = record {
  led = walk.leads.leads;
  walked = record {
    lawful = lawful;
    none = none;
    world = walk.leads.world;
    ending = walk.leads.ending;
    asked = walk.asked;
    near = omega (arith, near, walk.leads.near);
  };
}

pub placed_walked_by : (m : Machine) (q : Question) (most : ℕ) (entries : Vec Entry Global) →
    question_fault q ≡ None → q.wanted ≡ NoEnding → most ≤ q.depth →
    placed.LeadsToAsked m q most entries → placed.IsWalkedBy m q entries
placed_walked_by m q most entries lawful none near walk = record {
  lawful = lawful;
  none = none;
  replay = walk.leads.replay;
  rest = walk.leads.rest;
  asked = walk.asked;
  near = omega (arith, near, walk.leads.near);
}
