-- Worked rows: what the laws refuse. None of these lists of steps is a history.
use Rattle.std.proofs.Common.{◌≡◌, ℕ, ◌<◌, ◌≤◌, true, false, List, [], ◌∷◌, ◌++◌, refl, ap, arith}
use Rattle.std.specs.Prelude.{unwrap_or}
use Rattle.l4_model.specs.Words.{GlobalId}
use Rattle.l4_model.specs.Machine.{Machine, Delete}
use Rattle.l4_model.specs.World.{World, opening}
use Rattle.l4_model.specs.Steps.{Step, Local, Begin, Queue, Deliver, Wait, SendTimeout, SendNobody, SendCancel, Drop, Order, Obey}
use Rattle.l4_model.specs.History.{reached}
use Rattle.l4_model.specs.Laws.{AtMostOnce, InOrder, IsUnaltered, IsUnalteredFromBegin, TakesTurns, NoneAfterDelete, IsBegunThenEnded, IsAccounted, Carries, begins_of, deliveries_of}
use Rattle.l4_model.proofs.Rows.Writing.{thread, send}
use Rattle.l4_model.proofs.Rows.Messages.{first_path}
use Rattle.l4_model.proofs.Rows.Queues.{order_of_arrival}
use Rattle.l4_model.proofs.Rows.Deleted.{one_deleted}
use Rattle.l4_model.proofs.Rows.Acceptance.{two_sends_trace}

-- A delivery of an empty message from one thread to another.
abbrev delivery : (from k to : ℕ) → Step
delivery from k to = Deliver (send from k) (thread to) (thread from) (thread from) 0 []

abbrev world_after : Machine → List Step → World
world_after m h = unwrap_or (reached m h) (opening m)

delivered_twice : AtMostOnce (delivery 1 1 2 ∷ Wait (thread 2) ∷ delivery 1 1 2 ∷ []) → ⊥
delivered_twice law = let two : 2 ≤ 1 = law (send 1 1) in absurd (omega arith)

to_two_receivers : AtMostOnce (delivery 1 1 2 ∷ delivery 1 1 3 ∷ []) → ⊥
to_two_receivers law = let two : 2 ≤ 1 = law (send 1 1) in absurd (omega arith)

-- The sends of one thread are told apart.
counted_apart : (deliveries_of (send 1 1) two_sends_trace ≡ 1) × (begins_of (send 1 2) two_sends_trace ≡ 1)
counted_apart = (refl, refl)

second_first : InOrder (delivery 1 2 2 ∷ delivery 3 5 2 ∷ delivery 1 1 2 ∷ []) → ⊥
second_first law = let rises : 2 < 1 = (law (thread 1) (thread 2)).0.0 in absurd (omega arith)

one_number_twice : InOrder (delivery 1 1 2 ∷ delivery 1 1 2 ∷ []) → ⊥
one_number_twice law = let rises : 1 < 1 = (law (thread 1) (thread 2)).0.0 in absurd (omega arith)

-- What the first path delivers, told with a change.
abbrev begun : List Step
begun = Local (thread 1) ∷ Local (thread 1) ∷ Wait (thread 2) ∷ []

abbrev told : (shown actual : GlobalId) → (tag : ℕ) → (words : List ℕ) → List Step
told shown actual tag words = begun ++ Begin (send 1 1) ∷ Queue (send 1 1) ∷ Deliver (send 1 1) (thread 2) shown actual tag words ∷ []

carried : (shown actual : GlobalId) (tag : ℕ) (words : List ℕ) → IsUnaltered first_path (told shown actual tag words) →
    Carries (record { label = 7; words = 0xa ∷ []; propagated = false; shown = thread 1; actual = thread 1 }) shown actual tag words
carried shown actual tag words law =
    law (begun ++ Begin (send 1 1) ∷ Queue (send 1 1) ∷ []) [] (send 1 1) (thread 2) shown actual tag words refl

other_word : IsUnaltered first_path (told (thread 1) (thread 1) 0x70001 (0xb ∷ [])) → ⊥
other_word law = let same = (carried (thread 1) (thread 1) 0x70001 (0xb ∷ []) law).same_words in cc

-- The same, told from the begin on.
other_word_behind : IsUnalteredFromBegin first_path (told (thread 1) (thread 1) 0x70001 (0xb ∷ [])) → ⊥
other_word_behind law =
    let delivery = Deliver (send 1 1) (thread 2) (thread 1) (thread 1) 0x70001 (0xb ∷ []) in
    let begin = law begun (Queue (send 1 1) ∷ delivery ∷ []) (send 1 1) (world_after first_path begun) refl refl in
    let same = (begin.1.0 refl).same_words in cc

no_word : IsUnaltered first_path (told (thread 1) (thread 1) 0x70001 []) → ⊥
no_word law = let same = (carried (thread 1) (thread 1) 0x70001 [] law).same_words in cc

other_label : IsUnaltered first_path (told (thread 1) (thread 1) 0x80001 (0xa ∷ [])) → ⊥
other_label law = let same : ◌≡◌ {A = ℕ} 8 7 = (carried (thread 1) (thread 1) 0x80001 (0xa ∷ []) law).same_label in absurd (omega arith)

other_shown : IsUnaltered first_path (told (thread 2) (thread 1) 0x70001 (0xa ∷ [])) → ⊥
other_shown law = let same : ◌≡◌ {A = ℕ} 2 1 = ap (λ (t : GlobalId). t.number) (carried (thread 2) (thread 1) 0x70001 (0xa ∷ []) law).same_shown in absurd (omega arith)

other_actual : IsUnaltered first_path (told (thread 1) (thread 2) 0x70001 (0xa ∷ [])) → ⊥
other_actual law = let same : ◌≡◌ {A = ℕ} 2 1 = ap (λ (t : GlobalId). t.number) (carried (thread 1) (thread 2) 0x70001 (0xa ∷ []) law).same_actual in absurd (omega arith)

-- What is delivered was begun by nobody, later, or under another name.
abbrev stranger : GlobalId
stranger = record { number = 9; version = 9 }

nobody_began : IsUnaltered first_path (begun ++ Deliver (send 1 1) (thread 2) stranger stranger 0xfff0001 (0xdead ∷ []) ∷ []) → ⊥
nobody_began law = law begun [] (send 1 1) (thread 2) stranger stranger 0xfff0001 (0xdead ∷ []) refl

begun_behind : IsUnaltered first_path (begun ++ Deliver (send 1 1) (thread 2) (thread 1) (thread 1) 0x70001 (0xa ∷ []) ∷ Begin (send 1 1) ∷ []) → ⊥
begun_behind law = law begun (Begin (send 1 1) ∷ []) (send 1 1) (thread 2) (thread 1) (thread 1) 0x70001 (0xa ∷ []) refl

another_began : IsUnaltered first_path (begun ++ Begin (send 1 1) ∷ Deliver (send 1 2) (thread 2) (thread 1) (thread 1) 0x70001 (0xa ∷ []) ∷ []) → ⊥
another_began law = law (begun ++ Begin (send 1 1) ∷ []) [] (send 1 2) (thread 2) (thread 1) (thread 1) 0x70001 (0xa ∷ []) refl

-- The first that waits is passed over.
abbrev two_wait : List Step
two_wait = Begin (send 1 1) ∷ Begin (send 2 1) ∷ Queue (send 2 1) ∷ Queue (send 1 1) ∷ Wait (thread 4) ∷ []

passed_over : TakesTurns order_of_arrival (two_wait ++ delivery 1 1 4 ∷ []) → ⊥
passed_over law = let out : true ≡ false = (law two_wait [] (send 1 1) (thread 4) (thread 1) (thread 1) 0 [] (world_after order_of_arrival two_wait) refl refl).0 in cc

abbrev deletion : List Step
deletion = Begin (send 2 1) ∷ Queue (send 2 1) ∷ Order (thread 3) (thread 1) Delete ∷ []

deleted_receives : NoneAfterDelete one_deleted (deletion ++ Obey (thread 3) ∷ delivery 2 1 1 ∷ []) → ⊥
deleted_receives law = let out : true ≡ false = (law deletion (delivery 2 1 1 ∷ []) (thread 3) (thread 1) (world_after one_deleted deletion) refl refl refl).0 in cc

-- A send begins twice, has two ends, ends without a beginning or before it, or begins where nobody is.
abbrev one_send : List Step → Type 0
one_send h = IsBegunThenEnded first_path h (send 1 1)

begun_twice : one_send (Begin (send 1 1) ∷ delivery 1 1 2 ∷ Begin (send 1 1) ∷ SendCancel (send 1 1) ∷ []) → ⊥
begun_twice law = let once : 2 ≤ 1 = law.begun_once in absurd (omega arith)

refused_and_delivered : one_send (Begin (send 1 1) ∷ SendTimeout (send 1 1) ∷ delivery 1 1 2 ∷ []) → ⊥
refused_and_delivered law = let once : 2 ≤ 1 = law.begun_first (Begin (send 1 1) ∷ SendTimeout (send 1 1) ∷ delivery 1 1 2 ∷ []) [] refl in absurd (omega arith)

dropped_and_refused : one_send (Begin (send 1 1) ∷ Drop (send 1 1) ∷ SendNobody (send 1 1) ∷ []) → ⊥
dropped_and_refused law = let once : 2 ≤ 1 = law.begun_first (Begin (send 1 1) ∷ Drop (send 1 1) ∷ SendNobody (send 1 1) ∷ []) [] refl in absurd (omega arith)

never_begun : one_send (delivery 1 1 2 ∷ []) → ⊥
never_begun law = let begun : 1 ≤ 0 = law.begun_first (delivery 1 1 2 ∷ []) [] refl in absurd (omega arith)

ended_first : one_send (SendCancel (send 1 1) ∷ Begin (send 1 1) ∷ []) → ⊥
ended_first law = let begun : 1 ≤ 0 = law.begun_first (SendCancel (send 1 1) ∷ []) (Begin (send 1 1) ∷ []) refl in absurd (omega arith)

undeclared_begins : IsBegunThenEnded first_path (Begin (send 9 1) ∷ []) (send 9 1) → ⊥
undeclared_begins law = let declared : false ≡ true = law.by_declared (let one : 0 < 1 = omega arith in one) in cc

-- A send is lost, or waits though it ended.
lost : IsAccounted first_path (begun ++ Begin (send 1 1) ∷ []) (opening first_path) (send 1 1) → ⊥
lost law = let account : ◌≡◌ {A = ℕ} 0 1 = law in absurd (omega arith)

ended_and_waiting : IsAccounted first_path (begun ++ Begin (send 1 1) ∷ SendTimeout (send 1 1) ∷ []) (world_after first_path (begun ++ Begin (send 1 1) ∷ [])) (send 1 1) → ⊥
ended_and_waiting law = let account : ◌≡◌ {A = ℕ} 2 1 = law in absurd (omega arith)
