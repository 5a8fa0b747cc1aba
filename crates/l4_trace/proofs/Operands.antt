-- Operands that are read one after another.
use Rattle.std.proofs.Common.{◌≡◌, ℕ, List, [], ◌∷◌, Option, Some, None, refl, sym, ◌∙◌}
use Rattle.l4_model.specs.Words.{GlobalId}
use Rattle.l4_model.specs.World.{Name}
use Rattle.l4_model.specs.Steps.{Step}
use Rattle.l4_model.specs.Conditions.{◌>>=◌}
use Rattle.l4_words.specs.Numbers.{number_of}
use Rattle.l4_words.specs.Names.{name_of}
use Rattle.l4_words.specs.Threads.{thread_of}
use Rattle.l4_words.specs.Words.{one, first_as, first_hexadecimal}
use Rattle.l4_words.proofs.Found.{some_same, some_bind}
use Rattle.l4_trace.specs.Reading.{of_thread, of_name, message_words, delivered, delivery_of}

-- The only operand

only : {A : Type 0} (read : List ℕ → Option A) (operands others : List (List ℕ)) (a : A) → first_as read operands ≡ Some (a, others) → others ≡ [] → (one operands >>= read) ≡ Some a
only read [] others a e none = absurd cc
only read (word ∷ []) others a e none =
    let r = some_bind (read word) _ (a, others) e in
    let same = some_same (r.0, []) (a, others) r.2 in
    r.1 ∙ (λ i. Some (same i).0)
only read (word ∷ next ∷ more) others a e none =
    let r = some_bind (read word) _ (a, others) e in
    let same = some_same (r.0, next ∷ more) (a, others) r.2 in
    let rest : next ∷ more ≡ others = (λ i. (same i).1) in
    absurd cc

several : {A : Type 0} (read : List ℕ → Option A) (operands others : List (List ℕ)) (a : A) → first_as read operands ≡ Some (a, others) → (others ≡ [] → ⊥) → (one operands >>= read) ≡ None
several read [] others a e some = absurd cc
several read (word ∷ []) others a e some =
    let r = some_bind (read word) _ (a, others) e in
    let same = some_same (r.0, []) (a, others) r.2 in
    let rest : [] ≡ others = (λ i. (same i).1) in
    absurd (some (sym rest))
several read (word ∷ next ∷ more) others a e some = refl

abbrev and_rest : {A : Type 0} → List (List ℕ) → A → Option (A × List (List ℕ))
and_rest others a = Some (a, others)

unread : {A : Type 0} (o : Option A) (others : List (List ℕ)) → (o >>= and_rest others) ≡ None → o ≡ None
unread None others e = refl
unread (Some a) others e = absurd cc

other : {A : Type 0} (read : List ℕ → Option A) (operands : List (List ℕ)) → first_as read operands ≡ None → (one operands >>= read) ≡ None
other read [] e = refl
other read (word ∷ []) e = unread (read word) [] e
other read (word ∷ next ∷ more) e = refl

pub no_thread : (operands : List (List ℕ)) → first_as thread_of operands ≡ None → of_thread operands ≡ None
unfolding of_thread
no_thread operands e = other thread_of operands e

pub only_thread : (operands others : List (List ℕ)) (t : GlobalId) → first_as thread_of operands ≡ Some (t, others) → others ≡ [] → of_thread operands ≡ Some t
unfolding of_thread
only_thread operands others t e none = only thread_of operands others t e none

pub more_threads : (operands others : List (List ℕ)) (t : GlobalId) → first_as thread_of operands ≡ Some (t, others) → (others ≡ [] → ⊥) → of_thread operands ≡ None
unfolding of_thread
more_threads operands others t e some = several thread_of operands others t e some

pub no_name : (operands : List (List ℕ)) → first_as name_of operands ≡ None → of_name operands ≡ None
unfolding of_name
no_name operands e = other name_of operands e

pub only_name : (operands others : List (List ℕ)) (s : Name) → first_as name_of operands ≡ Some (s, others) → others ≡ [] → of_name operands ≡ Some s
unfolding of_name
only_name operands others s e none = only name_of operands others s e none

pub more_names : (operands others : List (List ℕ)) (s : Name) → first_as name_of operands ≡ Some (s, others) → (others ≡ [] → ⊥) → of_name operands ≡ None
unfolding of_name
more_names operands others s e some = several name_of operands others s e some

-- The operands of a delivery

abbrev pub by_parts : List (List ℕ) → Option Step
by_parts operands =
    first_as name_of operands >>= λ name. first_as thread_of name.1 >>= λ receiver. first_as thread_of receiver.1 >>= λ shown. first_as thread_of shown.1 >>= λ actual.
    first_hexadecimal actual.1 >>= λ tag. message_words [] tag.1 >>= λ words. delivered name.0 receiver.0 shown.0 actual.0 tag.0 words

part : {A B : Type 0} (o : Option A) (others : List (List ℕ)) (rest : A × List (List ℕ) → Option B) (next : A → Option B) → ((a : A) → rest (a, others) ≡ next a) →
    ((o >>= λ a. Some (a, others)) >>= rest) ≡ (o >>= next)
part None others rest next same = refl
part (Some a) others rest next same = same a

few : {A B : Type 0} (o : Option A) (others : List (List ℕ)) (rest : A × List (List ℕ) → Option B) → ((a : A) → rest (a, others) ≡ None) →
    ((o >>= λ a. Some (a, others)) >>= rest) ≡ None
few None others rest none = refl
few (Some a) others rest none = none a

pub delivery_by_parts : (operands : List (List ℕ)) → delivery_of operands ≡ by_parts operands
unfolding delivery_of
delivery_by_parts [] = refl
delivery_by_parts (a ∷ []) = sym (few (name_of a) [] _ (λ n. refl))
delivery_by_parts (a ∷ b ∷ []) = sym (few (name_of a) (b ∷ []) _ (λ n. few (thread_of b) [] _ (λ r. refl)))
delivery_by_parts (a ∷ b ∷ c ∷ []) = sym (few (name_of a) (b ∷ c ∷ []) _ (λ n. few (thread_of b) (c ∷ []) _ (λ r. few (thread_of c) [] _ (λ s. refl))))
delivery_by_parts (a ∷ b ∷ c ∷ d ∷ []) =
    sym (few (name_of a) (b ∷ c ∷ d ∷ []) _ (λ n. few (thread_of b) (c ∷ d ∷ []) _ (λ r. few (thread_of c) (d ∷ []) _ (λ s. few (thread_of d) [] _ (λ t. refl)))))
delivery_by_parts (a ∷ b ∷ c ∷ d ∷ e ∷ others) =
    sym (part (name_of a) (b ∷ c ∷ d ∷ e ∷ others) _ _ (λ n. part (thread_of b) (c ∷ d ∷ e ∷ others) _ _ (λ r. part (thread_of c) (d ∷ e ∷ others) _ _ (λ s. part (thread_of d) (e ∷ others) _ _ (λ t.
    part (number_of 16 e) others _ _ (λ tag. refl))))))
