-- The step of a line by the keyword in front of it.
use Rattle.std.proofs.Common.{◌≡◌, ℕ, Bool, true, false, cond, List, [], ◌∷◌, Option, Some, None, refl, sym, ap, ◌∙◌}
use Rattle.std.specs.Prelude.{codes, MatchOption, IsSomeAnd}
use Rattle.std.specs.Option.{option_map}
use Rattle.std.specs.Str.{bytes_eq}
use Rattle.std.proofs.lemmas.Slice.Eq.{bytes_eq-Decides}
use Rattle.l4_words.specs.Words.{Finds, words_in, words_behind}
use Rattle.l4_trace.specs.Reading.{of_thread, of_name, order_of, tick_of, delivery_of, step_behind, step_of_words, step_of_line}

taken : {A : Type 0} (test : Bool) (a b : A) → cond test (Some a) None ≡ Some b → (test ≡ true) × (a ≡ b)
taken true a b e = (refl, cc)
taken false a b e = absurd cc

passed_over : {A : Type 0} (test : Bool) (a : A) → cond test (Some a) None ≡ None → test ≡ false
passed_over true a e = absurd cc
passed_over false a e = refl

neither : {A : Type 0} (test : Bool) (o : Option A) → o ≡ None → cond test None o ≡ None
neither true o e = refl
neither false o e = e

row : (words : List (List ℕ)) (keyword : List ℕ) (operands : List (List ℕ)) → words_behind keyword words ≡ Some operands → step_of_words words ≡ step_behind keyword operands
row [] keyword operands e = absurd cc
row (word ∷ []) keyword operands e = absurd cc
row (word ∷ next ∷ more) keyword operands e =
    let found = taken (bytes_eq word keyword) (next ∷ more) operands e in
    let same : word ≡ keyword = (bytes_eq-Decides word keyword).0 found.0 in
    λ i. step_behind (same i) (found.1 i)

pub by_row : (line keyword : List ℕ) (operands : List (List ℕ)) → words_behind keyword (words_in line) ≡ Some operands → step_of_line line ≡ step_behind keyword operands
unfolding step_of_line
by_row line keyword operands e = row (words_in line) keyword operands e

-- A keyword alone is no line.
alone : (word : List ℕ) → step_behind word [] ≡ None
unfolding step_behind of_thread of_name order_of tick_of delivery_of
alone word = neither (bytes_eq word (codes "local")) _ (neither (bytes_eq word (codes "begin")) _ (neither (bytes_eq word (codes "queue")) _ (neither (bytes_eq word (codes "deliver")) _ (neither (bytes_eq word (codes "wait")) _ (neither (bytes_eq word (codes "stimeout")) _ (neither (bytes_eq word (codes "rtimeout")) _ (neither (bytes_eq word (codes "snobody")) _ (neither (bytes_eq word (codes "rnobody")) _ (neither (bytes_eq word (codes "scancel")) _ (neither (bytes_eq word (codes "rcancel")) _ (neither (bytes_eq word (codes "drop")) _ (neither (bytes_eq word (codes "order")) _ (neither (bytes_eq word (codes "obey")) _ (neither (bytes_eq word (codes "tick")) _ (neither (bytes_eq word (codes "retarget")) _ (refl))))))))))))))))

no_row : (words : List (List ℕ)) →
    words_behind (codes "local") words ≡ None →
    words_behind (codes "begin") words ≡ None →
    words_behind (codes "queue") words ≡ None →
    words_behind (codes "deliver") words ≡ None →
    words_behind (codes "wait") words ≡ None →
    words_behind (codes "stimeout") words ≡ None →
    words_behind (codes "rtimeout") words ≡ None →
    words_behind (codes "snobody") words ≡ None →
    words_behind (codes "rnobody") words ≡ None →
    words_behind (codes "scancel") words ≡ None →
    words_behind (codes "rcancel") words ≡ None →
    words_behind (codes "drop") words ≡ None →
    words_behind (codes "order") words ≡ None →
    words_behind (codes "obey") words ≡ None →
    words_behind (codes "tick") words ≡ None →
    words_behind (codes "retarget") words ≡ None → step_of_words words ≡ None
unfolding step_behind
no_row [] p0 p1 p2 p3 p4 p5 p6 p7 p8 p9 p10 p11 p12 p13 p14 p15 = refl
no_row (word ∷ []) p0 p1 p2 p3 p4 p5 p6 p7 p8 p9 p10 p11 p12 p13 p14 p15 = alone word
no_row (word ∷ next ∷ more) p0 p1 p2 p3 p4 p5 p6 p7 p8 p9 p10 p11 p12 p13 p14 p15 =
    rw (passed_over (bytes_eq word (codes "local")) (next ∷ more) p0, passed_over (bytes_eq word (codes "begin")) (next ∷ more) p1, passed_over (bytes_eq word (codes "queue")) (next ∷ more) p2, passed_over (bytes_eq word (codes "deliver")) (next ∷ more) p3, passed_over (bytes_eq word (codes "wait")) (next ∷ more) p4, passed_over (bytes_eq word (codes "stimeout")) (next ∷ more) p5, passed_over (bytes_eq word (codes "rtimeout")) (next ∷ more) p6, passed_over (bytes_eq word (codes "snobody")) (next ∷ more) p7, passed_over (bytes_eq word (codes "rnobody")) (next ∷ more) p8, passed_over (bytes_eq word (codes "scancel")) (next ∷ more) p9, passed_over (bytes_eq word (codes "rcancel")) (next ∷ more) p10, passed_over (bytes_eq word (codes "drop")) (next ∷ more) p11, passed_over (bytes_eq word (codes "order")) (next ∷ more) p12, passed_over (bytes_eq word (codes "obey")) (next ∷ more) p13, passed_over (bytes_eq word (codes "tick")) (next ∷ more) p14, passed_over (bytes_eq word (codes "retarget")) (next ∷ more) p15) refl

pub other_line : (line : List ℕ) →
    words_behind (codes "local") (words_in line) ≡ None →
    words_behind (codes "begin") (words_in line) ≡ None →
    words_behind (codes "queue") (words_in line) ≡ None →
    words_behind (codes "deliver") (words_in line) ≡ None →
    words_behind (codes "wait") (words_in line) ≡ None →
    words_behind (codes "stimeout") (words_in line) ≡ None →
    words_behind (codes "rtimeout") (words_in line) ≡ None →
    words_behind (codes "snobody") (words_in line) ≡ None →
    words_behind (codes "rnobody") (words_in line) ≡ None →
    words_behind (codes "scancel") (words_in line) ≡ None →
    words_behind (codes "rcancel") (words_in line) ≡ None →
    words_behind (codes "drop") (words_in line) ≡ None →
    words_behind (codes "order") (words_in line) ≡ None →
    words_behind (codes "obey") (words_in line) ≡ None →
    words_behind (codes "tick") (words_in line) ≡ None →
    words_behind (codes "retarget") (words_in line) ≡ None → step_of_line line ≡ None
unfolding step_of_line
other_line line = no_row (words_in line)

-- A step is made of what is found in the operands.
pub is_made : {A B C : Type 0} (view : B → C) (f : A → C) (post : A → B → Type 0) (spec : Option C) (r : Option B) (o : Option A) →
    Finds f o spec → ((x : A) (y : B) → post x y → view y ≡ f x) → MatchOption o (r ≡ None) (λ x. IsSomeAnd r (post x)) → Finds view r spec
is_made view f post spec None None s each h = s
is_made view f post spec (Some y) None s each h = absurd cc
is_made view f post spec None (Some x) s each h = absurd h
is_made view f post spec (Some y) (Some x) s each h = s ∙ ap Some (sym (each x y h))

itself_found : {A C : Type 0} (f : A → C) (o : Option A) → Finds f o (option_map f o)
itself_found f None = refl
itself_found f (Some x) = refl

pub as_found : {A C : Type 0} (f : A → C) (o spec : Option A) → o ≡ spec → Finds f o (option_map f spec)
as_found f o spec e = rw (sym e) (itself_found f o)
