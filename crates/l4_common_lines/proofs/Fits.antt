-- What line_fault lets through does not tell the lines of similar endings apart.
use Rattle.std.proofs.Common.{◌≡◌, ℕ, Bool, true, false, not, cond, Some, None, List, [], ◌∷◌, refl, ap, ap₂, sym, ◌∙◌}
use Rattle.std.specs.Prelude.{◌&&◌, ◌||◌, codes}
use Rattle.std.specs.Str.{bytes_eq}
use Rattle.std.proofs.lemmas.Slice.Eq.{bytes_eq-Decides}
use Rattle.l4_model.specs.Words.{GlobalId}
use Rattle.l4_model.specs.World.{Name}
use Rattle.l4_words.specs.Names.{name_word}
use Rattle.l4_words.specs.Threads.{thread_of, thread_word}
use Rattle.l4_lines.specs.Lines.{are_rest, asks_for_number, asks_of_deleted, fault_of_words, fits, fits_word, has_number, is_any, is_send_of, may_begin, thread_asked, thread_named}
use Rattle.l4_lines.specs.declared.lines.LineFault.TheVariants.{Unknown, Deleted, Number}
use Rattle.l4_common_lines.proofs.Spelled.{name_has_number, thread_before}

-- What has no fault

pub record HasNoFault (first second : List ℕ) (others : List (List ℕ)) : Type 0 where
  pub deleted : asks_of_deleted first others ≡ false
  pub number : asks_for_number first second ≡ false

no_fault : (first second : List ℕ) (others : List (List ℕ)) →
    fault_of_words (first ∷ second ∷ others) ≡ None → HasNoFault first second others
no_fault first second others is =
    by (may_begin first) (asks_of_deleted first others) refl (asks_for_number first second) refl is
  where
    by : (begins deleted : Bool) → asks_of_deleted first others ≡ deleted → (number : Bool) →
        asks_for_number first second ≡ number →
        cond (not begins) (Some Unknown) (cond deleted (Some Deleted) (cond number (Some Number) None))
        ≡ None → HasNoFault first second others
    by false deleted d number n is = cc
    by true true d number n is = cc
    by true false d true n is = cc
    by true false d false n is = record { deleted = d; number = n }

-- The line of a deleted thread

rest_fits : (rest words : List (List ℕ)) → are_rest rest ≡ true → fits rest words ≡ true
rest_fits [] words is = cc
rest_fits (a ∷ rest) [] is = is
rest_fits (a ∷ rest) (word ∷ words) is =
    ap (λ (b : Bool). b || (fits_word a word && fits rest words)) is

deleted_by : (thread state end second is x y : Bool) → (thread && state && not end) ≡ false →
    (end ≡ true → x ≡ y) →
    (thread && (second && (is || (state && x)))) ≡ (thread && (second && (is || (state && y))))
deleted_by false state end second is x y free same = refl
deleted_by true false end second is x y free same = refl
deleted_by true true true second is x y free same =
    ap (λ (b : Bool). second && (is || b)) (same refl)
deleted_by true true false second is x y free same = cc

pub deleted_fit : (asked : List (List ℕ)) (id : List ℕ) (xs ys : List (List ℕ)) →
    fault_of_words asked ≡ None →
    fits asked (codes "thread" ∷ id ∷ codes "deleted" ∷ xs)
    ≡ fits asked (codes "thread" ∷ id ∷ codes "deleted" ∷ ys)
deleted_fit [] id xs ys none = refl
deleted_fit (first ∷ []) id xs ys none = refl
deleted_fit (first ∷ second ∷ []) id xs ys none = refl
deleted_fit (first ∷ second ∷ state ∷ rest) id xs ys none =
    let free = no_fault first second (state ∷ rest) none in
    deleted_by (fits_word first (codes "thread")) (fits_word state (codes "deleted")) (are_rest rest)
    (fits_word second id) (are_rest (state ∷ rest)) (fits rest xs) (fits rest ys) free.deleted
    (λ end. rest_fits rest xs end ∙ sym (rest_fits rest ys end))

-- The line of a send that waits

thread_is_named : (s : Name) → thread_named (name_word s) ≡ thread_of (thread_word s.thread)
thread_is_named s =
    ap₂ (λ (number : Bool) (word : List ℕ). cond number (thread_of word) None)
    (name_has_number s) (thread_before s)

named_fit : (second : List ℕ) (s t : Name) → s.thread ≡ t.thread → has_number second ≡ false →
    fits_word second (name_word s) ≡ fits_word second (name_word t)
named_fit second s t same none =
    ap₂ (λ (equal sent : Bool). is_any second || equal || sent) (unlike s ∙ sym (unlike t))
    (ap (is_send_of (thread_asked second))
    (thread_is_named s ∙ ap (λ (id : GlobalId). thread_of (thread_word id)) same
    ∙ sym (thread_is_named t)))
  where
    unlike : (n : Name) → bytes_eq second (name_word n) ≡ false
    unlike n = by (bytes_eq second (name_word n)) refl
      where
        by : (b : Bool) → bytes_eq second (name_word n) ≡ b → b ≡ false
        by false equal = refl
        by true equal =
            let words : second ≡ name_word n = (bytes_eq-Decides second (name_word n)).0 equal in
            let bad : false ≡ true = sym none ∙ ap has_number words ∙ name_has_number n in
            cc

waiting_by : (waiting number end x y z : Bool) → (waiting && number) ≡ false →
    (number ≡ false → x ≡ y) →
    (waiting && (end || (x && z))) ≡ (waiting && (end || (y && z)))
waiting_by false number end x y z free same = refl
waiting_by true true end x y z free same = cc
waiting_by true false end x y z free same = ap (λ (b : Bool). end || (b && z)) (same refl)

pub waiting_fit : (asked : List (List ℕ)) (s t : Name) (to : List ℕ) → fault_of_words asked ≡ None →
    s.thread ≡ t.thread →
    fits asked (codes "waiting" ∷ name_word s ∷ to ∷ [])
    ≡ fits asked (codes "waiting" ∷ name_word t ∷ to ∷ [])
waiting_fit [] s t to none same = refl
waiting_fit (first ∷ []) s t to none same = refl
waiting_fit (first ∷ second ∷ others) s t to none same =
    let free = no_fault first second others none in
    waiting_by (fits_word first (codes "waiting")) (has_number second)
    (are_rest (second ∷ others)) (fits_word second (name_word s)) (fits_word second (name_word t))
    (fits others (to ∷ [])) free.number
    (named_fit second s t same)
