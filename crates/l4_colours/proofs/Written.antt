-- What writing one thing behind another comes to.
use Rattle.std.proofs.Common.{◌≡◌, ℕ, Bool, true, false, List, [], ◌∷◌, ◌++◌, append-nil, Option, Result, Ok, Err, MatchResult, refl, ap, sym, subst, ◌∙◌, append_assoc}
use Rattle.std.specs.Prelude.{IsErrAnd}
use Rattle.std.proofs.KnownBytes.{Appends-nil, Appends-trans}
use Rattle.l4_streams.proofs.Appending.{onto}
use Rattle.l4_streams.specs.Streams.{HasAppended, MayTake}
use Rattle.l4_colours.specs.Painted.{shown, TakesShown}

pub then : (old mid new : Option (List ℕ)) (first second : List ℕ) (all : Bool) → MayTake old mid first true → MayTake mid new second all → MayTake old new (first ++ second) all
then old mid new first second true before now = Appends-trans old mid new first second before now
then old mid new first second false before (left, now) = (left, onto old mid new (first ++ second) second left (first, refl, before) now)

pub cut : (old new : Option (List ℕ)) (first second : List ℕ) → MayTake old new first false → MayTake old new (first ++ second) false
cut old new first second (left, (front, is, now)) = (left ++ second, (front, ap (λ xs. xs ++ second) is ∙ append_assoc front left second, now))

-- What was written of a painted text, and what is left of it.
pub ended : (old mid new : Option (List ℕ)) (whole rest left : List ℕ) (all : Bool) → HasAppended old mid whole rest → rest ≡ left → MayTake mid new left all → MayTake old new whole all
ended old mid new whole rest left true (front, is, before) same now =
    subst (λ bytes. MayTake old new bytes true) (sym (is ∙ ap (λ xs. front ++ xs) same)) (Appends-trans old mid new front left before now)
ended old mid new whole rest left false so_far same (more, now) =
    (more, onto old mid new whole rest more so_far (subst (λ bytes. HasAppended mid new bytes more) (sym same) now))

pub further : (old mid new : Option (List ℕ)) (whole now_left toned rest : List ℕ) → HasAppended old mid whole now_left → now_left ≡ toned ++ rest → MayTake mid new toned true →
    HasAppended old new whole rest
further old mid new whole now_left toned rest so_far is now = onto old mid new whole now_left rest so_far (toned, is, now)

pub broken : (old mid new : Option (List ℕ)) (whole now_left toned rest : List ℕ) → HasAppended old mid whole now_left → now_left ≡ toned ++ rest → MayTake mid new toned false →
    MayTake old new whole false
broken old mid new whole now_left toned rest so_far is now =
    ended old mid new whole now_left (toned ++ rest) false so_far is (cut mid new toned rest now)

-- The bytes of a toned line, without and with what stands behind it.
pub regroup : (before begin line end behind : List ℕ) → before ++ (begin ++ (line ++ (end ++ behind))) ≡ (before ++ (begin ++ (line ++ end))) ++ behind
regroup before begin line end behind =
    sym (append_assoc before (begin ++ (line ++ end)) behind
    ∙ ap (λ xs. before ++ xs) (append_assoc begin (line ++ end) behind ∙ ap (λ xs. begin ++ xs) (append_assoc line end behind)))

pub nothing : (contents : Option (List ℕ)) (bytes : List ℕ) → MayTake contents contents bytes false
nothing contents bytes = (bytes, ([], refl, Appends-nil contents))

pub same_all : (old new : Option (List ℕ)) (bytes same : List ℕ) (all : Bool) → bytes ≡ same → MayTake old new bytes all → MayTake old new same all
same_all old new bytes same all is taken = subst (λ b. MayTake old new b all) is taken

-- The same of what a call returned.

pub failed : {T E : Type 0} (Q : E → Type 0) (r : Result T E) (old new : Option (List ℕ)) (bytes : List ℕ) → IsErrAnd r Q → MayTake old new bytes false →
    MatchResult r (λ _. MayTake old new bytes true) (λ _. MayTake old new bytes false)
failed Q (Ok x) old new bytes is taken = absurd is
failed Q (Err y) old new bytes is taken = taken

pub onward : {T E : Type 0} (r : Result T E) (old mid new : Option (List ℕ)) (first second : List ℕ) → MayTake old mid first true →
    MatchResult r (λ _. MayTake mid new second true) (λ _. MayTake mid new second false) →
    MatchResult r (λ _. MayTake old new (first ++ second) true) (λ _. MayTake old new (first ++ second) false)
onward (Ok x) old mid new first second before now = then old mid new first second true before now
onward (Err y) old mid new first second before now = then old mid new first second false before now

pub finished : {T E : Type 0} (r : Result T E) (old mid new : Option (List ℕ)) (whole rest left : List ℕ) → HasAppended old mid whole rest → rest ≡ left →
    MatchResult r (λ _. MayTake mid new left true) (λ _. MayTake mid new left false) → MatchResult r (λ _. MayTake old new whole true) (λ _. MayTake old new whole false)
finished (Ok x) old mid new whole rest left so_far same now = ended old mid new whole rest left true so_far same now
finished (Err y) old mid new whole rest left so_far same now = ended old mid new whole rest left false so_far same now

-- A text that is shown in one part.
pub one : (old new : Option (List ℕ)) (colours kept : Bool) (text : List ℕ) (all : Bool) → kept ≡ colours → MayTake old new (shown colours text) all → TakesShown old new colours kept text all
one old new colours kept text all same taken = record {
  parts = text ∷ [];
  are_all = sym (append-nil text);
  taken = subst (λ bytes. MayTake old new bytes all) (sym (append-nil (shown colours text))) taken;
  same = same;
}

pub in_one : {T E : Type 0} (r : Result T E) (old new : Option (List ℕ)) (colours kept : Bool) (text : List ℕ) → kept ≡ colours →
    MatchResult r (λ _. MayTake old new (shown colours text) true) (λ _. MayTake old new (shown colours text) false) →
    MatchResult r (λ _. TakesShown old new colours kept text true) (λ _. TakesShown old new colours kept text false)
in_one (Ok x) old new colours kept text same taken = one old new colours kept text true same taken
in_one (Err y) old new colours kept text same taken = one old new colours kept text false same taken
