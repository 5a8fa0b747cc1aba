-- What was appended of some bytes, and what is left of them.
use Rattle.std.proofs.Common.{◌≡◌, ℕ, List, [], ◌++◌, take, drop, Option, Some, None, refl, sym, ap, subst, ◌∙◌, append-nil, append_assoc, length, ◌≤◌, ◌<◌, ◌+◌, ◌-◌, arith, true, false, Result, Ok, Err, MatchResult, flat_map, get_or, drop-cons, suc}
use Rattle.std.proofs.lemmas.Grind.{common_steps}
use Rattle.std.specs.Io.KnownBytes.{Appends, Keeps}
use Rattle.std.proofs.KnownBytes.{Appends-nil, Appends-trans}
use Rattle.l4_streams.specs.Streams.{HasAppended, MayTake}

appends_none : (old new : Option (List ℕ)) → Keeps old new → Appends old new []
appends_none None new k = tt
appends_none (Some xs) None k = k
appends_none (Some xs) (Some ys) k = k ∙ sym (append-nil xs)

pub kept : (old new : Option (List ℕ)) (bytes : List ℕ) → Keeps old new → HasAppended old new bytes bytes
kept old new bytes k = ([], refl, appends_none old new k)

pub taken : (old new : Option (List ℕ)) (bytes : List ℕ) (n : ℕ) → n ≤ length bytes → Appends old new (take n bytes) →
    HasAppended old new bytes (take (length bytes - n) (drop n bytes))
taken old new bytes n most h = (take n bytes, grind (arith, common_steps), h)

pub onto : (old mid new : Option (List ℕ)) (bytes rest left : List ℕ) → HasAppended old mid bytes rest → HasAppended mid new rest left → HasAppended old new bytes left
onto old mid new bytes rest left (front, parts, before) (more, parts', now) =
    (front ++ more, parts ∙ ap (λ l. front ++ l) parts' ∙ sym (append_assoc front more left), Appends-trans old mid new front more before now)

pub begun : (old : Option (List ℕ)) (bytes : List ℕ) → HasAppended old old bytes bytes
begun old bytes = ([], refl, Appends-nil old)

pub whole : (old new : Option (List ℕ)) (bytes rest : List ℕ) → HasAppended old new bytes rest → rest ≡ [] → Appends old new bytes
whole old new bytes rest (front, parts, before) none =
    subst (Appends old new) (sym (parts ∙ ap (λ l. front ++ l) none ∙ append-nil front)) before

still : (old mid new : Option (List ℕ)) (bytes : List ℕ) → Appends old mid bytes → Keeps mid new → Appends old new bytes
still old mid new bytes before k = subst (Appends old new) (append-nil bytes) (Appends-trans old mid new bytes [] before (appends_none mid new k))

-- A flush behind what was written changes nothing, and all of it was written even where it fails.
pub flushed : {T E : Type 0} (r : Result T E) (old mid new : Option (List ℕ)) (bytes : List ℕ) → Appends old mid bytes → Keeps mid new →
    MatchResult r (λ _. MayTake old new bytes true) (λ _. MayTake old new bytes false)
flushed (Ok _) old mid new bytes before k = still old mid new bytes before k
flushed (Err _) old mid new bytes before k = ([], (bytes, sym (append-nil bytes), still old mid new bytes before k))

-- The texts from one place on are that text and those behind it.
next_part : {X : Type 0} (text : X → List ℕ) (parts : List X) (i : ℕ) (d : X) → i < length parts →
    flat_map text (drop i parts) ≡ text (get_or parts i d) ++ flat_map text (drop (i + 1) parts)
next_part text parts i d inside =
    let next : suc i ≡ i + 1 = omega arith in
    ap (flat_map text) (drop-cons parts i d inside) ∙ ap (λ n. text (get_or parts i d) ++ flat_map text (drop n parts)) next

-- What is left of several texts, where this is left of the first of those that were left.
pub further : {X : Type 0} (text : X → List ℕ) (parts : List X) (i : ℕ) (d : X) (old mid new : Option (List ℕ)) (bytes part left : List ℕ) →
    i < length parts → part ≡ text (get_or parts i d) → HasAppended old mid bytes (flat_map text (drop i parts)) → HasAppended mid new part left →
    HasAppended old new bytes (left ++ flat_map text (drop (i + 1) parts))
further text parts i d old mid new bytes part left inside is before (front, split, now) =
    let rest = flat_map text (drop (i + 1) parts) in
    let there : flat_map text (drop i parts) ≡ front ++ (left ++ rest) =
    next_part text parts i d inside ∙ ap (λ l. l ++ rest) (sym is ∙ split) ∙ append_assoc front left rest in
    onto old mid new bytes (flat_map text (drop i parts)) (left ++ rest) before (front, there, now)
