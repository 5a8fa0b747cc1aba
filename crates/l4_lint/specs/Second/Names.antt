-- Where a name is declared, and which declared name is near.
use Rattle.std.specs.Prelude.{ℕ, ◌+◌, ◌==◌, Bool, false, ◌&&◌, ◌||◌, if◌then◌else◌, Option, Some}
use Rattle.std.specs.Prelude.{None, List, [], ◌∷◌, codes, drop, map}
use Rattle.std.specs.Char.{to_ascii_lowercase}
use Rattle.std.specs.Str.{bytes_eq}
use Rattle.l4_script.specs.Second.Names.{is_name}
use Rattle.l4_lint.specs.declared.hints.Hint.{Hint}
use Rattle.l4_lint.specs.declared.hints.Hint.TheVariants as hints
use Rattle.l4_lint.specs.Bytes.{behind, word_of}
use Rattle.l4_lint.specs.Second.Parts.{parts_of}

-- The name that a line declares: of an instruction, or of an id.

abbrev pub named_by : (words : List ℕ) → Option (List ℕ)
named_by words = if bytes_eq (word_of words) (codes "name") then Some (word_of (behind words))
    else None

abbrev pub label_or : (label otherwise : Option (List ℕ)) → Option (List ℕ)
label_or None otherwise = otherwise
label_or (Some label) otherwise = Some label

abbrev pub declared_by : (line : List ℕ) → Option (List ℕ)
declared_by line = label_or (parts_of line).label (named_by (parts_of line).words)

-- Names are near that differ in upper and lower case alone, or besides in one byte, which is
-- another one or missing, or in two neighbours that are exchanged.

abbrev pub same_letter : (a b : ℕ) → Bool
same_letter a b = to_ascii_lowercase a == to_ascii_lowercase b

abbrev pub same_letters : (one other : List ℕ) → Bool
same_letters one other = bytes_eq (map to_ascii_lowercase one) (map to_ascii_lowercase other)

abbrev pub are_exchanged : (one other : List ℕ) → Bool
are_exchanged (a ∷ b ∷ one) (c ∷ d ∷ other) = a == d && b == c && same_letters one other
are_exchanged one other = false

abbrev pub differ_once : (one other : List ℕ) → Bool
differ_once one other =
    same_letters (drop 1 one) (drop 1 other) || same_letters one (drop 1 other)
    || same_letters (drop 1 one) other || are_exchanged one other

-- Behind all letters that both begin with.
abbrev pub are_near : (one other : List ℕ) → Bool
are_near (a ∷ one) (b ∷ other) =
    if same_letter a b then are_near one other else differ_once (a ∷ one) (b ∷ other)
are_near one other = differ_once one other

-- What is said of a name that no instruction may have, or that is none: the number of the first
-- line that declares it, or else of the first that declares one that is near.

abbrev pub near_or : (near : Option ℕ) → Hint
near_or None = hints.Unknown
near_or (Some number) = hints.NearOn number

abbrev pub first_near : (near : Option ℕ) → (number : ℕ) → (name word : List ℕ) → Option ℕ
first_near (Some before) number name word = Some before
first_near None number name word = if are_near name word then Some number else None

abbrev pub declared_or : (declared : Option (List ℕ)) → (number : ℕ) → (word : List ℕ) →
    (near : Option ℕ) → (rest : (near : Option ℕ) → Hint) → Hint
declared_or None number word near rest = rest near
declared_or (Some name) number word near rest = if bytes_eq name word then hints.DeclaredOn number
    else rest (first_near near number name word)

abbrev pub declared_hint : (word : List ℕ) → (lines : List (List ℕ)) → (number : ℕ) →
    (near : Option ℕ) → Hint
declared_hint word [] number near = near_or near
declared_hint word (line ∷ lines) number near =
    declared_or (declared_by line) number word near
    (λ near. declared_hint word lines (number + 1) near)

abbrev pub name_hint : (lines : List (List ℕ)) → (word : List ℕ) → Hint
name_hint lines word = if is_name word then declared_hint word lines 1 None else hints.NoName
