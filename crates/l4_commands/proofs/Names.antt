-- The name of the file that has the schedule.
use Rattle.std.proofs.Common.{◌≡◌, ℕ, Bool, true, false, Option, Some, None, List, [], ◌∷◌, Bor, refl, sym, ap, eqb-true, MatchOption}
use Rattle.std.specs.Prelude.{◌==◌, ◌≢◌, if◌then◌else◌, option_map}
use Rattle.l4_commands.specs.Files.{list_name}

pub named : (list : List ℕ) (r : Option (Bor (List ℕ))) →
    MatchOption r ((rest : List ℕ) → list ≢ 64 ∷ rest) (λ name. list ≡ 64 ∷ name.now) →
    option_map (λ (name : Bor (List ℕ)). name.now) r ≡ list_name list
named list (Some name) is = sym (ap list_name is)
named [] None other = refl
named (first ∷ rest) None other = by (first == 64) refl
  where
    by : (b : Bool) → (first == 64) ≡ b → None ≡ (if b then Some rest else None)
    by true is = let same : first ≡ 64 = eqb-true first 64 is in absurd (other rest (ap (λ n. n ∷ rest) same))
    by false is = refl
