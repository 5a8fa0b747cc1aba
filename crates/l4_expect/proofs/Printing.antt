-- What is printed of expectations, one by one.
use Rattle.std.proofs.Common.{◌≡◌, ℕ, Bool, true, false, not, List, [], ◌∷◌, ◌++◌, cond, refl, ap}
use Rattle.std.specs.Prelude.{flat_map}
use Rattle.l4_expect.specs.Expected.{Expected}
use Rattle.l4_expect.specs.Unmet.{is_met, unmet, unmet_line, unmet_part, unmet_text}

-- A line for each expectation that does not hold is what is printed of each, in order.
pub unmet_parts : (report : List ℕ) (expected : List Expected) →
    flat_map (unmet_part report) expected ≡ unmet_text report expected
unmet_parts report [] = refl
unmet_parts report (e ∷ expected) = by (is_met report e) (unmet_parts report expected)
  where
    by : (met : Bool) →
        flat_map (unmet_part report) expected ≡ unmet_text report expected →
        cond met [] (unmet_line report e) ++ flat_map (unmet_part report) expected
        ≡ flat_map (unmet_line report) (cond (not met) (e ∷ unmet report expected) (unmet report expected))
    by true rest = rest
    by false rest = ap (λ (text : List ℕ). unmet_line report e ++ text) rest
