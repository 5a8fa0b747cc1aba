use Rattle.std.proofs.Common.{◌≡◌, ℕ, Bool, true, false, Option, Some, None, refl}
use Rattle.l4_model.specs.Machine.{Machine}
use Rattle.l4_model.specs.World.{World}
use Rattle.l4_always.specs.Always.{IsSaid}
use Rattle.l4_always.specs.declared.search.Met.{Met}
use Rattle.l4_condition_lines.specs.Conditions.{meets}
use Rattle.l4_invariants.specs.Invariants.{IsNeverMet}
use Rattle.l4_questions.specs.Always.{verdict_status}
use Rattle.l4_questions.specs.Limits.{most_looked}
use Rattle.l4_questions.proofs.laws.law_never_met.Goals as goal

never : (m : Machine) (condition : World → Bool) (most : ℕ) (met : Option Met) (is_whole : Bool) → IsSaid m condition most met is_whole → 0 ≡ verdict_status met is_whole → IsNeverMet m condition
never m condition most None true said is = said refl
never m condition most None false said is = cc
never m condition most (Some met) is_whole said is = cc

pub returns : goal.returns
returns c = λ m q asked lines unmet a. never m (meets m asked) (most_looked m q) a.verdict.met a.verdict.is_whole a.is.said a.status_is
