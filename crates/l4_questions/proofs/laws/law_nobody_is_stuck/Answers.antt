use Rattle.std.proofs.Common.{◌≡◌, ℕ, zero, suc, ◌<◌, Bool, true, false, cond, Some, List, [], ◌∷◌, length, refl, ap, subst, sym, ◌∙◌}
use Rattle.std.specs.Prelude.{filter, slice_get}
use Rattle.l4_model.specs.Machine.{Machine}
use Rattle.l4_model.proofs.Chains.{some_is}
use Rattle.l4_forever.specs.Moves.{IsNeverStuck}
use Rattle.l4_stuck.specs.Stuck.{Stuck}
use Rattle.l4_questions.specs.Stuck.{counts_at, is_any, stuck_status, AreAsked}
use Rattle.l4_questions.specs.declared.question.Question.{Question}
use Rattle.l4_questions.specs.declared.question.Wanted.{Wanted}
use Rattle.l4_questions.proofs.Statuses.{nobody}
use Rattle.l4_questions.proofs.Walks.{by_search}
use Rattle.l4_questions.proofs.laws.law_nobody_is_stuck.Goals as goal

-- What a filter leaves out does not pass.
left_out : (p : Stuck → Bool) (stuck : List Stuck) (k : ℕ) (s : Stuck) → [] ≡ filter p stuck →
    slice_get stuck k ≡ Some s → p s ≡ true → ⊥
left_out p [] k s none at passes = cc
left_out p (first ∷ stuck) k s none at passes =
    by k at (p first) refl none (λ j other there. left_out p stuck j s other there passes)
  where
    by : (k : ℕ) → slice_get (first ∷ stuck) k ≡ Some s → (b : Bool) → p first ≡ b →
        [] ≡ cond b (first ∷ filter p stuck) (filter p stuck) →
        ((j : ℕ) → [] ≡ filter p stuck → slice_get stuck j ≡ Some s → ⊥) → ⊥
    by k at true is none rest = cc
    by zero at false is none rest =
        let bad : false ≡ true = sym is ∙ ap p (some_is first s at) ∙ passes in cc
    by (suc k) at false is none rest = rest k none at

none_of : (m : Machine) (q : Question) (stuck : List Stuck) (is_whole : Bool) →
    is_any stuck ≡ false → is_whole ≡ true → AreAsked true m q stuck is_whole → (thread : ℕ) →
    thread < length m.threads → counts_at m q thread ≡ true → IsNeverStuck m thread
none_of m q [] is_whole none whole are thread inside counted =
    are.all_are.complete whole thread inside (λ k s at same.
    left_out (λ s. counts_at m q s.thread) are.all k s are.told at
    (ap (counts_at m q) same ∙ counted))
none_of m q (s ∷ stuck) is_whole none whole are thread inside counted = cc

pub returns : goal.returns
returns c = λ m q shown expected lines unmet asks none any.
    let a = by_search any in
    let is = nobody (is_any a.stuck) a.is_stuck_whole a.told_status
    (subst (λ (w : Wanted). 0 ≡ stuck_status w (is_any a.stuck) a.is_stuck_whole a.told_status) none
    a.status_is) in
    none_of m q a.stuck a.is_stuck_whole is.0 is.1
    (subst (λ asked. AreAsked asked m q a.stuck a.is_stuck_whole) asks a.stuck_are)
