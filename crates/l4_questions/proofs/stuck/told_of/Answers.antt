use Rattle.std.proofs.Common.{◌≡◌, Bool, true, false, cond, List, [], ◌∷◌, filter, refl, ap, rules, tests, ◌∙◌}
use Rattle.std.proofs.lemmas.Fn.{filter_same}
use Rattle.l4_stuck.specs.Stuck.{stuck_from, stuck_of, Stuck}
use Rattle.l4_stuck.specs.declared.search.StuckThread.{StuckThread}
use Rattle.l4_questions.specs.Stuck.{counts_at}
use Rattle.l4_questions.proofs.stuck.told_of.Goals as goal

told_from : (p : Stuck → Bool) (threads : List StuckThread) →
    stuck_of (filter (λ t. p (stuck_from t)) threads) ≡ filter p (stuck_of threads)
told_from p [] = refl
told_from p (t ∷ threads) = by (p (stuck_from t)) (told_from p threads)
  where
    by : (b : Bool) → stuck_of (filter (λ t. p (stuck_from t)) threads) ≡ filter p (stuck_of threads) →
        stuck_of (cond b (t ∷ filter (λ t. p (stuck_from t)) threads) (filter (λ t. p (stuck_from t)) threads))
        ≡ cond b (stuck_from t ∷ filter p (stuck_of threads)) (filter p (stuck_of threads))
    by true rest = ap (λ more. stuck_from t ∷ more) rest
    by false rest = rest

pub returns-clause-threads : goal.returns-clause-threads
returns-clause-threads c =
    let p : Stuck → Bool = λ s. counts_at c.args.machine.now c.args.question.now s.thread in
    ap stuck_of (filter_same _ (λ t. p (stuck_from t)) _ (λ x b q k. search (rules, tests)) _ _ c.retain.ensures.filtered)
    ∙ told_from p c.args.found.threads.items
