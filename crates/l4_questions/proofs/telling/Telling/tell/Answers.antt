use Rattle.std.proofs.Common.{◌≡◌, ◌++◌, ◌+◌, ℕ, List, true, false, ap, arith, rules, subst, sym, ◌∙◌}
use Rattle.l4_questions.specs.Beside.{shown_as}
use Rattle.l4_questions.specs.Printed.{ending_text}
use Rattle.l4_questions.proofs.Writing.{one_behind}
use Rattle.l4_questions.proofs.telling.Telling.tell.Goals as goal

-- Of one ending not all was taken.
pub returns-then-is_err-clause-told : goal.returns-then-is_err-clause-told
returns-then-is_err-clause-told g c = λ whole.
    let old = c.args.self.now in
    let q = old.asking.now.question.now in
    let shown = shown_as old.asking.now.beside.shown in
    let takes = g.T.Teller.takes old.teller.now c.tell.new.self in
    let refused : takes c.deref.result.now false = search rules in
    record {
      count = 1;
      within = omega arith;
      taken =
          subst (λ text. takes text false)
          (c.deref.ensures.value ∙ c.in_ok-write.ensures.lines
          ∙ ap (λ (l : List ℕ). l ++ ending_text shown (old.told.now.count + 1) c.args.found)
          c.new-lines.ensures.items
          ∙ one_behind q c.args.found (sym c.is_asked.ensures ∙ c.if-not-is_asked.false)
          (ending_text shown) old.told.now.count)
          refused;
    }
