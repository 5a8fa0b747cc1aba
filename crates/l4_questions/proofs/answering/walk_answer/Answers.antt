use Rattle.std.proofs.Common.{◌≡◌, ◌+◌, ◌++◌, ℕ, List, [], ◌∷◌, false, true, ap, subst, sym, ◌∙◌}
use Rattle.std.specs.Option.{option_copied}
use Rattle.l4_questions.specs.Beside.{shown_as}
use Rattle.l4_questions.specs.Printed.{ending_text, endings_text, unmet_of}
use Rattle.l4_questions.proofs.Writing.{one_counted, one_text}
use Rattle.l4_questions.proofs.answering.walk_answer.Goals as goal

pub returns : goal.returns
returns g c =
    let m = c.args.machine.now in
    let q = c.args.question.now in
    let shown = shown_as c.args.beside.shown in
    let expected = option_copied c.args.beside.expected in
    let e = g.L.Listed.ending m c.args.entries.now in
    let asked = c.requires.asked in
    let new = c.new-told.ensures in
    let written = c.in_ok-write.ensures in
    let text = written.lines
    ∙ ap (λ (l : List ℕ). l ++ ending_text shown (c.new-told.result.count + 1) c.in_ok-found.found)
    c.new-lines.ensures.items
    ∙ ap (λ (n : ℕ). ending_text shown (n + 1) c.in_ok-found.found) new.count
    ∙ ap (ending_text shown 1) c.in_ok-found.ensures in
    let unmet = written.unmet
    ∙ ap (λ (u : List ℕ). u ++ unmet_of expected (c.new-told.result.count + 1) c.in_ok-found.found) new.unmet
    ∙ ap (λ (n : ℕ). unmet_of expected (n + 1) c.in_ok-found.found) new.count
    ∙ ap (unmet_of expected 1) c.in_ok-found.ensures in
    let counted = one_counted q e asked expected c.write.new.self unmet
    (written.count ∙ ap (λ (n : ℕ). n + 1) new.count) in
    let whole = c.in_ok-answer.ensures in
    let last = c.in_ok-extend_from_slice.ensures.items in
    let told = c.into_answer.ensures shown expected (e ∷ []) counted in
    record {
      lines_are =
          whole.lines
          ∙ ap (λ (l : List ℕ). l ++ c.into_answer.result.lines.items)
          (text ∙ one_text q e asked shown)
          ∙ told.lines_are
          ∙ ap (λ (l : List ℕ). endings_text shown q (e ∷ []) ++ l)
          (last ∙ ap (λ (l : List ℕ). l ++ c.walk_line.result.now) c.new-line.ensures.items
          ∙ c.walk_line.ensures);
      unmet_are = whole.unmet ∙ told.unmet_are;
      status_is = whole.status ∙ told.status_is;
    }
