use Rattle.std.proofs.Common.{◌≡◌, inl, refl, rules, subst, ℕ, List, ◌++◌}
use Rattle.std.specs.Prelude.{IfErr}
use Rattle.std.specs.Option.{option_copied}
use Rattle.l4_questions.specs.Beside.{shown_as}
use Rattle.l4_questions.specs.Placed.{placed_endings}
use Rattle.l4_questions.specs.Printed.{endings_text, IsTold}
use Rattle.l4_questions.specs.Told.{BreaksOff, PlacedHasBegun}
use Rattle.l4_questions.specs.declared.question.QuestionFault.TheVariants.{NoMemory}
use Rattle.l4_questions.specs.declared.teller.TellFault.TheVariants.{NoAnswer}
use Rattle.l4_questions.proofs.Begun.{placed_begun_all}
use Rattle.l4_questions.proofs.Some.{if_err}
use Rattle.l4_questions.proofs.placed_answering.searched_answer.Goals as goal

-- Memory was refused when all endings were told.
pub returns-in_err-last-clause-err : goal.returns-in_err-last-clause-err
returns-in_err-last-clause-err g c =
    let m = c.args.machine.now in
    let q = c.args.question.now in
    let shown = shown_as c.args.beside.shown in
    let takes = g.T.Teller.takes c.args.teller.now c.told_endings.new.teller in
    let all = c.in_ok-looked.ensures.ok in
    let is : IfErr c.from_residual-in_err-last.result (λ f. f ≡ NoAnswer NoMemory) = search rules in
    if_err c.from_residual-in_err-last.result (NoAnswer NoMemory)
    (BreaksOff takes q (PlacedHasBegun takes m q shown)) is (
    inl (
      refl,
      placed_begun_all takes m q shown (option_copied c.args.beside.expected) c.in_ok-looked.told
          c.requires.lawful c.in_ok-looked.looked all,
    )
    )

pub returns-clause-ok : goal.returns-clause-ok
returns-clause-ok g c =
    let m = c.args.machine.now in
    let q = c.args.question.now in
    let shown = shown_as c.args.beside.shown in
    let expected = option_copied c.args.beside.expected in
    let looked = c.in_ok-looked.looked in
    let all = c.in_ok-looked.ensures.ok in
    let endings = placed_endings m all.endings in
    let answer = c.into_answer.result in
    record {
      told = endings_text shown q endings;
      taken = all.taken;
      answer = record {
        lawful = c.requires.lawful;
        endings = all.endings;
        states = looked.states;
        depth = looked.depth;
        is_whole = looked.is_whole;
        searched = all.found;
        told =
            subst (λ (last : List ℕ). IsTold q shown expected endings last looked.is_whole
            (endings_text shown q endings ++ answer.lines.items) answer.unmet.items answer.status)
            c.in_ok-last.ensures (c.into_answer.ensures shown expected endings all.counted);
      };
    }
