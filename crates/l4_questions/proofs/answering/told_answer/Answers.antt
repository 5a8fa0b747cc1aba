use Rattle.std.proofs.Common.{◌≡◌, inl, inr, refl, rules, List, ℕ, []}
use Rattle.std.specs.Prelude.{IfErr}
use Rattle.std.proofs.lemmas.Result.{IfOk-weaker}
use Rattle.l4_futures.specs.Traces.{trace_along}
use Rattle.l4_questions.specs.Beside.{shown_as}
use Rattle.l4_questions.specs.Told.{BreaksOff, HasBegun}
use Rattle.l4_questions.specs.declared.question.QuestionFault.TheVariants.{NoMemory}
use Rattle.l4_questions.specs.declared.teller.TellFault.TheVariants.{NoAnswer}
use Rattle.l4_questions.proofs.Begun.{not_begun}
use Rattle.l4_questions.proofs.Some.{if_err}
use Rattle.l4_questions.proofs.answering.told_answer.Goals as goal

-- The question is out of range.
pub returns-in_err-depth-clause-err : goal.returns-in_err-depth-clause-err
returns-in_err-depth-clause-err g c =
    let m = c.args.machine.now in
    let q = c.args.question.now in
    let teller = c.args.teller.now in
    let takes = g.T.Teller.takes teller teller in
    let fault = c.in_err-depth.field-0.0 in
    let is : IfErr c.from_residual.result (λ f. f ≡ NoAnswer fault) = search rules in
    if_err c.from_residual.result (NoAnswer fault)
    (BreaksOff takes q (HasBegun takes m q (shown_as c.args.beside.shown))) is
    (inr (c.in_err-depth.ensures.err, g.met.T.Teller.nothing teller))

pub returns-in-None-clause-ok : goal.returns-in-None-clause-ok
returns-in-None-clause-ok g c =
    IfOk-weaker c.searched_answer.result _ _
    (λ answer t. record { told = t.told; taken = t.taken; answer = inl t.answer })
    c.searched_answer.ensures.ok

-- Memory was refused before the search.
pub returns-in_err-entries-clause-err : goal.returns-in_err-entries-clause-err
returns-in_err-entries-clause-err g c =
    let m = c.args.machine.now in
    let q = c.args.question.now in
    let shown = shown_as c.args.beside.shown in
    let teller = c.args.teller.now in
    let takes = g.T.Teller.takes teller teller in
    let is : IfErr c.from_residual-in_err-entries.result (λ f. f ≡ NoAnswer NoMemory) = search rules in
    if_err c.from_residual-in_err-entries.result (NoAnswer NoMemory) (BreaksOff takes q (HasBegun takes m q shown)) is (
    inl (refl, not_begun takes m q shown c.in_ok-depth.ensures.ok.0 (g.met.T.Teller.nothing teller))
    )

-- Memory was refused before the search.
pub returns-in_err-walk_answer-in-Some-clause-err : goal.returns-in_err-walk_answer-in-Some-clause-err
returns-in_err-walk_answer-in-Some-clause-err g c =
    let m = c.args.machine.now in
    let q = c.args.question.now in
    let shown = shown_as c.args.beside.shown in
    let teller = c.args.teller.now in
    let takes = g.T.Teller.takes teller teller in
    let is : IfErr c.from_residual-in_err-walk_answer-in-Some.result (λ f. f ≡ NoAnswer NoMemory) = search rules in
    if_err c.from_residual-in_err-walk_answer-in-Some.result (NoAnswer NoMemory) (BreaksOff takes q (HasBegun takes m q shown)) is (
    inl (refl, not_begun takes m q shown c.in_ok-depth.ensures.ok.0 (g.met.T.Teller.nothing teller))
    )

-- Of a walk nothing is told before.
pub returns-in_ok-walk_answer-in-Some-clause-ok : goal.returns-in_ok-walk_answer-in-Some-clause-ok
returns-in_ok-walk_answer-in-Some-clause-ok g c = record {
  told = [];
  taken = g.met.T.Teller.nothing c.args.teller.now;
  answer = inr (record {
    trace = trace_along c.args.machine.now c.in-Some.entries.items;
    walked = (c.in_ok-entries.ensures c.in-Some.entries c.in-Some.is).walked;
    told = c.in_ok-walk_answer-in-Some.ensures;
  });
}
