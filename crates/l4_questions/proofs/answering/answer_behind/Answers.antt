use Rattle.std.proofs.Common.{◌++◌, ℕ, List, ap, subst, ◌∙◌}
use Rattle.l4_questions.specs.Answers.{endings_after}
use Rattle.l4_questions.specs.Inner.Counted.{last_lines_if}
use Rattle.l4_questions.specs.Printed.{endings_text, IsTold}
use Rattle.l4_questions.specs.Stuck.{asks_who_is_stuck, stuck_lines}
use Rattle.l4_stuck.specs.Stuck.{stuck_of}
use Rattle.l4_questions.proofs.Lists.{last_lines_are}
use Rattle.l4_questions.proofs.StuckThreads.{all_stuck}
use Rattle.l4_questions.proofs.answering.answer_behind.Goals as goal

pub lines_behind-requires : goal.lines_behind-requires
lines_behind-requires g c =
    let stuck = c.in_ok-stuck.stuck in
    all_stuck (asks_who_is_stuck c.args.question.now) stuck.is_whole c.args.machine.now
    c.args.question.now stuck.threads.items c.in_ok-stuck.ensures

pub returns : goal.returns
returns g c = λ shown expected traces any had found.
    let m = c.args.machine.now in
    let q = c.args.question.now in
    let looked = c.args.looked.now in
    let stuck = c.in_ok-stuck.stuck in
    let answer = c.into_answer-answer.result in
    let endings = endings_after m traces in
    record {
      lawful = c.requires.lawful;
      traces = traces;
      worlds = looked.worlds;
      depth = looked.depth;
      is_whole = looked.is_whole;
      searched = found;
      stuck = stuck_of stuck.threads.items;
      is_stuck_whole = stuck.is_whole;
      stuck_are = c.in_ok-stuck.ensures;
      told_status = answer.status;
      told =
          subst (λ (last : List ℕ). IsTold q shown expected endings last looked.is_whole
          (endings_text shown q endings ++ answer.lines.items) answer.unmet.items answer.status)
          (c.in_ok-lines.ensures
          ∙ ap (λ last. stuck_lines m (stuck_of stuck.threads.items) stuck.is_whole ++ last)
          (ap (λ b. last_lines_if b looked.worlds looked.depth looked.is_whole) any
          ∙ last_lines_are traces looked.worlds looked.depth looked.is_whole))
          (c.into_answer-answer.ensures shown expected endings had);
      status_is = c.stuck_status.ensures;
    }
