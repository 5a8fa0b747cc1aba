use Rattle.std.proofs.Common.{◌≤◌, arith}
use Rattle.l4_questions.proofs.Walks.{placed_walked_by}
use Rattle.l4_questions.proofs.placed_walked.placed_walked_ending.Goals as goal

pub returns : goal.returns
returns g c = λ entries is.
    let near : c.min.result ≤ c.args.question.now.depth = omega (arith, c.min.ensures, c.requires.depth) in
    placed_walked_by c.args.machine.now c.args.question.now c.min.result entries c.requires.lawful c.in-NoEnding.is near
    (c.in_ok-walked.ensures entries is)
