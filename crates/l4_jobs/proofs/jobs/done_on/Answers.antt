use Rattle.l4_jobs.proofs.Linting.{none_faulty}
use Rattle.l4_jobs.proofs.jobs.done_on.Goals as goal

pub list_lint_done-requires : goal.list_lint_done-requires
list_lint_done-requires g c = none_faulty c.args.text.now c.args.machine.now c.requires.parsed
