use Rattle.l4_jobs.proofs.Linting.{file_told}
use Rattle.l4_jobs.proofs.lints.write_named_faults.Goals as goal

pub returns-clause-ok : goal.returns-clause-ok
returns-clause-ok g c =
    file_told c.args.machine.now (g.L.Source.gives c.args.list.now) _ _ _ _ _ c.in_ok-text.ensures.ok c.as_slice.ensures.value
    c.in_ok-write_file_faults.ensures.ok c.in_ok-write_file_faults.ensures.none
