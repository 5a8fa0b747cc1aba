use Rattle.l4_script.specs.Versions.{machine_of_text}
use Rattle.l4_jobs.specs.Jobs.{IsInLinesFor}
use Rattle.l4_jobs.specs.Outputs.{output_of}
use Rattle.l4_jobs.proofs.Making.{faulty_done, told_done}
use Rattle.l4_jobs.proofs.jobs.done_of.Goals as goal
use Rattle.l4_jobs.proofs.jobs.done_of.Goals.{in-Ok+in_ok-done-in-Ok, in-Err+in_ok-done-in-Err}

pub returns-clause-ok : goal.returns-clause-ok
returns-clause-ok g c =
    let job = c.args.job.now in
    let text = c.args.text.now in
    let machine = machine_of_text text in
    let second = g.S.Source.gives c.args.second.now in
    let expects = g.X.Source.gives c.args.expects.now in
    let is : IsInLinesFor job text machine second expects (output_of c.match-parse.done) =
    elim c.match-parse.branch [
      | in-Ok+in_ok-done-in-Ok w ↦ rw (w.done-is, w.in-Ok.ensures) w.in_ok-done-in-Ok.ensures.ok
      | in-Err+in_ok-done-in-Err w ↦
          let done = w.in_ok-done-in-Err.ensures in
          rw w.done-is (faulty_done job text machine w.in-Err.fault second expects _ w.in-Err.ensures done.ok done.declared)
    ] in
    told_done job text machine second expects (output_of c.match-parse.done) (output_of c.in_ok-told_done.field-0) is c.in_ok-told_done.ensures
