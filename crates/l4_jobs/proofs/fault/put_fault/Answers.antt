use Rattle.std.proofs.Common.{sym}
use Rattle.l4_jobs.proofs.Parted.{parted}
use Rattle.l4_jobs.proofs.fault.put_fault.Goals as goal

pub returns-in-Schedule : goal.returns-in-Schedule
returns-in-Schedule g c = rw c.in-Schedule.is (rw (sym c.format-in-Schedule.ensures.text) c.put_line-in-Schedule.ensures)

pub returns-in-Trace : goal.returns-in-Trace
returns-in-Trace g c = rw c.in-Trace.is (rw (sym c.format-in-Trace.ensures.text) c.put_line-in-Trace.ensures)

pub returns-in-Read : goal.returns-in-Read
returns-in-Read g c = rw c.in-Read.is c.put_line-in-Read.ensures

pub returns-in-Condition : goal.returns-in-Condition
returns-in-Condition g c =
    rw c.in-Condition.is
    (rw (sym c.format-in-Condition.ensures.text, sym c.spelled_wrong-wrong-in-Condition.ensures, parted c.format-in-Condition.result.now c.spelled_wrong-wrong-in-Condition.result.now) c.put_line-in-Condition.ensures)
