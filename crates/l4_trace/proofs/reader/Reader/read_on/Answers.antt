use Rattle.std.proofs.Common.{[], ◌+◌, length, arith}
use Rattle.std.proofs.lemmas.Result.{err_from_is_err_and}
use Rattle.l4_trace.proofs.ReadingOn.{here, one_more, ended, stopped, next_line, none_left}
use Rattle.l4_trace.proofs.reader.Reader.read_on.Goals as goal

pub lines-init : goal.lines-init
lines-init c = ([], here _)

pub returns-in_err-next : goal.returns-in_err-next
returns-in_err-next c =
    let p = err_from_is_err_and c.from_residual.result c.from_residual.ensures.1 in
    let e = c.in_err-next.ensures in
    let i = c.lines.invariant in
    let counted = i.1.counted in
    rw (p.1, p.2, e.0) (length i.0 + 1, stopped _ c.lines.reader i.0 1 i.1 e.1, omega arith)

pub lines-preserved : goal.lines-preserved
lines-preserved c =
    let i = c.lines.invariant in (
      _,
      one_more _ c.lines.reader c.next.new.self i.0 _ i.1 (next_line c.lines.reader c.next.new.self _ _ c.in_ok-next.ensures c.in-Some.is),
    )

pub returns : goal.returns
returns c =
    let i = c.lines.invariant in (i.0, ended _ c.lines.reader i.0 i.1 (none_left c.lines.reader _ _ c.in_ok-next.ensures c.in_default.is))
