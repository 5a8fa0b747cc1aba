use Rattle.std.proofs.Common.{arith}
use Rattle.std.proofs.lemmas.Result.{err_from_is_err_and}
use Rattle.l4_words.specs.Lines.{parts_of}
use Rattle.l4_script.specs.Inner.Second.{stage_of}
use Rattle.l4_script.specs.Second.Texts.{Start, read}
use Rattle.l4_script.proofs.SecondReadingLines.{goes_on, stops}
use Rattle.l4_script.proofs.text.second.read.Goals as goal

pub lines-preserved : goal.lines-preserved
lines-preserved c =
    record {
      whole = goes_on c.in-Some.line.now c.in-Some.others.now (parts_of c.lines.rest.now) (stage_of c.lines.stage) c.lines.number (read (parts_of c.args.text.now) Start 1) c.in-Some.ensures.parts c.lines.invariant.whole (stage_of c.read_line_at.new.self) c.in_ok-read_line_at.ensures;
      counted = omega (arith, c.lines.invariant.counted, c.in-Some.ensures.shorter);
    }

pub returns-in_err-read_line_at : goal.returns-in_err-read_line_at
returns-in_err-read_line_at c =
    let p = err_from_is_err_and c.from_residual.result c.from_residual.ensures.1 in
    rw (p.1, p.2) (stops c.in-Some.line.now c.in-Some.others.now (parts_of c.lines.rest.now) (stage_of c.lines.stage) c.lines.number (read (parts_of c.args.text.now) Start 1) c.in-Some.ensures.parts c.lines.invariant.whole c.in_err-read_line_at.field-0.0 c.in_err-read_line_at.ensures)
