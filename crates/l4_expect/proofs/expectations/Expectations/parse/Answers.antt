use Rattle.std.proofs.Common.{◌+◌, arith}
use Rattle.std.proofs.lemmas.Result.{err_from_is_err_and}
use Rattle.l4_expect.specs.Expected.{expectations_of}
use Rattle.l4_expect.proofs.Reading.{goes_on, stops}
use Rattle.l4_expect.proofs.expectations.Expectations.parse.Goals as goal

pub lines-preserved : goal.lines-preserved
lines-preserved c =
    let scope = c.args.scope in
    record {
      whole = goes_on scope (c.lines.before + 1) c.lines.expected c.read_line.new.self
          c.in-Some.line.now c.in-Some.rest.now c.lines.left.now
          (expectations_of scope c.args.text.now) c.in-Some.ensures.parts c.lines.invariant.whole
          c.in_ok-read_line.ensures.ok;
      within = omega (arith, c.lines.invariant.within, c.in-Some.ensures.shorter);
    }

pub returns-in_err-read_line-clause-err : goal.returns-in_err-read_line-clause-err
returns-in_err-read_line-clause-err c =
    let p = err_from_is_err_and c.from_residual.result c.from_residual.ensures.1 in
    let scope = c.args.scope in
    rw (p.1, p.2)
    (stops scope (c.lines.before + 1) c.lines.expected c.in-Some.line.now c.in-Some.rest.now
    c.lines.left.now (expectations_of scope c.args.text.now) c.in_err-read_line.field-0.0
    c.in-Some.ensures.parts c.lines.invariant.whole c.in_err-read_line.ensures.err)
