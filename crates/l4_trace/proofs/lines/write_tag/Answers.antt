use Rattle.std.proofs.Common.{false, arith}
use Rattle.std.proofs.lemmas.Fmt.{hex_one_digit}
use Rattle.l4_trace.proofs.lines.write_tag.Goals as goal

pub returns-then-tag-eq0-clause-written : goal.returns-then-tag-eq0-clause-written
returns-then-tag-eq0-clause-written c = rw (c.if-tag-eq0.true, hex_one_digit false 0 (omega arith)) c.write_bytes.ensures.written
