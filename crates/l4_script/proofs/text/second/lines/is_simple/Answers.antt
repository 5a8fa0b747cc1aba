use Rattle.std.proofs.Common.{◌∙◌}
use Rattle.std.proofs.lemmas.List.{at_drop_all}
use Rattle.l4_script.proofs.SimpleLines.{is_simple_left, simple_line}
use Rattle.l4_script.proofs.text.second.lines.is_simple.Goals as goal

pub returns : goal.returns
returns c = λ h.
    let line = c.args.line.now in
    simple_line line (c.loop-byte.invariant ∙ at_drop_all (is_simple_left c.loop-byte.begins) line c.loop-byte.byte-index c.loop-byte-test.false ∙ h)
