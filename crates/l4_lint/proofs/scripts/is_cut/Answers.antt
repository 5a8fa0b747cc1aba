use Rattle.std.proofs.Common.{◌∙◌}
use Rattle.l4_lint.proofs.Ways.{cut_by}
use Rattle.l4_lint.proofs.scripts.is_cut.Goals as goal

pub returns-then-place-script : goal.returns-then-place-script
returns-then-place-script c =
    c.is_shorter.ensures ∙ cut_by c.args.register c.args.script.now c.args.place c.next_tag.result c.next_tag.ensures
