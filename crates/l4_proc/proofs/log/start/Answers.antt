use Rattle.std.proofs.Common.{◌≡◌, ◌∙◌, ◌-◌, suc, ap, arith}
use Rattle.l4_proc.specs.Ends.{start_of}
use Rattle.l4_proc.proofs.Ends.{start_at}
use Rattle.l4_proc.proofs.log.start.Goals as goal

pub returns-else-i-eq0 : goal.returns-else-i-eq0
returns-else-i-eq0 c =
    let next : suc (c.args.i - 1) ≡ c.args.i = omega arith in
    start_at c.args.ends.now.items 0 (c.args.i - 1) _ c.get.ensures ∙ ap (start_of 0 c.args.ends.now.items) next
