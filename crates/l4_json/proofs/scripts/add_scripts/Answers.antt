use Rattle.std.proofs.Common.{◌∙◌, arith}
use Rattle.l4_json.proofs.Adding.{one_more}
use Rattle.l4_json.proofs.scripts.add_scripts.Goals as goal

pub threads-preserved : goal.threads-preserved
threads-preserved c =
    one_more (λ v. v.items) c.threads.scripts.items c.push.new.self.items c.in_ok-from_slice.field-0 c.args.count c.args.lines.now (omega (arith, c.threads-test.true, c.len.ensures)) c.in_ok-from_slice.ensures.items c.in_ok-push.ensures.items
    ∙ c.threads.invariant
