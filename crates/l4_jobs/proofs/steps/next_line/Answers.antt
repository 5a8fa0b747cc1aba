use Rattle.std.proofs.Common.{ℕ, ◌<◌, subst}
use Rattle.l4_jobs.proofs.Holding.{given, there}
use Rattle.l4_jobs.proofs.steps.next_line.Goals as goal

pub returns-in-Ok-clause-line : goal.returns-in-Ok-clause-line
returns-in-Ok-clause-line g c =
    given _ _ _ _ c.new-line.ensures.items (subst (λ (n : ℕ). 0 < n) c.read_until.new.buf.ok.0 (there c.in-Ok.field-0 _ _ c.in-Ok.ensures.ok c.new-line.ensures.len c.in-Ok.field-0-test.1))
    c.in-Ok.ensures.bytes c.in-Ok.ensures.rest
