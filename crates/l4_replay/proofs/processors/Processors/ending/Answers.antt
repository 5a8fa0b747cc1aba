use Rattle.std.proofs.Common.{refl, rules}
use Rattle.l4_replay.proofs.processors.Processors.ending.Goals as goal

pub returns-then-are_at_rest : goal.returns-then-are_at_rest
returns-then-are_at_rest c = let rest = c.are_at_rest.ensures.0 (search rules) in (λ e. rest, λ r. refl)

pub returns-else-are_at_rest : goal.returns-else-are_at_rest
returns-else-are_at_rest c = (
  λ e. absurd cc,
  λ rest. absurd (let is = c.are_at_rest.ensures.1 rest in let other = c.if-are_at_rest.false in cc),
)
