use Rattle.std.proofs.Common.{ℕ, ◌<◌}
use Rattle.std.proofs.lemmas.List.Elements.{All-same}
use Rattle.tcb_arena.proofs.Leaving.{below-names, left-place}
use Rattle.tcb_arena.proofs.iter.Blocks.new.Goals as goal

pub returns-clause-names : goal.returns-clause-names
returns-clause-names c = left-place c.args.rings.now c.first.result c.args.head 0 c.first.ensures.sound c.first.ensures.first

pub returns-clause-below : goal.returns-clause-below
returns-clause-below c =
    let s = c.args.rings.now in
    All-same (λ (name : ℕ). name < s.names) _ _ (left-place s c.first.result c.args.head 0 c.first.ensures.sound c.first.ensures.first)
    (below-names s c.args.head c.first.ensures.sound)
