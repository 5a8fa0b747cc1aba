use Rattle.std.proofs.Common.{ℕ, ◌+◌, ◌<◌}
use Rattle.std.proofs.lemmas.List.Elements.{All-drop, All-same}
use Rattle.tcb_arena.specs.Inner.Rings.{list_at}
use Rattle.tcb_arena.proofs.Leaving.{below-names, left-place}
use Rattle.tcb_arena.proofs.Once.{get-in-any}
use Rattle.tcb_arena.proofs.iter.Blocks.behind.Goals as goal

pub invariant_of-result : goal.invariant_of-result
invariant_of-result c =
    let at = get-in-any c.args.block c.args.rings.now.lists c.requires.there in
    record { sound = c.after.ensures.sound; head = at.0; place = at.1 + 1; next_is = c.after.ensures.after at.0 at.1 at.2 }

pub returns-clause-names : goal.returns-clause-names
returns-clause-names c = λ head place at.
    left-place c.args.rings.now c.after.result head (place + 1) c.after.ensures.sound (c.after.ensures.after head place at)

pub returns-clause-below : goal.returns-clause-below
returns-clause-below c =
    let s = c.args.rings.now in
    let at = get-in-any c.args.block s.lists c.requires.there in
    All-same (λ (name : ℕ). name < s.names) _ _ (left-place s c.after.result at.0 (at.1 + 1) c.after.ensures.sound (c.after.ensures.after at.0 at.1 at.2))
    (All-drop (λ (name : ℕ). name < s.names) (at.1 + 1) (list_at s at.0) (below-names s at.0 c.after.ensures.sound))
