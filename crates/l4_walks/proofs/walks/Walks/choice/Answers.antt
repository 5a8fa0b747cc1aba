use Rattle.std.proofs.Common.{◌≡◌, ◌<◌, arith, length, subst}
use Rattle.std.proofs.Math.Nat.{mod-lt}
use Rattle.std.specs.Prelude.{◌%◌}
use Rattle.l4_walks.proofs.Picks.{one_tried}
use Rattle.l4_walks.proofs.walks.Walks.choice.Goals as goal

pub returns-clause-choice : goal.returns-clause-choice
returns-clause-choice c =
    let o = c.args.outlook.now in
    let some : 0 < c.len.result = grind (arith, c.is_empty.ensures, c.if-is_empty.false, c.len.ensures) in
    let long : c.len.result ≡ length c.in_ok-choices.choices.items
    = grind (arith, c.len.ensures, c.in_ok-choices.choices.ok) in
    one_tried o.machine o.world c.in_ok-choices.choices.items _ _ c.index.result.now
    c.in_ok-choices.ensures
    (subst (λ n. c.next_word.result % c.len.result < n) long (mod-lt c.next_word.result some))
    c.index.ensures
