use Rattle.std.proofs.Common.{[], ◌∙◌, ap, sym, get_or}
use Rattle.l4_model.specs.World.{is_in}
use Rattle.tcb_arena.specs.Inner.Rings.{Lists}
use Rattle.tcb_arena.proofs.Changes.{popped_some}
use Rattle.tcb_arena.proofs.Lists.{is_in-without_self, get_or-without}
use Rattle.tcb_arena.proofs.links.Rings.pop_first.Goals as goal

pub returns-clause-rest : goal.returns-clause-rest
returns-clause-rest c =
    c.take_out.ensures ∙ popped_some c.args.self.now c.args.head c.in_ok-first.first c.first.ensures.sound (sym c.first.ensures.first ∙ c.in_ok-first.was)

pub returns-clause-gone : goal.returns-clause-gone
returns-clause-gone c =
    let x = c.in_ok-first.first in
    let lists = c.args.self.now.lists in
    ap (λ (s : Lists). is_in x (get_or s.lists c.args.head [])) c.take_out.ensures ∙ ap (is_in x) (get_or-without x c.args.head lists) ∙ is_in-without_self x (get_or lists c.args.head [])
