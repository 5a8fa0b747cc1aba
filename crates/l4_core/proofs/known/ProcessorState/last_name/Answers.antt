use Rattle.std.proofs.Common.{◌<◌, sym, subst}
use Rattle.l4_core.proofs.Sending.{counted}
use Rattle.l4_core.proofs.known.ProcessorState.last_name.Goals as goal

pub unwrap-requires : goal.unwrap-requires
unwrap-requires c =
    let core = c.facts.ensures.core in
    let positive = counted _ _ _ (core.settled.sent c.args.place) c.requires.sends in
    c.new.ensures.when.1 (subst (λ n. 0 < n) (sym c.begun.ensures) positive)
