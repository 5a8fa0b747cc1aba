use Rattle.std.proofs.Common.{◌≡◌, List, [], ◌++◌, map, sym, ap, ◌∙◌, ⊎_elim, append-nil}
use Rattle.std.specs.Iterator.Adapters.{zip_first, zip_second}
use Rattle.l4_mail.specs.declared.ports.Port.{Port}
use Rattle.l4_proc.proofs.Rested.{no_more_ports, none_left, port_of}
use Rattle.l4_proc.proofs.resting.join.Goals as goal

pub returns-clause-ports : goal.returns-clause-ports
returns-clause-ports c =
    let i = c.loop-port.invariant in
    let it = c.loop-port.port-iterator in
    let none : (zip_first it).rest.items ≡ [] = ⊎_elim
    (λ h. none_left (zip_first it).rest h.1.0)
    (λ h. no_more_ports (zip_first it).rest.items (zip_second it).rest.items i.whole (none_left (zip_second it).rest h.1.0))
    c.in-None.ensures.steps in
    sym (append-nil (map port_of c.loop-port.processors.items)) ∙ ap (λ (ls : List Port). map port_of c.loop-port.processors.items ++ ls) (sym none) ∙ i.ports
