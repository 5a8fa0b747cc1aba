use Rattle.std.proofs.Common.{Some, ap, subst, sym, ◌∙◌}
use Rattle.l4_core_model.specs.Runs.{opening_system}
use Rattle.l4_explore.specs.Tries.{State}
use Rattle.l4_states.specs.Choices.{state_in}
use Rattle.l4_parts.specs.Inner.Rows.{AreNumbers, IsRowIn}
use Rattle.l4_endings.proofs.Finding.{all_ok, opening_in, row_numbers}
use Rattle.l4_endings.proofs.memory.Memory.opening.Goals as goal

pub state_of-requires : goal.state_of-requires
state_of-requires c =
    let i = c.self.invariant in
    let m = c.self.inside.aims in
    subst (λ ps. AreNumbers ps c.deref-2.result.now c.cpus.result) (sym c.deref.ensures.value)
    (subst (λ row. AreNumbers c.self.inside.parts.parts.items row c.cpus.result) (sym c.deref-2.ensures.value)
    (row_numbers m (opening_system m) c.self.inside.parts.parts.items c.self.inside.opening.items
    c.cpus.result c.cpus.ensures.value i.opening_is))

pub returns : goal.returns
returns c =
    let i = c.self.invariant in
    let m = c.self.inside.aims in
    all_ok _ _ (λ r is. ap (λ (s : State). Some s) (ap (λ n. state_in n (opening_system n)) (sym c.self.view_is) ∙ sym is))
    c.state_of.result
    (c.state_of.ensures m (opening_system m)
    (subst (λ ps. IsRowIn m (opening_system m) ps c.deref-2.result.now c.cpus.result) (sym c.deref.ensures.value)
    (subst (λ row. IsRowIn m (opening_system m) c.self.inside.parts.parts.items row c.cpus.result)
    (sym c.deref-2.ensures.value)
    (opening_in m c.self.inside.parts.parts.items c.self.inside.opening.items c.cpus.result
    i.machine c.cpus.ensures.value i.known.parts_are i.opening_is))))
