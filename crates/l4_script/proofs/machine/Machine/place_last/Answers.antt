use Rattle.std.proofs.Common.{◌≡◌, ◌-◌, ◌<◌, length, subst, sym, ap, arith}
use Rattle.l4_model.specs.Machine.{Declaration, Machine}
use Rattle.l4_script.specs.Machines.{machine_with}
use Rattle.l4_script.specs.Inner.Places.{place_by}
use Rattle.l4_script.proofs.Growing.{found-changed, lawful-changed}
use Rattle.l4_script.proofs.machine.Machine.place_last.Goals as goal

pub invariant_of-self : goal.invariant_of-self
invariant_of-self c =
    let old : Machine = machine_with c.self.inside.retargeting c.self.inside.cpus c.self.inside.threads.items in
    let some : 0 < length old.threads = subst (λ (m : Machine). 0 < length m.threads) (sym c.self.view_is) c.requires in
    let last : c.len-last.result - 1 < length old.threads = omega (arith, c.self.inside.threads.ok.0) in
    let before : Declaration = c.index_mut-thread.result.now in
    let there = c.index_mut-thread.ensures.value in
    let kept : (c.place.new.self.id ≡ before.id) × (c.place.new.self.cpu ≡ before.cpu) = (ap (λ (d : Declaration). d.id) c.place.ensures, ap (λ (d : Declaration). d.cpu) c.place.ensures) in (
      lawful-changed old (c.len-last.result - 1) before c.place.new.self last there kept c.self.invariant.0,
      found-changed old (c.len-last.result - 1) before c.place.new.self last there kept (place_by c.self.inside.places) c.self.invariant.1,
    )
