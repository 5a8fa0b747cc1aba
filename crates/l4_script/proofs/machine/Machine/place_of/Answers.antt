use Rattle.std.proofs.Common.{◌≡◌, ◌∙◌, sym, ap, arith}
use Rattle.std.proofs.lemmas.List.{get_or_read}
use Rattle.l4_model.specs.Machine.{Declaration, Machine, place_of}
use Rattle.l4_core_model.specs.Local.{declared, undeclared}
use Rattle.l4_script.specs.Machines.{machine_with}
use Rattle.l4_script.specs.Inner.Places.{place_by}
use Rattle.l4_script.proofs.Finding.{no_place, other_version}
use Rattle.l4_script.proofs.machine.Machine.place_of.Goals as goal

pub returns-in_err-place : goal.returns-in_err-place
returns-in_err-place c =
    let m = machine_with c.self.inside.retargeting c.self.inside.cpus c.self.inside.threads.items in
    let places = place_by c.self.inside.places in
    let none = ap places (sym c.number.ensures) ∙ sym c.in_err-place.ensures in
    c.from_residual.ensures ∙ sym (no_place places m c.self.invariant.1 c.args.id none) ∙ ap (λ (m : Machine). place_of m c.args.id) c.self.view_is

pub index-requires : goal.index-requires
index-requires c = omega (arith, (c.self.invariant.1.only c.number.result c.in_ok-place.place (sym c.in_ok-place.ensures)).0, c.self.inside.threads.ok.0)

pub returns-else-version : goal.returns-else-version
returns-else-version c =
    let m = machine_with c.self.inside.retargeting c.self.inside.cpus c.self.inside.threads.items in
    let places = place_by c.self.inside.places in
    let place = c.in_ok-place.place in
    let there = ap places (sym c.number.ensures) ∙ sym c.in_ok-place.ensures in
    let within = (c.self.invariant.1.only c.args.id.number place there).0 in
    let thread : c.index.result.now ≡ declared m place = get_or_read m.threads place c.index.result.now within c.index.ensures undeclared in
    let version : c.version.result ≡ (declared m place).id.version = c.version.ensures.value ∙ ap (λ (d : Declaration). d.id.version) (c.behind-self.view_is ∙ thread) in
    let none = other_version places m c.self.invariant.1 c.args.id place there (λ same. omega (arith, c.if-version.false, version, same, c.version-2.ensures.value)) in
    sym none ∙ ap (λ (m : Machine). place_of m c.args.id) c.self.view_is
