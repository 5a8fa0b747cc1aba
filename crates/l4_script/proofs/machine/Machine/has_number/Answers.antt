use Rattle.std.proofs.Common.{◌∙◌, ap}
use Rattle.l4_script.specs.Machines.{is_taken, machine_with}
use Rattle.l4_script.specs.Inner.Places.{place_by}
use Rattle.l4_script.proofs.Finding.{taken}
use Rattle.l4_script.proofs.machine.Machine.has_number.Goals as goal

pub returns : goal.returns
returns c =
    let m = machine_with c.self.inside.retargeting c.self.inside.cpus c.self.inside.threads.items in
    c.is_some.ensures ∙ taken (place_by c.self.inside.places) m c.self.invariant.1 c.args.number c.get.result c.get.ensures ∙ ap (is_taken c.args.number) c.self.view_is
