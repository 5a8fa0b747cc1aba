use Rattle.std.proofs.Common.{ap, sym, ◌∙◌, arith}
use Rattle.std.proofs.lemmas.Grind.{common_steps}
use Rattle.std.proofs.lemmas.Option.{gets}
use Rattle.std.specs.Option.{option_map}
use Rattle.l4_model.specs.Machine.{Declaration}
use Rattle.l4_script.proofs.Finding.{none_declared, declared_at}
use Rattle.l4_audit.proofs.found.cpu_of.Goals as goal

pub returns-in_err-place : goal.returns-in_err-place
returns-in_err-place c =
    c.from_residual.ensures ∙ sym (ap (option_map (λ (d : Declaration). d.cpu)) (none_declared c.args.machine.now c.args.id (sym c.place_of.ensures ∙ c.in_err-place.was)))

pub returns : goal.returns
returns c =
    let at = declared_at c.args.machine.now c.args.id c.in_ok-place.place (sym c.place_of.ensures ∙ c.in_ok-place.was) in
    rw at (grind (arith, common_steps, gets))
