use Rattle.std.proofs.Common.{ℕ, ◌<◌, List, length, Option, Some, ap, sym, ◌∙◌, arith}
use Rattle.l4_model.specs.Machine.{Instr, Declaration}
use Rattle.l4_script.specs.Second.Texts.{placed_at}
use Rattle.l4_script.proofs.PlacedItems.{placed_item}
use Rattle.l4_script.proofs.machine.Declaration.place.Goals as goal

pub returns-then-at-len : goal.returns-then-at-len
returns-then-at-len c =
    let d = c.self.inside in
    let old = c.args.self.now in
    let within : c.args.at < length d.script.items = omega (arith, d.script.ok.0) in
    let script = placed_item d.script.items c.args.at c.in-Some.place c.index_mut.result.now c.set_place.new.self within c.index_mut.ensures.value c.set_place.ensures in
    ap (λ (s : List Instr). let it : Declaration = record { id = d.id; cpu = d.cpu; space = d.space; script = s } in it) script
    ∙ ap (λ (d : Declaration). record d { script = placed_at c.args.at (Some c.in-Some.place) d.script }) c.self.view_is
    ∙ ap (λ (o : Option ℕ). record old { script = placed_at c.args.at o old.script }) (sym c.in-Some.is)
