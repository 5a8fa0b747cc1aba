use Rattle.std.proofs.Common.{map, ◌∙◌, arith}
use Rattle.l4_script.specs.Inner.Scripts.{instr_of}
use Rattle.l4_sets.specs.Inner.Aimed.{nobody}
use Rattle.l4_sets.proofs.Aiming.{settled_on}
use Rattle.l4_sets.proofs.Gathering.{any_end}
use Rattle.l4_sets.proofs.aims.are_settled.Goals as goal

pub loop-place-preserved : goal.loop-place-preserved
loop-place-preserved c =
    settled_on c.args.machine.now (map instr_of c.args.script.now) c.args.aims.now c.loop-place.place
    c.aim_due.result (c.is.ensures c.if-not-is.false ∙ c.index-aims-place.is
    ∙ any_end c.args.aims.now c.loop-place.place c.index-aims-place.result nobody
    (omega (arith, c.loop-place-test.true, c.requires.each))) c.loop-place.invariant c.aim_due.ensures.own c.aim_due.ensures.behind
