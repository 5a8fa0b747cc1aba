use Rattle.std.proofs.Common.{arith, sym, ◌∙◌}
use Rattle.std.proofs.lemmas.Bool.{eq-eqb}
use Rattle.l4_machine.proofs.InLogs.{found_here}
use Rattle.l4_machine.proofs.merging.place_of.Goals as goal

pub returns-then-cpu : goal.returns-then-cpu
returns-then-cpu c =
    let p = c.index-processors-place.result in
    found_here c.args.cpu c.args.processors.now c.loop-place.place p (omega arith) c.index-processors-place.is
    (eq-eqb p.worker.core.cpu c.args.cpu (sym c.cpu.ensures ∙ c.if-cpu.true)) c.loop-place.invariant
