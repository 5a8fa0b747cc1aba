use Rattle.std.proofs.Common.{length, arith, sym}
use Rattle.l4_states.specs.Inner.Codes.{local_code, sized}
use Rattle.l4_states.proofs.Reached.{reached_within}
use Rattle.l4_codes.proofs.Writing.{each_begun, each_over}
use Rattle.l4_parts.proofs.Composing.{core_told}
use Rattle.l4_parts.proofs.rows.put_cores.Goals as goal

pub loop-cpu-init : goal.loop-cpu-init
loop-cpu-init c = λ m g i.
    each_begun (local_code (length m.threads)) m.cpus g.locals c.args.code.now c.put.new.self
    (reached_within m g i.machine i.reached).locals c.in_ok-put.ensures

pub loop-cpu-preserved : goal.loop-cpu-preserved
loop-cpu-preserved c = λ m g i.
    core_told m g c.args.parts.now c.args.row.now c.args.cpus i c.loop-cpu.cpu m.cpus
    c.args.code.now c.loop-cpu.code c.append.new.self c.part.result.now
    (sym (reached_within m g i.machine i.reached).locals) (omega (arith, c.loop-cpu-test.true))
    c.part.ensures c.in_ok-append.ensures (c.loop-cpu.invariant m g i)

pub returns : goal.returns
returns c = λ m g i.
    each_over (local_code (length m.threads))
    (sized m.cpus (local_code (length m.threads)) g.locals) g.locals c.loop-cpu.cpu
    c.args.code.now c.loop-cpu.code
    (omega (arith, c.loop-cpu-test.false, i.cpus_are, (reached_within m g i.machine i.reached).locals))
    (c.loop-cpu.invariant m g i)
