use Rattle.std.proofs.Common.{ap, inl, refl, sym}
use Rattle.l4_jobs.specs.declared.fault.Fault.TheVariants as fault
use Rattle.l4_c.specs.Answers.{told_fault}
use Rattle.l4_c.specs.declared.Lengths.{Lengths}
use Rattle.l4_c.proofs.Putting.{put_nothing}
use Rattle.l4_c.proofs.l4emu_perform.Goals as goal

pub returns-in-Err : goal.returns-in-Err
returns-in-Err c = (
  told_fault fault.NoMemory,
  inl refl,
  sym (put_nothing c.args.out.now),
  c.put-in-Err.ensures.put,
  sym (put_nothing c.args.recorded.now),
  ap (λ count. (let lengths : Lengths = record { out = 0; faults = count; recorded = 0 } in lengths)) c.put-in-Err.ensures.count,
  refl,
)
