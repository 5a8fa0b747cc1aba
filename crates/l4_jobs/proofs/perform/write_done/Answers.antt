use Rattle.std.proofs.Common.{◌≡◌, Option, ap, false, refl, subst}
use Rattle.std.specs.Option.{option_map}
use Rattle.l4_jobs.specs.Outputs.{output_of}
use Rattle.l4_jobs.specs.Performing.{sinks}
use Rattle.l4_jobs.specs.declared.done.Kept.{Kept}
use Rattle.l4_jobs.specs.declared.fault.Fault.TheVariants as fault
use Rattle.l4_jobs.proofs.Performed.{not_kept}
use Rattle.l4_jobs.proofs.perform.write_done.Goals as goal

pub returns-in-Err : goal.returns-in-Err
returns-in-Err g c =
    let keeps = g.L.Records.keeps c.args.records.now c.keep.new.self in
    not_kept (output_of c.args.done.now)
    (sinks keeps (c.keep.new.self ≡ c.args.records.now) (g.W.Sink.takes c.args.out.now c.args.out.now) (c.args.out.now ≡ c.args.out.now)
    (g.E.Sink.takes c.args.faults.now c.report.new.faults) (c.report.new.faults ≡ c.args.faults.now)) _ (fault.Unwritten c.in-Some.kept.name) c.report.result
    (ap (λ (list : Option Kept). option_map (λ (kept : Kept). (kept.name.now, kept.text.items)) list) c.in-Some.is) refl
    (subst (λ text. keeps c.in-Some.kept.name.now text false) c.as_slice.ensures.value c.in-Err.ensures) refl c.report.ensures.told c.report.ensures.status
