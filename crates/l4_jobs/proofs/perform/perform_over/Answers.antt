use Rattle.std.proofs.Common.{◌≡◌, inr, refl}
use Rattle.l4_jobs.specs.Outputs.{output_of}
use Rattle.l4_jobs.specs.Performing.{sinks}
use Rattle.l4_jobs.proofs.Making.{done_given}
use Rattle.l4_jobs.proofs.Performed.{fault_told}
use Rattle.l4_jobs.proofs.perform.perform_over.Goals as goal

pub returns-in-Ok-done_for_text-clause-performed : goal.returns-in-Ok-done_for_text-clause-performed
returns-in-Ok-done_for_text-clause-performed g c =
    let o = output_of c.in-Ok-done_for_text.done in
    let done =
    done_given c.args.job.now (g.M.Source.gives c.args.machine.now) (g.S.Source.gives c.args.second.now) (g.X.Source.gives c.args.expects.now) c.in-Ok.text.items
    c.as_slice-text.result.now o c.in-Ok.ensures.ok c.as_slice-text.ensures.value c.in-Ok-done_for_text.ensures.ok in
    inr (o, done, c.write_done.ensures)

pub returns-clause-performed : goal.returns-clause-performed
returns-clause-performed g c =
    let keeps = g.L.Records.keeps c.args.records.now c.args.records.now in
    let out = g.W.Sink.takes c.args.out.now c.args.out.now in
    let faults = g.E.Sink.takes c.args.faults.now c.tell-in-Err-done_for_text.new.faults in
    fault_told c.args.explains c.args.job.now (g.M.Source.gives c.args.machine.now) (g.S.Source.gives c.args.second.now) (g.X.Source.gives c.args.expects.now)
    c.file-file.result.now c.in-Ok.text.items c.as_slice-text.result.now c.in-Err-done_for_text.fault
    (sinks keeps (c.args.records.now ≡ c.args.records.now) out (c.args.out.now ≡ c.args.out.now) faults
    (c.tell-in-Err-done_for_text.new.faults ≡ c.args.faults.now)) c.tell-in-Err-done_for_text.result c.file-file.ensures c.in-Ok.ensures.ok
    c.as_slice-text.ensures.value c.in-Err-done_for_text.ensures.err refl refl c.tell-in-Err-done_for_text.ensures.told c.tell-in-Err-done_for_text.ensures.status
