use Rattle.std.proofs.Common.{◌≡◌, false, inl, inr, refl, subst, true}
use Rattle.l4_commands.specs.declared.job.Job.TheVariants.{Endings}
use Rattle.l4_jobs.specs.Inputs.{gives_nothing}
use Rattle.l4_jobs.specs.Outputs.{output_of}
use Rattle.l4_jobs.specs.Performing.{asks_none, sinks}
use Rattle.l4_jobs.specs.Streaming.{IsStopFor}
use Rattle.l4_streams.specs.Streams.{GivenGives}
use Rattle.l4_jobs.proofs.Begun.{all_written, search_stopped}
use Rattle.l4_jobs.proofs.Performed.{fault_told}
use Rattle.l4_jobs.proofs.perform.perform_streamed.Goals as goal

pub returns-in-Ok-written_done : goal.returns-in-Ok-written_done
returns-in-Ok-written_done g c =
    let gives = g.F.Source.gives in
    let files = c.args.files.now in
    let takes = g.W.Sink.takes in
    let out = c.args.out.now in
    let left = output_of c.in-Ok-written_done.left in
    inl (all_written c.args.explains c.args.search.now (GivenGives gives files.machine) (GivenGives gives files.expects) c.in-Ok.text.items c.as_slice-text.result.now left
    (takes out c.written_done.new.out) (takes c.written_done.new.out c.write_lines.new.out) (takes out c.write_lines.new.out) (c.write_lines.new.out ≡ out)
    (g.E.Sink.takes c.args.faults.now c.write_lines.new.faults) (c.write_lines.new.faults ≡ c.args.faults.now) c.write_lines.result c.requires.streamed c.in-Ok.ensures.ok
    c.as_slice-text.ensures.value c.in-Ok-written_done.ensures.ok (λ front back all one two. g.met.W.Sink.joined _ _ _ front back all one two) c.write_lines.ensures)

pub returns-in-Err-Faulty : goal.returns-in-Err-Faulty
returns-in-Err-Faulty g c =
    let gives = g.F.Source.gives in
    let files = c.args.files.now in
    let search = c.args.search.now in
    let out = g.W.Sink.takes c.args.out.now c.written_done.new.out in
    let faults = g.E.Sink.takes c.args.faults.now c.tell-in-Err-Faulty.new.faults in
    let stop = subst (IsStopFor c.args.search.now c.as_slice-text.result.now (GivenGives gives files.expects) out (c.written_done.new.out ≡ c.args.out.now)) c.in-Err-Faulty.field-0-is
    c.in-Err-Faulty.ensures.err in
    inl (fault_told c.args.explains (Endings search) (GivenGives gives files.machine) gives_nothing (GivenGives gives files.expects) search.file.now c.in-Ok.text.items
    c.as_slice-text.result.now c.in-Err-Faulty.fault
    (sinks asks_none (Unit {0}) out (c.written_done.new.out ≡ c.args.out.now) faults (c.tell-in-Err-Faulty.new.faults ≡ c.args.faults.now)) c.tell-in-Err-Faulty.result refl
    c.in-Ok.ensures.ok c.as_slice-text.ensures.value stop.0 tt stop.1 c.tell-in-Err-Faulty.ensures.told c.tell-in-Err-Faulty.ensures.status)

pub returns-in-Err-NoMemory : goal.returns-in-Err-NoMemory
returns-in-Err-NoMemory g c =
    let gives = g.F.Source.gives in
    let files = c.args.files.now in
    let out = g.W.Sink.takes c.args.out.now c.written_done.new.out in
    let faults = g.E.Sink.takes c.args.faults.now c.report.new.faults in
    let stop = subst (IsStopFor c.args.search.now c.as_slice-text.result.now (GivenGives gives files.expects) out (c.written_done.new.out ≡ c.args.out.now)) c.in-Err-NoMemory.field-0-is
    c.in-Err-NoMemory.ensures.err in
    inr (search_stopped c.args.search.now (GivenGives gives files.machine) (GivenGives gives files.expects) c.in-Ok.text.items c.as_slice-text.result.now
    (sinks asks_none (Unit {0}) out (c.written_done.new.out ≡ c.args.out.now) faults (c.report.new.faults ≡ c.args.faults.now)) true c.report.result c.in-Ok.ensures.ok
    c.as_slice-text.ensures.value stop tt c.report.ensures.told c.report.ensures.status)

pub returns : goal.returns
returns g c =
    let gives = g.F.Source.gives in
    let files = c.args.files.now in
    let out = g.W.Sink.takes c.args.out.now c.written_done.new.out in
    let faults = g.E.Sink.takes c.args.faults.now c.report-in-Err-NotWritten.new.faults in
    let stop = subst (IsStopFor c.args.search.now c.as_slice-text.result.now (GivenGives gives files.expects) out (c.written_done.new.out ≡ c.args.out.now)) c.in-Err-NotWritten.field-0-is
    c.in-Err-NotWritten.ensures.err in
    inr (search_stopped c.args.search.now (GivenGives gives files.machine) (GivenGives gives files.expects) c.in-Ok.text.items c.as_slice-text.result.now
    (sinks asks_none (Unit {0}) out (c.written_done.new.out ≡ c.args.out.now) faults (c.report-in-Err-NotWritten.new.faults ≡ c.args.faults.now)) false
    c.report-in-Err-NotWritten.result c.in-Ok.ensures.ok c.as_slice-text.ensures.value stop tt c.report-in-Err-NotWritten.ensures.told
    c.report-in-Err-NotWritten.ensures.status)
