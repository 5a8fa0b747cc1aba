use Rattle.std.proofs.Common.{◌≡◌, [], inl, inr, refl}
use Rattle.l4_commands.specs.declared.job.Job.TheVariants.{Step}
use Rattle.l4_jobs.specs.Inputs.{gives_nothing}
use Rattle.l4_jobs.specs.Performing.{asks_none, sinks}
use Rattle.l4_streams.specs.Streams.{GivenGives}
use Rattle.l4_jobs.proofs.Performed.{unread_told}
use Rattle.l4_jobs.proofs.Sessions.{text_held}
use Rattle.l4_jobs.proofs.perform.perform_steps.Goals as goal

pub returns-in-Ok-read_text : goal.returns-in-Ok-read_text
returns-in-Ok-read_text g c =
    let machine = GivenGives g.F.File.Source.gives c.in-Ok.machine in
    let out = g.W.Sink.takes c.args.out.now c.perform_text_steps.new.out in
    let faults = g.E.Sink.takes c.args.faults.now c.perform_text_steps.new.faults in
    inr (
      c.in-Ok.machine,
      c.in-Ok.ensures.ok,
      text_held c.args.explains c.args.step.now machine (g.R.Read.remaining c.args.input.now) c.in-Ok-read_text.text.items
          c.as_slice.result.now
          (sinks asks_none (Unit {0}) out (c.perform_text_steps.new.out ≡ c.args.out.now) faults (c.perform_text_steps.new.faults ≡ c.args.faults.now))
          c.perform_text_steps.result c.in-Ok-read_text.ensures.ok c.as_slice.ensures.value tt c.perform_text_steps.ensures,
    )

pub returns : goal.returns
returns g c =
    let machine = GivenGives g.F.File.Source.gives c.in-Ok.machine in
    let out = g.W.Sink.takes c.args.out.now c.args.out.now in
    let faults = g.E.Sink.takes c.args.faults.now c.tell-in-Err-read_text.new.faults in
    inr (
      c.in-Ok.machine,
      c.in-Ok.ensures.ok,
      inl (unread_told c.args.explains (Step c.args.step.now) machine gives_nothing gives_nothing c.args.step.now.file.now [] c.in-Err-read_text.fault
          (sinks asks_none (Unit {0}) out (c.args.out.now ≡ c.args.out.now) faults (c.tell-in-Err-read_text.new.faults ≡ c.args.faults.now))
          c.tell-in-Err-read_text.result refl c.in-Err-read_text.ensures.err tt refl c.tell-in-Err-read_text.ensures.told
          c.tell-in-Err-read_text.ensures.status),
    )
