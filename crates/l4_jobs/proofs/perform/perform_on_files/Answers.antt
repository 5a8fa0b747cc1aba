use Rattle.std.proofs.Common.{◌≡◌, Some, inl, inr, refl, sym, ◌∙◌}
use Rattle.l4_commands.specs.Files.{expected_of, file_of, second_file_of}
use Rattle.l4_jobs.specs.Performing.{sinks}
use Rattle.l4_streams.specs.Streams.{GivenGives, IsWrittenApart}
use Rattle.l4_jobs.proofs.Performed.{apart_as, performed_as, performed_status, performed_true, unopened_told}
use Rattle.l4_jobs.proofs.Begun.{status_or_stopped, streamed_as, streamed_is, true_or_stopped}
use Rattle.l4_jobs.proofs.perform.perform_on_files.Goals as goal

pub returns-in-Err-clause-performed : goal.returns-in-Err-clause-performed
returns-in-Err-clause-performed g c =
    let tells = g.F.Folder.tells_same c.args.folder.now in
    let writes = g.F.Folder.writes c.args.folder.now in
    let job = c.args.job.now in
    let list = IsWrittenApart tells writes (Some (file_of job)) (second_file_of job) (expected_of job) in
    let out = g.W.Sink.takes c.args.out.now c.args.out.now in
    let faults = g.E.Sink.takes c.args.faults.now c.tell.new.faults in
    unopened_told (g.F.Folder.opens c.args.folder.now) g.F.File.Source.gives c.args.explains job c.file.result.now c.in-Err.fault
    (sinks list (Unit {0}) out (c.args.out.now ≡ c.args.out.now) faults (c.tell.new.faults ≡ c.args.faults.now)) c.tell.result c.file.ensures c.in-Err.ensures.err tt
    refl c.tell.ensures.told c.tell.ensures.status

pub perform_streamed-requires : goal.perform_streamed-requires
perform_streamed-requires g c = record { streamed = (streamed_is c.args.job.now c.in-Some.search (sym c.streamed_search.ensures ∙ c.in-Some.is)).1 }

pub returns-in-Some-clause-performed : goal.returns-in-Some-clause-performed
returns-in-Some-clause-performed g c =
    let opens = g.F.Folder.opens c.args.folder.now in
    let gives = g.F.File.Source.gives in
    let files = c.in-Ok.files in
    inr (
      record { machine = files.machine; second = files.second; expects = files.expects },
      c.in-Ok.ensures.ok,
      streamed_as opens gives c.args.explains c.args.job.now c.in-Some.search (GivenGives gives files.machine) files.second (GivenGives gives files.expects) _ _ _ _ _
          c.perform_streamed.result (sym c.streamed_search.ensures ∙ c.in-Some.is) c.in-Ok.ensures.ok.second c.perform_streamed.ensures,
    )

pub returns-in-Some-clause-headline : goal.returns-in-Some-clause-headline
returns-in-Some-clause-headline g c = λ right.
    let opens = g.F.Folder.opens c.args.folder.now in
    let gives = g.F.File.Source.gives in
    let files = c.in-Ok.files in (
      files.machine,
      c.in-Ok.ensures.ok.machine,
      true_or_stopped c.args.explains c.args.job.now (GivenGives gives files.machine) (GivenGives gives files.second) (GivenGives gives files.expects) _
          c.perform_streamed.result (streamed_as opens gives c.args.explains c.args.job.now c.in-Some.search (GivenGives gives files.machine) files.second
          (GivenGives gives files.expects) (λ name bytes all. ⊥) _ _ _ _ c.perform_streamed.result (sym c.streamed_search.ensures ∙ c.in-Some.is) c.in-Ok.ensures.ok.second
          c.perform_streamed.ensures) right,
    )

pub returns-in-Some-clause-statuses : goal.returns-in-Some-clause-statuses
returns-in-Some-clause-statuses g c =
    let opens = g.F.Folder.opens c.args.folder.now in
    let gives = g.F.File.Source.gives in
    let files = c.in-Ok.files in
    status_or_stopped c.args.explains c.args.job.now (GivenGives gives files.machine) (GivenGives gives files.second) (GivenGives gives files.expects) _
    c.perform_streamed.result
    (streamed_as opens gives c.args.explains c.args.job.now c.in-Some.search (GivenGives gives files.machine) files.second (GivenGives gives files.expects)
    (λ name bytes all. ⊥) _ _ _ _ c.perform_streamed.result (sym c.streamed_search.ensures ∙ c.in-Some.is) c.in-Ok.ensures.ok.second c.perform_streamed.ensures)

pub returns-clause-performed : goal.returns-clause-performed
returns-clause-performed g c =
    let gives = g.F.File.Source.gives in
    let files = c.in-Ok.files in
    let tells = g.F.Folder.tells_same c.args.folder.now in
    let writes = g.F.Folder.writes c.args.folder.now in
    let job = c.args.job.now in
    inr (
      record { machine = files.machine; second = files.second; expects = files.expects },
      c.in-Ok.ensures.ok,
      inl (performed_as c.args.explains job (GivenGives gives files.machine) (GivenGives gives files.second) (GivenGives gives files.expects) _
          (IsWrittenApart tells writes (Some (file_of job)) (second_file_of job) (expected_of job)) _ (Unit {0}) _ _ _ _ c.perform_over.result
          (λ name bytes all. apart_as tells writes _ _ _ _ _ _ name bytes all c.file-2.ensures c.second_file.ensures c.expected.ensures) (λ same. tt)
          c.perform_over.ensures.performed),
    )

pub returns-clause-headline : goal.returns-clause-headline
returns-clause-headline g c = λ right.
    (c.in-Ok.files.machine, c.in-Ok.ensures.ok.machine, performed_true c.args.explains c.args.job.now _ _ _ _ c.perform_over.result c.perform_over.ensures.performed right)

pub returns-clause-statuses : goal.returns-clause-statuses
returns-clause-statuses g c = performed_status c.args.explains c.args.job.now _ _ _ _ _ c.perform_over.ensures.performed
