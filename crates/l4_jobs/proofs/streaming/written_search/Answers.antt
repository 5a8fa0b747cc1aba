use Rattle.std.proofs.Common.{◌≡◌}
use Rattle.l4_jobs.proofs.Begun.{err_as, stop_for, wants_some}
use Rattle.l4_jobs.proofs.streaming.written_search.Goals as goal

pub returns-clause-err : goal.returns-clause-err
returns-clause-err g c =
    let search = c.args.search.now in
    let expects = g.X.Source.gives c.args.expects.now in
    let out = g.W.Sink.takes c.args.out.now c.written_endings-2.new.out in
    let wants = wants_some search c.in-Some.name expects c.in_ok-asked.asked.items c.as_slice.result.now _ c.in-Some.is c.as_slice.ensures.value c.in_ok-asked.ensures.ok c.in_ok-expected.ensures.ok in
    err_as c.written_endings-2.result _ _
    (stop_for search c.args.text.now c.args.machine.now expects _ out (c.written_endings-2.new.out ≡ c.args.out.now) c.requires.streamed c.requires.parsed wants) c.written_endings-2.ensures.err
