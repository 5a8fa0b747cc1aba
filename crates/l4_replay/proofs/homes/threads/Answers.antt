use Rattle.std.proofs.Common.{[], ◌∷◌, ◌++◌, map, ap, ap₂, sym, ◌∙◌, arith, Bor}
use Rattle.std.proofs.lemmas.List.{map-append}
use Rattle.std.proofs.lemmas.List.FromFn.{map-range_with_len_more}
use Rattle.l4_types.specs.ReportView.{report_of_view}
use Rattle.l4_core.specs.Processor.{Processor as Core}
use Rattle.l4_refines.specs.Laws.{home_report}
use Rattle.l4_replay.specs.Inner.Homes.{locals_of}
use Rattle.l4_replay.proofs.Cores.{report_there}
use Rattle.l4_replay.proofs.homes.threads.Goals as goal

pub loop-place-preserved : goal.loop-place-preserved
loop-place-preserved c =
    let m = c.args.machine.now in
    let place = c.loop-place.place in
    let cores = map (λ (x : Bor Core). x.now) c.args.cores.now in
    ap (map report_of_view) c.in_ok-push.ensures.items
    ∙ map-append report_of_view c.loop-place.views.items (c.view.result ∷ [])
    ∙ ap₂ (λ rs r. rs ++ r ∷ []) c.loop-place.invariant
    (report_there m cores place c.home.result.now (report_of_view c.view.result) c.home.ensures.core c.home.ensures.machine c.view.ensures)
    ∙ sym (map-range_with_len_more (home_report m (locals_of cores)) 0 place place (omega arith))
