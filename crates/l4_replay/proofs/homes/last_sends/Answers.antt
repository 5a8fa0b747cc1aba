use Rattle.std.proofs.Common.{ℕ, Option, [], ◌∷◌, ◌++◌, map, ap₂, sym, ◌∙◌, arith, Bor}
use Rattle.std.proofs.lemmas.List.FromFn.{map-range_with_len_more}
use Rattle.l4_model.specs.Words.{Id}
use Rattle.l4_core.specs.Processor.{Processor as Core}
use Rattle.l4_refines.specs.Laws.{home_thread}
use Rattle.l4_replay.specs.Inner.Homes.{last_send, locals_of}
use Rattle.l4_replay.proofs.Cores.{send_there}
use Rattle.l4_replay.proofs.homes.last_sends.Goals as goal

pub loop-place-preserved : goal.loop-place-preserved
loop-place-preserved c =
    let m = c.args.machine.now in
    let place = c.loop-place.place in
    let cores = map (λ (x : Bor Core). x.now) c.args.cores.now in
    c.in_ok-push.ensures.items
    ∙ ap₂ (λ ss s. ss ++ s ∷ []) c.loop-place.invariant
    (send_there m cores place c.home-core.result.now (record { k = c.begun.result; to = c.destination.result })
    c.home-core.ensures.core
    (ap₂ (λ (k : ℕ) (to : Option Id). record { k = k; to = to }) c.begun.ensures c.destination.ensures))
    ∙ sym (map-range_with_len_more (λ (i : ℕ). last_send (home_thread m (locals_of cores) i)) 0 place place (omega arith))
