use Rattle.std.proofs.Common.{◌≡◌, ℕ, [], ◌∷◌, ◌++◌, List, map, ap, ap₂, sym, ◌∙◌, subst, arith}
use Rattle.std.specs.List.{AllByRecursion}
use Rattle.std.proofs.lemmas.List.{map-append}
use Rattle.std.proofs.lemmas.List.FromFn.{map-range_with_len_more}
use Rattle.l4_core_model.specs.Runs.{Event, Action}
use Rattle.l4_core_model.proofs.Lists.{all-append}
use Rattle.l4_machine.specs.Inner.EventsLeft.{left, IsUnmerged}
use Rattle.l4_machine.specs.Gathers.{events_of, with_number}
use Rattle.l4_machine.specs.Inner.Recorded.{happened_left, actions_of}
use Rattle.l4_machine.proofs.merging.unmerged_logs.Goals as goal

pub loop-cpu-preserved : goal.loop-cpu-preserved
loop-cpu-preserved c =
    let ps = c.args.processors.now in
    let cpu = c.loop-cpu.cpu in
    let log = c.untold.result in
    let numbered : ℕ → List Event = λ cpu. events_of (with_number cpu ps) in
    let one : left ps log ≡ numbered cpu = c.untold.ensures.left ∙ ap events_of c.place_of.ensures in
    let happened_to : ℕ → List Action = λ cpu. actions_of (with_number cpu ps) in
    let happened : happened_left ps log ≡ happened_to cpu = c.untold.ensures.happened ∙ ap actions_of c.place_of.ensures in (
      subst (AllByRecursion (IsUnmerged ps)) (sym c.in_ok-push.ensures.items)
          (all-append (IsUnmerged ps) c.loop-cpu.logs.items log c.loop-cpu.invariant.0 c.untold.ensures.whole),
      ap (map (left ps)) c.in_ok-push.ensures.items
          ∙ map-append (left ps) c.loop-cpu.logs.items (log ∷ [])
          ∙ ap₂ (λ xs x. xs ++ x ∷ []) c.loop-cpu.invariant.1 one
          ∙ sym (map-range_with_len_more numbered 0 cpu cpu (omega arith)),
      ap (map (happened_left ps)) c.in_ok-push.ensures.items
          ∙ map-append (happened_left ps) c.loop-cpu.logs.items (log ∷ [])
          ∙ ap₂ (λ xs x. xs ++ x ∷ []) c.loop-cpu.invariant.2 happened
          ∙ sym (map-range_with_len_more happened_to 0 cpu cpu (omega arith)),
    )
