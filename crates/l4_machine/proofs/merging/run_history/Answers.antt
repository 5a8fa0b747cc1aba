use Rattle.std.proofs.Common.{◌≡◌, List, refl, sym, ap, ap₂, length, ◌∙◌, subst, arith}
use Rattle.l4_proc.specs.declared.processor.Processor.{Processor}
use Rattle.std.specs.List.Sorted.{IsPermutation}
use Rattle.l4_merge.specs.LocalTraces.{all_events}
use Rattle.l4_machine.specs.Gathers.{merged_steps, pasts_of, AreOfOne}
use Rattle.l4_machine.proofs.EventsLeft.{is_merge}
use Rattle.l4_machine.proofs.Rising.{alone_events, alone_merged, one_left}
use Rattle.l4_machine.proofs.merging.run_history.Goals as goal

pub returns-then-cpus-gt1-clause-history : goal.returns-then-cpus-gt1-clause-history
returns-then-cpus-gt1-clause-history c =
    is_merge c.args.machine.now c.args.processors.items _ (ap₂ merged_steps c.new.ensures.machine c.new.ensures.processors)

pub returns-clause-history : goal.returns-clause-history
returns-clause-history c =
    let m = c.args.machine.now in
    let ps = c.args.processors.items in
    let p = c.in-Some.processor in
    let low = c.if-cpus-gt1.false in
    let some = c.cpus.ensures.some in
    let value = c.cpus.ensures.value in
    let one : m.cpus ≡ 1 = omega arith in
    let alone = one_left ps c.pop.new.self.items p c.in-Some.ensures.items (c.requires.count ∙ one) in
    λ es sorts moved. c.own_history-history.ensures.history
    ∙ alone_merged m p one ((subst (AreOfOne m) alone c.requires.one).each 0 p refl) es sorts
    (subst (λ ps. IsPermutation es (all_events (pasts_of m ps))) alone moved)

pub returns-clause-events : goal.returns-clause-events
returns-clause-events c =
    let m = c.args.machine.now in
    let ps = c.args.processors.items in
    let p = c.in-Some.processor in
    let low = c.if-cpus-gt1.false in
    let some = c.cpus.ensures.some in
    let value = c.cpus.ensures.value in
    let one : m.cpus ≡ 1 = omega arith in
    let alone = one_left ps c.pop.new.self.items p c.in-Some.ensures.items (c.requires.count ∙ one) in
    c.own_history-history.ensures.events
    ∙ ap length (sym (alone_events m p one ((subst (AreOfOne m) alone c.requires.one).each 0 p refl)))
    ∙ ap (λ (ps : List Processor). length (all_events (pasts_of m ps))) (sym alone)
