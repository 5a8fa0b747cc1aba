use Rattle.std.proofs.Common.{◌≡◌, ◌+◌, ◌*◌, ◌<◌, get_or, refl, sym, subst, arith}
use Rattle.std.proofs.lemmas.List.{take_all}
use Rattle.l4_states.specs.Endings.{entries_of}
use Rattle.l4_endings.specs.Inner.Tried.{entries_from}
use Rattle.l4_endings.proofs.Ending.{one_entry}
use Rattle.l4_endings.proofs.Walking.{entry_is, number_at}
use Rattle.l4_endings.proofs.endings_of.entries_of.Goals as goal

pub choice-requires-clause-number : goal.choice-requires-clause-number
choice-requires-clause-number c =
    subst (λ n. get_or c.args.numbers.now c.loop-number.number-index 0 < n * (n + 2))
    (sym c.cpus-cpus.ensures.value)
    (number_at c.args.machine.now c.args.numbers.now c.loop-number.number-index
    (get_or c.args.numbers.now c.loop-number.number-index 0) c.cpus-cpus.ensures.lawful
    c.requires (omega (arith, c.loop-number-test.true)) refl)

pub loop-number-preserved : goal.loop-number-preserved
loop-number-preserved c =
    one_entry c.args.machine.now c.args.numbers.now c.loop-number.number-index
    (get_or c.args.numbers.now c.loop-number.number-index 0) c.loop-number.entries.items
    c.push.new.self.items c.choice.result (omega (arith, c.loop-number-test.true)) refl
    (entry_is c.args.machine.now c.cpus-cpus.result
    (get_or c.args.numbers.now c.loop-number.number-index 0) _ c.cpus-cpus.ensures.value
    c.choice.ensures.value)
    c.in_ok-push.ensures.items c.loop-number.invariant

pub returns : goal.returns
returns c =
    subst (λ ns. entries_from c.loop-number.entries.items ≡ entries_of c.args.machine.now ns)
    (take_all c.loop-number.number-index c.args.numbers.now
    (omega (arith, c.loop-number-test.false)))
    c.loop-number.invariant
