use Rattle.std.proofs.Common.{◌+◌, ◌/◌, ◌%◌, ◌<◌, ap, arith, sym, subst, ◌∙◌}
use Rattle.std.specs.Prelude.{is_some}
use Rattle.l4_model.specs.Machine.{Machine}
use Rattle.l4_core_model.specs.Schedules.{Entry}
use Rattle.l4_states.specs.Choices.{after_entry, choice_of, IsNear}
use Rattle.l4_rounds.proofs.Possible.{entry_same, own_of}
use Rattle.l4_rounds.proofs.choices.is_possible.Goals as goal

pub is_possible_at-requires-clause-own : goal.is_possible_at-requires-clause-own
is_possible_at-requires-clause-own c =
    subst (λ n. c.args.number / (n + 2) < c.args.cpus) (sym c.from-width.ensures)
    (own_of c.args.cpus c.args.number c.requires.number)

pub returns-clause-value : goal.returns-clause-value
returns-clause-value c = λ m r is.
    c.is_possible_at.ensures.value m r is
    ∙ ap (λ n. is_some (after_entry m r.system
    (choice_of c.args.cpus (c.args.number / (n + 2)) (c.args.number % (n + 2)))))
    c.from-width.ensures
    ∙ ap (λ (e : Entry). is_some (after_entry m r.system e))
    (entry_same m c.args.cpus c.args.number
    (c.requires.cpus ∙ ap (λ (n : Machine). n.cpus) is.machine))

pub returns-clause-near : goal.returns-clause-near
returns-clause-near c = λ m r is tick.
    subst (λ n. IsNear r.system (c.args.number / (n + 2))) c.from-width.ensures
    (c.is_possible_at.ensures.near m r is
    (subst (λ n. c.args.cpus < c.args.number % (n + 2)) (sym c.from-width.ensures)
    (omega (arith, tick))))
