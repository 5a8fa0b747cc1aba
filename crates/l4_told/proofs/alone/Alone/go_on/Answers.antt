use Rattle.std.proofs.Common.{◌≡◌, ◌+◌, ◌<◌, None, Some, sym, subst, ◌∙◌, true, false}
use Rattle.std.specs.Prelude.{is_some}
use Rattle.l4_core_model.specs.Turns.{advance, turn}
use Rattle.l4_model.specs.Words.{period_limit}
use Rattle.l4_told.specs.Inner.Alone.{GoesOnInRounds}
use Rattle.l4_told.specs.declared.alone.Alone.{Alone}
use Rattle.l4_told.proofs.Rounds.{can_advance, clock_turned, least_of, none_done, rests_here, ticked_on, turned_on}
use Rattle.l4_told.proofs.alone.Alone.go_on.Goals as goal

pub returns-then-turn-clause-on : goal.returns-then-turn-clause-on
returns-then-turn-clause-on c = λ yes.
    turned_on c.args.self.now c.turn.new.self c.turn.ensures.goes (c.turn.ensures.event c.if-turn.true)

pub returns-then-turn-clause-clock : goal.returns-then-turn-clause-clock
returns-then-turn-clause-clock c = λ yes.
    clock_turned c.args.self.now c.turn.new.self (c.turn.ensures.event c.if-turn.true) c.requires.clock

pub returns-in-Some-clause-on : goal.returns-in-Some-clause-on
returns-in-Some-clause-on c = λ yes.
    let same = c.turn.ensures.same c.if-turn.false in
    let none = none_done _ _ c.turn.ensures.did c.if-turn.false in
    subst (λ (a : Alone). GoesOnInRounds a c.advance.new.self) same
    (ticked_on c.in-Some.deadline c.turn.new.self c.advance.new.self
    (subst (λ (a : Alone). turn a.core.machine a.core.cpu a.core.local ≡ None) (sym same) none)
    (sym c.in-Some.ensures.value) c.advance.ensures.goes (c.advance.ensures.event yes))

pub returns-in-Some-clause-rest : goal.returns-in-Some-clause-rest
returns-in-Some-clause-rest c = λ no.
    let same = c.turn.ensures.same c.if-turn.false in
    let none = none_done _ _ c.turn.ensures.did c.if-turn.false in
    absurd (
    let can = can_advance c.in-Some.deadline c.args.self.now c.requires.run none
    (subst (λ (a : Alone). least_of a ≡ Some c.in-Some.deadline) same (sym c.in-Some.ensures.value))
    (subst (λ (a : Alone). c.in-Some.deadline < a.core.local.clock + period_limit) same c.in-Some.ensures.near)
    c.requires.clock c.requires.few in
    let did = subst (λ (a : Alone). c.advance.result ≡ is_some (advance a.core.machine a.core.cpu
    c.in-Some.deadline a.core.local)) same c.advance.ensures.did in
    let wrong : true ≡ false = sym (did ∙ can) ∙ no in
    cc)

pub returns-in-None-clause-rest : goal.returns-in-None-clause-rest
returns-in-None-clause-rest c = λ no.
    let same = c.turn.ensures.same c.if-turn.false in
    let none = none_done _ _ c.turn.ensures.did c.if-turn.false in (
      rests_here c.args.self.now none (subst (λ (a : Alone). least_of a ≡ None) same (sym
          c.in-None.ensures.value)),
      same,
    )
