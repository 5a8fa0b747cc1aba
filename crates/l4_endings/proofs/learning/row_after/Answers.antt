use Rattle.std.proofs.Common.{[], ◌∷◌, ◌++◌, ap, sym, ◌∙◌}
use Rattle.l4_model.specs.Machine.{Machine}
use Rattle.l4_endings.specs.Inner.Walked.{IsWalked}
use Rattle.l4_endings.proofs.Finding.{known_longer, none_after, row_behind}
use Rattle.l4_endings.proofs.Walking.{has_run, leads_on, walked_on}
use Rattle.l4_endings.proofs.learning.row_after.Goals as goal

pub returns-then-not-is_possible-clause-found : goal.returns-then-not-is_possible-clause-found
returns-then-not-is_possible-clause-found c =
    none_after c.args.aims.now c.args.schedule.now c.in_ok-walk.walk c.args.number c.in_ok-walk.ensures
    (sym (c.is_possible.ensures.value c.args.aims.now c.in_ok-walk.ensures.run c.in_ok-walk.ensures.is)
    ∙ c.if-not-is_possible.true)

pub row_of-requires-clause-run : goal.row_of-requires-clause-run
row_of-requires-clause-run c =
    let walked : IsWalked c.args.aims.now (c.args.schedule.now ++ c.args.number ∷ []) c.make.new.walk
    = walked_on c.args.aims.now c.args.schedule.now c.in_ok-walk.walk c.make.new.walk c.args.number
    c.cpus-cpus.result c.in_ok-walk.ensures
    (leads_on c.args.aims.now c.args.schedule.now c.in_ok-walk.walk c.args.number c.in_ok-walk.ensures
    (sym (c.is_possible.ensures.value c.args.aims.now c.in_ok-walk.ensures.run c.in_ok-walk.ensures.is)
    ∙ c.if-not-is_possible.false))
    c.cpus-cpus.ensures.value c.in_ok-make.ensures.goes c.in_ok-make.ensures.near in
    has_run c.args.aims.now (c.args.schedule.now ++ c.args.number ∷ []) c.make.new.walk walked

pub row_of-requires-clause-cpus : goal.row_of-requires-clause-cpus
row_of-requires-clause-cpus c =
    let walked : IsWalked c.args.aims.now (c.args.schedule.now ++ c.args.number ∷ []) c.make.new.walk
    = walked_on c.args.aims.now c.args.schedule.now c.in_ok-walk.walk c.make.new.walk c.args.number
    c.cpus-cpus.result c.in_ok-walk.ensures
    (leads_on c.args.aims.now c.args.schedule.now c.in_ok-walk.walk c.args.number c.in_ok-walk.ensures
    (sym (c.is_possible.ensures.value c.args.aims.now c.in_ok-walk.ensures.run c.in_ok-walk.ensures.is)
    ∙ c.if-not-is_possible.false))
    c.cpus-cpus.ensures.value c.in_ok-make.ensures.goes c.in_ok-make.ensures.near in
    c.cpus-cpus.ensures.value ∙ sym (ap (λ (n : Machine). n.cpus) walked.is.machine)

pub row_of-requires-clause-same : goal.row_of-requires-clause-same
row_of-requires-clause-same c =
    let walked : IsWalked c.args.aims.now (c.args.schedule.now ++ c.args.number ∷ []) c.make.new.walk
    = walked_on c.args.aims.now c.args.schedule.now c.in_ok-walk.walk c.make.new.walk c.args.number
    c.cpus-cpus.result c.in_ok-walk.ensures
    (leads_on c.args.aims.now c.args.schedule.now c.in_ok-walk.walk c.args.number c.in_ok-walk.ensures
    (sym (c.is_possible.ensures.value c.args.aims.now c.in_ok-walk.ensures.run c.in_ok-walk.ensures.is)
    ∙ c.if-not-is_possible.false))
    c.cpus-cpus.ensures.value c.in_ok-make.ensures.goes c.in_ok-make.ensures.near in
    sym walked.is.machine

pub returns-in_err-rule_out_tick-clause-known : goal.returns-in_err-rule_out_tick-clause-known
returns-in_err-rule_out_tick-clause-known c =
    c.rule_out_tick.ensures c.args.aims.now c.args.schedule.now c.args.parts.now.parts.items
    c.cpus-cpus.ensures.lawful c.in_ok-walk.ensures c.requires.row c.requires.short c.requires.known

pub returns-then-not-is_possible-clause-known : goal.returns-then-not-is_possible-clause-known
returns-then-not-is_possible-clause-known c =
    c.rule_out_tick.ensures c.args.aims.now c.args.schedule.now c.args.parts.now.parts.items
    c.cpus-cpus.ensures.lawful c.in_ok-walk.ensures c.requires.row c.requires.short c.requires.known

pub returns-in_err-make-clause-known : goal.returns-in_err-make-clause-known
returns-in_err-make-clause-known c =
    c.rule_out_tick.ensures c.args.aims.now c.args.schedule.now c.args.parts.now.parts.items
    c.cpus-cpus.ensures.lawful c.in_ok-walk.ensures c.requires.row c.requires.short c.requires.known

pub returns-in_err-row_of-clause-known : goal.returns-in_err-row_of-clause-known
returns-in_err-row_of-clause-known c =
    let walked : IsWalked c.args.aims.now (c.args.schedule.now ++ c.args.number ∷ []) c.make.new.walk
    = walked_on c.args.aims.now c.args.schedule.now c.in_ok-walk.walk c.make.new.walk c.args.number
    c.cpus-cpus.result c.in_ok-walk.ensures
    (leads_on c.args.aims.now c.args.schedule.now c.in_ok-walk.walk c.args.number c.in_ok-walk.ensures
    (sym (c.is_possible.ensures.value c.args.aims.now c.in_ok-walk.ensures.run c.in_ok-walk.ensures.is)
    ∙ c.if-not-is_possible.false))
    c.cpus-cpus.ensures.value c.in_ok-make.ensures.goes c.in_ok-make.ensures.near in
    let known =
    c.rule_out_tick.ensures c.args.aims.now c.args.schedule.now c.args.parts.now.parts.items
    c.cpus-cpus.ensures.lawful c.in_ok-walk.ensures c.requires.row c.requires.short c.requires.known in
    known_longer c.args.aims.now c.args.parts.now.parts.items c.row_of.new.parts.parts.items
    c.rule_out_tick.new.events.events.items c.row_of.ensures.longer
    (c.row_of.ensures.are c.args.aims.now walked.run walked.is known.parts_are) known

pub returns-clause-known : goal.returns-clause-known
returns-clause-known c =
    let walked : IsWalked c.args.aims.now (c.args.schedule.now ++ c.args.number ∷ []) c.make.new.walk
    = walked_on c.args.aims.now c.args.schedule.now c.in_ok-walk.walk c.make.new.walk c.args.number
    c.cpus-cpus.result c.in_ok-walk.ensures
    (leads_on c.args.aims.now c.args.schedule.now c.in_ok-walk.walk c.args.number c.in_ok-walk.ensures
    (sym (c.is_possible.ensures.value c.args.aims.now c.in_ok-walk.ensures.run c.in_ok-walk.ensures.is)
    ∙ c.if-not-is_possible.false))
    c.cpus-cpus.ensures.value c.in_ok-make.ensures.goes c.in_ok-make.ensures.near in
    let known =
    c.rule_out_tick.ensures c.args.aims.now c.args.schedule.now c.args.parts.now.parts.items
    c.cpus-cpus.ensures.lawful c.in_ok-walk.ensures c.requires.row c.requires.short c.requires.known in
    known_longer c.args.aims.now c.args.parts.now.parts.items c.row_of.new.parts.parts.items
    c.rule_out_tick.new.events.events.items c.row_of.ensures.longer
    (c.row_of.ensures.are c.args.aims.now walked.run walked.is known.parts_are) known

pub returns-clause-found : goal.returns-clause-found
returns-clause-found c =
    let walked : IsWalked c.args.aims.now (c.args.schedule.now ++ c.args.number ∷ []) c.make.new.walk
    = walked_on c.args.aims.now c.args.schedule.now c.in_ok-walk.walk c.make.new.walk c.args.number
    c.cpus-cpus.result c.in_ok-walk.ensures
    (leads_on c.args.aims.now c.args.schedule.now c.in_ok-walk.walk c.args.number c.in_ok-walk.ensures
    (sym (c.is_possible.ensures.value c.args.aims.now c.in_ok-walk.ensures.run c.in_ok-walk.ensures.is)
    ∙ c.if-not-is_possible.false))
    c.cpus-cpus.ensures.value c.in_ok-make.ensures.goes c.in_ok-make.ensures.near in
    row_behind c.args.aims.now (c.args.schedule.now ++ c.args.number ∷ []) c.make.new.walk
    c.row_of.new.parts.parts.items c.in_ok-row_of.field-0.items walked
    (c.in_ok-row_of.ensures.row c.args.aims.now walked.run walked.is)
