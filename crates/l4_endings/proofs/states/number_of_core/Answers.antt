use Rattle.std.proofs.Common.{ap, subst, sym, ◌<◌, ◌∙◌}
use Rattle.l4_model.specs.Machine.{Machine}
use Rattle.l4_sets.specs.Inner.Contacts.{AreContacts}
use Rattle.l4_endings.proofs.Finding.{core_known, core_number, kept_longer}
use Rattle.l4_endings.proofs.states.number_of_core.Goals as goal

pub returns-clause-longer : goal.returns-clause-longer
returns-clause-longer c = kept_longer _ _ _ c.number_of.ensures.kept

pub returns-clause-are : goal.returns-clause-are
returns-clause-are c = λ m r is.
    core_known m r c.args.walk.now is c.args.cpu c.from.result c.core-core.result.now c.new-code.result
    c.put_core.new.code c.is_resting-rests.result c.args.parts.now.parts.items
    c.number_of.new.self.parts.items
    (subst (λ n. c.args.cpu < n) (ap (λ (n : Machine). n.cpus) is.machine) c.requires.cpu)
    c.from.ensures (c.core-core.ensures m r is) c.new-code.ensures c.in_ok-put_core.ensures
    (c.is_resting-rests.ensures.rests m r is) (c.is_resting-rests.ensures.near m r is) c.contacts.result
    c.moves_of.result
    (subst (λ (n : Machine). AreContacts n c.args.cpu c.core-core.result.now.local c.contacts.result)
    (c.requires.same ∙ is.machine)
    (subst (λ k. AreContacts c.args.aims.now k c.core-core.result.now.local c.contacts.result)
    (c.core-core.ensures m r is).cpu_is c.contacts.ensures)) c.number_of.ensures.kept

pub returns-clause-number : goal.returns-clause-number
returns-clause-number c = λ m r is.
    core_number m r c.args.walk.now is c.number_of.result c.args.cpu c.from.result c.core-core.result.now
    c.new-code.result c.put_core.new.code c.number_of.new.self.parts.items
    (subst (λ n. c.args.cpu < n) (ap (λ (n : Machine). n.cpus) is.machine) c.requires.cpu)
    c.from.ensures (c.core-core.ensures m r is) c.new-code.ensures c.in_ok-put_core.ensures
    c.number_of.ensures.number

pub contacts-requires : goal.contacts-requires
contacts-requires c =
    let run = c.requires.run in
    c.requires.same ∙ run.1.1.machine ∙ sym (c.core-core.ensures run.0 run.1.0 run.1.1).machine
