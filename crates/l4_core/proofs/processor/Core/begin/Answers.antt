use Rattle.std.proofs.Common.{◌≡◌, is_some, sym, subst, ◌∙◌, arith}
use Rattle.l4_model.specs.Rules.{originator}
use Rattle.l4_core_model.specs.Local.{declared, thread}
use Rattle.l4_core.specs.Inner.Covered.{IsCovered}
use Rattle.l4_core.specs.Inner.Parts.{AreCore}
use Rattle.l4_core.specs.Processor.{Processor}
use Rattle.l4_core.proofs.Noting.{but-begun}
use Rattle.l4_core.proofs.Starting.{began, nothing_begun, nothing_changed, start_began, start_is, start_kept, start_shown}
use Rattle.l4_core.proofs.processor.Core.begin.Goals as goal

pub ipc-requires-clause-shown : goal.ipc-requires-clause-shown
ipc-requires-clause-shown c =
    let v = c.known.view_is ∙ c.self.view_is in
    let shows = subst (λ (p : Processor). c.shows_originator-shows.result ≡ is_some (originator p.machine (declared p.machine c.args.place).id (thread p.local c.args.place).context)) c.self.view_is c.shows_originator-shows.ensures in
    start_shown c.known.inside c.args.place c.index_mut.result.now c.shows_originator-shows.result c.args.self.now v c.known.invariant c.requires.hand.own.within c.index_mut.ensures.value shows

pub invariant_of-known : goal.invariant_of-known
invariant_of-known c =
    let v = c.known.view_is ∙ c.self.view_is in
    let shows = subst (λ (p : Processor). c.shows_originator-shows.result ≡ is_some (originator p.machine (declared p.machine c.args.place).id (thread p.local c.args.place).context)) c.self.view_is c.shows_originator-shows.ensures in
    start_kept c.known.inside c.args.place _ c.index_mut.result.now c.ipc.new.self c.shows_originator-shows.result c.args.self.now v c.known.invariant c.requires.hand c.requires.count c.requires.instr c.index_mut.ensures.value shows c.ipc.ensures.thread

pub invariant_of-known-in_default : goal.invariant_of-known-in_default
invariant_of-known-in_default c =
    let v = c.known.view_is ∙ c.self.view_is in
    let shows = subst (λ (p : Processor). c.shows_originator-shows.result ≡ is_some (originator p.machine (declared p.machine c.args.place).id (thread p.local c.args.place).context)) c.self.view_is c.shows_originator-shows.ensures in
    start_kept c.known.inside c.args.place _ c.index_mut.result.now c.ipc.new.self c.shows_originator-shows.result c.args.self.now v c.known.invariant c.requires.hand c.requires.count c.requires.instr c.index_mut.ensures.value shows c.ipc.ensures.thread

pub invariant_of-self : goal.invariant_of-self
invariant_of-self c =
    let sets = c.self.inside in
    let v = c.known.view_is ∙ c.self.view_is in
    let shows = subst (λ (p : Processor). c.shows_originator-shows.result ≡ is_some (originator p.machine (declared p.machine c.args.place).id (thread p.local c.args.place).context)) c.self.view_is c.shows_originator-shows.ensures in
    let core = subst AreCore v c.known.invariant.core in
    let which = start_began c.known.inside c.args.place _ c.index_mut.result.now c.shows_originator-shows.result c.ipc.result c.args.self.now v c.known.invariant c.requires.hand.own.within c.index_mut.ensures.value c.requires.instr shows c.ipc.ensures.began in
    let is = start_is c.known.inside c.args.place _ c.index_mut.result.now c.ipc.new.self c.shows_originator-shows.result c.args.self.now v c.known.invariant c.requires.hand.own.within c.index_mut.ensures.value c.requires.instr shows c.ipc.ensures.thread in
    subst (IsCovered sets.duties sets.zeros) (sym (nothing_changed c.args.self.now _ c.args.place _ is (sym which ∙ c.in-Nothing.is))) (subst (IsCovered sets.duties sets.zeros) c.self.view_is c.self.invariant)

pub note_duty-requires : goal.note_duty-requires
note_duty-requires c =
    let sets = c.self.inside in
    let v = c.known.view_is ∙ c.self.view_is in
    let shows = subst (λ (p : Processor). c.shows_originator-shows.result ≡ is_some (originator p.machine (declared p.machine c.args.place).id (thread p.local c.args.place).context)) c.self.view_is c.shows_originator-shows.ensures in
    let core = subst AreCore v c.known.invariant.core in
    let which = start_began c.known.inside c.args.place _ c.index_mut.result.now c.shows_originator-shows.result c.ipc.result c.args.self.now v c.known.invariant c.requires.hand.own.within c.index_mut.ensures.value c.requires.instr shows c.ipc.ensures.began in
    let is = start_is c.known.inside c.args.place _ c.index_mut.result.now c.ipc.new.self c.shows_originator-shows.result c.args.self.now v c.known.invariant c.requires.hand.own.within c.index_mut.ensures.value c.requires.instr shows c.ipc.ensures.thread in
    but-begun sets.duties sets.zeros c.args.self.now _ c.args.place _ (subst (IsCovered sets.duties sets.zeros) c.self.view_is c.self.invariant) core c.requires.hand
    (began c.args.self.now _ c.enter_lists.new.self c.args.place _ (omega (arith, core.settled.threads, c.requires.hand.own.within)) is c.enter_lists.ensures (λ e. c.in_default.not-Nothing (which ∙ e)))

pub returns-in-Nothing-clause-began : goal.returns-in-Nothing-clause-began
returns-in-Nothing-clause-began c =
    let v = c.known.view_is ∙ c.self.view_is in
    let shows = subst (λ (p : Processor). c.shows_originator-shows.result ≡ is_some (originator p.machine (declared p.machine c.args.place).id (thread p.local c.args.place).context)) c.self.view_is c.shows_originator-shows.ensures in
    sym c.in-Nothing.is ∙ start_began c.known.inside c.args.place _ c.index_mut.result.now c.shows_originator-shows.result c.ipc.result c.args.self.now v c.known.invariant c.requires.hand.own.within c.index_mut.ensures.value c.requires.instr shows c.ipc.ensures.began

pub returns-in-Nothing-clause-state : goal.returns-in-Nothing-clause-state
returns-in-Nothing-clause-state c =
    let v = c.known.view_is ∙ c.self.view_is in
    let shows = subst (λ (p : Processor). c.shows_originator-shows.result ≡ is_some (originator p.machine (declared p.machine c.args.place).id (thread p.local c.args.place).context)) c.self.view_is c.shows_originator-shows.ensures in
    let core = subst AreCore v c.known.invariant.core in
    let which = start_began c.known.inside c.args.place _ c.index_mut.result.now c.shows_originator-shows.result c.ipc.result c.args.self.now v c.known.invariant c.requires.hand.own.within c.index_mut.ensures.value c.requires.instr shows c.ipc.ensures.began in
    let is = start_is c.known.inside c.args.place _ c.index_mut.result.now c.ipc.new.self c.shows_originator-shows.result c.args.self.now v c.known.invariant c.requires.hand.own.within c.index_mut.ensures.value c.requires.instr shows c.ipc.ensures.thread in
    let nothing = sym which ∙ c.in-Nothing.is in
    nothing_changed c.args.self.now _ c.args.place _ is nothing ∙ nothing_begun c.args.self.now c.args.place _ nothing

pub returns-in_default-clause-began : goal.returns-in_default-clause-began
returns-in_default-clause-began c =
    let v = c.known.view_is ∙ c.self.view_is in
    let shows = subst (λ (p : Processor). c.shows_originator-shows.result ≡ is_some (originator p.machine (declared p.machine c.args.place).id (thread p.local c.args.place).context)) c.self.view_is c.shows_originator-shows.ensures in
    start_began c.known.inside c.args.place _ c.index_mut.result.now c.shows_originator-shows.result c.ipc.result c.args.self.now v c.known.invariant c.requires.hand.own.within c.index_mut.ensures.value c.requires.instr shows c.ipc.ensures.began

pub returns-in_default-clause-state : goal.returns-in_default-clause-state
returns-in_default-clause-state c =
    let v = c.known.view_is ∙ c.self.view_is in
    let shows = subst (λ (p : Processor). c.shows_originator-shows.result ≡ is_some (originator p.machine (declared p.machine c.args.place).id (thread p.local c.args.place).context)) c.self.view_is c.shows_originator-shows.ensures in
    let core = subst AreCore v c.known.invariant.core in
    let which = start_began c.known.inside c.args.place _ c.index_mut.result.now c.shows_originator-shows.result c.ipc.result c.args.self.now v c.known.invariant c.requires.hand.own.within c.index_mut.ensures.value c.requires.instr shows c.ipc.ensures.began in
    let is = start_is c.known.inside c.args.place _ c.index_mut.result.now c.ipc.new.self c.shows_originator-shows.result c.args.self.now v c.known.invariant c.requires.hand.own.within c.index_mut.ensures.value c.requires.instr shows c.ipc.ensures.thread in
    began c.args.self.now _ c.enter_lists.new.self c.args.place _ (omega (arith, core.settled.threads, c.requires.hand.own.within)) is c.enter_lists.ensures (λ e. c.in_default.not-Nothing (which ∙ e))
