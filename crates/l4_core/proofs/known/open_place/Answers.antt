use Rattle.std.proofs.Common.{◌≡◌, false, [], length, ◌∙◌, ap, sym, arith}
use Rattle.std.specs.Prelude.{slice_index_or}
use Rattle.std.proofs.lemmas.Bool.{eq-eqb, ne_eqb}
use Rattle.std.proofs.lemmas.List.{get_or_read}
use Rattle.l4_model.specs.Machine.{Declaration}
use Rattle.l4_core_model.specs.Plain.{Plain}
use Rattle.l4_core_model.specs.Local.{declared, is_own, undeclared}
use Rattle.tcb_arena.specs.Inner.Blocks.{is_ready as is_ready_in}
use Rattle.l4_core.proofs.Opening.{not_yet, length-map, own_more, other_more}
use Rattle.l4_core.proofs.known.open_place.Goals as goal

pub push_ready-requires-clause-block : goal.push_ready-requires-clause-block
push_ready-requires-clause-block c = let e = ap (λ (s : Plain). length s.waiting) c.requires.below ∙ length-map (λ d. []) c.args.machine.now.threads in omega (arith, e, c.requires.within)

pub push_ready-requires-clause-free : goal.push_ready-requires-clause-free
push_ready-requires-clause-free c = ap (λ s. is_ready_in s c.args.place) c.requires.below ∙ not_yet c.args.machine.now c.args.cpu c.args.place

pub returns-then-cpu : goal.returns-then-cpu
returns-then-cpu c =
    let ds = c.args.machine.now.threads in
    let read : c.index-threads-place.result ≡ slice_index_or ds c.args.place undeclared = get_or_read ds c.args.place c.index-threads-place.result c.requires.within (c.index-threads-place.is ∙ ap (λ xs. slice_index_or xs c.args.place c.index-threads-place.result) c.threads.ensures.value) undeclared in
    let home : (declared c.args.machine.now c.args.place).cpu ≡ c.args.cpu = sym (c.cpu.ensures ∙ ap (λ (d : Declaration). d.cpu) read) ∙ c.if-cpu.true in
    own_more c.args.machine.now c.args.cpu c.args.place c.args.lists.now c.push_ready.new.self c.requires.below (eq-eqb _ _ home) c.push_ready.ensures

pub returns-else-cpu : goal.returns-else-cpu
returns-else-cpu c =
    let ds = c.args.machine.now.threads in
    let read : c.index-threads-place.result ≡ slice_index_or ds c.args.place undeclared = get_or_read ds c.args.place c.index-threads-place.result c.requires.within (c.index-threads-place.is ∙ ap (λ xs. slice_index_or xs c.args.place c.index-threads-place.result) c.threads.ensures.value) undeclared in
    let away : is_own c.args.machine.now c.args.cpu c.args.place ≡ false = ne_eqb _ _ (λ same. c.if-cpu.false (c.cpu.ensures ∙ ap (λ (d : Declaration). d.cpu) read ∙ same)) in
    other_more c.args.machine.now c.args.cpu c.args.place c.args.lists.now c.requires.below away
