use Rattle.std.proofs.Common.{◌≡◌, ◌<◌, length, map, take, ◌∙◌, ap, arith}
use Rattle.std.specs.Prelude.{replicate, slice_index_or}
use Rattle.std.proofs.lemmas.List.{get_or_read}
use Rattle.l4_model.specs.Machine.{Declaration}
use Rattle.l4_model.specs.World.{opening_thread}
use Rattle.l4_core_model.specs.Local.{undeclared}
use Rattle.l4_thread.specs.Inner.Parts.{Block}
use Rattle.l4_core.proofs.Opening.{threads_more, ids_more, take-whole}
use Rattle.l4_core.proofs.known.opening_threads.Goals as goal

pub loop-place-preserved : goal.loop-place-preserved
loop-place-preserved c =
    let ds = c.args.machine.now.threads in
    let lt : c.loop-place.place < length ds = let e = ap length c.threads-declared.ensures.value in omega (arith, e, c.loop-place-test.true) in
    let read : c.index-declared-place.result ≡ slice_index_or ds c.loop-place.place undeclared = get_or_read ds c.loop-place.place c.index-declared-place.result lt (c.index-declared-place.is ∙ ap (λ xs. slice_index_or xs c.loop-place.place c.index-declared-place.result) c.threads-declared.ensures.value) undeclared in (
      threads_more c.loop-place.place c.loop-place.threads.items c.push.new.self.items c.new.result c.loop-place.invariant.0 c.in_ok-push.ensures.items (ap (λ (b : Block). b.thread) c.new.ensures),
      ids_more ds c.loop-place.place c.loop-place.threads.items c.push.new.self.items c.new.result lt c.loop-place.invariant.1 c.in_ok-push.ensures.items (ap (λ (b : Block). b.id) c.new.ensures ∙ c.id.ensures ∙ ap (λ (d : Declaration). d.id) read),
    )

pub returns-clause-threads : goal.returns-clause-threads
returns-clause-threads c =
    let place : c.loop-place.place ≡ length c.args.machine.now.threads = let e = ap length c.threads-declared.ensures.value in omega (arith, e, c.loop-place.auto.place-end, c.loop-place-test.false) in
    c.loop-place.invariant.0 ∙ ap (λ n. replicate n opening_thread) place

pub returns-clause-ids : goal.returns-clause-ids
returns-clause-ids c =
    let place : c.loop-place.place ≡ length c.args.machine.now.threads = let e = ap length c.threads-declared.ensures.value in omega (arith, e, c.loop-place.auto.place-end, c.loop-place-test.false) in
    c.loop-place.invariant.1 ∙ ap (λ n. take n (map (λ d. d.id) c.args.machine.now.threads)) place ∙ take-whole c.args.machine.now.threads
