use Rattle.std.proofs.Common.{◌≤◌, ◌∙◌, List, length, sym, ap, arith}
use Rattle.std.proofs.lemmas.List.{take_all}
use Rattle.l4_model.specs.Machine.{Declaration, Machine}
use Rattle.l4_script.specs.Machines.{machine_with}
use Rattle.l4_script.specs.Inner.Places.{place_by}
use Rattle.l4_script.proofs.Growing.{found-same}
use Rattle.l4_script.proofs.machine.Machine.try_clone.Goals as goal

pub invariant_of-result : goal.invariant_of-result
invariant_of-result c =
    let old : Machine = machine_with c.self.inside.retargeting c.self.inside.cpus c.self.inside.threads.items in
    let view = ap (λ (m : Machine). m.threads) c.self.view_is in
    let all : length c.args.self.now.threads ≤ c.loop-thread.thread-index = omega (arith, c.loop-thread-test.false, ap (λ (ds : List Declaration). length ds) c.deref-thread-items.ensures.value, ap (λ (ds : List Declaration). length ds) view) in
    let same = c.loop-thread.invariant ∙ take_all c.loop-thread.thread-index c.args.self.now.threads all in
    rw (same ∙ sym view) (
      c.self.invariant.0,
      found-same (place_by c.self.inside.places) (place_by c.in_ok-try_clone-2.field-0) old c.self.invariant.1 c.in_ok-try_clone-2.ensures,
    )
