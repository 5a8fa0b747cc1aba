use Rattle.std.proofs.Common.{◌≡◌, ◌<◌, ◌==◌, ◌++◌, ◌∷◌, [], ℕ, List, length, false, cond, Some, subst, sym, ap, ◌∙◌, arith}
use Rattle.l4_model.specs.Machine.{Declaration, Machine, most_threads}
use Rattle.l4_script.specs.Machines.{is_taken, machine_with}
use Rattle.l4_script.specs.Inner.Places.{place_by}
use Rattle.l4_script.proofs.Finding.{free}
use Rattle.l4_script.proofs.Growing.{found-same, found-with_thread, lawful-with_thread}
use Rattle.l4_script.proofs.machine.Machine.declare.Goals as goal

pub invariant_of-self-2 : goal.invariant_of-self-2
invariant_of-self-2 c =
    let old : Machine = machine_with c.self.inside.retargeting c.self.inside.cpus c.self.inside.threads.items in
    let room : length old.threads < most_threads = subst (λ (m : Machine). length m.threads < most_threads) (sym c.self.view_is) c.requires.room in
    let home : c.args.thread.cpu < old.cpus = subst (λ (m : Machine). c.args.thread.cpu < m.cpus) (sym c.self.view_is) c.requires.home in
    let fresh : is_taken c.args.thread.id.number old ≡ false = subst (λ (m : Machine). is_taken c.args.thread.id.number m ≡ false) (sym c.self.view_is) c.requires.fresh in
    let items : c.push_reserved.new.self.items ≡ old.threads ++ c.args.thread ∷ [] = c.push_reserved.ensures.items ∙ ap (λ (ds : List Declaration). ds ++ c.args.thread ∷ []) c.in_ok-reserve.ensures.items in
    let named : c.number.result ≡ c.args.thread.id.number = c.number.ensures ∙ ap (λ (d : Declaration). d.id.number) c.thread.view_is in
    let last : c.len-place.result ≡ length old.threads = omega (arith, c.len-place.ensures, c.in_ok-reserve.ensures.len, c.self.inside.threads.ok.0) in
    let places = place_by c.self.inside.places in
    let added : (number : ℕ) → place_by c.insert.new.self number ≡ cond (number == c.args.thread.id.number) (Some (length old.threads)) (places number) =
    λ number. c.in_ok-insert.ensures.ok number ∙ ap (λ (n : ℕ). cond (number == n) (Some c.len-place.result) (places number)) named
    ∙ ap (λ (n : ℕ). cond (number == c.args.thread.id.number) (Some n) (places number)) last in
    rw items (
      lawful-with_thread c.args.thread old c.self.invariant.0 room home fresh,
      found-with_thread places (place_by c.insert.new.self) c.args.thread old c.self.invariant.1 fresh added,
    )

pub insert-requires : goal.insert-requires
insert-requires c =
    let old : Machine = machine_with c.self.inside.retargeting c.self.inside.cpus c.self.inside.threads.items in
    let places = place_by c.self.inside.places in
    let fresh : is_taken c.args.thread.id.number old ≡ false = subst (λ (m : Machine). is_taken c.args.thread.id.number m ≡ false) (sym c.self.view_is) c.requires.fresh in
    ap places (c.number.ensures ∙ ap (λ (d : Declaration). d.id.number) c.thread.view_is) ∙ free places old c.self.invariant.1 c.args.thread.id.number fresh

pub invariant_of-self-in_err-insert : goal.invariant_of-self-in_err-insert
invariant_of-self-in_err-insert c =
    let old : Machine = machine_with c.self.inside.retargeting c.self.inside.cpus c.self.inside.threads.items in
    let same = found-same (place_by c.self.inside.places) (place_by c.insert.new.self) old c.self.invariant.1 c.in_err-insert.ensures.err in
    rw c.in_ok-reserve.ensures.items (c.self.invariant.0, same)
