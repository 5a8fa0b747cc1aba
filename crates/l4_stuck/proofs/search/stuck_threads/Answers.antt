use Rattle.std.proofs.Common.{◌≡◌, ◌≤◌, ◌<◌, ◌∷◌, [], false, length, min, refl, subst, sym, ap, ◌∙◌, arith}
use Rattle.std.proofs.lemmas.List.{map-append}
use Rattle.std.specs.Prelude.{IfNone, IfSome}
use Rattle.l4_model.specs.World.{World}
use Rattle.l4_explore.specs.Search.{seen_at, IsCut, IsExplored}
use Rattle.l4_explore.specs.Tries.{deepest}
use Rattle.l4_futures.specs.Inner.Search.{state_after}
use Rattle.l4_forever.specs.Forever.{WaitsForEver}
use Rattle.l4_forever.specs.Inner.Graph.{IsWorldAt}
use Rattle.l4_forever.specs.Moves.{IsNeverStuck}
use Rattle.l4_forever.specs.Inner.Walks.{AreWalked}
use Rattle.l4_all_endings.proofs.Leading.{low}
use Rattle.l4_stuck.specs.Stuck.{stuck_from, stuck_of, AreStuckBelow}
use Rattle.l4_stuck.proofs.Cut.{cut_off}
use Rattle.l4_stuck.proofs.Telling.{first_found, none_told, not_told, one_told, stuck_by}
use Rattle.l4_stuck.proofs.search.stuck_threads.Goals as goal

pub loop-thread-init : goal.loop-thread-init
loop-thread-init g c =
    let whole = c.in_ok-explored.explored.is_whole in
    subst (λ threads. AreStuckBelow c.args.machine.now (stuck_of threads) whole 0)
    (sym c.new-threads.ensures.items) (none_told c.args.machine.now whole)

pub stuck_place-requires-clause-searched : goal.stuck_place-requires-clause-searched
stuck_place-requires-clause-searched g c =
    let x = c.in_ok-explored.explored in
    let explored = subst (λ n. IsExplored (state_after n) (AreWalked n) x.found x.depth x.is_whole)
    c.in_ok-walks.ensures c.in_ok-explored.ensures.explored in
    λ i below. explored.gone_on i (omega (arith, below, c.known_of-known.ensures.few))
    (c.known_of-known.ensures.known i below)

pub stuck_place-requires-clause-opening : goal.stuck_place-requires-clause-opening
stuck_place-requires-clause-opening g c =
    let x = c.in_ok-explored.explored in
    let explored = subst (λ n. IsExplored (state_after n) (AreWalked n) x.found x.depth x.is_whole)
    c.in_ok-walks.ensures c.in_ok-explored.ensures.explored in
    first_found c.args.machine.now x.found explored.all

pub loop-thread-preserved-in_default : goal.loop-thread-preserved-in_default
loop-thread-preserved-in_default g c =
    let m = c.args.machine.now in
    let x = c.in_ok-explored.explored in
    let never = subst (λ o. IfNone o (length x.found ≤ c.known_of-known.result →
    IsNeverStuck m c.loop-thread.thread)) c.in_default.is c.in_ok-place.ensures.none in
    not_told m (stuck_of c.loop-thread.threads.items) x.is_whole c.loop-thread.thread
    (λ whole. let all = c.known_of-known.ensures.whole whole in never (omega (arith, all)))
    c.loop-thread.invariant

pub loop-thread-preserved : goal.loop-thread-preserved
loop-thread-preserved g c =
    let m = c.args.machine.now in
    let x = c.in_ok-explored.explored in
    let e = c.in_ok-explored.ensures in
    let n = c.in_ok-walks.walks.machine.now in
    let place = c.in-Some.place in
    let thread = c.loop-thread.thread in
    let entries = c.in_ok-entries.entries.items in
    let few : c.min.result ≤ deepest = omega (arith, c.min.ensures) in
    let low_enough : x.depth ≤ deepest
    = low (state_after n) (AreWalked n) x.found c.min.result c.args.most x.depth x.is_whole few
    e.whole e.cut in
    let explored = subst (λ k. IsExplored (state_after k) (AreWalked k) x.found x.depth x.is_whole)
    c.in_ok-walks.ensures e.explored in
    let waits = subst (λ o. IfSome o (λ i. (i < length x.found) × ((w : World) →
    IsWorldAt m x.found i w → WaitsForEver m w thread))) c.in-Some.is c.in_ok-place.ensures.some in
    let near = explored.near place waits.0 in
    let as_long : length entries ≡ length (seen_at x.found place).schedule
    = ap length c.in_ok-entries.ensures in
    one_told m (stuck_of c.loop-thread.threads.items) (stuck_of c.push.new.self.items) x.is_whole
    thread (record { thread = thread; entries = entries })
    (ap stuck_of c.in_ok-push.ensures.items
    ∙ map-append stuck_from c.loop-thread.threads.items
    (record { thread = thread; entries = c.in_ok-entries.entries } ∷ []))
    refl
    (stuck_by m x.found place thread entries c.know_times.ensures explored.all.reached waits.0
    c.in_ok-entries.ensures (omega (arith, near, low_enough, as_long)) waits.1)
    c.loop-thread.invariant

pub returns-clause-threads : goal.returns-clause-threads
returns-clause-threads g c =
    let m = c.args.machine.now in
    let all : c.loop-thread.thread ≡ length c.threads-thread-end.result.now
    = omega (arith, c.loop-thread-test.false, c.loop-thread.auto.thread-end) in
    subst (λ n. AreStuckBelow m (stuck_of c.loop-thread.threads.items)
    c.in_ok-explored.explored.is_whole n) (all ∙ ap length c.threads-thread-end.ensures.value)
    c.loop-thread.invariant

-- It was cut where the search of worlds was.
pub returns-clause-cut : goal.returns-clause-cut
returns-clause-cut g c = λ cut.
    let m = c.args.machine.now in
    let x = c.in_ok-explored.explored in
    let e = c.in_ok-explored.ensures in
    let n = c.in_ok-walks.walks.machine.now in
    let few : c.min.result ≤ deepest = omega (arith, c.min.ensures) in
    let low_enough : x.depth ≤ deepest
    = low (state_after n) (AreWalked n) x.found c.min.result c.args.most x.depth x.is_whole few
    e.whole e.cut in
    let explored = subst (λ k. IsExplored (state_after k) (AreWalked k) x.found x.depth x.is_whole)
    c.in_ok-walks.ensures e.explored in
    let asked : min c.min.result deepest ≡ min c.args.depth deepest
    = omega (arith, c.min.ensures) in
    cut_off m x.found (min c.args.depth deepest) c.args.most x.depth x.is_whole c.know_times.ensures
    low_enough explored
    (subst (λ a. IsCut (state_after m) (AreWalked m) x.found a c.args.most x.depth) asked
    (subst (λ k. IsCut (state_after k) (AreWalked k) x.found (min c.min.result deepest) c.args.most
    x.depth) c.in_ok-walks.ensures (e.cut cut)))
