use Rattle.std.proofs.Common.{◌≡◌, ◌≤◌, min, map, sym, subst, arith}
use Rattle.l4_explore.specs.Search.{IsCut, IsExplored}
use Rattle.l4_explore.specs.Tries.{deepest}
use Rattle.l4_futures.proofs.Endings.{all_endings}
use Rattle.l4_futures.proofs.Looked.{looked}
use Rattle.l4_futures.specs.Endings.{AreAllEndings, HasLooked}
use Rattle.l4_futures.specs.Inner.Search.{state_after, AreTried}
use Rattle.l4_futures.specs.Traces.{trace_along}
use Rattle.l4_all_endings.specs.Tried.{AreLed}
use Rattle.l4_all_endings.proofs.Leading.{ends_led, low}
use Rattle.l4_all_endings.proofs.search.all_endings.Goals as goal

pub returns-clause-all : goal.returns-clause-all
returns-clause-all g c =
    let m = c.args.machine.now in
    let x = c.in_ok-explored.explored in
    let e = c.in_ok-explored.ensures in
    let is = c.in_ok-worlds.ensures in
    let few : c.min.result ≤ deepest = omega (arith, c.min.ensures) in
    let depth = low (state_after c.in_ok-worlds.worlds.machine.now) (AreTried c.in_ok-worlds.worlds.machine.now) x.found c.min.result c.args.most x.depth x.is_whole few e.whole e.cut in
    let explored = subst (λ n. IsExplored (state_after n) (AreTried n) x.found x.depth x.is_whole) is e.explored in
    subst (λ s. AreAllEndings m (map (trace_along m) s) x.depth x.is_whole) (sym c.in_ok-ends.ensures)
    (all_endings m c.know_times.ensures x.found x.depth x.is_whole depth explored)

pub returns-clause-looked : goal.returns-clause-looked
returns-clause-looked g c =
    let m = c.args.machine.now in
    let x = c.in_ok-explored.explored in
    let e = c.in_ok-explored.ensures in
    let is = c.in_ok-worlds.ensures in
    let few : c.min.result ≤ deepest = omega (arith, c.min.ensures) in
    let depth = low (state_after c.in_ok-worlds.worlds.machine.now) (AreTried c.in_ok-worlds.worlds.machine.now) x.found c.min.result c.args.most x.depth x.is_whole few e.whole e.cut in
    let explored = subst (λ n. IsExplored (state_after n) (AreTried n) x.found x.depth x.is_whole) is e.explored in
    let asked : min c.args.depth deepest ≡ c.min.result = omega (arith, c.min.ensures) in
    let again : min c.min.result deepest ≡ c.min.result = omega (arith, few) in
    subst (λ n. HasLooked m n c.args.most c.len.result x.depth x.is_whole) (sym asked)
    (subst (λ n. HasLooked m c.min.result c.args.most n x.depth x.is_whole) (sym c.len.ensures.value)
    (looked m c.know_times.ensures x.found c.min.result c.args.most x.depth x.is_whole depth explored
    e.few e.whole
    (λ cut. subst (λ n. IsCut (state_after n) (AreTried n) x.found c.min.result c.args.most x.depth) is
    (subst (λ k. IsCut (state_after c.in_ok-worlds.worlds.machine.now) (AreTried c.in_ok-worlds.worlds.machine.now) x.found k c.args.most x.depth) again (e.cut cut)))))

pub returns-clause-led : goal.returns-clause-led
returns-clause-led g c =
    let m = c.args.machine.now in
    let x = c.in_ok-explored.explored in
    let e = c.in_ok-explored.ensures in
    let is = c.in_ok-worlds.ensures in
    let few : c.min.result ≤ deepest = omega (arith, c.min.ensures) in
    let depth = low (state_after c.in_ok-worlds.worlds.machine.now) (AreTried c.in_ok-worlds.worlds.machine.now) x.found c.min.result c.args.most x.depth x.is_whole few e.whole e.cut in
    let explored = subst (λ n. IsExplored (state_after n) (AreTried n) x.found x.depth x.is_whole) is e.explored in
    subst (AreLed m) (sym c.in_ok-ends.ensures) (ends_led m x.found x.depth x.is_whole depth explored)
