use Rattle.std.proofs.Common.{◌≡◌, ◌≤◌, ◌<◌, Some, false, true, length, min, sym, subst, arith}
use Rattle.l4_explore.specs.Search.{depth_of, IsCut, IsExplored, Seen}
use Rattle.l4_explore.specs.Told.{ends_among, HasBegun}
use Rattle.l4_explore.specs.Tries.{deepest}
use Rattle.l4_explore.specs.declared.search.Explored.{Explored}
use Rattle.l4_futures.proofs.Looked.{looked}
use Rattle.l4_futures.specs.Endings.{HasLooked}
use Rattle.l4_futures.specs.Inner.Search.{state_after, AreTried}
use Rattle.l4_all_endings.proofs.Leading.{low}
use Rattle.l4_all_endings.proofs.Told.{are_told, have_begun, may_tell, none_of, not_begun, on_err, some_of}
use Rattle.l4_all_endings.proofs.search.all_endings_telling.Goals as goal

pub explore_telling-requires-clause-may : goal.explore_telling-requires-clause-may
explore_telling-requires-clause-may g c =
    let few : min c.min-depth.result deepest ≤ deepest = omega arith in
    subst
    (λ n. (s : Seen) → state_after n s.schedule ≡ Some s.state →
    length s.schedule ≤ min c.min-depth.result deepest → g.L.Listener.may_hear c.args.listener.now s)
    (sym c.in_ok-worlds.ensures)
    (may_tell c.args.machine.now (min c.min-depth.result deepest)
    (g.L.Listener.may_hear c.args.listener.now) few c.requires.may)

pub returns-in_err-worlds-clause-refused : goal.returns-in_err-worlds-clause-refused
returns-in_err-worlds-clause-refused g c =
    on_err c.from_residual.result _
    (not_begun c.args.machine.now c.know_times.ensures
    (g.L.Listener.hears c.args.listener.now c.args.listener.now)
    (g.met.L.Listener.silent c.args.listener.now))

pub returns-in_err-search-clause-refused : goal.returns-in_err-search-clause-refused
returns-in_err-search-clause-refused g c =
    let m = c.args.machine.now in
    let asked = min c.min-depth.result deepest in
    let few : asked ≤ deepest = omega arith in
    let hears = g.L.Listener.hears c.args.listener.now c.explore_telling.new.listener in
    let refused = c.in_err-search.ensures.refused in
    on_err c.from_residual-in_err-search.result _ (
      refused.0,
      have_begun m c.know_times.ensures hears asked refused.0 few
          (subst (λ n. HasBegun (state_after n) (AreTried n) asked hears refused.0)
          c.in_ok-worlds.ensures refused.1),
    )

pub returns-in_default-clause-stopped : goal.returns-in_default-clause-stopped
returns-in_default-clause-stopped g c =
    let m = c.args.machine.now in
    let n = c.in_ok-worlds.worlds.machine.now in
    let asked = min c.min-depth.result deepest in
    let few : asked ≤ deepest = omega arith in
    let hears = g.L.Listener.hears c.args.listener.now c.explore_telling.new.listener in
    have_begun m c.know_times.ensures hears asked false few
    (subst (λ k. HasBegun (state_after k) (AreTried k) asked hears false) c.in_ok-worlds.ensures
    (none_of c.in_ok-search.field-0 (HasBegun (state_after n) (AreTried n) asked hears false)
    c.in_default.not-Some c.in_ok-search.ensures.stopped))

pub returns-clause-all : goal.returns-clause-all
returns-clause-all g c =
    let m = c.args.machine.now in
    let n = c.in_ok-worlds.worlds.machine.now in
    let o = c.in_ok-search.field-0 in
    let x = c.in-Some.search in
    let e = c.in_ok-search.ensures in
    let is = c.in_ok-worlds.ensures in
    let low_depth : c.min-depth.result ≤ deepest = omega (arith, c.min-depth.ensures) in
    let hears = g.L.Listener.hears c.args.listener.now c.explore_telling.new.listener in
    let whole = some_of o x
    (λ (r : Explored). r.is_whole ≡ true → (r.depth ≡ depth_of r.found) × (r.depth < c.min-depth.result))
    c.in-Some.is e.whole in
    let cut = some_of o x
    (λ (r : Explored). r.is_whole ≡ false →
    IsCut (state_after n) (AreTried n) r.found (min c.min-depth.result deepest) c.args.most r.depth)
    c.in-Some.is e.cut in
    let found = some_of o x
    (λ (r : Explored). IsExplored (state_after n) (AreTried n) r.found r.depth r.is_whole)
    c.in-Some.is e.explored in
    let depth = low (state_after n) (AreTried n) x.found c.min-depth.result c.args.most x.depth x.is_whole low_depth whole cut in
    let explored = subst (λ k. IsExplored (state_after k) (AreTried k) x.found x.depth x.is_whole) is found in
    let told = some_of o x (λ (r : Explored). hears (ends_among r.found) true) c.in-Some.is e.told in
    are_told m c.know_times.ensures hears x.found x.depth x.is_whole depth explored told

pub returns-clause-looked : goal.returns-clause-looked
returns-clause-looked g c =
    let m = c.args.machine.now in
    let n = c.in_ok-worlds.worlds.machine.now in
    let o = c.in_ok-search.field-0 in
    let x = c.in-Some.search in
    let e = c.in_ok-search.ensures in
    let is = c.in_ok-worlds.ensures in
    let low_depth : c.min-depth.result ≤ deepest = omega (arith, c.min-depth.ensures) in
    let whole = some_of o x
    (λ (r : Explored). r.is_whole ≡ true → (r.depth ≡ depth_of r.found) × (r.depth < c.min-depth.result))
    c.in-Some.is e.whole in
    let cut = some_of o x
    (λ (r : Explored). r.is_whole ≡ false →
    IsCut (state_after n) (AreTried n) r.found (min c.min-depth.result deepest) c.args.most r.depth)
    c.in-Some.is e.cut in
    let found = some_of o x
    (λ (r : Explored). IsExplored (state_after n) (AreTried n) r.found r.depth r.is_whole)
    c.in-Some.is e.explored in
    let depth = low (state_after n) (AreTried n) x.found c.min-depth.result c.args.most x.depth x.is_whole low_depth whole cut in
    let explored = subst (λ k. IsExplored (state_after k) (AreTried k) x.found x.depth x.is_whole) is found in
    let few = some_of o x (λ (r : Explored). length r.found ≤ c.args.most) c.in-Some.is e.few in
    let asked : min c.args.depth deepest ≡ c.min-depth.result = omega (arith, c.min-depth.ensures) in
    let again : min c.min-depth.result deepest ≡ c.min-depth.result = omega (arith, low_depth) in
    subst (λ k. HasLooked m k c.args.most c.len.result x.depth x.is_whole) (sym asked)
    (subst (λ k. HasLooked m c.min-depth.result c.args.most k x.depth x.is_whole) (sym c.len.ensures.value)
    (looked m c.know_times.ensures x.found c.min-depth.result c.args.most x.depth x.is_whole depth explored
    few whole
    (λ no. subst (λ k. IsCut (state_after k) (AreTried k) x.found c.min-depth.result c.args.most x.depth) is
    (subst (λ k. IsCut (state_after n) (AreTried n) x.found k c.args.most x.depth) again (cut no)))))
