use Rattle.std.proofs.Common.{◌≡◌, ◌+◌, ◌≤◌, ◌⊎◌, None, arith, min, subst, sym}
use Rattle.std.specs.Prelude.{IfNone}
use Rattle.l4_explore.specs.Search.{IsCut, IsExplored}
use Rattle.l4_explore.specs.Tries.{deepest}
use Rattle.l4_futures.specs.Inner.Search.{state_after}
use Rattle.l4_futures.specs.Inner.Asked.{TellsNoneApart}
use Rattle.l4_invariants.specs.Inner.Searched.{AreWatched, IsNoneMet}
use Rattle.l4_invariants.proofs.Finding.{never_met}
use Rattle.l4_condition_lines.specs.Conditions.{meets}
use Rattle.l4_condition_lines.proofs.Judging.{lines_alike, lines_read}
use Rattle.l4_futures.specs.Endings.{IsCutByDepth, IsCutByWorlds, IsWhole}
use Rattle.l4_futures.specs.Inner.Search.{schedules_of, traces_of}
use Rattle.l4_always.specs.Always.{AreLookedAt}
use Rattle.l4_futures.proofs.Searched.{by_whole, cut_by}
use Rattle.l4_always.proofs.Looking.{looked_at, met_by_none}
use Rattle.l4_always.proofs.Saying.{said_by}
use Rattle.l4_condition_lines.specs.Inner.Reading.{reads_of}
use Rattle.l4_all_endings.proofs.Leading.{low}
use Rattle.l4_always.proofs.search.verdict_of.Goals as goal

pub met_among-requires-clause-short : goal.met_among-requires-clause-short
met_among-requires-clause-short g c =
    let n = c.in_ok-watch.watch.machine.now in
    let reads = reads_of c.in_ok-watch.watch.condition.now in
    let x = c.in_ok-explored.explored in
    let e = c.in_ok-explored.ensures in
    let few : c.min.result ≤ deepest = omega (arith, c.min.ensures) in
    let deep = low (state_after n) (AreWatched n reads) x.found c.min.result c.args.most x.depth x.is_whole few e.whole e.cut in
    λ i inside. let near = e.explored.near i inside in omega (arith, near, deep)

pub returns : goal.returns
returns g c =
    let m = c.args.machine.now in
    let asked = c.args.condition.now in
    let n = c.in_ok-watch.watch.machine.now in
    let given = c.in_ok-watch.watch.condition.now in
    let x = c.in_ok-explored.explored in
    let e = c.in_ok-explored.ensures in
    let few : c.min.result ≤ deepest = omega (arith, c.min.ensures) in
    let same = c.in_ok-watch.ensures.0 in
    let as_given = c.in_ok-watch.ensures.1 in
    let explored = subst (λ k. IsExplored (state_after k) (AreWatched k (reads_of asked)) x.found x.depth x.is_whole) same
    (subst (λ a. IsExplored (state_after n) (AreWatched n (reads_of a)) x.found x.depth x.is_whole) as_given e.explored) in
    let shown : min c.args.depth deepest ≡ c.min.result = omega (arith, c.min.ensures) in
    let again : min c.min.result deepest ≡ c.min.result = omega (arith, few) in
    let none : c.in_ok-met.met ≡ None → IsNoneMet m x.found (meets m asked) = λ is. subst (λ o. IfNone o (IsNoneMet m x.found (meets m asked))) is c.in_ok-met.ensures.none in
    let timed = c.know_times.ensures in
    let deep = low (state_after n) (AreWatched n (reads_of given)) x.found c.min.result c.args.most x.depth x.is_whole few e.whole e.cut in
    let tells : TellsNoneApart (meets m asked) = λ w v good. lines_alike m asked w v c.facts.ensures good in
    record {
      said =
          said_by m (meets m asked) c.args.most c.in_ok-met.met x.is_whole c.in_ok-met.ensures.some
          (λ is whole.
          never_met m (reads_of asked) (meets m asked) x.found x.depth c.know_times.ensures tells (λ w v alike. lines_read m asked w v alike)
          (subst (λ b. IsExplored (state_after m) (AreWatched m (reads_of asked)) x.found x.depth b) whole explored) (none is));
      looked = record {
        schedules = schedules_of x.found;
        are =
            subst (λ n. AreLookedAt m (schedules_of x.found) n (x.depth + 1)) (sym c.len.ensures.value)
            (looked_at m timed x.found c.min.result c.args.most x.depth x.is_whole deep (AreWatched m (reads_of asked)) explored);
        few = let most = e.few in omega (arith, most, c.len.ensures.value);
        whole = λ whole.
            subst (λ n. IsWhole m (traces_of m x.found) n x.depth) (sym shown)
            (by_whole m timed x.found c.min.result c.args.most x.depth x.is_whole deep (AreWatched m (reads_of asked)) explored (e.whole whole));
        cut = λ cut.
            subst (λ k. IsCutByDepth (traces_of m x.found) k x.depth ⊎ IsCutByWorlds m c.len.result k c.args.most x.depth) (sym shown)
            (subst (λ n. IsCutByDepth (traces_of m x.found) c.min.result x.depth ⊎ IsCutByWorlds m n c.min.result c.args.most x.depth) (sym c.len.ensures.value)
            (cut_by m timed x.found c.min.result c.args.most x.depth x.is_whole deep (AreWatched m (reads_of asked)) explored
            (subst (λ k. IsCut (state_after m) (AreWatched m (reads_of asked)) x.found k c.args.most x.depth) again
            (subst (λ k. IsCut (state_after k) (AreWatched k (reads_of asked)) x.found (min c.min.result deepest) c.args.most x.depth) same
            (subst (λ a. IsCut (state_after n) (AreWatched n (reads_of a)) x.found (min c.min.result deepest) c.args.most x.depth) as_given (e.cut cut))))));
        none = λ is. met_by_none m timed x.found c.min.result c.args.most x.depth x.is_whole deep (AreWatched m (reads_of asked)) explored (meets m asked) (none is);
      };
    }
