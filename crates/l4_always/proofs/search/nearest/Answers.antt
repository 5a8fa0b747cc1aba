use Rattle.std.proofs.Common.{◌≡◌, ◌≤◌, ◌-◌, arith, length, min, subst, sym, ◌∙◌}
use Rattle.std.specs.Prelude.{IfNone, IfSome}
use Rattle.l4_explore.specs.Search.{IsCut, IsExplored}
use Rattle.l4_explore.specs.Tries.{deepest}
use Rattle.l4_futures.specs.Inner.Search.{state_after}
use Rattle.l4_futures.specs.Inner.Asked.{TellsNoneApart}
use Rattle.l4_invariants.specs.Inner.Searched.{AreAllTried, IsFirstMet, IsNoneMet}
use Rattle.l4_condition_lines.specs.Conditions.{meets}
use Rattle.l4_condition_lines.specs.Inner.Reading.{reads_of}
use Rattle.l4_condition_lines.proofs.Judging.{lines_alike, lines_read}
use Rattle.l4_always.specs.Inner.Unseen.{AreShort}
use Rattle.l4_always.proofs.Saying.{led_at, meets_at, shortest_at, shortest_else, unmet}
use Rattle.l4_all_endings.proofs.Leading.{low}
use Rattle.l4_always.proofs.search.nearest.Goals as goal

pub first_met-requires-clause-short : goal.first_met-requires-clause-short
first_met-requires-clause-short g c =
    let n = c.in_ok-worlds.worlds.machine.now in
    let x = c.in_ok-explored.explored in
    let e = c.in_ok-explored.ensures in
    let few : c.saturating_sub-depth.result ≤ deepest = omega (arith, c.saturating_sub-depth.ensures, c.len.ensures, c.requires.led.few) in
    let deep = low (state_after n) (AreAllTried n) x.found c.saturating_sub-depth.result c.args.most x.depth x.is_whole few e.whole e.cut in
    λ i inside. let near = e.explored.near i inside in omega (arith, near, deep)

pub returns-in_ok-nearer-in-Some : goal.returns-in_ok-nearer-in-Some
returns-in_ok-nearer-in-Some g c =
    let m = c.args.machine.now in
    let asked = c.args.condition.now in
    let n = c.in_ok-worlds.worlds.machine.now in
    let x = c.in_ok-explored.explored in
    let e = c.in_ok-explored.ensures in
    let few : c.saturating_sub-depth.result ≤ deepest = omega (arith, c.saturating_sub-depth.ensures, c.len.ensures, c.requires.led.few) in
    let deep = low (state_after n) (AreAllTried n) x.found c.saturating_sub-depth.result c.args.most x.depth x.is_whole few e.whole e.cut in
    let explored = subst (λ k. IsExplored (state_after k) (AreAllTried k) x.found x.depth x.is_whole) c.in_ok-worlds.ensures e.explored in
    let short : AreShort x.found = λ i inside. let near = explored.near i inside in omega (arith, near, deep) in
    let first = subst (λ o. IfSome o (IsFirstMet m x.found (meets m asked))) c.in-Some.is c.in_ok-place.ensures.some in
    let tells : TellsNoneApart (meets m asked) = λ w v good. lines_alike m asked w v c.requires.judged good in
    let entries = c.in_ok-nearer-in-Some.nearer.items in
    record {
      led = led_at m (meets m asked) c.know_times.ensures tells x.found c.in-Some.place entries short first c.in_ok-nearer-in-Some.ensures;
      meets = meets_at m (meets m asked) c.know_times.ensures tells x.found c.in-Some.place entries short first c.in_ok-nearer-in-Some.ensures;
      shortest = λ is. shortest_at m (meets m asked) c.know_times.ensures tells x.found x.depth c.in-Some.place x.is_whole entries deep explored first c.in_ok-nearer-in-Some.ensures;
      unknown = λ is. cc;
    }

pub returns-in-None : goal.returns-in-None
returns-in-None g c =
    let m = c.args.machine.now in
    let asked = c.args.condition.now in
    let n = c.in_ok-worlds.worlds.machine.now in
    let x = c.in_ok-explored.explored in
    let e = c.in_ok-explored.ensures in
    let far = c.saturating_sub-depth.result in
    let few : far ≤ deepest = omega (arith, c.saturating_sub-depth.ensures, c.len.ensures, c.requires.led.few) in
    let as_far : far ≡ length c.args.entries.items - 1 = omega (arith, c.saturating_sub-depth.ensures, c.len.ensures) in
    let explored = subst (λ k. IsExplored (state_after k) (AreAllTried k) x.found x.depth x.is_whole) c.in_ok-worlds.ensures e.explored in
    let none = subst (λ o. IfNone o (IsNoneMet m x.found (meets m asked))) c.in-None.is c.in_ok-place.ensures.none in
    let tells : TellsNoneApart (meets m asked) = λ w v good. lines_alike m asked w v c.requires.judged good in
    record {
      led = c.requires.led;
      meets = c.requires.meets;
      shortest = λ is.
          shortest_else m (meets m asked) c.know_times.ensures tells (reads_of asked) x.found x.depth far x.is_whole c.args.entries.items (λ w v alike. lines_read m asked w v alike) c.requires.led c.requires.meets as_far explored none
          (sym c.has_tried-is_shortest.ensures ∙ is);
      unknown = λ is.
          unmet m (meets m asked) c.know_times.ensures tells x.found x.depth far c.args.most x.is_whole few explored none
          (λ cut. subst (λ k. IsCut (state_after k) (AreAllTried k) x.found (min far deepest) c.args.most x.depth) c.in_ok-worlds.ensures (e.cut cut))
          (sym c.has_tried-is_shortest.ensures ∙ is);
    }
