use Rattle.std.proofs.Common.{◌≡◌, ◌<◌, false, min, true}
use Rattle.l4_explore.specs.Search.{depth_of, IsCut, IsExplored}
use Rattle.l4_explore.specs.Told.{ends_among, HasBegun}
use Rattle.l4_explore.specs.Tries.{deepest}
use Rattle.l4_explore.specs.declared.search.Explored.{Explored}
use Rattle.l4_persistent.specs.Inner.Ends.{AreOfSet}
use Rattle.l4_states.specs.Choices.{state_after}
use Rattle.l4_endings.proofs.Told.{are_told, have_begun, may_tell, none_of, not_begun, on_err, some_of}
use Rattle.l4_endings.proofs.endings_of.endings_telling.Goals as goal

pub explore_telling-requires-clause-may : goal.explore_telling-requires-clause-may
explore_telling-requires-clause-may g c =
    may_tell c.args.machine.now (min c.args.depth deepest)
    (g.L.Listener.may_hear c.args.listener.now) c.requires.may

pub returns-in_err-memory-clause-refused : goal.returns-in_err-memory-clause-refused
returns-in_err-memory-clause-refused g c =
    on_err c.from_residual.result _
    (not_begun c.args.machine.now c.facts.ensures.lawful
    (g.L.Listener.hears c.args.listener.now c.args.listener.now)
    (g.met.L.Listener.silent c.args.listener.now))

pub returns-in_err-search-clause-refused : goal.returns-in_err-search-clause-refused
returns-in_err-search-clause-refused g c =
    let refused = c.in_err-search.ensures.refused in
    on_err c.from_residual-in_err-search.result _ (
      refused.0,
      have_begun c.args.machine.now c.facts.ensures.lawful
          (g.L.Listener.hears c.args.listener.now c.explore_telling.new.listener)
          (min c.args.depth deepest) refused.0 refused.1,
    )

pub returns-in_default-clause-stopped : goal.returns-in_default-clause-stopped
returns-in_default-clause-stopped g c =
    let m = c.args.machine.now in
    let asked = min c.args.depth deepest in
    let hears = g.L.Listener.hears c.args.listener.now c.explore_telling.new.listener in
    have_begun m c.facts.ensures.lawful hears asked false
    (none_of c.in_ok-search.field-0 (HasBegun (state_after m) (AreOfSet m) asked hears false)
    c.in_default.not-Some c.in_ok-search.ensures.stopped)

pub returns-clause-all : goal.returns-clause-all
returns-clause-all g c =
    let m = c.args.machine.now in
    let asked = min c.args.depth deepest in
    let o = c.in_ok-search.field-0 in
    let x = c.in-Some.search in
    let e = c.in_ok-search.ensures in
    let hears = g.L.Listener.hears c.args.listener.now c.explore_telling.new.listener in
    let whole = some_of o x
    (λ (r : Explored). r.is_whole ≡ true → (r.depth ≡ depth_of r.found) × (r.depth < c.args.depth))
    c.in-Some.is e.whole in
    let cut = some_of o x
    (λ (r : Explored). r.is_whole ≡ false →
    IsCut (state_after m) (AreOfSet m) r.found asked c.args.most r.depth) c.in-Some.is e.cut in
    let explored = some_of o x
    (λ (r : Explored). IsExplored (state_after m) (AreOfSet m) r.found r.depth r.is_whole)
    c.in-Some.is e.explored in
    let told = some_of o x (λ (r : Explored). hears (ends_among r.found) true) c.in-Some.is e.told in
    are_told m c.facts.ensures.lawful hears x.found c.len.result asked c.args.most x.depth x.is_whole
    explored (λ is. (whole is).0) cut c.len.ensures.value told

pub returns-clause-whole : goal.returns-clause-whole
returns-clause-whole g c =
    let whole = some_of c.in_ok-search.field-0 c.in-Some.search
    (λ (r : Explored). r.is_whole ≡ true → (r.depth ≡ depth_of r.found) × (r.depth < c.args.depth))
    c.in-Some.is c.in_ok-search.ensures.whole in
    λ is. (whole is).1
