use Rattle.std.proofs.Common.{subst, sym}
use Rattle.l4_forever.specs.Moves.{AreJustified}
use Rattle.l4_forever.specs.Inner.Rows.{AreSpread}
use Rattle.l4_stuck.proofs.Standing.{none_at, still_at, AreFree}
use Rattle.l4_stuck.specs.Inner.Going.{rows_of}
use Rattle.l4_stuck.proofs.search.stuck_place.Goals as goal

pub returns-clause-some : goal.returns-clause-some
returns-clause-some c =
    let g = c.args.graph.now in
    let is = sym c.deref.ensures.value in
    still_at c.args.machine.now c.args.found.now g c.args.known c.args.thread c.deref.result.now
    c.requires.timed c.requires.reached c.requires.graph c.requires.few c.requires.searched
    (subst (AreFree g c.args.known c.args.thread) is c.in_ok-moves.ensures.free)
    (subst (AreSpread (rows_of g) g.edges.items c.args.thread) is c.in_ok-moves.ensures.spread)
    c.first_free.result c.first_free.ensures.some

pub returns-clause-none : goal.returns-clause-none
returns-clause-none c =
    let m = c.args.machine.now in
    let found = c.args.found.now in
    none_at m found c.args.graph.now c.args.known c.args.thread c.deref.result.now
    c.requires.timed c.requires.reached c.requires.graph c.requires.few c.requires.searched
    c.requires.opening
    (λ whole. subst (AreJustified m found c.args.thread) (sym c.deref.ensures.value)
    (c.in_ok-moves.ensures.justified m found c.requires.timed c.requires.reached c.requires.graph
    whole))
    c.first_free.result c.first_free.ensures.none
