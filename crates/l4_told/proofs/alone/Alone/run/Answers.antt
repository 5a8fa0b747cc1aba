use Rattle.std.proofs.Common.{◌≡◌, ◌++◌, arith, subst, sym}
use Rattle.l4_told.specs.Inner.Alone.{HasEnded}
use Rattle.l4_told.specs.declared.alone.Alone.{Alone}
use Rattle.l4_told.proofs.Rounds.{IsRunning, at_its_end, running_next, used_up}
use Rattle.l4_told.proofs.alone.Alone.run.Goals as goal

pub go_on-requires-clause-run : goal.go_on-requires-clause-run
go_on-requires-clause-run g c =
    let fresh = c.requires.fresh in
    let is = c.loop.invariant fresh.0 fresh.1 in
    let t = c.in_ok-make_room.ensures.told fresh.0 is.run is.before is.come in
    (fresh.0, is.run, is.before ++ t.0, t.1)

pub returns-then-not-go_on : goal.returns-then-not-go_on
returns-then-not-go_on g c = λ m come.
    let rest = c.go_on.ensures.rest c.if-not-go_on.true in
    let few = c.loop-test.true in
    subst (λ (a : Alone). HasEnded m c.args.turns (λ steps. g.L.Listener.hears c.args.listener.now steps
    c.make_room.new.listener) a) (sym rest.1)
    (at_its_end m c.args.turns c.loop.counter
    (λ steps. g.L.Listener.hears c.args.listener.now steps c.loop.listener)
    (λ steps. g.L.Listener.hears c.loop.listener steps c.make_room.new.listener)
    (λ steps. g.L.Listener.hears c.args.listener.now steps c.make_room.new.listener)
    c.loop.self c.make_room.new.self (c.loop.invariant m come) c.in_ok-make_room.ensures.told rest.0 (omega
    (arith, few))
    (λ xs ys one two. g.met.L.Listener.heard_both c.args.listener.now c.loop.listener
    c.make_room.new.listener xs ys one two))

pub loop-preserved : goal.loop-preserved
loop-preserved g c = λ m come.
    running_next m c.args.turns c.loop.counter
    (λ steps. g.L.Listener.hears c.args.listener.now steps c.loop.listener)
    (λ steps. g.L.Listener.hears c.loop.listener steps c.make_room.new.listener)
    (λ steps. g.L.Listener.hears c.args.listener.now steps c.make_room.new.listener)
    c.loop.self c.make_room.new.self c.go_on.new.self (c.loop.invariant m come) c.in_ok-make_room.ensures.told
    (c.go_on.ensures.on c.if-not-go_on.false) c.loop-test.true (c.go_on.ensures.clock c.if-not-go_on.false)
    (λ xs ys one two. g.met.L.Listener.heard_both c.args.listener.now c.loop.listener
    c.make_room.new.listener xs ys one two)

pub returns : goal.returns
returns g c = λ m come.
    let over = c.loop-test.false in
    let within = c.loop.auto.counter-end in
    let all : c.loop.counter ≡ c.args.turns = omega (arith, over, within) in
    used_up m c.args.turns (λ steps. g.L.Listener.hears c.args.listener.now steps c.loop.listener) c.loop.self
    (subst (λ n. IsRunning m c.args.turns n (λ steps. g.L.Listener.hears c.args.listener.now steps c.loop.listener)
    c.loop.self) all (c.loop.invariant m come))
