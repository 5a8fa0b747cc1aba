use Rattle.std.proofs.Common.{◌-◌, length, arith, rules, sym}
use Rattle.l4_waits.proofs.Ways.{begun, found_none, found_ended, found_first, found_before, found_on}
use Rattle.l4_waits.proofs.circles.circle_at.Goals as goal

pub loop-left-init : goal.loop-left-init
loop-left-init c = begun c.args.nexts.now c.args.first _ _ _ (search (arith)) (omega arith) c.next_at-at.ensures

pub loop-left-preserved : goal.loop-left-preserved
loop-left-preserved c =
    let nexts = c.args.nexts.now in
    let l = c.loop-left in
    found_on nexts c.args.first (length nexts - l._left) _ c.in-Some.place l.circle.items _ _ l.at _ c.in-Some.is (omega (arith, c.loop-left-test.true)) (omega arith) (search rules) (search rules) l.invariant

pub returns-in_default : goal.returns-in_default
returns-in_default c =
    let nexts = c.args.nexts.now in
    let l = c.loop-left in
    sym (found_none nexts c.args.first (length nexts - l._left) l.circle.items _ l.at c.in_default.is l.invariant)

pub returns-then-place-first : goal.returns-then-place-first
returns-then-place-first c =
    let nexts = c.args.nexts.now in
    let l = c.loop-left in
    sym (found_first nexts c.args.first (length nexts - l._left) c.in-Some.place l.circle.items _ l.at c.in-Some.is (omega (arith, c.loop-left-test.true)) (omega arith) l.invariant)

pub returns-then-place-first-2 : goal.returns-then-place-first-2
returns-then-place-first-2 c =
    let nexts = c.args.nexts.now in
    let l = c.loop-left in
    sym (found_before nexts c.args.first (length nexts - l._left) c.in-Some.place l.circle.items _ l.at c.in-Some.is (omega arith) l.invariant)

pub returns : goal.returns
returns c =
    let nexts = c.args.nexts.now in
    let l = c.loop-left in
    sym (found_ended nexts c.args.first (length nexts - l._left) l.circle.items _ l.at (omega arith) l.invariant)
