use Rattle.std.proofs.Common.{◌<◌, ◌∙◌, length, ap, sym, arith, rules}
use Rattle.std.proofs.Math.Seq.{map-set_same}
use Rattle.l4_mail.specs.Ends.{kept}
use Rattle.l4_mail.specs.Inner.Takes.{NoneIsKept}
use Rattle.l4_mail.proofs.Keeping.{keeps_none}
use Rattle.l4_mail.proofs.Looking.{seen_next, none_taken_set, none_before, none_at_all, none_still, here_before, none_here_at_all}
use Rattle.l4_mail.proofs.takes.next_inlet.Goals as goal

pub loop-from-preserved : goal.loop-from-preserved
loop-from-preserved c = record {
  none_so_far = none_before _ _ c.index-inlets-from.result c.loop-from-test.true (ap kept (sym c.index-inlets-from.is) ∙ keeps_none c.index-inlets-from.result (search rules)) c.loop-from.invariant.none_so_far;
}

pub returns-then-has_mail-clause-taken : goal.returns-then-has_mail-clause-taken
returns-then-has_mail-clause-taken c =
    none_taken_set _ _ _ _ c.index-inlets-from-in-loop-from-2.result c.has_mail.ensures.ring c.has_mail.ensures.taken c.loop-from-2.invariant.none

pub returns-then-has_mail-clause-kept : goal.returns-then-has_mail-clause-kept
returns-then-has_mail-clause-kept c =
    map-set_same kept _ _ _ c.index-inlets-from-in-loop-from-2.result c.has_mail.ensures.kept ∙ c.loop-from-2.invariant.same_kept

pub returns-then-has_mail-clause-some : goal.returns-then-has_mail-clause-some
returns-then-has_mail-clause-some c =
    let lt : c.loop-from-2.from < length c.loop-from-2.inlets = (let t = c.loop-from-2-test.true in let e = c.loop-from-2.auto.inlets in omega arith) in
    let none : NoneIsKept c.args.inlets.now = none_at_all _ _ c.loop-from-test.false c.loop-from.invariant.none_so_far in
    seen_next _ _ _ lt (λ gone. let no = c.has_mail.ensures.here.1 gone in cc)
    (none_still _ _ (map-set_same kept _ _ _ c.index-inlets-from-in-loop-from-2.result c.has_mail.ensures.kept ∙ c.loop-from-2.invariant.same_kept) none)

pub loop-from-2-preserved : goal.loop-from-2-preserved
loop-from-2-preserved c =
    let lt : c.loop-from-2.from < length c.loop-from-2.inlets = (let t = c.loop-from-2-test.true in let e = c.loop-from-2.auto.inlets in omega arith) in
    record {
      none = none_taken_set _ _ _ _ c.index-inlets-from-in-loop-from-2.result c.has_mail.ensures.ring c.has_mail.ensures.taken c.loop-from-2.invariant.none;
      same_kept = map-set_same kept _ _ _ c.index-inlets-from-in-loop-from-2.result c.has_mail.ensures.kept ∙ c.loop-from-2.invariant.same_kept;
      none_so_far = here_before _ _ _ lt (c.has_mail.ensures.here.0 (search rules)) c.loop-from-2.invariant.none_so_far;
    }

pub returns-clause-none : goal.returns-clause-none
returns-clause-none c = (
  none_at_all _ _ c.loop-from-test.false c.loop-from.invariant.none_so_far,
  none_here_at_all _ _ (let t = c.loop-from-2-test.false in let e = c.loop-from-2.auto.inlets in omega arith) c.loop-from-2.invariant.none_so_far,
)
