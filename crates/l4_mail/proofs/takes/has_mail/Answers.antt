use Rattle.std.proofs.Common.{◌<◌, ◌∙◌, length, arith, rules}
use Rattle.std.proofs.Math.Seq.{map-set_same}
use Rattle.l4_mail.specs.Ends.{kept}
use Rattle.l4_mail.proofs.Looking.{none_taken_set, here_before, none_at}
use Rattle.l4_mail.proofs.takes.has_mail.Goals as goal

pub returns-then-has_mail-clause-taken : goal.returns-then-has_mail-clause-taken
returns-then-has_mail-clause-taken c =
    none_taken_set _ _ _ _ c.index-inlets-from.result c.has_mail.ensures.ring c.has_mail.ensures.taken c.loop-from.invariant.none

pub returns-then-has_mail-clause-kept : goal.returns-then-has_mail-clause-kept
returns-then-has_mail-clause-kept c =
    map-set_same kept _ _ _ c.index-inlets-from.result c.has_mail.ensures.kept ∙ c.loop-from.invariant.same_kept

pub returns-then-has_mail-clause-here : goal.returns-then-has_mail-clause-here
returns-then-has_mail-clause-here c =
    let lt : c.loop-from.from < length c.loop-from.inlets = (let t = c.loop-from-test.true in let e = c.loop-from.auto.inlets in omega arith) in
    (λ no. absurd cc, λ none. let no = c.has_mail.ensures.here.1 (none_at _ _ _ lt none) in cc)

pub loop-from-preserved : goal.loop-from-preserved
loop-from-preserved c =
    let lt : c.loop-from.from < length c.loop-from.inlets = (let t = c.loop-from-test.true in let e = c.loop-from.auto.inlets in omega arith) in
    record {
      none = none_taken_set _ _ _ _ c.index-inlets-from.result c.has_mail.ensures.ring c.has_mail.ensures.taken c.loop-from.invariant.none;
      same_kept = map-set_same kept _ _ _ c.index-inlets-from.result c.has_mail.ensures.kept ∙ c.loop-from.invariant.same_kept;
      none_so_far = here_before _ _ _ lt (c.has_mail.ensures.here.0 (search rules)) c.loop-from.invariant.none_so_far;
    }
