use Rattle.std.proofs.Common.{◌+◌, [], ◌∷◌, ap, length, length-append, ◌∙◌}
use Rattle.l4_parts.proofs.Knowing.{longer_still}
use Rattle.l4_endings.proofs.Finding.{row_more}
use Rattle.l4_endings.proofs.states.row_of.Goals as goal

pub returns-in_err-number_of-clause-are : goal.returns-in_err-number_of-clause-are
returns-in_err-number_of-clause-are c = λ m r is are.
    c.number_of.ensures.are m r is (c.loop-place.invariant.are m r is are)

pub returns-in_err-push-clause-are : goal.returns-in_err-push-clause-are
returns-in_err-push-clause-are c = λ m r is are.
    c.number_of.ensures.are m r is (c.loop-place.invariant.are m r is are)

pub loop-place-preserved : goal.loop-place-preserved
loop-place-preserved c = record {
  longer = longer_still c.args.parts.now.parts.items c.loop-place.parts.parts.items
      c.number_of.new.parts.parts.items c.loop-place.invariant.longer c.number_of.ensures.longer;
  are = λ m r is are. c.number_of.ensures.are m r is (c.loop-place.invariant.are m r is are);
  long =
      ap length c.in_ok-push.ensures.items
      ∙ length-append c.loop-place.row.items (c.in_ok-number_of.field-0 ∷ [])
      ∙ ap (λ n. n + 1) c.loop-place.invariant.long;
  at = λ m r is place less. row_more m r.system c.loop-place.parts.parts.items
      c.number_of.new.parts.parts.items c.loop-place.row.items c.push.new.self.items
      c.in_ok-number_of.field-0 c.loop-place.place c.in_ok-push.ensures.items
      c.loop-place.invariant.long c.number_of.ensures.longer (c.loop-place.invariant.at m r is)
      (c.in_ok-number_of.ensures.number m r is) place less;
}
