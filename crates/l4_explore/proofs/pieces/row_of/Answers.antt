use Rattle.std.proofs.Common.{length, sym, subst, ◌∙◌}
use Rattle.std.proofs.lemmas.Bool.{eqb-true}
use Rattle.l4_explore.proofs.Parted.{IsBegun, is_over, kept_more, more_and_more, one_further}
use Rattle.l4_explore.proofs.pieces.row_of.Goals as goal

pub returns-in_err-number-clause-more : goal.returns-in_err-number-clause-more
returns-in_err-number-clause-more c = more_and_more c.args.parts.now c.loop-rest.parts
    c.number_of.new.codes c.loop-rest.invariant.more (kept_more c.loop-rest.parts c.number_of.new.codes c.split_at.result.0.now c.number_of.ensures.kept)

pub returns-in_err-push_number-clause-more : goal.returns-in_err-push_number-clause-more
returns-in_err-push_number-clause-more c = more_and_more c.args.parts.now c.loop-rest.parts
    c.number_of.new.codes c.loop-rest.invariant.more (kept_more c.loop-rest.parts c.number_of.new.codes c.split_at.result.0.now c.number_of.ensures.kept)

pub loop-rest-preserved : goal.loop-rest-preserved
loop-rest-preserved c = record {
  begun = subst (λ row. IsBegun c.number_of.new.codes row c.args.piece.now c.split_at.result.1.now)
      (sym c.in_ok-push_number.ensures)
      (one_further c.loop-rest.parts c.number_of.new.codes c.loop-rest.row.items c.args.piece.now
      c.loop-rest.rest.now c.split_at.result.0.now c.split_at.result.1.now
      c.in_ok-number.number c.in_ok-number.ensures.fits (kept_more c.loop-rest.parts c.number_of.new.codes c.split_at.result.0.now c.number_of.ensures.kept).longer c.in_ok-number.ensures.ok
      c.split_at.ensures.by_index.0 c.loop-rest.invariant.begun);
  more = more_and_more c.args.parts.now c.loop-rest.parts c.number_of.new.codes
      c.loop-rest.invariant.more (kept_more c.loop-rest.parts c.number_of.new.codes c.split_at.result.0.now c.number_of.ensures.kept);
}

pub returns-clause-ok : goal.returns-clause-ok
returns-clause-ok c = is_over c.loop-rest.parts c.loop-rest.row.items c.args.piece.now
    c.loop-rest.rest.now
    (eqb-true (length c.loop-rest.rest.now) 0 (sym c.is_empty.ensures ∙ c.loop-rest-test.false))
    c.loop-rest.invariant.begun
