use Rattle.std.proofs.Common.{length, sym, subst, ◌∙◌}
use Rattle.std.proofs.lemmas.Bool.{eqb-true}
use Rattle.l4_explore.proofs.Parted.{IsBegun, is_over, longer_and_longer, one_further}
use Rattle.l4_explore.proofs.rows.row_of.Goals as goal

pub returns-in_err-number-clause-more : goal.returns-in_err-number-clause-more
returns-in_err-number-clause-more c = longer_and_longer c.args.pieces.now c.loop-rest.pieces
    c.number_of.new.self c.loop-rest.invariant.more c.number_of.ensures.more

pub returns-in_err-push_number-clause-more : goal.returns-in_err-push_number-clause-more
returns-in_err-push_number-clause-more c = longer_and_longer c.args.pieces.now c.loop-rest.pieces
    c.number_of.new.self c.loop-rest.invariant.more c.number_of.ensures.more

pub loop-rest-preserved : goal.loop-rest-preserved
loop-rest-preserved c = record {
  begun = subst (λ row. IsBegun c.number_of.new.self row c.args.code.now c.split_at.result.1.now)
      (sym c.in_ok-push_number.ensures)
      (one_further c.loop-rest.pieces c.number_of.new.self c.loop-rest.row.items c.args.code.now
      c.loop-rest.rest.now c.split_at.result.0.now c.split_at.result.1.now
      c.in_ok-number.number c.in_ok-number.ensures.fits c.number_of.ensures.more c.in_ok-number.ensures.ok
      c.split_at.ensures.by_index.0 c.loop-rest.invariant.begun);
  more = longer_and_longer c.args.pieces.now c.loop-rest.pieces c.number_of.new.self
      c.loop-rest.invariant.more c.number_of.ensures.more;
}

pub returns-clause-ok : goal.returns-clause-ok
returns-clause-ok c = is_over c.loop-rest.pieces c.loop-rest.row.items c.args.code.now
    c.loop-rest.rest.now
    (eqb-true (length c.loop-rest.rest.now) 0 (sym c.is_empty.ensures ∙ c.loop-rest-test.false))
    c.loop-rest.invariant.begun
