use Rattle.std.proofs.Common.{◌∙◌, sym}
use Rattle.l4_core.proofs.Covering.{others-foreign}
use Rattle.l4_core.proofs.processor.note_queued.Goals as goal

pub note_duty-requires : goal.note_duty-requires
note_duty-requires c = record {
  own = record { within = c.requires.sender; own = sym c.is_own.ensures.value ∙ c.if-is_own.true };
  others = c.note_duty_beside.ensures;
  waiting = c.requires.zeros;
}

pub returns-else-is_own : goal.returns-else-is_own
returns-else-is_own c = record {
  covers = others-foreign _ _ _ _ c.args.sender c.note_duty_beside.ensures (sym c.is_own.ensures.value ∙ c.if-is_own.false);
  waiting = c.requires.zeros;
}
