use Rattle.l4_core.proofs.Zeros.{zeros-put}
use Rattle.l4_core.proofs.Noting.{put_there, still_there}
use Rattle.l4_core.proofs.processor.note_zero.Goals as goal

pub returns-then-is_zero-clause-zeros : goal.returns-then-is_zero-clause-zeros
returns-then-is_zero-clause-zeros c = λ zeros. zeros-put c.args.zeros.now c.insert_place.new.duties c.args.known.now.local zeros (λ o h. still_there c.args.zeros.now c.insert_place.new.duties c.args.receiver o c.insert_place.ensures.put h)

pub returns-then-is_zero-clause-there : goal.returns-then-is_zero-clause-there
returns-then-is_zero-clause-there c = λ zero. put_there c.args.zeros.now c.insert_place.new.duties c.args.receiver c.insert_place.ensures.put
