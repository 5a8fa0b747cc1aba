use Rattle.std.proofs.Common.{sym, ◌∙◌}
use Rattle.l4_core.proofs.Covering.{covers-put}
use Rattle.l4_core.proofs.Noting.{put_there, still_there}
use Rattle.l4_core.proofs.processor.note_own.Goals as goal

pub returns-then-is_own-clause-covers : goal.returns-then-is_own-clause-covers
returns-then-is_own-clause-covers c = λ covers. covers-put c.args.duties.now c.insert_place.new.duties _ _ _ c.args.place covers (record { within = c.requires; own = sym c.is_own.ensures.value ∙ c.if-is_own.true }) c.insert_place.ensures.put

pub returns-then-is_own-clause-still : goal.returns-then-is_own-clause-still
returns-then-is_own-clause-still c = λ other h. still_there c.args.duties.now c.insert_place.new.duties c.args.place other c.insert_place.ensures.put h

pub returns-then-is_own-clause-there : goal.returns-then-is_own-clause-there
returns-then-is_own-clause-there c = λ own. put_there c.args.duties.now c.insert_place.new.duties c.args.place c.insert_place.ensures.put
