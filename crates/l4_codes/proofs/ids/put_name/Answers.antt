use Rattle.l4_codes.proofs.ids.put_name.Goals as goal

pub returns : goal.returns
returns c = rw c.thread.ensures at c.put_global.ensures
