use Rattle.std.proofs.Common.{◌++◌, sym, ◌∙◌}
use Rattle.l4_proc.proofs.Ends.{told_between}
use Rattle.l4_proc.proofs.log.Log.history.Goals as goal

pub returns : goal.returns
returns c =
    c.sink.ensures ∙ sym (told_between c.args.self.now.cpu 0 c.args.self.now.ends.items (c.args.self.now.buffer.before ++ c.args.self.now.buffer.steps) c.requires)
