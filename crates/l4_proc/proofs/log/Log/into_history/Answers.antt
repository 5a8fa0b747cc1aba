use Rattle.std.proofs.Common.{◌++◌, sym, ◌∙◌}
use Rattle.l4_proc.proofs.Ends.{told_between}
use Rattle.l4_proc.proofs.log.Log.into_history.Goals as goal

pub returns : goal.returns
returns c =
    c.into_sink.ensures ∙ sym (told_between c.args.self.cpu 0 c.args.self.ends.items (c.args.self.buffer.before ++ c.args.self.buffer.steps) c.requires)
