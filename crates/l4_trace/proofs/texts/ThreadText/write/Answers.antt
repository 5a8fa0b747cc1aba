use Rattle.std.proofs.Common.{drop}
use Rattle.l4_trace.specs.Lines.{thread_word}
use Rattle.l4_trace.proofs.Kept.{word_behind}
use Rattle.l4_trace.proofs.texts.ThreadText.write.Goals as goal

pub returns-clause-written : goal.returns-clause-written
returns-clause-written c =
    word_behind c.write_bytes.new.line c.args.self.now.bytes (drop c.args.end c.args.line.now) (thread_word c.args.self.now.thread) c.write_bytes.result c.args.self.now.start c.write_bytes.ensures.written c.requires.text.text
