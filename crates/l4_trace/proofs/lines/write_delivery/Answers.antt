use Rattle.std.proofs.Common.{drop}
use Rattle.l4_trace.proofs.Joined.{delivery_line}
use Rattle.l4_trace.specs.Lines.{name_word, thread_word, hexadecimal}
use Rattle.l4_model.specs.Rules.{received_tag}
use Rattle.l4_trace.proofs.lines.write_delivery.Goals as goal

pub returns-clause-written : goal.returns-clause-written
returns-clause-written g c =
    let d = c.args.delivery.now in
    rw (c.write_bytes.ensures.written, c.write_name-name.ensures.written, c.write_thread-receiver.ensures.written, c.write_thread-shown.ensures.written, c.write_thread-actual.ensures.written, c.write_tag-tag.ensures.written, c.write_words-words.ensures.written, c.write_byte-feed.ensures.written, c.words.ensures.value, c.shown.ensures, c.actual.ensures, c.raw.ensures.value, c.tag.ensures.word)
    (delivery_line (name_word d.name) (thread_word d.receiver) (thread_word d.message.shown) (thread_word d.message.actual) (hexadecimal (received_tag d.cross d.message)) d.message.words (drop c.args.end c.args.line.now))
