use Rattle.std.specs.Option.{option_copied}
use Rattle.l4_words.specs.Words.{words_left}
use Rattle.l4_words.proofs.InFront.{thread_first}
use Rattle.l4_words.proofs.words.split_thread.Goals as goal

pub returns : goal.returns
returns c =
    let behind = c.in-Some-left_behind in
    thread_first c.args.line.now _ (words_left (option_copied behind.rest)) _ c.in-Some.ensures.value behind.ensures
