use Rattle.std.proofs.Common.{◌+◌, ◌∙◌, sym}
use Rattle.std.proofs.lemmas.List.{take_rest}
use Rattle.l4_words.proofs.Dots.{thread_without_dot, thread_at_dot}
use Rattle.l4_words.proofs.threads.thread.Goals as goal

pub returns-in_err-dot : goal.returns-in_err-dot
returns-in_err-dot c = c.from_residual.ensures ∙ sym (thread_without_dot c.args.word.now (sym c.find_byte.ensures ∙ c.in_err-dot.was))

pub returns : goal.returns
returns c = rw (take_rest c.args.word.now (c.in_ok-dot.dot + 1)) at c.thread_between.ensures ∙ sym (thread_at_dot c.args.word.now c.in_ok-dot.dot (sym c.find_byte.ensures ∙ c.in_ok-dot.was))
