use Rattle.l4_questions.proofs.Sharing.{shared_by_first, shared_by_others}
use Rattle.l4_questions.proofs.printed.+share_processor.Goals as goal

pub returns-then-has_thread_on : goal.returns-then-has_thread_on
returns-then-has_thread_on t c =
    shared_by_first c.args.threads.now c.first-item.result c.cpu.result c.has_thread_on.result
    c.in-len1-up.len_at_least c.first-item.is c.cpu.ensures c.has_thread_on.ensures
    c.if-has_thread_on.true

pub returns-else-has_thread_on : goal.returns-else-has_thread_on
returns-else-has_thread_on t c =
    shared_by_others c.args.threads.now c.first-item.result c.cpu.result c.has_thread_on.result
    c.share_processor.result c.in-len1-up.len_at_least c.first-item.is c.cpu.ensures
    c.has_thread_on.ensures c.if-has_thread_on.false c.share_processor.ensures
