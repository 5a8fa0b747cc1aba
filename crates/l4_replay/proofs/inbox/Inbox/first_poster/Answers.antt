use Rattle.std.proofs.Common.{◌≤◌, length, arith, rules}
use Rattle.l4_replay.specs.Inner.Inboxes.{letters_in}
use Rattle.l4_replay.proofs.Inboxes.{is_first}
use Rattle.l4_replay.proofs.inbox.Inbox.first_poster.Goals as goal

pub returns : goal.returns
returns c =
    let i = c.args.self.now in
    let few : length i.queues.items ≤ 16 = i.few in
    is_first (letters_in i) i.posters (omega (arith, few)) (search rules) (search rules) i.marks
