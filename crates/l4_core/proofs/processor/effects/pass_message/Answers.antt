use Rattle.std.proofs.Common.{◌≢◌, ◌<◌, get_or, ap, arith}
use Rattle.l4_model.specs.Words.{word_of_tag}
use Rattle.l4_core.proofs.Passing.{passed_back, passed_on}
use Rattle.l4_core.proofs.processor.effects.pass_message.Goals as goal

pub returns-then-receiver-sender : goal.returns-then-receiver-sender
returns-then-receiver-sender c = λ d.
    let front = c.split_at_mut-front.result.0.now in
    let back = c.split_at_mut-front.result.1.now in
    let lt : c.args.receiver < c.args.sender = (let yes = c.if-receiver-sender.true in omega arith) in
    passed_back (word_of_tag c.args.tag) c.args.blocks.now front back c.args.receiver c.args.sender
    (get_or front c.args.receiver c.index-front-receiver.result) (get_or back 0 c.index-back-0.result) c.receive_from.new.receiver d
    c.split_at_mut-front.ensures.value c.split_at_mut-front.ensures.front_len lt c.requires.sender
    (ap (get_or front c.args.receiver) c.index-front-receiver.is) (ap (get_or back 0) c.index-back-0.is) c.receive_from.ensures

pub returns-else-receiver-sender : goal.returns-else-receiver-sender
returns-else-receiver-sender c = λ d.
    let front = c.split_at_mut-front-else-receiver-sender.result.0.now in
    let back = c.split_at_mut-front-else-receiver-sender.result.1.now in
    let apart : c.args.receiver ≢ c.args.sender = c.requires.apart in
    let lt : c.args.sender < c.args.receiver = (let no = c.if-receiver-sender.false in omega arith) in
    passed_on (word_of_tag c.args.tag) c.args.blocks.now front back c.args.receiver c.args.sender
    (get_or back 0 c.index-back-0-else-receiver-sender.result) (get_or front c.args.sender c.index-front-sender.result) c.receive_from-else-receiver-sender.new.receiver d
    c.split_at_mut-front-else-receiver-sender.ensures.value c.split_at_mut-front-else-receiver-sender.ensures.front_len lt c.requires.receiver
    (ap (get_or back 0) c.index-back-0-else-receiver-sender.is) (ap (get_or front c.args.sender) c.index-front-sender.is) c.receive_from-else-receiver-sender.ensures
