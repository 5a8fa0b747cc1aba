use Rattle.l4_endings.proofs.Finding.{all_written}
use Rattle.l4_endings.proofs.states.put_letters.Goals as goal

pub returns : goal.returns
returns c =
    all_written c.put-2.result c.loop-letter.letter-iterator c.args.letters c.args.code.now
    c.loop-letter.code c.put-2.new.self c.loop-letter.invariant c.in-None.ensures.steps.0 c.put-2.ensures
