use Rattle.clap.specs.Words.{found_of}
use Rattle.l4_commands.proofs.Matched.{number_read}
use Rattle.l4_commands.proofs.asked.number.Goals as goal

pub returns : goal.returns
returns c =
    let given = c.in_ok-number.ensures in
    number_read (found_of c.args.matches.now) c.args.name.now c.in_ok-number.number given.none (λ t e. (given.value t e).0.1)
