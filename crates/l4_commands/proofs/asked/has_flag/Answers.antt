use Rattle.clap.specs.Words.{found_of}
use Rattle.l4_commands.proofs.Matched.{flag_off, flag_on}
use Rattle.l4_commands.proofs.asked.has_flag.Goals as goal

pub returns-in-Some : goal.returns-in-Some
returns-in-Some c = flag_on (found_of c.args.matches.now) c.args.name.now c.in-Some.given c.in-Some.ensures.none c.in-Some.ensures.value

pub returns-in-None : goal.returns-in-None
returns-in-None c = flag_off _ (found_of c.args.matches.now) c.args.name.now c.in-None.ensures.value
