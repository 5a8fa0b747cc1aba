-- The commands of the program are of the form for which clap's contracts are exact.
use Rattle.std.proofs.Common.{◌≡◌, true, refl}
use Rattle.clap.specs.Words.{is_simple, is_simple_and_free}
use Rattle.l4_commands.specs.Commands.{l4run_app}

pub l4run_is_free : is_simple_and_free l4run_app ≡ true
unfolding l4run_app
l4run_is_free = refl

pub l4run_is_simple : is_simple l4run_app ≡ true
unfolding l4run_app
l4run_is_simple = refl
