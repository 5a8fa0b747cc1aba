use Rattle.std.proofs.Common.{◌-◌}
use Rattle.l4_script.specs.Inner.Second.{heir_of}
use Rattle.l4_script.proofs.Declaring.{IsLeft}
use Rattle.l4_script.proofs.text.second.reading.Reading.declare_all.Given as goal

abbrev pub invariant-numbers : goal.invariant-numbers
invariant-numbers l = IsLeft (heir_of l.heir) l.source l.initial.self l.number l.self

abbrev pub decreases-numbers : goal.decreases-numbers
decreases-numbers l = l.heir.last - l.number
