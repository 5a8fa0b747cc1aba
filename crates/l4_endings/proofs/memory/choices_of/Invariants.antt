use Rattle.std.proofs.Common.{map}
use Rattle.l4_explore.specs.Inner.Views.{next_from}
use Rattle.l4_states.specs.Choices.{state_after}
use Rattle.l4_endings.specs.Inner.Tried.{AreUpTo, is_of}
use Rattle.l4_parts.specs.Inner.Known.{AreKnown}
use Rattle.l4_parts.specs.Inner.Numbers.{AreLonger}
use Rattle.l4_endings.proofs.memory.choices_of.Given as goal

-- All of the set that lead on below the next one were listed.
abbrev pub invariant-loop-number : goal.invariant-loop-number
invariant-loop-number l = record {
  longer : AreLonger l.fn.parts.parts.items l.parts.parts.items;
  known : AreKnown l.aims l.parts.parts.items l.events.events.items;
  listed : AreUpTo (state_after l.aims) (is_of l.aims l.set) l.schedule 0 l.number
      (map next_from l.choices.items);
}
