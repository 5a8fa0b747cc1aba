-- What a processor did in an event.
use Rattle.std.specs.Prelude.{ℕ, ◌-◌, ◌==◌, nat_lt, if◌then◌else◌}
use Rattle.l4_core_model.specs.Runs.{Action, Handles, Turns, Ticks}
use Rattle.l4_proc.specs.declared.choice.Choice.{Choice}
use Rattle.l4_proc.specs.declared.choice.Choice.TheVariants.{Letter, Core, TickTo}

-- What happened to a processor, by what it did.
abbrev pub action_of : (cpu : ℕ) → Choice → Action
action_of cpu (Letter from) = Handles cpu from
action_of cpu Core = Turns cpu
action_of cpu (TickTo clock) = Ticks cpu clock

-- What happened to a processor, by the number in its log: 0 the core's turn, up to 256 one more
-- than the processor that posted the letter, above it a value of the clock plus 257.
abbrev pub action_in : (cpu number : ℕ) → Action
action_in cpu number =
    if number == 0 then Turns cpu
    else (if nat_lt number 257 then Handles cpu (number - 1) else Ticks cpu (number - 257))
