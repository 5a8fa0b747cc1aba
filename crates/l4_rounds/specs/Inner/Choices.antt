-- Choices by their numbers.
use Rattle.std.specs.Prelude.{ℕ, ◌+◌, ◌%◌, ◌≡◌}

-- The number stands for a tick.
abbrev pub IsTickOf : (cpus number : ℕ) → Type 0
IsTickOf cpus number = number % (cpus + 2) ≡ cpus + 1
