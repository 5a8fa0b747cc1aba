-- The four flags of a message tag, as a number: its bit 0 says that the message is propagated, its
-- bit 2 that it comes from another processor. The others stay clear.
use Rattle.std.specs.Prelude.{ℕ, ◌+◌, ◌*◌, Bool}
use Rattle.l4_model.specs.Rules.{bit}

abbrev pub flags_of : (cross propagated : Bool) → ℕ
flags_of cross propagated = bit cross * 4 + bit propagated
