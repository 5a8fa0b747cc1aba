-- What happens to a thread, as an effect of the core run.
use Rattle.std.specs.Prelude.{ℕ, Bool, true, false}
use Rattle.l4_model.specs.World.{Thread}
use Rattle.l4_model.specs.Effects.{fails, orders, obeyed}
use Rattle.l4_core_model.specs.Local.{after_decision}
use Rattle.l4_types.specs.Inner.Codes.{code_of}
use Rattle.l4_types.specs.Inner.LetterView.{decision_of}
use Rattle.l4_thread.specs.declared.changes.Change.{Change}
use Rattle.l4_thread.specs.declared.changes.Change.TheVariants.{Fail, EndSend, GiveOrder, Obey}

-- At this clock of the thread's processor.
abbrev pub change_of : Change → (now : ℕ) → Thread → Thread
change_of (Fail error) now t = fails (code_of error) t
change_of (EndSend decision) now t = after_decision (decision_of decision) now t
change_of (GiveOrder order) now t = orders order t
change_of Obey now t = obeyed t

-- Its place in the script may go on by one.
abbrev pub may_advance : Change → Bool
may_advance Obey = true
may_advance _ = false
