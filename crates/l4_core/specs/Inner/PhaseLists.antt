-- The lists that a thread enters, as its phase asks.
use Rattle.std.specs.Prelude.{ℕ}
use Rattle.l4_model.specs.World.{Thread}
use Rattle.l4_core_model.specs.Plain.{Plain, without_block}
use Rattle.l4_core_model.specs.Local.{Local, thread, entered, readied, armed_for, armed_period}

-- The old deadline of a thread goes, and that of its phase is armed.
abbrev pub rearms : Thread → (clock place : ℕ) → Plain → Plain
rearms t clock place s = record s {
  armed = armed_for (armed_period t.phase t.send) clock place
      (without_block place s.armed);
}

-- A thread that can run stands last among the ready ones.
abbrev pub readies : Thread → (place : ℕ) → Plain → Plain
readies t place s = record s { ready = readied t.phase place s.ready }

-- The thread at a place enters the lists of its phase.
abbrev pub enters_lists : (place : ℕ) → Local → Local
enters_lists i l = record l { lists = entered (thread l i) l.clock i l.lists }
