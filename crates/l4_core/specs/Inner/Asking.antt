-- What an instruction asks for.
use Rattle.std.specs.Prelude.{Bool, true, false, Option, Some, None}
use Rattle.l4_model.specs.Words.{GlobalId}
use Rattle.l4_model.specs.Machine.{OrderKind, Instr, Ipc}
use Rattle.l4_model.specs.Rules.{Act, RunsAlone, Orders}

-- The order, if a target is admitted; else the instruction runs alone.
abbrev pub admitted_act : OrderKind → Option GlobalId → Act
admitted_act what None = RunsAlone
admitted_act what (Some target) = Orders (record { target = target; what = what })

abbrev pub is_ipc : Instr → Bool
is_ipc (Ipc to from send_period receive_period) = true
is_ipc _ = false
