-- The instructions of a script as the model has them.
use Rattle.l4_model.specs.Words.{W64, W32, word_of_tag}
use Rattle.l4_model.specs.Machine as model
use Rattle.l4_types.specs.Inner.FormatView.{format_of}
use Rattle.l4_types.specs.Inner.OperationView.{operation_of}
use Rattle.l4_types.specs.Inner.PeriodView.{period_of}
use Rattle.l4_types.specs.StepView.{order_kind_of}
use Rattle.l4_script.specs.Inner.Calls.{Call}
use Rattle.l4_script.specs.declared.instructions.IdFrom.{IdFrom}
use Rattle.l4_script.specs.declared.instructions.IdFrom.TheVariants as ids
use Rattle.l4_script.specs.declared.instructions.Instr.{Instr}
use Rattle.l4_script.specs.declared.instructions.Instr.TheVariants as instrs

abbrev pub id_from_of : IdFrom → model.IdFrom
id_from_of (ids.Fixed id) = model.Fixed id
id_from_of ids.Last = model.Last
id_from_of (ids.InRegister format a) = model.InRegister (format_of format) a

abbrev pub ipc_of : Call → model.Instr
ipc_of call = model.Ipc (id_from_of call.to) (id_from_of call.from) (period_of call.send_period)
    (period_of call.receive_period)

abbrev pub instr_of : Instr → model.Instr
instr_of (instrs.Set register word) = model.Set register word
instr_of (instrs.Copy register source) = model.Copy register source
instr_of (instrs.Compute operation register word) =
    model.Compute (operation_of operation) W64 register word
instr_of (instrs.ShortCompute operation register word) =
    model.Compute (operation_of operation) W32 register word
instr_of (instrs.Tag tag) = model.Tag (word_of_tag tag)
instr_of (instrs.Vs from) = model.Vs (id_from_of from)
instr_of (instrs.Ipc ipc) = ipc_of ipc
instr_of (instrs.Order target what) = model.Ask (id_from_of target) (order_kind_of what)
instr_of (instrs.Jump place) = model.Jump place
instr_of (instrs.OnErr place) = model.OnErr place
instr_of (instrs.From register) = model.From W64 register
instr_of (instrs.ShortFrom register) = model.From W32 register
instr_of (instrs.OnLabel label place) = model.OnLabel label place
instr_of (instrs.OnWord source word place) = model.OnWord source word place
instr_of (instrs.OnFrom id place) = model.OnFrom id place
instr_of instrs.End = model.End
