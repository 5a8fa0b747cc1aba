-- What a report of the program says, as a report of the model.
use Rattle.l4_types.specs.declared.reports.State.{State}
use Rattle.l4_types.specs.declared.reports.State.TheVariants.{Ready, Sending, Receiving, Ordering, Ended, Deleted}
use Rattle.l4_types.specs.declared.reports.ThreadView.{ThreadView}
use Rattle.l4_model.specs.History as history

abbrev pub state_of_view : State → history.State
state_of_view Ready = history.IsReady
state_of_view Sending = history.IsSending
state_of_view Receiving = history.IsReceiving
state_of_view Ordering = history.IsOrdering
state_of_view Ended = history.IsEnded
state_of_view Deleted = history.IsDeleted

abbrev pub report_of_view : ThreadView → history.Report
report_of_view v =
    record {
      id = v.id;
      state = state_of_view v.state;
      error = v.regs.error;
      from = v.regs.from;
      actual = v.regs.actual;
      words = v.regs.words;
    }
