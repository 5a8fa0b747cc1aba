use Rattle.std.proofs.Common.{sym}
use Rattle.l4_states.specs.Endings.{ending_at}
use Rattle.l4_questions.specs.Placed.{ending_of_run, placed_ending}
use Rattle.l4_questions.proofs.Asking.{asked_alike}
use Rattle.l4_questions.proofs.OfAll.{stands_with}
use Rattle.l4_questions.proofs.laws.law_asked_of_all.Goals as goal

pub returns : goal.returns
returns c = λ m q endings depth machine may all r run.
    let one = stands_with m endings depth machine all r run in
    record {
      place = one.among.place;
      inside = one.among.inside;
      similar = one.among.similar;
      asked =
          sym (asked_alike (ending_of_run m r) (placed_ending m (ending_at endings one.among.place))
          one.like q may);
    }
