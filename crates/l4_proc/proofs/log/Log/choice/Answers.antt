use Rattle.std.proofs.Common.{◌<◌, ◌++◌, length, ap, sym, ◌∙◌}
use Rattle.std.specs.Option.{option_map}
use Rattle.std.specs.Prelude.{Some}
use Rattle.std.proofs.lemmas.Option.{slice_get-map}
use Rattle.l4_core_model.specs.Runs.{Action}
use Rattle.l4_proc.specs.Choices.{action_in}
use Rattle.l4_proc.specs.declared.end_rows.End.{End}
use Rattle.l4_proc.proofs.Ends.{as_many}
use Rattle.l4_proc.proofs.log.Log.choice.Goals as goal

pub returns : goal.returns
returns c =
    let log = c.args.self.now in
    let ends = log.ends.items in
    let steps = log.buffer.before ++ log.buffer.steps in
    let before : c.args.i < length ends = rw (as_many log.cpu 0 ends steps) at c.requires in
    let what : End → Action = λ end. action_in log.cpu end.choice in
    slice_get-map what ends c.args.i ∙ ap (option_map what) c.get.ensures
    ∙ ap Some (sym (c.choice_of.ensures log.cpu))
