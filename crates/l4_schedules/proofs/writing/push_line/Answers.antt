use Rattle.std.proofs.Common.{◌≡◌, ◌++◌, length, replicate, ap, sym, ◌∙◌, append_assoc, rules}
use Rattle.std.specs.Prelude.{codes}
use Rattle.std.proofs.lemmas.Result.{on_ok_weaker}
use Rattle.l4_core_model.specs.Schedules.{CoreOf}
use Rattle.l4_schedules.specs.Written.{in_lines, separator}
use Rattle.l4_schedules.proofs.WholeLines.{are_cores, core_line}
use Rattle.l4_schedules.proofs.writing.push_line.Goals as goal

pub returns : goal.returns
returns c =
    let text = c.args.text.now.items in
    let before = c.args.before in
    let line = codes "c0,c0,c0,c0,c0,c0,c0,c0,c0,c0,c0,c0,c0,c0,c0,c0" in
    let whole : length c.args.line.now ≡ 16 = search rules in
    let cores = are_cores c.args.line.now (sym c.is_core_line.ensures ∙ c.if-not-is_core_line.false) ∙ ap (λ n. replicate n (CoreOf 0)) whole in
    on_ok_weaker c.push_text.result
    (λ pushed.
    pushed ∙ ap (λ items. items ++ line) (c.push_separator.ensures.items ∙ ap (λ items. items ++ separator before) c.reserve.ensures.items)
    ∙ append_assoc text (separator before) line
    ∙ ap (λ items. text ++ items) (sym (core_line before c.requires.begins))
    ∙ ap (λ entries. text ++ in_lines before entries) (sym cores))
    c.push_text.ensures
