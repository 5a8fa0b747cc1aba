use Rattle.std.proofs.Common.{◌≡◌, ◌+◌, ◌++◌, ◌∙◌, arith, length, map, ap, ap₂, sym, append_assoc, rules}
use Rattle.std.proofs.lemmas.List.{length-map, length-take-le, map-append, take-append-drop}
use Rattle.l4_replay.specs.Entries.{entry_from}
use Rattle.l4_schedules.specs.Written.{in_lines}
use Rattle.l4_schedules.proofs.WholeLines.{in_lines-append}
use Rattle.l4_schedules.proofs.writing.push_lines.Goals as goal

pub push_line-requires-clause-fits : goal.push_line-requires-clause-fits
push_line-requires-clause-fits c =
    let i = c.loop-line.invariant in
    let cut = c.in-Some.ensures.cases in
    let line : length c.in-Some.line.now ≡ 16 = ap length cut.0 ∙ length-take-le 16 c.loop-line.others.now (omega (arith, cut.2)) in
    search rules

pub loop-line-preserved : goal.loop-line-preserved
loop-line-preserved c =
    let i = c.loop-line.invariant in
    let cut = c.in-Some.ensures.cases in
    let text = c.loop-line.text.items in
    let line = map entry_from c.in-Some.line.now in
    let behind = map entry_from c.in-Some.behind.now in
    let long : length line ≡ 16 =
    length-map c.in-Some.line.now entry_from ∙ ap length cut.0 ∙ length-take-le 16 c.loop-line.others.now (omega (arith, cut.2)) in
    record {
      begins = omega (arith, i.begins);
      count = omega (arith, i.count, cut.2);
      text =
          ap (λ items. items ++ in_lines (c.loop-line.before + 16) behind) (c.in_ok-push_line.ensures)
          ∙ append_assoc text (in_lines c.loop-line.before line) (in_lines (c.loop-line.before + 16) behind)
          ∙ ap (λ n. text ++ (in_lines c.loop-line.before line ++ in_lines (c.loop-line.before + n) behind)) (sym long)
          ∙ ap (λ items. text ++ items) (sym (in_lines-append c.loop-line.before line behind) ∙ ap (in_lines c.loop-line.before)
          (sym (map-append entry_from c.in-Some.line.now c.in-Some.behind.now)
          ∙ ap (map entry_from) (ap₂ (λ xs ys. xs ++ ys) cut.0 cut.1 ∙ take-append-drop 16 c.loop-line.others.now)))
          ∙ i.text;
    }
