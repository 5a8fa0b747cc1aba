use Rattle.std.proofs.Common.{ℕ, ◌+◌, List, ap, arith, map, sym, ◌∙◌}
use Rattle.l4_words.specs.Lines.{parts_of}
use Rattle.l4_script.specs.Inner.Second.{stage_of}
use Rattle.l4_script.specs.Second.Texts.{Stage}
use Rattle.l4_json.specs.Lines.{all_but_last}
use Rattle.l4_json.specs.Scripts.{second_script_lines, with_line_by}
use Rattle.l4_json.proofs.Texts.{but_first_line}
use Rattle.l4_json.proofs.scripts.second_lines.Goals as goal

pub lines-preserved : goal.lines-preserved
lines-preserved c =
    let l = c.lines in
    let n : ℕ = l.number in
    let rest = all_but_last (parts_of c.in-Some.rest.now) in
    let scripts = map (λ lines. lines.items) l.scripts.items in
    record {
      whole = ap (λ (s : List (List ℕ)). second_script_lines rest (n + 1) (stage_of c.read_on.new.stage) s) c.in_ok-add_line_at.ensures
          ∙ ap (λ (stage : Stage). second_script_lines rest (n + 1) stage (with_line_by n stage scripts)) c.in_ok-read_on.ensures
          ∙ ap (λ (lines : List (List ℕ)). second_script_lines lines n (stage_of l.stage) scripts) (sym (but_first_line l.left.now c.in-Some.line.now c.in-Some.rest.now c.in-Some.ensures.parts))
          ∙ l.invariant.whole;
      counted = omega (arith, c.in-Some.ensures.shorter, l.invariant.counted);
    }
