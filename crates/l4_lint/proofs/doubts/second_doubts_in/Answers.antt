use Rattle.std.proofs.Common.{◌≡◌, ◌+◌, ◌++◌, ℕ, map, ap, sym, subst, ◌∙◌, arith}
use Rattle.l4_script.specs.Inner.Second.{stage_of}
use Rattle.l4_script.specs.Second.Texts.{Stage, Start}
use Rattle.l4_lint.specs.Doubts.{place_behind, second_doubts_from, second_line_doubts, stage_behind}
use Rattle.l4_lint.specs.Lines.{lines_of}
use Rattle.l4_lint.specs.Second.Parts.{Parts, parts_of}
use Rattle.l4_lint.specs.Inner.Views.{doubtful_of, parts_view}
use Rattle.l4_lint.proofs.Doubting.{one_more_of_second}
use Rattle.l4_lint.proofs.doubts.second_doubts_in.Goals as goal

pub lines-preserved : goal.lines-preserved
lines-preserved c =
    let m = c.args.machine.now in
    let line = c.in-Some.line.now in
    let rest = c.in-Some.rest.now in
    let number = c.lines.before + 1 in
    let place = c.lines.place in
    let stage = stage_of c.lines.stage in
    let found = map doubtful_of c.lines.found.items in
    let new = map doubtful_of c.push_second_line.new.found.items in
    let total = second_doubts_from m (lines_of c.args.text.now) Start 0 1 in
    let read : stage_of c.read_on.new.stage ≡ stage_behind number stage line = c.in_ok-read_on.ensures in
    let split : parts_view c.parts_of-parts.result ≡ parts_of line = c.parts_of-parts.ensures in
    let adds : new ≡ found ++ second_line_doubts m (stage_behind number stage line) (lines_of rest) place number (parts_of line) =
    c.in_ok-push_second_line.ensures
    ∙ ap (λ (s : Stage). found ++ second_line_doubts m s (lines_of rest) place number (parts_view c.parts_of-parts.result)) read
    ∙ ap (λ (p : Parts). found ++ second_line_doubts m (stage_behind number stage line) (lines_of rest) place number p) split in
    let next : c.place_behind-place.result ≡ place_behind place (parts_of line).words =
    c.place_behind-place.ensures.value ∙ ap (λ (p : Parts). place_behind place p.words) split in
    record {
      whole =
          subst
          (λ (s : Stage). new ++ second_doubts_from m (lines_of rest) s c.place_behind-place.result (number + 1) ≡ total)
          (sym read)
          (subst
          (λ (n : ℕ). new ++ second_doubts_from m (lines_of rest) (stage_behind number stage line) n (number + 1) ≡ total)
          (sym next)
          (one_more_of_second m stage place number found new total line rest c.lines.left.now c.in-Some.ensures.parts adds c.lines.invariant.whole));
      counted = omega (arith, c.lines.invariant.counted, c.in-Some.ensures.shorter);
      near = omega (arith, c.lines.invariant.near, c.place_behind-place.ensures.near);
    }
