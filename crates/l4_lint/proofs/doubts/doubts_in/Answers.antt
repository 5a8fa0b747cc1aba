use Rattle.std.proofs.Common.{◌≡◌, ◌≤◌, ◌+◌, ◌++◌, ℕ, Bool, true, false, Option, map, refl, ap, sym, subst, ◌∙◌, arith}
use Rattle.std.specs.Prelude.{if◌then◌else◌}
use Rattle.std.specs.Int.{from_bool}
use Rattle.l4_model.specs.Machine.{Declaration}
use Rattle.l4_lint.specs.Doubts.{begun_behind, doubts_from, thread_after, words_doubts}
use Rattle.l4_lint.specs.Lines.{lines_of}
use Rattle.l4_lint.specs.Reading.{begins_script}
use Rattle.l4_lint.specs.Inner.Views.{doubtful_of}
use Rattle.l4_lint.proofs.Doubting.{one_more}
use Rattle.l4_lint.proofs.doubts.doubts_in.Goals as goal

one_where_so : (b : Bool) → from_bool b ≡ (if b then 1 else 0)
one_where_so true = refl
one_where_so false = refl

at_most_one : (b : Bool) → from_bool b ≤ 1
at_most_one true = omega arith
at_most_one false = omega arith

pub lines-preserved : goal.lines-preserved
lines-preserved c =
    let m = c.args.machine.now in
    let text = c.args.text.now in
    let line = c.in-Some.line.now in
    let rest = c.in-Some.rest.now in
    let begun = c.lines.begun in
    let place = c.lines.place in
    let number = c.lines.before + 1 in
    let found = map doubtful_of c.lines.found.items in
    let new = map doubtful_of c.push_words.new.found.items in
    let next : begun + c.from-begun.result ≡ begun_behind begun line =
    ap (λ (n : ℕ). begun + n)
    (c.from-begun.ensures ∙ ap from_bool c.begins_script.ensures
    ∙ one_where_so (begins_script line)) in
    let adds : new ≡ found ++ words_doubts m (thread_after m begun) place number line line =
    c.in_ok-push_words.ensures
    ∙ ap (λ (d : Option Declaration). found ++ words_doubts m d place number line line)
    c.thread_after.ensures in
    let few : c.from-begun.result ≤ 1 =
    subst (λ (n : ℕ). n ≤ 1) (sym c.from-begun.ensures) (at_most_one c.begins_script.result) in
    record {
      whole =
          subst
          (λ (n : ℕ). new ++ doubts_from m (lines_of rest) n c.place_behind-place.result (number + 1)
          ≡ doubts_from m (lines_of text) 0 0 1)
          (sym next)
          (subst
          (λ (n : ℕ). new ++ doubts_from m (lines_of rest) (begun_behind begun line) n (number + 1)
          ≡ doubts_from m (lines_of text) 0 0 1)
          (sym c.place_behind-place.ensures.value)
          (one_more m begun place number found new (doubts_from m (lines_of text) 0 0 1) line rest
          c.lines.left.now c.in-Some.ensures.parts adds c.lines.invariant.whole));
      counted = omega (arith, c.lines.invariant.counted, c.in-Some.ensures.shorter);
      few = omega (arith, c.lines.invariant.few, few);
      near = omega (arith, c.lines.invariant.near, c.place_behind-place.ensures.near);
    }
