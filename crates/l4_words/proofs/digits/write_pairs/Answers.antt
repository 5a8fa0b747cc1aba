use Rattle.std.proofs.Common.{◌≡◌, ◌≤◌, List, ℕ, ◌+◌, ◌-◌, ◌*◌, ◌/◌, ◌%◌, ◌++◌, drop, sym, ap, ◌∙◌, arith, append_assoc}
use Rattle.l4_words.specs.Numbers.{byte_digits, pairs_of}
use Rattle.l4_words.proofs.Hexadecimal.{no_pairs, pairs_step}
use Rattle.l4_words.proofs.digits.write_pairs.Goals as goal

pub loop-pair-preserved : goal.loop-pair-preserved
loop-pair-preserved c =
    let l = c.loop-pair in
    let below : l.pair + 1 ≤ c.args.bytes = omega arith in
    let rest : List ℕ = drop l.at l.line in
    record {
      place = omega arith;
      written =
          ap (λ (ds : List ℕ). pairs_of (c.args.bytes - (l.pair + 1)) (l.left / 256) ++ ds) c.write_pair-at.ensures.written
          ∙ sym (append_assoc (pairs_of (c.args.bytes - (l.pair + 1)) (l.left / 256)) (byte_digits (l.left % 256)) rest)
          ∙ ap (λ (ds : List ℕ). ds ++ rest) (sym (pairs_step (c.args.bytes - l.pair) (c.args.bytes - (l.pair + 1)) l.left (omega arith)))
          ∙ l.invariant.written;
    }

pub returns : goal.returns
returns c =
    let l = c.loop-pair in
    let none : c.args.bytes - l.pair ≡ 0 = omega arith in
    let end : l.at ≡ c.args.end - 2 * c.args.bytes = omega arith in
    ap (λ at. drop at l.line) (sym end) ∙ sym (no_pairs l.left (drop l.at l.line))
    ∙ ap (λ k. pairs_of k l.left ++ drop l.at l.line) (sym none) ∙ l.invariant.written
