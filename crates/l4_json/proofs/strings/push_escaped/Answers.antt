use Rattle.std.proofs.Common.{◌++◌, ap, ◌∙◌}
use Rattle.l4_json.proofs.Escapes.{as_it_is, by_long, by_short, with_digits}
use Rattle.l4_json.proofs.strings.push_escaped.Goals as goal

pub returns-in_ok-extend_from_slice : goal.returns-in_ok-extend_from_slice
returns-in_ok-extend_from_slice c =
    c.in_ok-extend_from_slice.ensures.items
    ∙ ap (λ e. c.args.out.now.items ++ e) (by_short c.args.byte _ c.escape_letter-letter.ensures c.if-letter-gt0.true)

pub returns-in_ok-extend_from_slice-2 : goal.returns-in_ok-extend_from_slice-2
returns-in_ok-extend_from_slice-2 c =
    c.in_ok-extend_from_slice-2.ensures.items
    ∙ ap (λ e. c.args.out.now.items ++ e)
    (with_digits c.args.byte _ _ c.digit.ensures c.digit-then-byte-lt32.ensures
    ∙ by_long c.args.byte _ c.escape_letter-letter.ensures c.if-letter-gt0.false c.if-byte-lt32.true)

pub returns-in_ok-push : goal.returns-in_ok-push
returns-in_ok-push c =
    c.in_ok-push.ensures.items
    ∙ ap (λ e. c.args.out.now.items ++ e) (as_it_is c.args.byte _ c.escape_letter-letter.ensures c.if-letter-gt0.false c.if-byte-lt32.false)
