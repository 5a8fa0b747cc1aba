use Rattle.std.proofs.Common.{◌++◌, ◌∙◌, ap, append_assoc}
use Rattle.std.specs.Char.{encode_utf8}
use Rattle.std.specs.List.{repeat}
use Rattle.l4_chart.proofs.Repeated.{repeat_more}
use Rattle.l4_chart.proofs.ink.push_chars.Goals as goal

pub loop-done-preserved : goal.loop-done-preserved
loop-done-preserved c =
    let old = c.args.out.now.items in
    let one = encode_utf8 c.args.character in
    c.in_ok-push_char.ensures ∙ ap (λ l. l ++ one) c.loop-done.invariant ∙ append_assoc old (repeat c.loop-done._done one) one
    ∙ ap (λ l. old ++ l) (repeat_more c.loop-done._done one)
