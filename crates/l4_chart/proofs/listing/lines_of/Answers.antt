use Rattle.std.proofs.Common.{◌++◌, [], ◌∷◌, ap, append_assoc, map, sym, ◌∙◌}
use Rattle.std.proofs.lemmas.List.{map-append}
use Rattle.l4_words.specs.Lines.{parts_of}
use Rattle.l4_json.specs.Lines.{all_but_last}
use Rattle.l4_chart.proofs.Listed.{but_first_line}
use Rattle.l4_chart.proofs.listing.lines_of.Goals as goal

pub loop-line-preserved : goal.loop-line-preserved
loop-line-preserved c =
    let l = c.loop-line in
    let old = map (λ line. line.now) l.lines.items in
    let line = c.in-Some.line in
    let rest = all_but_last (parts_of c.in-Some.rest.now) in
    ap (λ ls. ls ++ rest) (ap (map (λ line. line.now)) c.in_ok-push.ensures.items ∙ map-append (λ line. line.now) l.lines.items (line ∷ []))
    ∙ append_assoc old (line.now ∷ []) rest
    ∙ ap (λ ls. old ++ ls) (sym (but_first_line l.left.now line.now c.in-Some.rest.now c.in-Some.ensures.parts))
    ∙ l.invariant
