use Rattle.std.proofs.Common.{◌∷◌, ap, ◌∙◌}
use Rattle.std.specs.Prelude.{codes, map}
use Rattle.l4_c.proofs.Parts.{words_left}
use Rattle.l4_c.proofs.words.words_of.Goals as goal

pub returns : goal.returns
returns c =
    ap (map (λ word. word.now)) c.in_ok-insert.ensures.items
    ∙ ap (λ words. codes "l4run" ∷ words) (words_left _ _ _ c.args.text.now c.in_ok-words.words.ok.0 c.pop.ensures.rest c.in_ok-words.ensures)
