use Rattle.std.proofs.Common.{◌==◌, ◌+◌, ◌∷◌, ℕ, List, take, sym, ◌∙◌, ap}
use Rattle.std.specs.List.{slice_split}
use Rattle.std.proofs.lemmas.List.{take_rest}
use Rattle.l4_words.proofs.Splits.{split_some, split_none}
use Rattle.l4_words.proofs.lines.split_at.Goals as goal

pub returns-in_err-end-clause-parts : goal.returns-in_err-end-clause-parts
returns-in_err-end-clause-parts c =
    rw c.from_residual.ensures (split_none (λ b. b == c.args.byte) c.args.bytes.now (sym c.requires ∙ c.in_err-end.was))

pub returns-clause-parts : goal.returns-clause-parts
returns-clause-parts c =
    let bytes = c.args.bytes.now in
    let end = c.in_ok-end.end in
    split_some (λ b. b == c.args.byte) bytes end (sym c.requires ∙ c.in_ok-end.was)
    ∙ ap (λ (rest : List ℕ). take end bytes ∷ slice_split (λ b. b == c.args.byte) rest) (sym (take_rest bytes (end + 1)))
