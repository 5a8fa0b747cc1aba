use Rattle.std.proofs.Common.{◌≡◌, ◌∙◌, ◌∷◌, Option, List, ℕ, ap, subst, sym, arith}
use Rattle.std.specs.Prelude.{IfSome}
use Rattle.l4_model.specs.Words.{GlobalId}
use Rattle.l4_model.specs.World.{Name}
use Rattle.l4_trace.specs.Lines.{is_name, name_word}
use Rattle.l4_trace.proofs.Kept.{first_name, first_word}
use Rattle.l4_trace.proofs.texts.NameText.new.Goals as goal

pub returns : goal.returns
returns c =
    let made : c.unwrap-name.result ≡ record { thread = c.default.result; k = 1 } =
    subst (λ (o : Option Name). IfSome o (λ s. s ≡ record { thread = c.default.result; k = 1 })) c.unwrap-name.ensures c.new.ensures.some in
    let is : c.unwrap-name.result ≡ first_name = made ∙ ap (λ (t : GlobalId). record { thread = t; k = 1 }) c.default.ensures in
    record {
      text = record { within = omega arith; text = sym (ap (λ (n : Name). 32 ∷ name_word n) is ∙ ap (λ (xs : List ℕ). 32 ∷ xs) first_word) };
      spelled = ap is_name is;
    }
