use Rattle.std.proofs.Common.{◌≡◌, ℕ, List, Option, Some, None, Bor, refl, ap, ◌∙◌}
use Rattle.std.specs.Prelude.{find, is_some}
use Rattle.std.specs.Option.{option_copied}
use Rattle.l4_lines.specs.Lines.{fits_line, lines_of}
use Rattle.l4_lines.proofs.Fitting.{found_line}
use Rattle.l4_lines.proofs.lines.has_line.Goals as goal

some_copied : {T : Type 0} (found : Option (Bor T)) → is_some found ≡ is_some (option_copied found)
some_copied None = refl
some_copied (Some x) = refl

pub returns : goal.returns
returns c =
    let text = c.args.text.now in
    c.is_some.ensures ∙ some_copied c.find_line.result ∙ ap is_some c.find_line.ensures
    ∙ ap (λ (a : List ℕ). is_some (find (fits_line a) (lines_of text))) c.as_bytes.ensures.value
    ∙ found_line c.args.asked.now text
