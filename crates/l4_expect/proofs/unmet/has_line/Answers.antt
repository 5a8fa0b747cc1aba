use Rattle.std.proofs.Common.{◌≡◌, Option, Some, None, Bor, refl, ap, ◌∙◌}
use Rattle.std.specs.Prelude.{is_some}
use Rattle.std.specs.Option.{option_copied}
use Rattle.l4_lines.proofs.Fitting.{found_line}
use Rattle.l4_expect.proofs.unmet.has_line.Goals as goal

some_copied : {T : Type 0} (found : Option (Bor T)) → is_some found ≡ is_some (option_copied found)
some_copied None = refl
some_copied (Some x) = refl

pub returns : goal.returns
returns c =
    c.is_some.ensures ∙ some_copied c.find_line.result ∙ ap is_some c.find_line.ensures
    ∙ found_line c.args.asked.now c.args.report.now
