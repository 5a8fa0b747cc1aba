use Rattle.std.proofs.Common.{sym, ◌∙◌, ap}
use Rattle.std.specs.List.{list_any}
use Rattle.l4_mail.specs.Ends.{keeps}
use Rattle.l4_mail.proofs.Keeping.{is_kept}
use Rattle.l4_mail.proofs.ports.Port.keeps_mail.Goals as goal

pub returns : goal.returns
returns c =
    let told = c.keeps_mail.ensures ∙ ap (list_any keeps) c.deref.ensures.value in
    let is = is_kept c.args.self.now.inlets.items in
    (λ no. is.0 (sym told ∙ no), λ none. told ∙ is.1 none)
