use Rattle.std.proofs.Common.{sym, ap, ◌∙◌}
use Rattle.std.specs.Option.{option_copied}
use Rattle.l4_script.proofs.Finding.{none_declared, declared_at}
use Rattle.l4_script.proofs.machine.Machine.declaration_of.Goals as goal

pub returns-in_err-place : goal.returns-in_err-place
returns-in_err-place c = ap option_copied c.from_residual.ensures ∙ sym (none_declared c.args.self.now c.args.id (sym c.in_err-place.ensures))

pub returns : goal.returns
returns c = c.thread.ensures ∙ sym (declared_at c.args.self.now c.args.id c.in_ok-place.place (sym c.in_ok-place.ensures))
