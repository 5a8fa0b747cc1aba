use Rattle.std.proofs.Common.{inl, refl}
use Rattle.clap.specs.declared.error.kind.ErrorKind.TheVariants.{ArgumentConflict}
use Rattle.l4_commands.proofs.words.usage_of.Goals as goal

pub returns-in-Ok-clause-refusal : goal.returns-in-Ok-clause-refusal
returns-in-Ok-clause-refusal c = (ArgumentConflict, inl refl, (λ e. absurd (let other = e in cc)), (λ e. absurd (let other = e in cc)))
