use Rattle.std.proofs.Common.{refl, sym, inl, inr, ◌∙◌}
use Rattle.l4_jobs.proofs.Judged.{passed_told, place_is, refused_told}
use Rattle.l4_jobs.proofs.audits.judged_history.Goals as goal

pub returns-in_ok-passed_lines-in-None-clause-lines : goal.returns-in_ok-passed_lines-in-None-clause-lines
returns-in_ok-passed_lines-in-None-clause-lines c = λ trace reads.
    inl (
      passed_told c.args.judged c.args.machine.now c.args.history.now.steps trace _ c.in_ok-account.account c.in_ok-account.ensures c.in-None.is reads
          c.in_ok-passed_lines-in-None.ensures,
      refl,
    )

pub returns-in_ok-passed_lines-in-None-clause-refused : goal.returns-in_ok-passed_lines-in-None-clause-refused
returns-in_ok-passed_lines-in-None-clause-refused c =
    sym c.in-None.is ∙ place_is _ c.args.machine.now c.args.history.now.steps c.in_ok-account.account c.in_ok-account.ensures

pub returns-in-Some-clause-lines : goal.returns-in-Some-clause-lines
returns-in-Some-clause-lines c = λ trace reads.
    inr (
      refused_told c.args.judged c.args.machine.now c.args.history.now.steps trace _ c.in_ok-account.account c.in-Some.number c.in_ok-account.ensures
          c.in-Some.is c.requires reads refl,
      refl,
    )
