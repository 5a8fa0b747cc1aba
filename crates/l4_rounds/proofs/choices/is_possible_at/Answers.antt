use Rattle.std.proofs.Common.{◌≡◌, ◌<◌, get_or, length, not, refl, ap, ◌∙◌, arith}
use Rattle.l4_model.specs.Machine.{Machine}
use Rattle.l4_core_model.specs.Local.{opening_local}
use Rattle.l4_rounds.proofs.Possible.{letters_possible}
use Rattle.l4_rounds.proofs.Locals.{local_here}
use Rattle.l4_rounds.proofs.choices.is_possible_at.Goals as goal

pub returns-then-k-cpus-clause-value : goal.returns-then-k-cpus-clause-value
returns-then-k-cpus-clause-value c = λ m r is.
    let own : c.args.cpu < m.cpus = omega (
      arith,
      c.requires.own,
      c.requires.cpus,
      ap (λ (n : Machine). n.cpus) is.machine,
    ) in
    ap not c.is_empty.ensures
    ∙ letters_possible m r.system c.args.cpus c.args.cpu c.args.k
    (get_or r.system.locals c.args.cpu (opening_local m 0))
    (local_here m r c.args.walk.now c.args.cpu is own) c.letters.result
    (length c.letters.result) c.if-k-cpus.true
    (c.letters.ensures m r is) refl
    (c.law_of_core_runs.ensures m r is.lawful is.core_run).letters
