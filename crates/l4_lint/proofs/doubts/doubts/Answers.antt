use Rattle.std.proofs.Common.{map, subst, sym}
use Rattle.std.proofs.lemmas.Result.{IfOk-weaker}
use Rattle.l4_lint.specs.Always.{AreAlwaysSo}
use Rattle.l4_lint.specs.Inner.Views.{doubtful_of}
use Rattle.l4_lint.proofs.Sure.{found_is}
use Rattle.l4_lint.proofs.doubts.doubts.Goals as goal

pub returns-in-Ok-clause-value : goal.returns-in-Ok-clause-value
returns-in-Ok-clause-value c =
    IfOk-weaker c.doubts_on.result _ _
    (λ found e. found_is c.args.text.now c.in-Ok.machine (map doubtful_of found.items) c.in-Ok.ensures e)
    c.doubts_on.ensures

pub returns-in-Ok-clause-always : goal.returns-in-Ok-clause-always
returns-in-Ok-clause-always c =
    IfOk-weaker c.doubts_on.result _ _
    (λ found e.
    subst (AreAlwaysSo c.args.text.now)
    (sym (found_is c.args.text.now c.in-Ok.machine (map doubtful_of found.items) c.in-Ok.ensures e))
    (c.law_always.ensures c.args.text.now))
    c.doubts_on.ensures
