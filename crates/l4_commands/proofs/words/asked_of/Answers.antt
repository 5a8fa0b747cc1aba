use Rattle.std.proofs.Common.{ℕ, List, Bor, map, rules}
use Rattle.std.proofs.lemmas.Result.{IfErr-weaker}
use Rattle.l4_commands.specs.Asked.{IsRefusal}
use Rattle.l4_commands.specs.Commands.{faults_of}
use Rattle.l4_commands.proofs.Matched.{refusal_more, untold}
use Rattle.l4_commands.proofs.words.asked_of.Goals as goal

pub returns-in_err-matches-clause-err : goal.returns-in_err-matches-clause-err
returns-in_err-matches-clause-err c =
    let kinds = faults_of (map {A = Bor (List ℕ)} {B = List ℕ} (λ word. word.now) c.args.words.now) in
    IfErr-weaker c.from_residual.result (IsRefusal kinds) _ (refusal_more kinds _) (search rules)

pub returns-in_err-matches-clause-told : goal.returns-in_err-matches-clause-told
returns-in_err-matches-clause-told c =
    let kinds = faults_of (map {A = Bor (List ℕ)} {B = List ℕ} (λ word. word.now) c.args.words.now) in
    IfErr-weaker c.from_residual.result (IsRefusal kinds) _ (untold kinds _) (search rules)
