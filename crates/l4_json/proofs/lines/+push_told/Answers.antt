use Rattle.std.proofs.lemmas.Result.{on_ok_weaker}
use Rattle.l4_json.proofs.Fitting.{text_part_told}
use Rattle.l4_json.proofs.lines.+push_told.Goals as goal

pub returns-in-Text-Some : goal.returns-in-Text-Some
returns-in-Text-Some t c =
    on_ok_weaker c.push_member.result (text_part_told c.args.parts.now _ _ _ _ _ c.in-Some.ensures.cases.0 c.in-Text-Some.is-0 c.in-Text-Some.is-1 c.args.out.now.items _)
    c.push_member.ensures
