use Rattle.std.proofs.Common.{◌≡◌, true, false, rules}
use Rattle.l4_colours.specs.Tones.{is_plain, line_tone}
use Rattle.l4_colours.proofs.Lines.{found, goes_on, line_within}
use Rattle.l4_colours.proofs.painting.first_toned.Goals as goal

pub toned_in-requires-clause-line : goal.toned_in-requires-clause-line
toned_in-requires-clause-line c = line_within c.in-Some.line.now c.lines.left.now c.in-Some.rest.now c.in-Some.ensures.parts

pub returns-then-not-is_plain-clause-parts : goal.returns-then-not-is_plain-clause-parts
returns-then-not-is_plain-clause-parts c =
    let tone = c.line_tone-tone.result in
    let test : is_plain tone ≡ false = search rules in
    let is : tone ≡ line_tone c.in-Some.line.now = search rules in
    found c.args.text.now c.in-Some.line.now c.lines.left.now c.in-Some.rest.now c.toned_in.result.before.now c.toned_in.result.line.now c.toned_in.result.behind.now tone c.toned_in.result.tone
    c.lines.invariant c.in-Some.ensures.parts test is c.toned_in.ensures.before c.toned_in.ensures.tone c.toned_in.ensures.line c.toned_in.ensures.behind

pub lines-preserved : goal.lines-preserved
lines-preserved c =
    let tone = c.line_tone-tone.result in
    let test : is_plain tone ≡ true = search rules in
    let is : tone ≡ line_tone c.in-Some.line.now = search rules in
    goes_on c.args.text.now c.in-Some.line.now c.lines.left.now c.in-Some.rest.now tone c.lines.invariant c.in-Some.ensures.parts test is
