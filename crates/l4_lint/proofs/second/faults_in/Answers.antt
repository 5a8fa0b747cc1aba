use Rattle.std.proofs.Common.{◌≡◌, true, false, map, rules, tests, arith}
use Rattle.std.proofs.lemmas.Grind.{common_steps}
use Rattle.l4_words.specs.Lines.{parts_of}
use Rattle.l4_lint.specs.Second.Faults.{faults_from, not_read}
use Rattle.l4_lint.specs.Inner.Views.{fault_of, second_reader_of}
use Rattle.l4_lint.proofs.SecondSteps.{going}
use Rattle.l4_lint.proofs.Steps.{goes_on, stops}
use Rattle.l4_lint.proofs.second.faults_in.Goals as goal

pub lines-preserved : goal.lines-preserved
lines-preserved c =
    let on : c.in_ok-read_on.field-0 ≡ true = first_of (search (rules, tests), grind (arith, common_steps)) in
    record {
      whole = goes_on c.in_ok-read_on.field-0 _ _ _ on (going (parts_of c.args.text.now) c.in-Some.line.now c.in-Some.others.now (parts_of c.lines.rest.now) (second_reader_of c.lines.reader) (second_reader_of c.read_on.new.reader) c.lines.number (map fault_of c.lines.found.items) (map fault_of c.read_on.new.found.items) (faults_from (parts_of c.args.text.now) (parts_of c.args.text.now) not_read 1) c.in_ok-read_on.field-0 c.in-Some.ensures.parts c.lines.invariant.whole c.in_ok-read_on.ensures);
      within = omega (arith, c.lines.invariant.within, c.in-Some.ensures.sizes);
      counted = omega (arith, c.lines.invariant.counted, c.in-Some.ensures.sizes);
    }

pub returns-then-not-branch : goal.returns-then-not-branch
returns-then-not-branch c =
    let off : c.in_ok-read_on.field-0 ≡ false = first_of (search (rules, tests), grind (arith, common_steps)) in
    stops c.in_ok-read_on.field-0 _ _ _ off (going (parts_of c.args.text.now) c.in-Some.line.now c.in-Some.others.now (parts_of c.lines.rest.now) (second_reader_of c.lines.reader) (second_reader_of c.read_on.new.reader) c.lines.number (map fault_of c.lines.found.items) (map fault_of c.read_on.new.found.items) (faults_from (parts_of c.args.text.now) (parts_of c.args.text.now) not_read 1) c.in_ok-read_on.field-0 c.in-Some.ensures.parts c.lines.invariant.whole c.in_ok-read_on.ensures)
