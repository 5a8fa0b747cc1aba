use Rattle.std.proofs.Common.{ap, drop, map, sym, ◌∙◌}
use Rattle.l4_condition_lines.specs.Inner.Reading.{columns_read}
use Rattle.l4_always.specs.Inner.Parts.{part_of}
use Rattle.l4_always.specs.declared.reading.Part.TheVariants.{State}
use Rattle.l4_always.proofs.Columns.{all_words, asked_behind, asked_here, no_word}
use Rattle.l4_always.proofs.reading.columns_read.Goals as goal

pub returns-in_default : goal.returns-in_default
returns-in_default c =
    let l = c.loop-column in
    let columns = c.args.columns.now in
    let part = part_of c.args.part in
    sym (l.invariant
    ∙ ap (λ words. columns_read words (map part_of (drop l.column-index columns)) part) c.in_default.ensures.0
    ∙ no_word columns l.column-index State part c.loop-column-test.true)

pub returns-then-are_all : goal.returns-then-are_all
returns-then-are_all c =
    let l = c.loop-column in
    let columns = c.args.columns.now in
    let part = part_of c.args.part in
    sym (l.invariant
    ∙ ap (λ words. columns_read words (map part_of (drop l.column-index columns)) part) c.in-Some.ensures
    ∙ all_words columns l.column-index State c.in-Some.word.now c.next.new.self part c.loop-column-test.true
    (sym c.are_all.ensures ∙ c.if-are_all.true))

pub returns-then-asks_for : goal.returns-then-asks_for
returns-then-asks_for c =
    let l = c.loop-column in
    let columns = c.args.columns.now in
    let part = part_of c.args.part in
    sym (l.invariant
    ∙ ap (λ words. columns_read words (map part_of (drop l.column-index columns)) part) c.in-Some.ensures
    ∙ asked_here columns l.column-index State c.in-Some.word.now c.next.new.self part c.loop-column-test.true
    (sym c.are_all.ensures ∙ c.if-are_all.false) (sym c.asks_for.ensures ∙ c.if-asks_for.true))

pub loop-column-preserved : goal.loop-column-preserved
loop-column-preserved c =
    let l = c.loop-column in
    let columns = c.args.columns.now in
    let part = part_of c.args.part in
    l.invariant
    ∙ ap (λ words. columns_read words (map part_of (drop l.column-index columns)) part) c.in-Some.ensures
    ∙ asked_behind columns l.column-index State c.in-Some.word.now c.next.new.self part c.loop-column-test.true
    (sym c.are_all.ensures ∙ c.if-are_all.false) (sym c.asks_for.ensures ∙ c.if-asks_for.false)
