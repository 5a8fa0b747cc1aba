use Rattle.std.proofs.Common.{◌+◌, length, take, arith}
use Rattle.std.proofs.lemmas.List.{take_rest}
use Rattle.l4_words.proofs.Behind.{Begins, is_same, differs, not_behind, behind_first}
use Rattle.l4_words.proofs.words.Words.behind.Goals as goal

pub returns-then-end-line : goal.returns-then-end-line
returns-then-end-line c = not_behind c.args.first.now c.args.line.now (λ b. omega (arith, b.within, c.if-end-line.true))

pub returns-then-line-end-ne32 : goal.returns-then-line-end-ne32
returns-then-line-end-ne32 c = not_behind c.args.first.now c.args.line.now (λ b. c.if-line-end-ne32.true b.at_end)

pub returns-else-eq : goal.returns-else-eq
returns-else-eq c = not_behind c.args.first.now c.args.line.now (λ b. differs (take (length c.args.first.now) c.args.line.now) c.args.first.now c.if-eq.ensures b.same)

pub returns-then-eq : goal.returns-then-eq
returns-then-eq c =
    let line = c.args.line.now in
    let first = c.args.first.now in
    let begins : Begins first line = record {
      within = omega (arith, c.if-end-line.false);
      at_end = c.if-line-end-ne32.false;
      same = is_same (take (length first) line) first c.if-eq.ensures;
    } in
    rw (c.of.ensures, take_rest line (length first + 1)) (behind_first first line c.requires begins)
