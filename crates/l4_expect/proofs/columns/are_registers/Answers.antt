use Rattle.std.proofs.Common.{◌≡◌, ap, ◌∙◌, arith, refl, true}
use Rattle.l4_expect.specs.Columns.{are_registers, is_register}
use Rattle.l4_expect.proofs.Walking.{register_read}
use Rattle.l4_expect.proofs.columns.are_registers.Goals as goal

pub words-preserved : goal.words-preserved
words-preserved c =
    let word = c.in-Some.word.now in
    let is : is_register word ≡ true = cc in
    c.words.invariant ∙ ap (are_registers c.words.most) c.in-Some.ensures
    ∙ register_read c.words.most word c.next.new.self (omega arith) (c.if-is_done.ensures.more refl) is
