use Rattle.std.proofs.Common.{◌==◌, sym, ◌∙◌, arith}
use Rattle.l4_words.proofs.Places.{first_is_position, found_in_front}
use Rattle.l4_words.proofs.lines.find_behind_front.Goals as goal

pub returns-in-Some : goal.returns-in-Some
returns-in-Some c =
    sym (found_in_front (λ other. other == c.args.byte) c.args.bytes.now c.min.result c.in-Some.place (omega (arith, c.min.ensures)) (sym c.find_byte.ensures ∙ c.in-Some.is))

pub returns-in-None : goal.returns-in-None
returns-in-None c = first_is_position (λ other. other == c.args.byte) c.args.bytes.now c.memchr.result c.memchr.ensures
