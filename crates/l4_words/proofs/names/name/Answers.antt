use Rattle.std.proofs.Common.{◌+◌, ◌∙◌, sym}
use Rattle.std.proofs.lemmas.List.{take_rest}
use Rattle.l4_words.proofs.Hashes.{name_without_hash, name_at_hash}
use Rattle.l4_words.proofs.names.name.Goals as goal

pub returns-in_err-hash : goal.returns-in_err-hash
returns-in_err-hash c = c.from_residual.ensures ∙ sym (name_without_hash c.args.word.now (sym c.find_byte.ensures ∙ c.in_err-hash.was))

pub returns : goal.returns
returns c = rw (take_rest c.args.word.now (c.in_ok-hash.hash + 1)) at c.name_between.ensures ∙ sym (name_at_hash c.args.word.now c.in_ok-hash.hash (sym c.find_byte.ensures ∙ c.in_ok-hash.was))
