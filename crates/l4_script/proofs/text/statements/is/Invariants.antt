use Rattle.std.proofs.Common.{◌≡◌, drop}
use Rattle.std.specs.Str.{bytes_eq}
use Rattle.l4_script.proofs.text.statements.is.Given as goal

abbrev pub invariant-loop-place : goal.invariant-loop-place
invariant-loop-place l = bytes_eq l.word l.keyword ≡ bytes_eq (drop l.place l.word) (drop l.place l.keyword)
