use Rattle.std.proofs.Common.{◌≡◌, ◌++◌, take}
use Rattle.std.specs.Prelude.{flat_map, codes}
use Rattle.std.specs.String.{string_bytes}
use Rattle.l4_words.specs.Threads.{thread_word}
use Rattle.l4_waits.proofs.lines.push_threads.Given as goal

abbrev pub invariant-loop-id : goal.invariant-loop-id
invariant-loop-id l = string_bytes l.text ≡ string_bytes l.initial.text ++ flat_map (λ id. codes " " ++ thread_word id) (take l.id-index l.ids)
