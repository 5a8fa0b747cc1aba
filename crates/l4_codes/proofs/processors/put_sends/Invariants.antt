use Rattle.std.proofs.Common.{◌≡◌, ℕ, List}
use Rattle.l4_core_model.specs.Plain.{list_of}
use Rattle.l4_states.specs.Inner.Codes.{chained, waiting_code}
use Rattle.l4_codes.specs.Inner.Written.{with_numbers}
use Rattle.l4_codes.proofs.processors.put_sends.Given as goal

-- With the sends that are left it is the code of all.
abbrev pub invariant-loop-send : goal.invariant-loop-send
invariant-loop-send l =
    (rest : List ℕ) → with_numbers l.code (chained waiting_code l.send-iterator rest) ≡ with_numbers
    l.fn.code (chained waiting_code (list_of l.lists l.receiver) rest)
