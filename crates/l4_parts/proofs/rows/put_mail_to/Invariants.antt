use Rattle.std.proofs.Common.{◌≡◌, ℕ, List, drop}
use Rattle.l4_model.specs.Machine.{Machine}
use Rattle.l4_core_model.specs.Runs.{System, processors}
use Rattle.l4_states.specs.Inner.Codes.{each, mail_from_code, mail_to_code}
use Rattle.l4_codes.specs.Inner.Written.{with_numbers}
use Rattle.l4_parts.specs.Inner.Rows.{IsRowIn}
use Rattle.l4_parts.proofs.rows.put_mail_to.Given as goal

-- With the letters of the posters that are left it is the code of all.
abbrev pub invariant-loop-from : goal.invariant-loop-from
invariant-loop-from l =
    (m : Machine) (g : System) → IsRowIn m g l.parts l.row l.cpus → (rest : List ℕ) →
    with_numbers l.code (each (mail_from_code g.mail l.to) (drop l.from (processors m)) rest)
    ≡ with_numbers l.fn.code (mail_to_code (processors m) g.mail l.to rest)
