-- A fault of a text.
use Rattle.std.specs.Prelude.{ℕ, ◌+◌, Option, Some, None, Result, Ok, Err, List, [], length}
use Rattle.l4_model.specs.Machine.{Machine}
use Rattle.l4_script.specs.declared.text.fault.TextFault.{TextFault}
use Rattle.l4_script.specs.declared.text.fault.TextFaultKind.{TextFaultKind}
use Rattle.l4_script.specs.declared.text.fault.TextFaultKind.TheVariants as kinds
use Rattle.l4_lint.specs.declared.hints.Hint.TheVariants as hints
use Rattle.l4_lint.specs.Places.{Place, placed}

-- The line, counted from 1 with the skipped ones (0 where the fault is of no line), the kind and
-- the place.
pub record Fault : Type 0 where
  pub line : ℕ
  pub kind : TextFaultKind
  pub place : Place

abbrev pub fault : (line : ℕ) → TextFaultKind → Place → Fault
fault line k at = record { line = line; kind = k; place = at }

-- The fault that the reader of machine texts tells.
abbrev pub fault_in : Result Machine TextFault → Option TextFault
fault_in (Ok machine) = None
fault_in (Err f) = Some f

-- The last line has no line end.
abbrev pub unended : (number : ℕ) → (line : List ℕ) → Fault
unended number line = fault number kinds.BadLine (placed (length line + 1) [] hints.NoLineEnd)
