-- What may stand behind the first word of a line.
use Rattle.std.specs.Prelude.{ℕ, if◌then◌else◌, Option, Some, None, is_some, List, [], ◌∷◌, codes, slice_get}
use Rattle.std.specs.Str.{bytes_eq}
use Rattle.l4_model.specs.Options.{◌>>=◌}
use Rattle.l4_script.specs.Operations.{operation_named}
use Rattle.l4_lint.specs.declared.hints.Operand.{Operand}
use Rattle.l4_lint.specs.declared.hints.Operand.TheVariants as operand
use Rattle.l4_lint.specs.declared.hints.Lines.{Lines}
use Rattle.l4_lint.specs.declared.hints.Lines.TheVariants as these

-- None where no instruction has this name.
unfoldable pub instruction_operands : (name : List ℕ) → Option (List Operand)
instruction_operands name =
    if bytes_eq name (codes "set") then Some (operand.Register ∷ operand.Word ∷ [])
    else (if bytes_eq name (codes "copy") then Some (operand.Register ∷ operand.Source ∷ [])
    else (if is_some (operation_named name) then Some (operand.Register ∷ operand.Word ∷ [])
    else (if bytes_eq name (codes "tag") then Some (operand.Tag ∷ [])
    else (if bytes_eq name (codes "vs") then Some (operand.Id ∷ [])
    else (if bytes_eq name (codes "ipc")
    then Some (operand.Destination ∷ operand.Id ∷ operand.Time ∷ operand.Time ∷ [])
    else (if bytes_eq name (codes "exregs") then Some (operand.Id ∷ operand.Bits ∷ [])
    else (if bytes_eq name (codes "delete") then Some (operand.Id ∷ [])
    else (if bytes_eq name (codes "jump") then Some (operand.Place ∷ [])
    else (if bytes_eq name (codes "onerr") then Some (operand.Place ∷ [])
    else (if bytes_eq name (codes "end") then Some []
    else None))))))))))

-- None where it has none.
abbrev pub first_operand : (name : List ℕ) → Option Operand
first_operand name = instruction_operands name >>= λ operands. slice_get operands 0

abbrev pub thread_operands : List Operand
thread_operands =
    operand.Thread ∷ operand.CpuKeyword ∷ operand.Processor ∷ operand.SpaceKeyword ∷ operand.Space
    ∷ []

abbrev pub operands_behind : (name keyword : List ℕ) → List Operand → Option (List Operand)
operands_behind name keyword operands = if bytes_eq name keyword then Some operands else None

-- None where no line of these begins with this word.
abbrev pub operands_of : Lines → (name : List ℕ) → Option (List Operand)
operands_of these.Format name =
    operands_behind name (codes "l4") (operand.Profile ∷ operand.Width ∷ [])
operands_of these.Processors name = operands_behind name (codes "cpus") (operand.Processors ∷ [])
operands_of these.Thread name = operands_behind name (codes "thread") thread_operands
operands_of these.Names name = None
operands_of these.Script name =
    if bytes_eq name (codes "thread") then Some thread_operands else instruction_operands name
