-- What may stand behind the first word of a line with scripts of version 2.
use Rattle.std.specs.Prelude.{ℕ, ◌==◌, ◌||◌, if◌then◌else◌, Option, Some, None, is_some, Bool, List}
use Rattle.std.specs.Prelude.{[], ◌∷◌, length, codes}
use Rattle.std.specs.Str.{bytes_eq}
use Rattle.l4_lint.specs.declared.hints.Operand.{Operand}
use Rattle.l4_lint.specs.declared.hints.Operand.TheVariants as operand
use Rattle.l4_lint.specs.declared.hints.Lines.{Lines}
use Rattle.l4_lint.specs.declared.hints.Lines.TheVariants as these
use Rattle.l4_lint.specs.Bytes.{behind, word_of}
use Rattle.l4_lint.specs.Commands as first
use Rattle.l4_lint.specs.Commands.{operands_behind}

-- A thread line: of one thread, of one with the script of another, of many such ones.

abbrev pub thread_operands : List Operand
thread_operands =
    operand.NamedThread ∷ operand.CpuKeyword ∷ operand.Processor ∷ operand.SpaceKeyword
    ∷ operand.Space ∷ []

abbrev pub heir_operands : List Operand
heir_operands =
    operand.NamedThread ∷ operand.CpuKeyword ∷ operand.Processor ∷ operand.SpaceKeyword
    ∷ operand.Space ∷ operand.AsKeyword ∷ operand.Heir ∷ []

abbrev pub heirs_operands : List Operand
heirs_operands =
    operand.NamedThread ∷ operand.ToKeyword ∷ operand.LastThread ∷ operand.CpuKeyword
    ∷ operand.Processor ∷ operand.SpaceKeyword ∷ operand.Space ∷ operand.AsKeyword ∷ operand.Heir
    ∷ []

-- Which one it is, by the words behind the first one: the second of them, and whether there are
-- more than five.
abbrev pub operands_of_thread : (words : List ℕ) → List Operand
operands_of_thread words =
    if bytes_eq (word_of (behind words)) (codes "to") then heirs_operands
    else (if length (behind (behind (behind (behind (behind words))))) == 0 then thread_operands
    else heir_operands)

-- An instruction. None where no instruction has this name.
unfoldable pub instruction_operands : (name : List ℕ) → Option (List Operand)
instruction_operands name =
    if bytes_eq name (codes "from") then Some (operand.Register ∷ [])
    else (if bytes_eq name (codes "vs") then Some (operand.IdOrLast ∷ [])
    else (if bytes_eq name (codes "ipc")
    then Some (operand.IdOrLast ∷ operand.IdOrLast ∷ operand.CountedTime ∷ operand.CountedTime ∷ [])
    else (if bytes_eq name (codes "exregs") then Some (operand.IdOrLast ∷ operand.Bits ∷ [])
    else (if bytes_eq name (codes "delete") then Some (operand.IdOrRegister ∷ [])
    else (if bytes_eq name (codes "jump") then Some (operand.NamedPlace ∷ [])
    else (if bytes_eq name (codes "onerr") then Some (operand.NamedPlace ∷ [])
    else (if bytes_eq name (codes "onlabel") then Some (operand.Label ∷ operand.NamedPlace ∷ [])
    else (if bytes_eq name (codes "onword")
    then Some (operand.Source ∷ operand.Word ∷ operand.NamedPlace ∷ [])
    else (if bytes_eq name (codes "onfrom") then Some (operand.NamedId ∷ operand.NamedPlace ∷ [])
    else first.instruction_operands name)))))))))

-- Words begin with the name of an instruction, of either version.
abbrev pub is_instruction : (words : List ℕ) → Bool
is_instruction words = is_some (instruction_operands (word_of words))

-- The operands of a line by its words. None where no line of these begins so.

abbrev pub thread_or : (words : List ℕ) → (otherwise : Option (List Operand)) →
    Option (List Operand)
thread_or words otherwise =
    if bytes_eq (word_of words) (codes "thread") then Some (operands_of_thread (behind words))
    else otherwise

abbrev pub operands_of : Lines → (words : List ℕ) → Option (List Operand)
operands_of these.Format words =
    operands_behind (word_of words) (codes "l4")
    (operand.Profile ∷ operand.Width ∷ operand.Place ∷ [])
operands_of these.Processors words =
    operands_behind (word_of words) (codes "cpus") (operand.Processors ∷ [])
operands_of these.Names words =
    thread_or words
    (operands_behind (word_of words) (codes "name") (operand.NewName ∷ operand.NamedId ∷ []))
operands_of these.Script words = thread_or words (instruction_operands (word_of words))
operands_of these.Thread words = None

-- The rest of an instruction's words from the place that it names.
abbrev pub target_in : (words : List ℕ) → List ℕ
target_in words = if bytes_eq (word_of words) (codes "onword") then behind (behind (behind words))
    else (if bytes_eq (word_of words) (codes "onlabel") || bytes_eq (word_of words) (codes "onfrom")
    then behind (behind words)
    else behind words)
