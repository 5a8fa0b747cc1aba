-- What is read and written, as far as the contracts of byte readers and writers tell.
use Rattle.std.specs.Prelude.{◌≡◌, ◌⊎◌, ℕ, Bool, true, false, if◌then◌else◌, Option, Some, None, Result, Ok, Err, List, [], ◌++◌}
use Rattle.std.specs.Io.KnownBytes.{Appends}
use Rattle.std.specs.declared.io.ErrorKind.{ErrorKind}
use Rattle.std.specs.declared.io.ErrorKind.TheVariants.{NotFound}
use Rattle.l4_commands.specs.Files.{is_input}
use Rattle.l4_streams.specs.declared.streams.Given.{Given}
use Rattle.l4_streams.specs.declared.streams.Given.TheVariants.{Source, Nothing}
use Rattle.l4_streams.specs.declared.streams.Opened.{Opened}
use Rattle.l4_streams.specs.declared.streams.Opened.TheVariants.{File as FileOpened, Input as InputOpened}

-- The text that a reader gives: its bytes, where they are known.
abbrev pub IsGiven : (known : Option (List ℕ)) → (text : List ℕ) → Type 0
IsGiven None text = Unit {0}
IsGiven (Some bytes) text = text ≡ bytes

-- What reading to the end may give. A reader of bytes does not tell whether a read fails.
abbrev pub MayGive : (known : Option (List ℕ)) → Result (List ℕ) ErrorKind → Type 0
MayGive known (Ok text) = IsGiven known text
MayGive known (Err kind) = Unit {0}

-- A beginning of the bytes was appended, and this is left of them.
abbrev pub HasAppended : (old new : Option (List ℕ)) → (bytes left : List ℕ) → Type 0
HasAppended old new bytes left = (front : List ℕ) × (bytes ≡ front ++ left) × Appends old new front

-- All of the bytes were appended, or a beginning of them.
abbrev pub MayTake : (old new : Option (List ℕ)) → (bytes : List ℕ) → (all : Bool) → Type 0
MayTake old new bytes true = Appends old new bytes
MayTake old new bytes false = (left : List ℕ) × HasAppended old new bytes left

-- What takes no bytes stays as it was.
abbrev pub TakesSome : (takes : (bytes : List ℕ) → (all : Bool) → Type 0) → (same : Type 0) →
    (bytes : List ℕ) → (all : Bool) → Type 0
TakesSome takes same bytes all = takes bytes all × (bytes ≡ [] → same)

-- A folder told whether writing to the file of this name changes one that is read, where there is
-- such a file.
abbrev pub TellsOver : (tells_same : (name read : List ℕ) → (same : Bool) → Type 0) →
    (name : List ℕ) → (read : Option (List ℕ)) → (same : Bool) → Type 0
TellsOver tells_same name None same = same ≡ false
TellsOver tells_same name (Some read) same = tells_same name read same

-- What writing these bytes to the file of a name may come to, where up to three files that are read
-- must stay as they are: the folder told that it is none of them, and then the file was written. Or
-- it is one of them, and nothing was.
abbrev pub IsWrittenApart : (tells_same : (name read : List ℕ) → (same : Bool) → Type 0) →
    (writes : (name bytes : List ℕ) → (all : Bool) → Type 0) →
    (machine second expects : Option (List ℕ)) → (name bytes : List ℕ) → (all : Bool) → Type 0
IsWrittenApart tells_same writes machine second expects name bytes true =
    TellsOver tells_same name machine false × TellsOver tells_same name second false
    × TellsOver tells_same name expects false × writes name bytes true
IsWrittenApart tells_same writes machine second expects name bytes false =
    TellsOver tells_same name machine true ⊎ TellsOver tells_same name second true
    ⊎ TellsOver tells_same name expects true
    ⊎ (TellsOver tells_same name machine false × TellsOver tells_same name second false
    × TellsOver tells_same name expects false × writes name bytes false)

-- The name of a file that is read, where `-` names an input: that of the input's file.
abbrev pub name_read : (input_name name : List ℕ) → List ℕ
name_read input_name name = if is_input name then input_name else name

-- What reading a source may give, where there is one. Where there is none, nothing is found.
abbrev pub GivenGives : {Of : Type 0} → (gives : Of → Result (List ℕ) ErrorKind → Type 0) →
    Given Of → Result (List ℕ) ErrorKind → Type 0
GivenGives gives (Source source) read = gives source read
GivenGives gives Nothing read = read ≡ Err NotFound

-- What reading an opened file or input may give.
abbrev pub OpenedGives : {File Input : Type 0} →
    (file : File → Result (List ℕ) ErrorKind → Type 0) →
    (input : Input → Result (List ℕ) ErrorKind → Type 0) → Opened File Input →
    Result (List ℕ) ErrorKind → Type 0
OpenedGives file input (FileOpened f) read = file f read
OpenedGives file input (InputOpened i) read = input i read

-- What opening a name may give, where `-` names an input that is always there. All other names are
-- those of files.
abbrev pub OpensWithInput : {File Input : Type 0} →
    (opens : List ℕ → Result File ErrorKind → Type 0) → Input → (name : List ℕ) →
    Result (Opened File Input) ErrorKind → Type 0
OpensWithInput opens input name (Ok (InputOpened given)) =
    (is_input name ≡ true) × (given ≡ input)
OpensWithInput opens input name (Ok (FileOpened file)) =
    (is_input name ≡ false) × opens name (Ok file)
OpensWithInput opens input name (Err kind) = (is_input name ≡ false) × opens name (Err kind)
