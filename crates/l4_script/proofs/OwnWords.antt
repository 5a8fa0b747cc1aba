-- A machine that has a text in a format writes words of it alone.
use Rattle.std.proofs.Common.{◌≡◌, ℕ, ◌&&◌, ◌/◌, ◌%◌, ◌^◌, true, List, [], ◌∷◌, length, refl}
use Rattle.std.specs.Prelude.{◌==◌}
use Rattle.std.specs.List.{list_all}
use Rattle.std.proofs.lemmas.Bool.{and_parts, and_from}
use Rattle.l4_model.specs.Words.{Format, is_word_in, same_format}
use Rattle.l4_model.specs.Machine.{Value, Word, Register, Computed, From, Assign, Instr, Run, Tag, Vs, Ipc, Ask, Jump, OnErr, OnLabel, OnWord, OnFrom, End, Declaration}
use Rattle.l4_model.specs.Formats.{gives_words, writes_words}
use Rattle.l4_script.specs.Canonical.{is_register, has_operand, can_be_assigned}
use Rattle.l4_script.specs.Second.Canonical.{second_can_be_written, second_can_be_declared, WritesItsWords}

value_written : (f : Format) (a : ℕ) (value : Value) → (is_register a && can_be_assigned f value) ≡ true → gives_words f value ≡ true
value_written f a value h = (and_parts (gives_words f value) (has_operand f value) (and_parts (is_register a) (can_be_assigned f value) h).1).0

instruction_writes : (f : Format) (size : ℕ) (i : Instr) → second_can_be_written f size i ≡ true → writes_words f i ≡ true
instruction_writes f size (Run (Assign a (Word word))) h = value_written f a (Word word) h
instruction_writes f size (Run (Assign a (Register b))) h = value_written f a (Register b) h
instruction_writes f size (Run (Assign a (Computed operation format word))) h = value_written f a (Computed operation format word) h
instruction_writes f size (From format a) h = (and_parts (is_register a) (same_format format f) h).1
instruction_writes f size (Tag word) h = (and_parts (is_word_in f word) (word / 2 ^ 6 % 64 == 0) h).0
instruction_writes f size (Vs from) h = refl
instruction_writes f size (Ipc to from send receive) h = refl
instruction_writes f size (Ask target what) h = refl
instruction_writes f size (Jump place) h = refl
instruction_writes f size (OnErr place) h = refl
instruction_writes f size (OnLabel label place) h = refl
instruction_writes f size (OnWord a word place) h = refl
instruction_writes f size (OnFrom id place) h = refl
instruction_writes f size End h = refl

script_writes : (f : Format) (size : ℕ) (script : List Instr) → list_all (second_can_be_written f size) script ≡ true → list_all (writes_words f) script ≡ true
script_writes f size [] h = refl
script_writes f size (i ∷ script) h =
    let both = and_parts (second_can_be_written f size i) (list_all (second_can_be_written f size) script) h in
    and_from _ _ (instruction_writes f size i both.0) (script_writes f size script both.1)

threads_write : (f : Format) (cpus : ℕ) (ds : List Declaration) → list_all (second_can_be_declared f cpus) ds ≡ true → list_all (λ d. list_all (writes_words f) d.script) ds ≡ true
threads_write f cpus [] h = refl
threads_write f cpus (d ∷ ds) h =
    let both = and_parts (second_can_be_declared f cpus d) (list_all (second_can_be_declared f cpus) ds) h in
    and_from _ _ (script_writes f (length d.script) d.script (and_parts _ (list_all (second_can_be_written f (length d.script)) d.script) both.0).1) (threads_write f cpus ds both.1)

pub writes_its_words : WritesItsWords
writes_its_words f m h = threads_write f m.cpus m.threads h.each
