-- The lint of a machine text, and of a list for its machine.
use Rattle.std.proofs.Common.{◌≡◌, ℕ, ◌+◌, Bool, Option, Some, None, Ok, List, [], ◌∷◌, ◌++◌, Bor, length, take, refl, ap, ap₂, sym, subst, ◌∙◌, append-nil}
use Rattle.std.specs.Prelude.{◌⊎◌, ◌==◌}
use Rattle.l4_model.specs.Machine.{Machine}
use Rattle.l4_script.specs.Versions.{machine_of_text}
use Rattle.l4_lint.specs.Doubts.{doubts_text, lint_text}
use Rattle.l4_lint.specs.Faults.{Fault as LintFault, faults_of, fault_in, first_in}
use Rattle.l4_lint.specs.Spelling.{faults_text as texts_of_faults, status_of}
use Rattle.l4_lint.proofs.First.{first_fault}
use Rattle.l4_schedules.specs.Faulty.{Fault as ListFault, faults_text, file_faults}
use Rattle.l4_schedules.specs.InFiles.{most_bytes}
use Rattle.l4_schedules.proofs.Faulting.{faults_as_much}
use Rattle.l4_commands.specs.Files.{list_name, list_name_in}
use Rattle.l4_jobs.specs.Inputs.{Gives, IsRead}
use Rattle.l4_jobs.specs.Lints.{IsLinted, IsListLinted, named_faults}
use Rattle.l4_jobs.specs.Outputs.{Output}
use Rattle.l4_jobs.specs.Inner.Reading.{IsReadAs}

-- A text that declares a machine has no fault.
none_found : (found : List LintFault) → first_in found ≡ None → found ≡ []
none_found [] e = refl
none_found (f ∷ others) e = absurd (let bad = e in cc)

pub none_faulty : (text : List ℕ) (m : Machine) → machine_of_text text ≡ Ok m → faults_of text ≡ []
none_faulty text m declares = none_found (faults_of text) (first_fault text ∙ ap fault_in declares)

-- The lint of what was read is the lint of the text.
same_text : (file : Option (List ℕ)) (read all : List ℕ) → IsReadAs read all → lint_text file read ≡ lint_text file all
same_text file read all same = ap₂ (λ f d. texts_of_faults file f ++ doubts_text file d) same.faults same.doubts

pub linted_as : (file : Option (List ℕ)) (read all : List ℕ) (o : Output) → IsReadAs read all → IsLinted file read o → IsLinted file all o
linted_as file read all o same is = record {
  lines_are = is.lines_are ∙ same_text file read all same;
  status_is = is.status_is ∙ ap status_of same.faults;
  said = is.said;
  unrecorded = is.unrecorded;
}

-- The faults of a list in a file are those of what was read of it.
pub file_told : (m : Machine) (gives : Gives) (text slice old new : List ℕ) (none : Bool) →
    (all : List ℕ) × gives (Ok all) × ((text ≡ all) ⊎ (text ≡ take (most_bytes + 1) all)) → slice ≡ text →
    new ≡ old ++ faults_text (file_faults m slice) → none ≡ (length (file_faults m slice) == 0) →
    (read : List ℕ) × gives (Ok read) × (new ≡ old ++ faults_text (file_faults m read)) × (none ≡ (length (file_faults m read) == 0))
file_told m gives text slice old new none (all, given, much) same written is =
    let alike : file_faults m slice ≡ file_faults m all = ap (file_faults m) same ∙ faults_as_much m all text much in
    (all, given, written ∙ ap (λ (found : List ListFault). old ++ faults_text found) alike, is ∙ ap (λ (found : List ListFault). length found == 0) alike)

pub named_told : (m : Machine) (list name : List ℕ) (gives : Gives) (old new : List ℕ) (none : Bool) → list_name list ≡ Some name →
    (read : List ℕ) × gives (Ok read) × (new ≡ old ++ faults_text (file_faults m read)) × (none ≡ (length (file_faults m read) == 0)) →
    (read : List ℕ) × IsRead (list_name list) gives read × (new ≡ old ++ faults_text (named_faults m (list_name list) list read))
    × (none ≡ (length (named_faults m (list_name list) list read) == 0))
named_told m list name gives old new none is =
    subst (λ (n : Option (List ℕ)). (read : List ℕ) × IsRead n gives read × (new ≡ old ++ faults_text (named_faults m n list read))
    × (none ≡ (length (named_faults m n list read) == 0))) (sym is)

-- A text without a fault, and a list behind it

pub alone : (file : Option (List ℕ)) (text : List ℕ) (m : Machine) (schedule : Option (Bor (List ℕ))) (gives : Gives) (o : Output) → schedule ≡ None →
    faults_of text ≡ [] → IsLinted file text o → (read : List ℕ) × IsRead (list_name_in schedule) gives read × IsListLinted file text m schedule read o
alone file text m schedule gives o none right is =
    subst (λ (s : Option (Bor (List ℕ))). (read : List ℕ) × IsRead (list_name_in s) gives read × IsListLinted file text m s read o) (sym none) (
      [],
      tt,
      record {
        lines_are = is.lines_are ∙ sym (append-nil (lint_text file text));
        status_is = is.status_is ∙ ap status_of right;
        said = is.said;
        unrecorded = is.unrecorded;
      },
    )
