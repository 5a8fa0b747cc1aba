-- What is read of a machine text.
use Rattle.std.proofs.Common.{◌≡◌, ℕ, ◌≤◌, Bool, true, false, Ok, Err, Some, List, [], ◌∷◌, ◌++◌, length, take, refl, ap, sym, inl, inr, ◌∙◌, arith}
use Rattle.std.specs.Prelude.{◌⊎◌, nat_lt}
use Rattle.std.proofs.lemmas.Bool.{lt-ltb, ltb-true}
use Rattle.std.proofs.lemmas.Bool.Decides.{nat_tests}
use Rattle.std.proofs.lemmas.List.{length-take, take_all}
use Rattle.std.specs.Prelude.{Result}
use Rattle.std.specs.declared.io.ErrorKind.{ErrorKind}
use Rattle.l4_script.specs.Faults.{fault_at}
use Rattle.l4_script.specs.Versions.{machine_of_text}
use Rattle.l4_script.specs.declared.text.fault.TextFaultKind.TheVariants.{TooLong}
use Rattle.l4_lint.specs.Doubts.{doubts_of}
use Rattle.l4_lint.specs.Excerpts.{excerpt, fault_shown, first_shown, line_in}
use Rattle.l4_lint.specs.Faults.{faults_of, too_long as long_fault}
use Rattle.l4_lint.specs.Spelling.{fault_line}
use Rattle.l4_jobs.specs.Inner.Reading.{IsReadAs}

not_below : (a b : ℕ) → nat_lt a b ≡ false → b ≤ a
not_below a b h = grind (arith, nat_tests)

as_all : (read all : List ℕ) → read ≡ all → IsReadAs read all
as_all read all is = record {
  machine = ap machine_of_text is;
  faults = ap faults_of is;
  doubts = ap doubts_of is;
  shown = λ file. ap (fault_shown file) is;
  whole = λ m declares. is;
}

too_long : (bytes : List ℕ) → nat_lt 0x100000 (length bytes) ≡ true → machine_of_text bytes ≡ Err (fault_at 0 TooLong)
too_long bytes long = rw long refl

shown_too_long : (file bytes : List ℕ) → nat_lt 0x100000 (length bytes) ≡ true → fault_shown file bytes ≡ first_shown file [] (long_fault ∷ [])
shown_too_long file bytes long =
    let found : faults_of bytes ≡ long_fault ∷ [] = rw long refl in
    let none : line_in bytes 0 ≡ [] = rw long refl in
    ap (first_shown file bytes) found ∙ ap (λ (line : List ℕ). fault_line (Some file) long_fault ++ excerpt line long_fault.place) none

-- A text that is too long has no other fault, so its beginning is enough.
as_beginning : (bytes : List ℕ) → IsReadAs (take 0x100001 bytes) bytes
as_beginning bytes = by (nat_lt 0x100000 (length bytes)) refl
  where
    by : (b : Bool) → nat_lt 0x100000 (length bytes) ≡ b → IsReadAs (take 0x100001 bytes) bytes
    by true long =
        let more = ltb-true 0x100000 (length bytes) long in
        let too = lt-ltb 0x100000 (length (take 0x100001 bytes)) (omega (arith, more, length-take 0x100001 bytes)) in
        record {
          machine = rw (long, too) refl;
          faults = rw (long, too) refl;
          doubts = rw (long, too) refl;
          shown = λ file. shown_too_long file (take 0x100001 bytes) too ∙ sym (shown_too_long file bytes long);
          whole = λ m declares. absurd (let bad : Err (fault_at 0 TooLong) ≡ Ok m = sym (too_long bytes long) ∙ declares in cc);
        }
    by false short = as_all _ _ (take_all 0x100001 bytes (let least = not_below _ _ short in omega (arith, least)))

pub read_as : (gives : Result (List ℕ) ErrorKind → Type 0) (read : List ℕ) →
    (all : List ℕ) × gives (Ok all) × ((read ≡ all) ⊎ (read ≡ take 0x100001 all)) → (all : List ℕ) × gives (Ok all) × IsReadAs read all
read_as gives read (all, given, inl is) = (all, given, as_all read all is)
read_as gives read (all, given, inr is) = (all, given, by (as_beginning all))
  where
    by : IsReadAs (take 0x100001 all) all → IsReadAs read all
    by same = record {
      machine = ap machine_of_text is ∙ same.machine;
      faults = ap faults_of is ∙ same.faults;
      doubts = ap doubts_of is ∙ same.doubts;
      shown = λ file. ap (fault_shown file) is ∙ same.shown file;
      whole = λ m declares. is ∙ same.whole m declares;
    }
