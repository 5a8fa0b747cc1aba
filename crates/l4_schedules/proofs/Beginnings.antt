-- A text that is too long is judged by its beginning.
use Rattle.std.proofs.Common.{◌≡◌, ℕ, ◌+◌, ◌<◌, ◌≤◌, Bool, true, false, Err, List, length, take, refl, sym, ap, inl, inr, ◌∙◌, arith, length-take}
use Rattle.std.specs.Prelude.{◌⊎◌, nat_lt, if◌then◌else◌}
use Rattle.std.proofs.lemmas.Bool.{lt-ltb}
use Rattle.std.proofs.lemmas.Bool.Decides.{nat_tests}
use Rattle.std.proofs.lemmas.List.{take_all}
use Rattle.l4_model.specs.Machine.{Machine}
use Rattle.l4_replay.specs.declared.fault.RunFault.TheVariants.{Turns}
use Rattle.l4_replay.specs.Entries.{most_events}
use Rattle.l4_schedules.specs.InFiles.{list_in_file, most_bytes, schedule_in_file}
use Rattle.l4_schedules.specs.Items.{schedule_within}

too_long : (m : Machine) (text : List ℕ) → nat_lt most_bytes (length text) ≡ true →
    schedule_in_file m text ≡ Err Turns
too_long m text is =
    ap (λ b. if b then Err Turns else schedule_within most_events m (list_in_file text)) is

pub beginning : (m : Machine) (all : List ℕ) →
    schedule_in_file m (take (most_bytes + 1) all) ≡ schedule_in_file m all
beginning m all = by (nat_lt most_bytes (length all)) refl
  where
    by : (b : Bool) → nat_lt most_bytes (length all) ≡ b →
        schedule_in_file m (take (most_bytes + 1) all) ≡ schedule_in_file m all
    by true is =
        let more : most_bytes < length all = grind (arith, nat_tests, is) in
        let long : nat_lt most_bytes (length (take (most_bytes + 1) all)) ≡ true =
        lt-ltb _ _ (omega (arith, more, length-take (most_bytes + 1) all)) in
        too_long m (take (most_bytes + 1) all) long ∙ sym (too_long m all is)
    by false is =
        let few : length all ≤ most_bytes = grind (arith, nat_tests, is) in
        ap (schedule_in_file m) (take_all (most_bytes + 1) all (omega (arith, few)))

pub as_much : (m : Machine) (all text : List ℕ) →
    (text ≡ all) ⊎ (text ≡ take (most_bytes + 1) all) →
    schedule_in_file m text ≡ schedule_in_file m all
as_much m all text (inl same) = ap (schedule_in_file m) same
as_much m all text (inr same) = ap (schedule_in_file m) same ∙ beginning m all
