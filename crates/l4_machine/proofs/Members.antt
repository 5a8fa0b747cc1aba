-- All processors of a machine, in the order of their numbers.
use Rattle.std.proofs.Common.{◌≡◌, ℕ, zero, suc, ◌+◌, ◌<◌, ◌≤◌, Bool, true, false, ◌||◌, ◌&&◌, Some, List, [], ◌∷◌, map, length, refl, ap, ap₂, sym, ◌∙◌, subst, arith}
use Rattle.std.specs.Prelude.{slice_get, is_some, nat_eq, nat_lt, ◌==◌}
use Rattle.std.specs.List.{range_with_len}
use Rattle.std.proofs.lemmas.Bool.{and_from, eq-eqb}
use Rattle.std.proofs.lemmas.Bool.Decides.{nat_tests}
use Rattle.std.proofs.lemmas.Option.{slice_get_within}
use Rattle.std.proofs.lemmas.List.{length-map}
use Rattle.l4_model.specs.Machine.{Machine}
use Rattle.l4_model.proofs.Chains.{some_is}
use Rattle.l4_mail.specs.Ports.{fabric_size, AreOneFabric}
use Rattle.l4_mail.specs.Rests.{has_number, have_numbers, have_size, are_all}
use Rattle.l4_proc.specs.Inner.Assembled.{AreAssembled}
use Rattle.l4_proc.specs.Rests.{AreAsBefore}
use Rattle.l4_proc.specs.Working.{past, HasGoneOn}
use Rattle.l4_proc.specs.declared.worker.Worker.{Worker}
use Rattle.l4_proc.specs.declared.processor.Processor.{Processor}
use Rattle.l4_proc.proofs.Rested.{port_of, same_at}
use Rattle.l4_machine.specs.Gathers.{with_number, past_of, pasts_of, HaveNumbers}
use Rattle.l4_machine.specs.Inner.Teams.{pasts, AreInOrder}
use Rattle.l4_machine.proofs.InOneHand.{numbered, assembled, all_same, gone_on}

pub some_there : {A : Type 0} (xs : List A) (i : ℕ) → i < length xs → (x : A) × (slice_get xs i ≡ Some x)
some_there [] i lt = absurd (omega arith)
some_there (x ∷ xs) zero lt = (x, refl)
some_there (x ∷ xs) (suc i) lt = some_there xs i (omega arith)

pub assembled_in_order : {room : ℕ} (m : Machine) (ps : List Processor) → AreAssembled room m ps → AreInOrder m ps
assembled_in_order m ps a = record { for_each = a.count; numbers = λ i p at. (a.each i p at).number; of_one = assembled m ps a }

-- Each number is there

found_there : (ps : List Processor) (i cpu : ℕ) (p : Processor) → slice_get ps i ≡ Some p → p.worker.core.cpu ≡ cpu → is_some (with_number cpu ps) ≡ true
found_there [] i cpu p at is = absurd cc
found_there (q ∷ ps) zero cpu p at is =
    let same : (q.worker.core.cpu == cpu) ≡ true = eq-eqb q.worker.core.cpu cpu (ap (λ (x : Processor). x.worker.core.cpu) (some_is q p at) ∙ is) in
    rw same refl
found_there (q ∷ ps) (suc i) cpu p at is = by (q.worker.core.cpu == cpu) refl (found_there ps i cpu p at is)
  where
    by : (b : Bool) → (q.worker.core.cpu == cpu) ≡ b → is_some (with_number cpu ps) ≡ true → is_some (with_number cpu (q ∷ ps)) ≡ true
    by true e rest = rw e refl
    by false e rest = rw e rest

pub in_order_have_numbers : (m : Machine) (ps : List Processor) → AreInOrder m ps → HaveNumbers m.cpus ps
in_order_have_numbers m ps all cpu lt =
    let count = all.for_each in
    let there = some_there ps cpu (omega arith) in
    found_there ps cpu cpu there.0 there.1 (all.numbers cpu there.0 there.1)

pub with_number_is : (m : Machine) (ps : List Processor) (i : ℕ) (p : Processor) → AreInOrder m ps → slice_get ps i ≡ Some p → with_number i ps ≡ Some p
with_number_is m ps i p all at =
    subst (λ cpu. with_number cpu ps ≡ Some p) (all.numbers i p at) (numbered m ps i p all.of_one (in_order_have_numbers m ps all) at)

-- What each has done

pub mapped_range : {A B : Type 0} (f : ℕ → B) (g : A → B) (xs : List A) (start : ℕ) → ((k : ℕ) (x : A) → slice_get xs k ≡ Some x → f (start + k) ≡ g x) →
    map f (range_with_len start (length xs)) ≡ map g xs
mapped_range f g [] start each = refl
mapped_range f g (x ∷ xs) start each =
    let here : start + 0 ≡ start = omega arith in
    ap₂ (λ y ys. y ∷ ys) (ap f (sym here) ∙ each 0 x refl)
    (mapped_range f g xs (start + 1) (λ k y at. let next : start + 1 + k ≡ start + suc k = omega arith in ap f next ∙ each (suc k) y at))

pub pasts_are : (m : Machine) (ps : List Processor) → AreInOrder m ps → pasts_of m ps ≡ pasts ps
pasts_are m ps all =
    ap (λ n. map (λ cpu. past_of m cpu (with_number cpu ps)) (range_with_len 0 n)) (sym all.for_each)
    ∙ mapped_range (λ cpu. past_of m cpu (with_number cpu ps)) past ps 0
    (λ k p at. let same : 0 + k ≡ k = omega arith in
    ap (λ n. past_of m n (with_number n ps)) same ∙ ap (past_of m k) (with_number_is m ps k p all at))

-- They are all of their fabric

sizes_there : (n : ℕ) (ps : List Processor) → ((i : ℕ) (p : Processor) → slice_get ps i ≡ Some p → fabric_size p.port ≡ n) → have_size n (map port_of ps) ≡ true
sizes_there n [] each = refl
sizes_there n (p ∷ ps) each =
    and_from (nat_eq (fabric_size p.port) n) (have_size n (map port_of ps)) (eq-eqb (fabric_size p.port) n (each 0 p refl))
    (sizes_there n ps (λ i q at. each (suc i) q at))

number_there : (ps : List Processor) (i cpu : ℕ) (p : Processor) → slice_get ps i ≡ Some p → p.port.cpu ≡ cpu → has_number cpu (map port_of ps) ≡ true
number_there [] i cpu p at is = absurd cc
number_there (q ∷ ps) zero cpu p at is =
    let same : nat_eq q.port.cpu cpu ≡ true = eq-eqb q.port.cpu cpu (ap (λ (x : Processor). x.port.cpu) (some_is q p at) ∙ is) in
    rw same refl
number_there (q ∷ ps) (suc i) cpu p at is = by (nat_eq q.port.cpu cpu) (number_there ps i cpu p at is)
  where
    by : (b : Bool) → has_number cpu (map port_of ps) ≡ true → (b || has_number cpu (map port_of ps)) ≡ true
    by true rest = refl
    by false rest = rest

numbers_there : (ps : List Processor) (n : ℕ) → ((cpu : ℕ) → cpu < n → has_number cpu (map port_of ps) ≡ true) → have_numbers n (map port_of ps) ≡ true
numbers_there ps zero each = refl
numbers_there ps (suc n) each =
    and_from (have_numbers n (map port_of ps)) (has_number n (map port_of ps)) (numbers_there ps n (λ cpu lt. each cpu (omega arith))) (each n (omega arith))

pub in_order_all : (m : Machine) (ps : List Processor) → 1 ≤ m.cpus → AreInOrder m ps → are_all (map port_of ps) ≡ true
in_order_all m ps some all =
    let count : length (map port_of ps) ≡ m.cpus = length-map ps port_of ∙ all.for_each in
    let here : nat_lt 0 m.cpus ≡ true = grind (arith, nat_tests) in
    ap (λ n. nat_lt 0 n && (have_size n (map port_of ps) && have_numbers n (map port_of ps))) count
    ∙ and_from (nat_lt 0 m.cpus) _ here
    (and_from (have_size m.cpus (map port_of ps)) (have_numbers m.cpus (map port_of ps))
    (sizes_there m.cpus ps (λ i p at. p.whole.port_of.size ∙ ap (λ (m : Machine). m.cpus) (all.of_one.each i p at).machine))
    (numbers_there ps m.cpus (λ cpu lt.
    let size = all.for_each in
    let there = some_there ps cpu (omega arith) in
    number_there ps cpu cpu there.0 there.1 (there.0.whole.port_of.number ∙ all.numbers cpu there.0 there.1))))

-- They stay so where each goes on by itself, and behind a rest

pub in_order_same : (m : Machine) (olds news : List Processor) → AreAsBefore olds news → AreOneFabric (map port_of news) → AreInOrder m olds → AreInOrder m news
in_order_same m olds news same one all =
    let count : length news ≡ length olds = sym (length-map news (λ (p : Processor). p.worker)) ∙ ap length same.workers
    ∙ length-map olds (λ (p : Processor). p.worker) in
    record {
      for_each = count ∙ all.for_each;
      numbers = λ i p at.
          let lt = slice_get_within news i p at in
          let old = some_there olds i (omega (arith, count)) in
          ap (λ (w : Worker). w.core.cpu) (same_at olds news i old.0 p same old.1 at).worker ∙ all.numbers i old.0 old.1;
      of_one = all_same m olds news same all.of_one one;
    }

pub in_order_gone_on : (m : Machine) (olds news : List Processor) → length news ≡ length olds →
    ((i : ℕ) (old new : Processor) → slice_get olds i ≡ Some old → slice_get news i ≡ Some new → HasGoneOn old new) → AreOneFabric (map port_of news) →
    AreInOrder m olds → AreInOrder m news
in_order_gone_on m olds news count each one all = record {
  for_each = count ∙ all.for_each;
  numbers = λ i p at.
      let lt = slice_get_within news i p at in
      let old = some_there olds i (omega (arith, count)) in
      (each i old.0 p old.1 at).cpu ∙ all.numbers i old.0 old.1;
  of_one = record {
    each = λ i p at.
        let lt = slice_get_within news i p at in
        let old = some_there olds i (omega (arith, count)) in
        gone_on m old.0 p (each i old.0 p old.1 at) (all.of_one.each i old.0 old.1);
    one = one;
  };
}
