-- The threads of one line, declared one after the other.
use Rattle.std.proofs.Common.{◌≡◌, ℕ, zero, suc, ◌+◌, ◌-◌, ◌<◌, ◌≤◌, Bool, true, false, Option, Some, None, List, [], ◌∷◌, length, refl, sym, ap, ◌∙◌, arith}
use Rattle.std.specs.Prelude.{◌||◌, ◌==◌, IfSome, Ok, Err, nat_le}
use Rattle.std.specs.List.{list_any, range_with_len}
use Rattle.std.proofs.lemmas.Bool.{le-leb, leb-true, lt-leb, ne_eqb, not-true, or_parts}
use Rattle.std.proofs.lemmas.List.{length_push, get_or_append_left}
use Rattle.std.proofs.lemmas.List.Folds.{list_any-append}
use Rattle.std.proofs.lemmas.List.FromFn.{length-range_with_len}
use Rattle.l4_model.specs.Words.{global_id}
use Rattle.l4_model.specs.Machine.{Instr, Declaration, Machine, most_threads}
use Rattle.l4_core_model.specs.Local.{undeclared}
use Rattle.l4_script.specs.declared.text.fault.TextFaultKind.TheVariants.{DoubleId, TooManyThreads}
use Rattle.l4_script.specs.Machines.{has_number, is_taken, with_thread}
use Rattle.l4_script.specs.Second.Statements.{Heir}
use Rattle.l4_script.specs.Second.Texts.{Reading, may_declare, numbers_of, script_of, with_threads}
use Rattle.l4_script.proofs.Judging.{must_ok, then_ok}

-- The numbers of a range, the first one and those behind it.
pub first_number : {Y : Type 0} (F : List ℕ → Y) (number last : ℕ) → number < last
    → F (range_with_len number (suc last - number)) ≡ F (number ∷ range_with_len (number + 1) (suc last - (number + 1)))
first_number F number last below =
    let more : suc last - number ≡ suc (suc last - (number + 1)) = omega arith in
    ap (λ (n : ℕ). F (range_with_len number n)) more

-- One more number is taken, and no later one.
taken_later : (d : Declaration) (m : Machine) (a n : ℕ) → d.id.number < a → list_any (λ number. is_taken number m) (range_with_len a n) ≡ false
    → list_any (λ number. is_taken number (with_thread d m)) (range_with_len a n) ≡ false
taken_later d m a zero below none = refl
taken_later d m a (suc n) below none =
    let parts = or_parts (is_taken a m) (list_any (λ number. is_taken number m) (range_with_len (a + 1) n)) none in
    let other : (d.id.number == a) ≡ false = ne_eqb d.id.number a (omega arith) in
    rw (list_any-append (has_number a) m.threads (d ∷ []), parts.0, other) (taken_later d m (a + 1) n (omega arith) parts.1)

-- Whether the threads of a line may be declared.
module _ (heir : Heir) (m : Machine) (rises : heir.declaration.id.number ≤ heir.last) where
  count : length (numbers_of heir) ≡ suc heir.last - heir.declaration.id.number
  count = length-range_with_len heir.declaration.id.number (suc heir.last - heir.declaration.id.number)

  pub too_many : most_threads < length m.threads + (heir.last - heir.declaration.id.number + 1) → may_declare heir m ≡ Err TooManyThreads
  too_many more =
      let none : nat_le (length m.threads + length (numbers_of heir)) most_threads ≡ false = lt-leb (length m.threads + length (numbers_of heir)) most_threads (omega (arith, count)) in
      rw none refl

  module _ (room : length m.threads + (heir.last - heir.declaration.id.number + 1) ≤ most_threads) where
    enough : nat_le (length m.threads + length (numbers_of heir)) most_threads ≡ true
    enough = le-leb (length m.threads + length (numbers_of heir)) most_threads (omega (arith, count))

    pub doubled : list_any (λ number. is_taken number m) (numbers_of heir) ≡ true → may_declare heir m ≡ Err DoubleId
    doubled taken = rw (enough, taken) refl

    pub free : list_any (λ number. is_taken number m) (numbers_of heir) ≡ false → may_declare heir m ≡ Ok tt
    free none = rw (enough, none) refl

module _ (m : Machine) (number last : ℕ) where
  pub one_free : number < last → is_taken number m ≡ false
      → list_any (λ number. is_taken number m) (range_with_len number (suc last - number)) ≡ list_any (λ number. is_taken number m) (range_with_len (number + 1) (suc last - (number + 1)))
  one_free below none =
      first_number (λ (numbers : List ℕ). list_any (λ number. is_taken number m) numbers) number last below
      ∙ ap (λ (b : Bool). b || list_any (λ number. is_taken number m) (range_with_len (number + 1) (suc last - (number + 1)))) none

  pub first_taken : number ≤ last → is_taken number m ≡ true → list_any (λ number. is_taken number m) (range_with_len number (suc last - number)) ≡ true
  first_taken within taken =
      let more : suc last - number ≡ suc (last - number) = omega arith in
      ap (λ (n : ℕ). list_any (λ number. is_taken number m) (range_with_len number n)) more
      ∙ ap (λ (b : Bool). b || list_any (λ number. is_taken number m) (range_with_len (number + 1) (last - number))) taken

  pub last_free : number ≤ last → last ≤ number → is_taken number m ≡ false → list_any (λ number. is_taken number m) (range_with_len number (suc last - number)) ≡ false
  last_free within past none =
      let one : suc last - number ≡ 1 = omega arith in
      ap (λ (n : ℕ). list_any (λ number. is_taken number m) (range_with_len number n)) one
      ∙ ap (λ (b : Bool). b || false) none

-- What is left to declare of a line, from a number on.
pub record IsLeft (heir : Heir) (source : Option ℕ) (old : Reading) (number : ℕ) (r : Reading) : Type 0 where
  pub rises : number ≤ heir.last
  pub room : length r.machine.threads + (suc heir.last - number) ≤ most_threads
  pub free : list_any (λ number. is_taken number r.machine) (range_with_len number (suc heir.last - number)) ≡ false
  pub within : IfSome source (λ place. place < length r.machine.threads)
  pub cpus : r.machine.cpus ≡ old.machine.cpus
  pub script : script_of r.machine source ≡ script_of old.machine source
  pub others : record r { machine = old.machine } ≡ old
  pub whole : with_threads (numbers_of heir) (record heir.declaration { script = script_of old.machine source }) old.machine
      ≡ with_threads (range_with_len number (suc heir.last - number)) (record heir.declaration { script = script_of old.machine source }) r.machine

module _ (heir : Heir) (source : Option ℕ) where
  -- The thread of this number.
  abbrev heir_numbered : (number : ℕ) → Machine → Declaration
  heir_numbered number m = record heir.declaration {
    id = global_id number heir.declaration.id.version;
    script = script_of m source;
  }

  pub begins : (r : Reading) → heir.declaration.id.number ≤ heir.last → may_declare heir r.machine ≡ Ok tt → IfSome source (λ place. place < length r.machine.threads)
      → IsLeft heir source r heir.declaration.id.number r
  begins r rises may within =
      let parts = then_ok _ _ tt may in
      let count = length-range_with_len heir.declaration.id.number (suc heir.last - heir.declaration.id.number) in
      record {
        rises = rises;
        room = omega (arith, count, leb-true _ _ (must_ok _ TooManyThreads parts.0));
        free = not-true _ (must_ok _ DoubleId parts.1);
        within = within;
        cpus = refl;
        script = refl;
        others = refl;
        whole = refl;
      }

  pub fresh : (old : Reading) (number : ℕ) (r : Reading) → IsLeft heir source old number r → is_taken number r.machine ≡ false
  fresh old number r left =
      let more : suc heir.last - number ≡ suc (heir.last - number) = omega (arith, left.rises) in
      let all = sym (ap (λ (n : ℕ). list_any (λ number. is_taken number r.machine) (range_with_len number n)) more) ∙ left.free in
      (or_parts (is_taken number r.machine) (list_any (λ number. is_taken number r.machine) (range_with_len (number + 1) (heir.last - number))) all).0

  pub roomy : (old : Reading) (number : ℕ) (r : Reading) → IsLeft heir source old number r → length r.machine.threads < most_threads
  roomy old number r left = omega (arith, left.rises, left.room)

  -- Whose script is taken stays where it is.
  source_stays : (d : Declaration) (m : Machine) → IfSome source (λ place. place < length m.threads)
      → IfSome source (λ place. place < length (with_thread d m).threads) × (script_of (with_thread d m) source ≡ script_of m source)
  source_stays d m within = by source within
    where
      by : (o : Option ℕ) → IfSome o (λ place. place < length m.threads) → IfSome o (λ place. place < length (with_thread d m).threads) × (script_of (with_thread d m) o ≡ script_of m o)
      by None h = (tt, refl)
      by (Some place) h = (omega (arith, h, length_push m.threads d), ap (λ (x : Declaration). x.script) (get_or_append_left m.threads (d ∷ []) undeclared place h))

  module _ (old : Reading) (number : ℕ) (r : Reading) (left : IsLeft heir source old number r) where
    abbrev after : Machine
    after = with_thread (heir_numbered number r.machine) r.machine

    same_script : (d : Declaration) → with_thread (record d { script = script_of r.machine source }) r.machine ≡ with_thread (record d { script = script_of old.machine source }) r.machine
    same_script d = ap (λ (script : List Instr). with_thread (record d { script = script }) r.machine) left.script

    pub goes_on : number < heir.last → IsLeft heir source old (number + 1) (record r { machine = after })
    goes_on below =
        let d0 = record heir.declaration { script = script_of old.machine source } in
        let next = heir_numbered number r.machine in
        let stays = source_stays next r.machine left.within in
        let all = sym (first_number (λ (numbers : List ℕ). list_any (λ number. is_taken number r.machine) numbers) number heir.last below) ∙ left.free in
        let parts = or_parts (is_taken number r.machine) (list_any (λ number. is_taken number r.machine) (range_with_len (number + 1) (suc heir.last - (number + 1)))) all in
        record {
          rises = omega (arith, below);
          room = omega (arith, below, left.room, length_push r.machine.threads next);
          free = taken_later next r.machine (number + 1) (suc heir.last - (number + 1)) (omega arith) parts.1;
          within = stays.0;
          cpus = left.cpus;
          script = stays.1 ∙ left.script;
          others = left.others;
          whole = left.whole
              ∙ first_number (λ (numbers : List ℕ). with_threads numbers d0 r.machine) number heir.last below
              ∙ ap (λ (m : Machine). with_threads (range_with_len (number + 1) (suc heir.last - (number + 1))) d0 m) (sym (same_script (record heir.declaration { id = global_id number heir.declaration.id.version })));
        }

    pub ends : heir.last ≤ number → record r { machine = after; heir_of = source } ≡ record old {
      machine = with_threads (numbers_of heir) (record heir.declaration { script = script_of old.machine source }) old.machine;
      heir_of = source;
    }
    ends past =
        let d0 = record heir.declaration { script = script_of old.machine source } in
        let one : suc heir.last - number ≡ 1 = omega (arith, past, left.rises) in
        let machine : with_threads (numbers_of heir) d0 old.machine ≡ after = left.whole
        ∙ ap (λ (n : ℕ). with_threads (range_with_len number n) d0 r.machine) one
        ∙ sym (same_script (record heir.declaration { id = global_id number heir.declaration.id.version })) in
        ap (λ (m : Machine). record r { machine = m; heir_of = source }) (sym machine)
        ∙ ap (λ (x : Reading). record x { machine = with_threads (numbers_of heir) d0 old.machine; heir_of = source }) left.others
