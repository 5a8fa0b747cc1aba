-- Which choices can be made.
use Rattle.std.proofs.Common.{◌≡◌, ℕ, ◌+◌, ◌*◌, ◌/◌, ◌%◌, ◌<◌, ◌≤◌, Bool, true, false, cond, ◌&&◌, not, Option, None, Some, List, [], ◌∷◌, length, refl, ap, sym, ◌∙◌, arith}
use Rattle.std.specs.Prelude.{is_some, slice_get, nat_lt, ◌==◌}
use Rattle.std.specs.Option.{option_map}
use Rattle.std.proofs.lemmas.Bool.{eq-eqb, le-ltb, lt-ltb, ne_eqb}
use Rattle.std.proofs.lemmas.Option.{slice_get_within}
use Rattle.std.proofs.Math.Nat.{div-lt_iff_lt-mul}
use Rattle.l4_model.specs.Words.{clock_limit}
use Rattle.l4_model.specs.Machine.{Machine}
use Rattle.l4_model.specs.Conditions.{◌>>=◌}
use Rattle.l4_core_model.specs.Letters.{Letter}
use Rattle.l4_core_model.specs.Local.{Local}
use Rattle.l4_core_model.specs.Mail.{handle}
use Rattle.l4_core_model.specs.Turns.{advance, does_choice, is_busy, opened, turn}
use Rattle.l4_core_model.specs.Turns.{choice as core_choice}
use Rattle.l4_core_model.specs.Runs.{System, letters, Handles, Turns, Ticks, Happened, done, taken, happens, is_empty}
use Rattle.l4_core_model.specs.Schedules.{least_deadline, Entry, TickOf, LetterOf, CoreOf}
use Rattle.l4_refines.specs.Laws.{LettersAreLawful}
use Rattle.l4_states.specs.Choices.{after_entry, choice, choice_of}

is_some_map : {A B : Type 0} (f : A → B) (o : Option A) → is_some (option_map f o) ≡ is_some o
is_some_map f None = refl
is_some_map f (Some x) = refl

module _ (m : Machine) (g : System) (cpu : ℕ) where
  -- A letter where there is one, for it can be handled.
  pub letter_possible : (from : ℕ) (l : Local) (ls : List Letter) →
      slice_get g.locals cpu ≡ Some l → letters g.mail from cpu ≡ ls →
      ((letter : Letter) → slice_get ls 0 ≡ Some letter →
      is_some (handle m cpu l letter) ≡ true) →
      is_some (after_entry m g (LetterOf cpu from)) ≡ not (is_empty ls)
  letter_possible from l ls there mail lawful =
      is_some_map (λ (h : Happened). h.system) (happens m g (Handles cpu from))
      ∙ ap (λ (o : Option Local). is_some (o >>= λ l. slice_get (letters g.mail from cpu) 0 >>=
      λ letter. option_map (done cpu (taken from cpu g)) (handle m cpu l letter))) there
      ∙ ap (λ (ls : List Letter). is_some (slice_get ls 0 >>=
      λ letter. option_map (done cpu (taken from cpu g)) (handle m cpu l letter))) mail
      ∙ by ls lawful
    where
      by : (ls : List Letter) →
          ((letter : Letter) → slice_get ls 0 ≡ Some letter →
          is_some (handle m cpu l letter) ≡ true) →
          is_some (slice_get ls 0 >>=
          λ letter. option_map (done cpu (taken from cpu g)) (handle m cpu l letter))
          ≡ not (is_empty ls)
      by [] lawful = refl
      by (letter ∷ ls) lawful =
          is_some_map (done cpu (taken from cpu g)) (handle m cpu l letter) ∙ lawful letter refl

  -- The core's turn where it is busy.
  pub turn_possible : (l : Local) → slice_get g.locals cpu ≡ Some l →
      is_some (after_entry m g (CoreOf cpu)) ≡ is_busy m cpu l
  turn_possible l there =
      is_some_map (λ (h : Happened). h.system) (happens m g (Turns cpu))
      ∙ ap (λ (o : Option Local). is_some (o >>= λ l. option_map (done cpu g) (turn m cpu l))) there
      ∙ is_some_map (done cpu g) (turn m cpu l)
      ∙ is_some_map (λ c. does_choice m cpu c (opened 0 l)) (core_choice m cpu l)

  advance_possible : (to : ℕ) (l : Local) →
      is_some (advance m cpu to l) ≡ (nat_lt l.clock to && nat_lt to clock_limit)
  advance_possible to l = by (nat_lt l.clock to) (nat_lt to clock_limit) refl refl
    where
      by : (b c : Bool) → nat_lt l.clock to ≡ b → nat_lt to clock_limit ≡ c →
          is_some (advance m cpu to l) ≡ (b && c)
      by true true e f = rw (e, f) refl
      by true false e f = rw (e, f) refl
      by false c e f = rw e refl

  -- A tick to a least deadline that is above the clock.
  pub tick_possible : (deadline : ℕ) (l : Local) → slice_get g.locals cpu ≡ Some l →
      option_map (λ e. e.0) (slice_get l.lists.armed 0) ≡ Some deadline →
      is_some (after_entry m g (TickOf cpu)) ≡ (nat_lt l.clock deadline && nat_lt deadline clock_limit)
  tick_possible deadline l there least =
      let here : least_deadline g cpu ≡ Some deadline
      = ap (λ (o : Option Local). o >>= λ l. option_map (λ e. e.0) (slice_get l.lists.armed 0))
      there ∙ least in
      ap (λ (o : Option ℕ). is_some (option_map (Ticks cpu) o >>=
      λ e. option_map (λ h. h.system) (happens m g e))) here
      ∙ is_some_map (λ (h : Happened). h.system) (happens m g (Ticks cpu deadline))
      ∙ ap (λ (o : Option Local). is_some (o >>= λ l. option_map (done cpu g) (advance m cpu deadline l)))
      there
      ∙ is_some_map (done cpu g) (advance m cpu deadline l)
      ∙ advance_possible deadline l

  pub tick_impossible : (l : Local) → slice_get g.locals cpu ≡ Some l →
      option_map (λ e. e.0) (slice_get l.lists.armed 0) ≡ None →
      is_some (after_entry m g (TickOf cpu)) ≡ false
  tick_impossible l there least =
      let here : least_deadline g cpu ≡ None
      = ap (λ (o : Option Local). o >>= λ l. option_map (λ e. e.0) (slice_get l.lists.armed 0))
      there ∙ least in
      ap (λ (o : Option ℕ). is_some (option_map (Ticks cpu) o >>=
      λ e. option_map (λ h. h.system) (happens m g e))) here

  -- Where there is no such processor, nothing can happen.
  nobody : (k : ℕ) → slice_get g.locals cpu ≡ None → after_entry m g (choice_of m.cpus cpu k) ≡ None
  nobody k none = by (nat_lt k m.cpus) (k == m.cpus)
    where
      by : (b c : Bool) →
          after_entry m g (cond b (LetterOf cpu k) (cond c (CoreOf cpu) (TickOf cpu))) ≡ None
      by true c =
          ap (λ (o : Option Local). option_map (λ (h : Happened). h.system) (o >>=
          λ l. slice_get (letters g.mail k cpu) 0 >>=
          λ letter. option_map (done cpu (taken k cpu g)) (handle m cpu l letter))) none
      by false true =
          ap (λ (o : Option Local). option_map (λ (h : Happened). h.system) (o >>=
          λ l. option_map (done cpu g) (turn m cpu l))) none
      by false false =
          let here : least_deadline g cpu ≡ None
          = ap (λ (o : Option Local). o >>=
          λ l. option_map (λ e. e.0) (slice_get l.lists.armed 0)) none in
          ap (λ (o : Option ℕ). option_map (Ticks cpu) o >>=
          λ e. option_map (λ h. h.system) (happens m g e)) here

  own_below : (k : ℕ) (h : System) → length g.locals ≡ m.cpus →
      after_entry m g (choice_of m.cpus cpu k) ≡ Some h → cpu < m.cpus
  own_below k h size is = by (slice_get g.locals cpu) refl
    where
      by : (o : Option Local) → slice_get g.locals cpu ≡ o → cpu < m.cpus
      by None none = let no = nobody k none in absurd cc
      by (Some l) there = omega (arith, slice_get_within g.locals cpu l there, size)

-- The number of a choice that can be made is below their count.
pub number_below : (m : Machine) (g h : System) (e : ℕ) → length g.locals ≡ m.cpus →
    after_entry m g (choice m e) ≡ Some h → e < m.cpus * (m.cpus + 2)
number_below m g h e size is =
    let own = own_below m g (e / (m.cpus + 2)) (e % (m.cpus + 2)) h size is in
    (div-lt_iff_lt-mul {k = m.cpus + 2} {x = e} {y = m.cpus} (omega arith)).0 own

-- Which choice of a processor a number stands for

pub choice_is_letter : (cpus cpu k : ℕ) → k < cpus → choice_of cpus cpu k ≡ LetterOf cpu k
choice_is_letter cpus cpu k less =
    ap (λ b. cond b (LetterOf cpu k) (cond (k == cpus) (CoreOf cpu) (TickOf cpu)))
    (lt-ltb k cpus less)

pub choice_is_core : (cpus cpu k : ℕ) → k ≡ cpus → choice_of cpus cpu k ≡ CoreOf cpu
choice_is_core cpus cpu k is =
    ap (λ b. cond b (LetterOf cpu k) (cond (k == cpus) (CoreOf cpu) (TickOf cpu)))
    (le-ltb k cpus (omega (arith, is)))
    ∙ ap (λ b. cond b (CoreOf cpu) (TickOf cpu)) (eq-eqb k cpus is)

pub choice_is_tick : (cpus cpu k : ℕ) → cpus ≤ k → (k ≡ cpus → ⊥) →
    choice_of cpus cpu k ≡ TickOf cpu
choice_is_tick cpus cpu k least other =
    ap (λ b. cond b (LetterOf cpu k) (cond (k == cpus) (CoreOf cpu) (TickOf cpu)))
    (le-ltb k cpus least)
    ∙ ap (λ b. cond b (CoreOf cpu) (TickOf cpu)) (ne_eqb k cpus other)

-- Below their count a number has its processor and a place of it.
pub own_of : (cpus number : ℕ) → number < cpus * (cpus + 2) → number / (cpus + 2) < cpus
own_of cpus number below = (div-lt_iff_lt-mul {k = cpus + 2} {x = number} {y = cpus} (omega arith)).1 below

empty_is : (ls : List Letter) (n : ℕ) → n ≡ length ls → is_empty ls ≡ (n == 0)
empty_is [] n is = sym (eq-eqb n 0 is)
empty_is (letter ∷ ls) n is = sym (ne_eqb n 0 (λ zero_now. omega (arith, is, zero_now)))

-- What is read of a processor and its letters says whether a choice of it can be made.
module _ (m : Machine) (g : System) (cpus cpu k : ℕ) (l : Local)
    (there : slice_get g.locals cpu ≡ Some l) where
  pub letters_possible : (ls : List Letter) (n : ℕ) → k < cpus → ls ≡ letters g.mail k cpu →
      n ≡ length ls → LettersAreLawful m g →
      not (n == 0) ≡ is_some (after_entry m g (choice_of cpus cpu k))
  letters_possible ls n less mail count lawful =
      sym (ap (λ (e : Entry). is_some (after_entry m g e)) (choice_is_letter cpus cpu k less)
      ∙ letter_possible m g cpu k l ls there (sym mail)
      (λ letter first. lawful.first k cpu letter l
      (ap (λ (ls : List Letter). slice_get ls 0) (sym mail) ∙ first) there)
      ∙ ap not (empty_is ls n count))

  pub core_possible : (b : Bool) → k ≡ cpus → b ≡ is_busy m cpu l →
      b ≡ is_some (after_entry m g (choice_of cpus cpu k))
  core_possible b same busy =
      busy ∙ sym (ap (λ (e : Entry). is_some (after_entry m g e)) (choice_is_core cpus cpu k same)
      ∙ turn_possible m g cpu l there)

  pub clock_possible : (b : Bool) → cpus ≤ k → (k ≡ cpus → ⊥) →
      b ≡ is_some (after_entry m g (TickOf cpu)) →
      b ≡ is_some (after_entry m g (choice_of cpus cpu k))
  clock_possible b least other same =
      same ∙ sym (ap (λ (e : Entry). is_some (after_entry m g e))
      (choice_is_tick cpus cpu k least other))

-- The same choice, told by the number of processors.
pub entry_same : (m : Machine) (cpus number : ℕ) → cpus ≡ m.cpus →
    choice_of cpus (number / (cpus + 2)) (number % (cpus + 2)) ≡ choice m number
entry_same m cpus number same = ap (λ n. choice_of n (number / (n + 2)) (number % (n + 2))) same
