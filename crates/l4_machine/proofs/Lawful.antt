-- The entries that name what happened in a core run are entries of its machine.
use Rattle.std.proofs.Common.{◌≡◌, ℕ, ◌+◌, ◌<◌, ◌≤◌, Bool, true, false, Option, Some, None, List, [], ◌∷◌, map, length, refl, ap, ◌∙◌, subst, arith}
use Rattle.std.specs.Prelude.{slice_get, filter, nat_lt, ◌==◌, if◌then◌else◌}
use Rattle.std.specs.List.{AllByRecursion}
use Rattle.std.specs.Option.{option_map}
use Rattle.std.proofs.lemmas.Bool.{and_from, and_parts, eqb-true, ltb-true, lt-ltb}
use Rattle.std.proofs.lemmas.Bool.Decides.{nat_tests}
use Rattle.std.proofs.lemmas.List.{length-append, length-map}
use Rattle.std.proofs.lemmas.List.FromFn.{length-map-range_with_len}
use Rattle.std.proofs.lemmas.Option.{slice_get_within}
use Rattle.l4_model.specs.Machine.{Machine}
use Rattle.l4_model.specs.Words.{clock_limit}
use Rattle.l4_model.proofs.Chains.{bind_then, guard_then, some_is, length-changed}
use Rattle.l4_core_model.specs.Acts.{Work}
use Rattle.l4_core_model.specs.Letters.{Letter}
use Rattle.l4_core_model.specs.Local.{Local, opening_local}
use Rattle.l4_core_model.specs.Mail.{handle}
use Rattle.l4_core_model.specs.Turns.{turn, advance}
use Rattle.l4_core_model.specs.Runs.{Posted, System, is_between, letters, without_first, posted, taken, Action, Handles, Turns, Ticks, Happened, done, happens, Run, core_run, then_event, opening_run}
use Rattle.l4_bisimilar.specs.Entries.{entry_of}
use Rattle.l4_merge.proofs.Lists.{all-append}
use Rattle.l4_replay.specs.Entries.{first_stranger, fault_of, is_entry}

-- A system of the machine's processors, in which each letter under way was posted by one of them.
record IsPeopled (m : Machine) (g : System) : Type 0 where
  pub size : length g.locals ≡ m.cpus
  pub posters : AllByRecursion (λ p. p.from < m.cpus) g.mail

less_first : (m : Machine) (from to : ℕ) (ps : List Posted) → AllByRecursion (λ p. p.from < m.cpus) ps →
    AllByRecursion (λ p. p.from < m.cpus) (without_first from to ps)
less_first m from to [] all = tt
less_first m from to (p ∷ ps) all = by (is_between from to p) (less_first m from to ps all.1)
  where
    by : (b : Bool) → AllByRecursion (λ (p : Posted). p.from < m.cpus) (without_first from to ps) →
        AllByRecursion (λ (p : Posted). p.from < m.cpus) (if b then ps else p ∷ without_first from to ps)
    by true rest = all.1
    by false rest = (all.0, rest)

all_posted : (cpu n : ℕ) (ls : List (ℕ × Letter)) → cpu < n → AllByRecursion (λ p. p.from < n) (map (posted cpu) ls)
all_posted cpu n [] lt = tt
all_posted cpu n (l ∷ ls) lt = (lt, all_posted cpu n ls lt)

-- The poster of the first letter that is under way from somebody.
poster_below : (from to n : ℕ) (ps : List Posted) (letter : Letter) → AllByRecursion (λ p. p.from < n) ps → slice_get (letters ps from to) 0 ≡ Some letter → from < n
poster_below from to n [] letter all at = absurd cc
poster_below from to n (p ∷ ps) letter all at = by (is_between from to p) refl at (poster_below from to n ps letter all.1)
  where
    rest : List Posted
    rest = filter (is_between from to) ps

    by : (b : Bool) → is_between from to p ≡ b → slice_get (map (λ (p : Posted). p.letter) (if b then p ∷ rest else rest)) 0 ≡ Some letter →
        (slice_get (letters ps from to) 0 ≡ Some letter → from < n) → from < n
    by true is at more =
        let same = eqb-true p.from from (and_parts (p.from == from) (p.to == to) is).0 in
        subst (λ q. q < n) same all.0
    by false is at more = more at

-- What happens is an entry of the machine, and the system stays one.
record IsLawfulHappening (m : Machine) (e : Action) (h : Happened) : Type 0 where
  pub lawful : is_entry m (entry_of e) ≡ true
  pub peopled : IsPeopled m h.system

done_peopled : (m : Machine) (cpu : ℕ) (g : System) (o : Option Work) (h : Happened) → IsPeopled m g → cpu < m.cpus → option_map (done cpu g) o ≡ Some h →
    IsPeopled m h.system
done_peopled m cpu g None h is lt at = absurd cc
done_peopled m cpu g (Some x) h is lt at =
    subst (λ (h : Happened). IsPeopled m h.system) (some_is (done cpu g x) h at) (record {
      size = length-changed (λ l. x.local) g.locals cpu ∙ is.size;
      posters = all-append (λ (p : Posted). p.from < m.cpus) g.mail (map (posted cpu) x.letters) is.posters (all_posted cpu m.cpus x.letters lt);
    })

-- A clock goes on to a value that an entry may name.
may_advance : (m : Machine) (cpu clock : ℕ) (l : Local) (g : System) (h : Happened) → option_map (done cpu g) (advance m cpu clock l) ≡ Some h →
    (nat_lt 0 clock ≡ true) × (nat_lt clock clock_limit ≡ true)
may_advance m cpu clock l g h at = by (advance m cpu clock l) refl at
  where
    by : (o : Option Work) → advance m cpu clock l ≡ o → option_map (done cpu g) o ≡ Some h → (nat_lt 0 clock ≡ true) × (nat_lt clock clock_limit ≡ true)
    by None is at = absurd cc
    by (Some x) is at =
        guard_then (nat_lt l.clock clock) _ x is λ later is.
        guard_then (nat_lt clock clock_limit) _ x is λ below is.
        let above = ltb-true l.clock clock later in
        (lt-ltb 0 clock (omega arith), below)

happens_lawful : (m : Machine) (g : System) (e : Action) (h : Happened) → IsPeopled m g → happens m g e ≡ Some h → IsLawfulHappening m e h
happens_lawful m g (Handles cpu from) h is at =
    bind_then (slice_get g.locals cpu) _ h at λ l here at.
    bind_then (slice_get (letters g.mail from cpu) 0) _ h at λ letter first at.
    let lt : cpu < m.cpus = subst (λ n. cpu < n) is.size (slice_get_within g.locals cpu l here) in
    record {
      lawful = and_from (nat_lt cpu m.cpus) (nat_lt from m.cpus) (lt-ltb cpu m.cpus lt)
          (lt-ltb from m.cpus (poster_below from cpu m.cpus g.mail letter is.posters first));
      peopled = done_peopled m cpu (taken from cpu g) (handle m cpu l letter) h
          (record { size = is.size; posters = less_first m from cpu g.mail is.posters }) lt at;
    }
happens_lawful m g (Turns cpu) h is at =
    bind_then (slice_get g.locals cpu) _ h at λ l here at.
    let lt : cpu < m.cpus = subst (λ n. cpu < n) is.size (slice_get_within g.locals cpu l here) in
    record { lawful = lt-ltb cpu m.cpus lt; peopled = done_peopled m cpu g (turn m cpu l) h is lt at }
happens_lawful m g (Ticks cpu clock) h is at =
    bind_then (slice_get g.locals cpu) _ h at λ l here at.
    let lt : cpu < m.cpus = subst (λ n. cpu < n) is.size (slice_get_within g.locals cpu l here) in
    let clock_is = may_advance m cpu clock l g h at in
    record {
      lawful = and_from _ _ (and_from (nat_lt cpu m.cpus) (nat_lt 0 clock) (lt-ltb cpu m.cpus lt) clock_is.0) clock_is.1;
      peopled = done_peopled m cpu g (advance m cpu clock l) h is lt at;
    }

-- So are all.

run_lawful : (m : Machine) (es : List Action) (r after : Run) (place : ℕ) → IsPeopled m r.system → core_run m r es ≡ Some after →
    first_stranger m place (map entry_of es) ≡ None
run_lawful m [] r after place is at = refl
run_lawful m (e ∷ es) r after place is at =
    bind_then (happens m r.system e) _ after at λ h may at.
    let l = happens_lawful m r.system e h is may in
    rw l.lawful (run_lawful m es (then_event r h) after (place + 1) l.peopled at)

run_length : (m : Machine) (es : List Action) (r after : Run) → core_run m r es ≡ Some after → length after.events ≡ length r.events + length es
run_length m [] r after at = let same = some_is r after at in omega (arith, ap (λ (r : Run). length r.events) same)
run_length m (e ∷ es) r after at =
    bind_then (happens m r.system e) _ after at λ h may at.
    let rest = run_length m es (then_event r h) after at in
    omega (arith, rest, length-append r.events (h.event ∷ []))

pub no_strangers : (m : Machine) (es : List Action) (r : Run) (most : ℕ) → core_run m (opening_run m) es ≡ Some r → length r.events ≤ most →
    fault_of most m (map entry_of es) ≡ None
no_strangers m es r most at few =
    let size = run_length m es (opening_run m) r at in
    let many = length-map es entry_of in
    let fits : nat_lt most (length (map entry_of es)) ≡ false = grind (arith, nat_tests) in
    let lawful = run_lawful m es (opening_run m) r 1 (record { size = length-map-range_with_len (opening_local m) 0 m.cpus; posters = tt }) at in
    rw (fits, lawful) refl
