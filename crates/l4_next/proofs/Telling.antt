-- What one more entry makes of a replay, and what is told of it.
use Rattle.std.proofs.Common.{◌≡◌, ℕ, ◌+◌, ◌-◌, ◌<◌, Bool, true, false, cond, Option, Some, None, List, [], ◌∷◌, ◌++◌, length, drop, refl, ap, sym, ◌∙◌, arith, append-nil, append_assoc}
use Rattle.std.proofs.Math.Seq.{drop-append_seam}
use Rattle.std.specs.Prelude.{◌&&◌, is_some, filter_map}
use Rattle.std.specs.List.{cons_option, list_all}
use Rattle.std.specs.Option.{option_map}
use Rattle.std.proofs.lemmas.Bool.{le-ltb}
use Rattle.std.proofs.lemmas.List.{length-append}
use Rattle.std.proofs.lemmas.List.Elements.{filter_map-append}
use Rattle.std.proofs.lemmas.List.Concat.{flat_map-append}
use Rattle.std.proofs.lemmas.List.Folds.{list_all-append}
use Rattle.std.proofs.lemmas.List.FromFn.{map-range_with_len_more}
use Rattle.l4_model.specs.Machine.{Machine}
use Rattle.l4_model.specs.Steps.{Step}
use Rattle.l4_model.specs.Conditions.{◌>>=◌}
use Rattle.l4_core_model.specs.Runs.{Action, Happened, Run, System, happens, opening_run, told}
use Rattle.l4_core_model.specs.Schedules.{or_stays, Entry, entry_event, replay_entries}
use Rattle.l4_core_model.proofs.Telling.{told-last}
use Rattle.l4_replay.specs.Entries.{entries_fault, first_stranger, is_entry, most_events}
use Rattle.l4_rounds.proofs.Faults.{no_fault}
use Rattle.l4_rounds.proofs.Rounds.{lawful_more, replays_more}
use Rattle.l4_states.specs.Choices.{after_entry, choice}
use Rattle.l4_trace.specs.Lines.{has_line, trace_of}
use Rattle.l4_replay.specs.declared.fault.RunFault.TheVariants.{Turns, Schedule}
use Rattle.l4_next.specs.Nexts.{Next, are_spelled, choices, item_line, listed, next_by, next_text, nexts_fault, nexts_text}

-- What happens by an entry
abbrev happened : Machine → Run → Entry → Option Happened
happened m r e = entry_event m r.system e >>= happens m r.system

abbrev next_of : Entry → Happened → Next
next_of e h = record { entry = e; steps = h.event.steps }

-- Of an entry that can be done the steps behind those of the shorter replay are told.
pub record IsNext (m : Machine) (es : List Entry) (e : Entry) : Type 0 where
  pub steps : List Step
  pub is : next_by m (replay_entries m es).system e ≡ Some (record { entry = e; steps = steps })
  pub told : told (replay_entries m (es ++ e ∷ [])).events ≡ told (replay_entries m es).events ++ steps

pub one_next : (m : Machine) (es : List Entry) (e : Entry) →
    is_some (next_by m (replay_entries m es).system e) ≡ true → IsNext m es e
one_next m es e possible = by (happened m r e) refl (ap is_some refl ∙ possible)
  where
    r : Run
    r = replay_entries m es

    by : (o : Option Happened) → happened m r e ≡ o → is_some (option_map (next_of e) (happened m r e)) ≡ true → IsNext m es e
    by None is some = absurd (let no = ap (λ p. is_some (option_map (next_of e) p)) (sym is) ∙ some in cc)
    by (Some h) is some = record {
      steps = h.event.steps;
      is = ap (option_map (next_of e)) is;
      told = ap (λ (s : Run). told s.events) (replays_more m (opening_run m) es e ∙ ap (or_stays r) is) ∙ told-last r.events h.event;
    }

-- The steps behind the shorter history
behind : (m : Machine) (es : List Entry) (e : Entry) (n : IsNext m es e) (before after : List Step) → before ≡ told (replay_entries m es).events →
    after ≡ told (replay_entries m (es ++ e ∷ [])).events → drop (length before) after ≡ n.steps
behind m es e n before after is more =
    ap (drop (length before)) (more ∙ n.told ∙ ap (λ steps. steps ++ n.steps) (sym is)) ∙ drop-append_seam before n.steps

-- Of an entry that can't be done nothing is written.

none_of : (o : Option Next) → is_some o ≡ false → listed o ≡ []
none_of None none = refl
none_of (Some next) none = cc

pub none_written : (o : Option Next) (lines : List ℕ) → is_some o ≡ false → lines ≡ lines ++ nexts_text (listed o)
none_written o lines none = sym (ap (λ next. lines ++ nexts_text next) (none_of o none) ∙ append-nil lines)

pub none_spelled : (o : Option Next) → is_some o ≡ false → are_spelled (listed o) ≡ true
none_spelled o none = ap are_spelled (none_of o none)

-- An item and its steps are written.
one_text : (n : Next) → nexts_text (n ∷ []) ≡ item_line n.entry ++ trace_of n.steps
one_text n = append-nil (next_text n)

pub one_written : (m : Machine) (es : List Entry) (e : Entry) (before after : List Step) (old between new : List ℕ) →
    is_some (next_by m (replay_entries m es).system e) ≡ true →
    before ≡ told (replay_entries m es).events → after ≡ told (replay_entries m (es ++ e ∷ [])).events →
    between ≡ old ++ item_line e → new ≡ between ++ trace_of (drop (length before) after) →
    new ≡ old ++ nexts_text (listed (next_by m (replay_entries m es).system e))
one_written m es e before after old between new possible is longer item steps =
    let n = one_next m es e possible in
    let next : Next = record { entry = e; steps = n.steps } in
    steps
    ∙ ap (λ told. between ++ trace_of told) (behind m es e n before after is longer)
    ∙ ap (λ lines. lines ++ trace_of n.steps) item
    ∙ append_assoc old (item_line e) (trace_of n.steps)
    ∙ ap (λ lines. old ++ lines) (sym (one_text next))
    ∙ ap (λ o. old ++ nexts_text (listed o)) (sym n.is)

one_all : (next : Next) → list_all has_line next.steps ≡ true → are_spelled (next ∷ []) ≡ true
one_all next is = rw is refl

pub one_spelled : (m : Machine) (es : List Entry) (e : Entry) (before after : List Step) →
    is_some (next_by m (replay_entries m es).system e) ≡ true →
    before ≡ told (replay_entries m es).events → after ≡ told (replay_entries m (es ++ e ∷ [])).events →
    list_all has_line (drop (length before) after) ≡ true →
    are_spelled (listed (next_by m (replay_entries m es).system e)) ≡ true
one_spelled m es e before after possible is longer spelled =
    let n = one_next m es e possible in
    ap (λ o. are_spelled (listed o)) n.is
    ∙ one_all (record { entry = e; steps = n.steps }) (ap (list_all has_line) (sym (behind m es e n before after is longer)) ∙ spelled)

-- Those among the first choices

abbrev pub firsts : Machine → System → (count : ℕ) → List Next
firsts m g count = filter_map (next_by m g) (choices m count)

single : (o : Option Next) → cons_option o [] ≡ listed o
single None = refl
single (Some next) = refl

firsts_more : (m : Machine) (g : System) (count : ℕ) → firsts m g (count + 1) ≡ firsts m g count ++ listed (next_by m g (choice m count))
firsts_more m g count =
    ap (filter_map (next_by m g)) (map-range_with_len_more (choice m) 0 count count (omega arith))
    ∙ filter_map-append (next_by m g) (choices m count) (choice m count ∷ [])
    ∙ ap (λ more. firsts m g count ++ more) (single (next_by m g (choice m count)))

pub text_more : (m : Machine) (g : System) (count : ℕ) (e : Entry) (old new : List ℕ) → e ≡ choice m count → old ≡ nexts_text (firsts m g count) →
    new ≡ old ++ nexts_text (listed (next_by m g e)) → new ≡ nexts_text (firsts m g (count + 1))
text_more m g count e old new same before more =
    more
    ∙ ap (λ lines. lines ++ nexts_text (listed (next_by m g e))) before
    ∙ ap (λ x. nexts_text (firsts m g count) ++ nexts_text (listed (next_by m g x))) same
    ∙ sym (flat_map-append next_text (firsts m g count) (listed (next_by m g (choice m count))))
    ∙ ap nexts_text (sym (firsts_more m g count))

both : (one other : Bool) → one ≡ true → other ≡ true → (one && other) ≡ true
both one other is are = rw (is, are) refl

pub spelled_more : (m : Machine) (g : System) (count : ℕ) (e : Entry) → e ≡ choice m count → are_spelled (firsts m g count) ≡ true →
    are_spelled (listed (next_by m g e)) ≡ true → are_spelled (firsts m g (count + 1)) ≡ true
spelled_more m g count e same before more =
    let here = ap (λ x. are_spelled (listed (next_by m g x))) (sym same) ∙ more in
    ap are_spelled (firsts_more m g count)
    ∙ list_all-append (λ (next : Next). list_all has_line next.steps) (firsts m g count) (listed (next_by m g (choice m count)))
    ∙ both _ _ before here

-- A longer list is within its limit, where the shorter one has room for an entry more.
pub room : (m : Machine) (es : List Entry) (e : Entry) → length es < most_events → first_stranger m 1 es ≡ None → is_entry m e ≡ true →
    entries_fault m (es ++ e ∷ []) ≡ None
room m es e few lawful own =
    let longer = length-append es (e ∷ []) in
    no_fault m (es ++ e ∷ []) (omega (arith, longer, few)) (lawful_more m 1 es e lawful own)

-- What is told, and what goes on
pub as_goes_on : (m : Machine) (g : System) (e : Entry) → is_some (next_by m g e) ≡ is_some (after_entry m g e)
as_goes_on m g e = by (entry_event m g e)
  where
    here : (o : Option Happened) → is_some (option_map (next_of e) o) ≡ is_some (option_map (λ (h : Happened). h.system) o)
    here None = refl
    here (Some h) = refl

    by : (o : Option Action) → is_some (option_map (next_of e) (o >>= happens m g)) ≡ is_some (o >>= λ a. option_map (λ (h : Happened). h.system) (happens m g a))
    by None = refl
    by (Some a) = here (happens m g a)

-- Where the list is lawful and has room for an entry more, there is something to tell.
none_mapped : {A B : Type 0} (f : A → B) (o : Option A) → option_map f o ≡ None → o ≡ None
none_mapped f None none = refl
none_mapped f (Some x) none = cc

pub no_stranger : (m : Machine) (es : List Entry) → length es < most_events → entries_fault m es ≡ None →
    first_stranger m 1 es ≡ None
no_stranger m es few lawful =
    none_mapped Schedule (first_stranger m 1 es)
    (sym (ap (λ b. cond b (Some Turns) (option_map Schedule (first_stranger m 1 es)))
    (le-ltb most_events (length es) (omega (arith, few)))) ∙ lawful)

pub none_faulty : (m : Machine) (es : List Entry) → length es < most_events → entries_fault m es ≡ None →
    nexts_fault m es ≡ None
none_faulty m es few lawful =
    ap (λ b. cond b (Some Turns) (option_map Schedule (first_stranger m 1 es)))
    (le-ltb (most_events - 1) (length es) (omega (arith, few))
    ∙ sym (le-ltb most_events (length es) (omega (arith, few))))
    ∙ lawful
