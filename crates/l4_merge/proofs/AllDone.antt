-- The transitions of all processors, in the order of their events, are done one after another.
use Rattle.std.proofs.Common.{◌≡◌, ℕ, ◌<◌, ◌≤◌, true, cond, Some, List, [], ◌∷◌, ◌++◌, map, length, get_or, refl, ap, sym, ◌∙◌, subst, append_assoc, arith}
use Rattle.std.specs.Prelude.{slice_get, ◌==◌, filter}
use Rattle.std.specs.List.{AllByRecursion, list_all}
use Rattle.std.proofs.lemmas.Bool.{eq-eqb, and_from}
use Rattle.std.proofs.lemmas.List.{append-nil, same_lists}
use Rattle.std.proofs.lemmas.Option.{slice_get-get_or, get_or_from_slice_get}
use Rattle.l4_model.specs.Machine.{Machine}
use Rattle.l4_core_model.specs.Letters.{Letter}
use Rattle.l4_core_model.specs.Local.{Local, opening_local}
use Rattle.l4_core_model.specs.Runs.{System, letters, Action, Run, then_event, core_run}
use Rattle.l4_core_model.proofs.Lists.{all-map, all-map_with, all-filter}
use Rattle.l4_merge.specs.Transitions.{LocalEvent, Handled, Turned, Ticked, is_turn, action_of, letter_of, Transition, told_by, happened_by, posted_by, handled_by, letters_with, Lead}
use Rattle.l4_merge.specs.LocalTraces.{Begins}
use Rattle.l4_merge.specs.Rounds.{is_no_tick}
use Rattle.l4_merge.proofs.Lists.{all-of_map, all-flat_map}
use Rattle.l4_merge.proofs.Transitions.{stamp_of, HasStamps}
use Rattle.l4_merge.proofs.Own.{own, own_first, handled_own}
use Rattle.l4_merge.proofs.Arranged.{AreArranged, rising}
use Rattle.l4_merge.proofs.OneDeed.{IsGiven, done_by, happens_so}
use Rattle.l4_merge.proofs.Ahead.{AreAhead, ahead_next}

-- The letters that are still to be posted have at least the first transition's stamp. The letter that it handles has a lower one: it is under way

late_letters : (n : ℕ) (ds : List Transition) → AllByRecursion (λ d. n ≤ stamp_of d) ds → AllByRecursion HasStamps ds →
    AllByRecursion (λ p. n ≤ p.1.stamp) (posted_by ds)
late_letters n ds late stamps =
    all-flat_map (λ (p : ℕ × Letter). n ≤ p.1.stamp) (λ (d : Transition). d.work.letters) ds
    (all-map_with (λ (d : Transition). n ≤ stamp_of d) HasStamps (λ (d : Transition). AllByRecursion (λ p. n ≤ p.1.stamp) d.work.letters)
    (λ d le s. all-map (λ (p : ℕ × Letter). p.1.stamp ≡ stamp_of d) (λ (p : ℕ × Letter). n ≤ p.1.stamp) (λ p e. omega arith) d.work.letters s.letters)
    ds late stamps)

late_of_pair : (n from to : ℕ) (ds : List Transition) → AllByRecursion (λ d. n ≤ stamp_of d) ds → AllByRecursion HasStamps ds →
    AllByRecursion (λ l. n ≤ l.stamp) (letters_with to (posted_by (own from ds)))
late_of_pair n from to ds late stamps =
    let own_late = all-filter (λ (d : Transition). n ≤ stamp_of d) (λ d. d.cpu == from) ds late in
    let own_stamps = all-filter HasStamps (λ d. d.cpu == from) ds stamps in
    all-of_map (λ (l : Letter). n ≤ l.stamp) (λ (p : ℕ × Letter). p.1) (filter (λ p. p.0 == to) (posted_by (own from ds)))
    (all-filter (λ (p : ℕ × Letter). n ≤ p.1.stamp) (λ p. p.0 == to) (posted_by (own from ds)) (late_letters n (own from ds) own_late own_stamps))

first_under_way : (n : ℕ) (under_way more : List Letter) (letter : Letter) (rest : List Letter) → under_way ++ more ≡ letter ∷ rest →
    AllByRecursion (λ l. n ≤ l.stamp) more → letter.stamp < n → Begins (letter ∷ []) under_way
first_under_way n [] [] letter rest is late lt = cc
first_under_way n [] (x ∷ xs) letter rest is late lt =
    let same : x ≡ letter = cc in
    let le : n ≤ letter.stamp = subst (λ (l : Letter). n ≤ l.stamp) same late.0 in
    absurd (omega arith)
first_under_way n (u ∷ us) more letter rest is late lt = let same : u ≡ letter = cc in record { rest = us; is = ap (λ l. l ∷ us) same }

-- The first of all transitions in order is given the letter that it handles.
is_given : (m : Machine) (g : System) (d : Transition) (ds : List Transition) (ends : List Local) (left : (from to : ℕ) → List Letter) →
    AreAhead m g (d ∷ ds) ends left → AreArranged (d ∷ ds) → IsGiven d.cpu d.event g
is_given m g d ds ends left ahead order = by d.event ahead.stamps.0.above_letter all
  where
    n : ℕ
    n = stamp_of d

    more : (from : ℕ) → List Letter
    more from = letters_with d.cpu (posted_by (own from (d ∷ ds)))

    rest : (from : ℕ) → List Letter
    rest from = letters_with from (handled_by (own d.cpu ds))

    late : (from : ℕ) → AllByRecursion (λ l. n ≤ l.stamp) (more from)
    late from = late_of_pair n from d.cpu (d ∷ ds) (omega arith, rising d ds order.0) ahead.stamps

    all : (from : ℕ) → letters g.mail from d.cpu ++ more from ≡ (letters_with from (letter_of d.event) ++ rest from) ++ left from d.cpu
    all from =
        ahead.mail from d.cpu ∙ ap (λ ls. ls ++ left from d.cpu) (handled_own from d.cpu d ds
        ∙ ap (λ b. cond b (letters_with from (letter_of d.event)) [] ++ rest from) (eq-eqb d.cpu d.cpu refl))

    by : (event : LocalEvent) → AllByRecursion (λ p. p.1.stamp < n) (letter_of event) →
        ((from : ℕ) → letters g.mail from d.cpu ++ more from ≡ (letters_with from (letter_of event) ++ rest from) ++ left from d.cpu) → IsGiven d.cpu event g
    by (Handled q letter) above all =
        let first : map (λ (p : ℕ × Letter). p.1) (cond (q == q) ((q, letter) ∷ []) []) ≡ letter ∷ [] =
        ap (λ b. map (λ (p : ℕ × Letter). p.1) (cond b ((q, letter) ∷ []) [])) (eq-eqb q q refl) in
        first_under_way n (letters g.mail q d.cpu) (more q) letter (rest q ++ left q d.cpu)
        (all q ∙ ap (λ ls. (ls ++ rest q) ++ left q d.cpu) first) (late q) above.0
    by Turned above all = tt
    by (Ticked clock) above all = tt

-- One after another

-- A run goes on by these transitions to where each processor ends, and some letters are left under way.
pub record AreDone (m : Machine) (before : Run) (ds : List Transition) (ends : List Local) (left : (from to : ℕ) → List Letter) : Type 0 where
  pub actions : List Action
  pub run : Run
  pub is : core_run m before actions ≡ Some run
  pub by : actions ≡ map happened_by ds
  pub events : run.events ≡ before.events ++ map told_by ds
  pub locals : run.system.locals ≡ ends
  pub mail : (from to : ℕ) → letters run.system.mail from to ≡ left from to
  pub turns : AllByRecursion (λ d. is_turn d.event ≡ true) ds → list_all is_no_tick actions ≡ true

no_tick : (cpu : ℕ) (event : LocalEvent) → is_turn event ≡ true → is_no_tick (action_of cpu event) ≡ true
no_tick cpu (Handled from letter) h = refl
no_tick cpu Turned h = refl
no_tick cpu (Ticked clock) h = cc

pub all_done : (m : Machine) (ds : List Transition) (r : Run) (ends : List Local) (left : (from to : ℕ) → List Letter) →
    AreAhead m r.system ds ends left → AreArranged ds → AreDone m r ds ends left
all_done m [] r ends left ahead order = record {
  actions = [];
  run = r;
  is = refl;
  by = refl;
  events = sym (append-nil r.events);
  locals = same_lists r.system.locals ends ahead.size (λ cpu l lt.
      let now : Local = get_or r.system.locals cpu l in
      let o = ahead.lead cpu now (slice_get-get_or r.system.locals cpu l lt) in
      sym (get_or_from_slice_get ends cpu now l (o.at ∙ ap Some (sym o.lead))));
  mail = λ from to. sym (append-nil (letters r.system.mail from to)) ∙ ahead.mail from to;
  turns = λ a. refl;
}
all_done m (d ∷ ds) r ends left ahead order =
    let g = r.system in
    let size = ahead.size in
    let within : d.cpu < length ends = ahead.within.0 in
    let l : Local = get_or g.locals d.cpu (opening_local m 0) in
    let at : slice_get g.locals d.cpu ≡ Some l = slice_get-get_or g.locals d.cpu (opening_local m 0) (omega arith) in
    let o = ahead.lead d.cpu l at in
    let lead : Lead m d.cpu l (d ∷ own d.cpu ds) o.end = subst (λ ds. Lead m d.cpu l ds o.end) (own_first d.cpu d ds refl) o.lead in
    let first = is_given m g d ds ends left ahead order in
    let rest = all_done m ds (then_event r (done_by d g)) ends left (ahead_next m g d ds ends left l at first ahead) order.1 in
    record {
      actions = action_of d.cpu d.event ∷ rest.actions;
      run = rest.run;
      is = rw (happens_so m g d l at lead.0 first) rest.is;
      by = ap (λ hs. action_of d.cpu d.event ∷ hs) rest.by;
      events = rest.events ∙ append_assoc r.events (told_by d ∷ []) (map told_by ds);
      locals = rest.locals;
      mail = rest.mail;
      turns = λ a.
          and_from (is_no_tick (action_of d.cpu d.event)) (list_all is_no_tick rest.actions) (no_tick d.cpu d.event a.0) (rest.turns a.1);
    }
