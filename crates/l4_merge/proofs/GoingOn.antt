-- Where all processors have gone on by themselves, a run goes on by their events in order of stamp.
use Rattle.std.proofs.Common.{◌≡◌, ℕ, ◌+◌, ◌<◌, true, List, [], ◌++◌, Option, Some, None, map, length, get_or, refl, ap, sym, ◌∙◌, subst, append_assoc, arith}
use Rattle.std.specs.Prelude.{slice_get}
use Rattle.std.specs.Option.{option_map}
use Rattle.std.proofs.lemmas.Option.{slice_get-map, slice_get-get_or, slice_get_within, slice_get_past}
use Rattle.std.proofs.lemmas.List.{length-map, append_cancel_left}
use Rattle.l4_model.specs.Machine.{Machine}
use Rattle.l4_model.proofs.Chains.{some_is, get-map}
use Rattle.l4_core_model.specs.Letters.{Letter}
use Rattle.l4_core_model.specs.Local.{Local}
use Rattle.l4_core_model.specs.Runs.{letters, Run, merged}
use Rattle.l4_core_model.proofs.Lists.{all-map}
use Rattle.l4_merge.specs.Transitions.{Transition, is_turn, happened_by, posted_by, handled_by, letters_with, Lead}
use Rattle.l4_merge.specs.LocalTraces.{LocalTrace, posted_in, handled_in, letters_posted, letters_handled, HaveWorked, HaveTurned}
use Rattle.l4_merge.specs.Merges.{EndsAt, IsMergedRun, HasMergedRun, HasTurnedRun}
use Rattle.l4_merge.proofs.Lists.{slice_get_none}
use Rattle.l4_merge.proofs.Own.{own, own_none}
use Rattle.l4_merge.proofs.Arranged.{arranged, told-arranged, all-arranged}
use Rattle.l4_merge.proofs.Ahead.{LeadsOn, AreAhead}
use Rattle.l4_merge.proofs.Gathered.{AreGathered, Gathered, gather, turns_gathered}
use Rattle.l4_merge.proofs.AllDone.{AreDone}
use Rattle.l4_merge.proofs.AnyOrder.{merged_run}

-- A processor has both an earlier and a later past, or neither

present : (olds news : List LocalTrace) → length news ≡ length olds → (cpu : ℕ) (old : LocalTrace) → slice_get olds cpu ≡ Some old →
    (new : LocalTrace) × (slice_get news cpu ≡ Some new)
present olds news size cpu old at =
    let within = slice_get_within olds cpu old at in
    (get_or news cpu old, slice_get-get_or news cpu old (omega arith))

absent : (olds news : List LocalTrace) → length news ≡ length olds → (cpu : ℕ) → slice_get olds cpu ≡ None → slice_get news cpu ≡ None
absent olds news size cpu at =
    let past = slice_get_none olds cpu at in
    slice_get_past news cpu (omega arith)

-- A number that is no processor's has no transitions.
none_own : (m : Machine) (olds news : List LocalTrace) (ds : List Transition) (cpu : ℕ) → AreGathered m 0 olds news ds → slice_get news cpu ≡ None → own cpu ds ≡ []
none_own m olds news ds cpu all at =
    let past = slice_get_none news cpu at in
    own_none cpu ds (all-map (λ (d : Transition). d.cpu < 0 + length news) (λ (d : Transition). d.cpu ≡ cpu → ⊥) (λ d lt e. omega arith) ds all.below)

-- The letters of a pair: to those of the earlier pasts come those of the transitions

posted_now : (m : Machine) (olds news : List LocalTrace) (ds : List Transition) → length news ≡ length olds → AreGathered m 0 olds news ds → (from to : ℕ) →
    letters_posted news from to ≡ letters_posted olds from to ++ letters_with to (posted_by (own from ds))
posted_now m olds news ds size all from to = by (slice_get olds from) refl
  where
    by : (o : Option LocalTrace) → slice_get olds from ≡ o → letters_posted news from to ≡ posted_in to o ++ letters_with to (posted_by (own from ds))
    by None at =
        let now = absent olds news size from at in
        ap (posted_in to) now ∙ ap (λ ds. letters_with to (posted_by ds)) (sym (none_own m olds news ds from all now))
    by (Some old) at =
        let now = present olds news size from old at in
        ap (posted_in to) now.1 ∙ (all.each from from old now.0 (omega arith) at now.1).posted to

handled_now : (m : Machine) (olds news : List LocalTrace) (ds : List Transition) → length news ≡ length olds → AreGathered m 0 olds news ds → (from to : ℕ) →
    letters_handled news from to ≡ letters_handled olds from to ++ letters_with from (handled_by (own to ds))
handled_now m olds news ds size all from to = by (slice_get olds to) refl
  where
    by : (o : Option LocalTrace) → slice_get olds to ≡ o → letters_handled news from to ≡ handled_in from o ++ letters_with from (handled_by (own to ds))
    by None at =
        let now = absent olds news size to at in
        ap (handled_in from) now ∙ ap (λ ds. letters_with from (handled_by ds)) (sym (none_own m olds news ds to all now))
    by (Some old) at =
        let now = present olds news size to old at in
        ap (handled_in from) now.1 ∙ (all.each to to old now.0 (omega arith) at now.1).handled from

-- What was under way and what is posted is what is handled and the rest.
mail_ahead : (posted handled under_way more next rest : List Letter) → posted ≡ handled ++ under_way → posted ++ more ≡ (handled ++ next) ++ rest →
    under_way ++ more ≡ next ++ rest
mail_ahead posted handled under_way more next rest first then =
    append_cancel_left handled (under_way ++ more) (next ++ rest)
    (sym (append_assoc handled under_way more) ∙ ap (λ ls. ls ++ more) (sym first) ∙ then ∙ append_assoc handled next rest)

-- Each processor's transitions lead from where the run has ended to its later local state.
lead_ahead : (m : Machine) (before : Run) (olds news : List LocalTrace) (ds : List Transition) → EndsAt before olds → length news ≡ length olds →
    AreGathered m 0 olds news ds → (cpu : ℕ) (l : Local) → slice_get before.system.locals cpu ≡ Some l →
    LeadsOn m cpu l (own cpu ds) (map (λ past. past.local) news)
lead_ahead m before olds news ds ends size all cpu l at = by (slice_get olds cpu) refl
  where
    were : slice_get before.system.locals cpu ≡ option_map (λ (past : LocalTrace). past.local) (slice_get olds cpu)
    were = ap (λ ls. slice_get ls cpu) ends.locals ∙ slice_get-map (λ (past : LocalTrace). past.local) olds cpu

    by : (o : Option LocalTrace) → slice_get olds cpu ≡ o → LeadsOn m cpu l (own cpu ds) (map (λ past. past.local) news)
    by None was = let none = sym at ∙ were ∙ ap (option_map (λ (past : LocalTrace). past.local)) was in absurd cc
    by (Some old) was =
        let now = present olds news size cpu old was in
        let same = some_is old.local l (sym (ap (option_map (λ (past : LocalTrace). past.local)) was) ∙ sym were ∙ at) in
        record {
          end = now.0.local;
          at = get-map (λ (past : LocalTrace). past.local) news cpu now.0 now.1;
          lead = subst (λ l. Lead m cpu l (own cpu ds) now.0.local) same (all.each cpu cpu old now.0 (omega arith) was now.1).lead;
        }

-- What all processors did is still to be done where the run has ended before it.
pub pasts_ahead : (m : Machine) (before : Run) (olds news : List LocalTrace) → EndsAt before olds → (w : HaveWorked m olds news) → (all : Gathered m 0 olds news) →
    AreAhead m before.system all.transitions (map (λ past. past.local) news) (λ from to. (w.in_order from to).rest)
pasts_ahead m before olds news ends w all =
    let g = before.system in
    let ds = all.transitions in
    let are = all.are in
    let size = w.for_each in
    let many : length (map (λ (past : LocalTrace). past.local) news) ≡ length news = length-map news (λ (past : LocalTrace). past.local) in
    let were : length g.locals ≡ length olds = ap length ends.locals ∙ length-map olds (λ (past : LocalTrace). past.local) in
    record {
      size = omega arith;
      lead = lead_ahead m before olds news ds ends size are;
      mail = λ from to.
          mail_ahead (letters_posted olds from to) (letters_handled olds from to) (letters g.mail from to) (letters_with to (posted_by (own from ds)))
          (letters_with from (handled_by (own to ds))) (w.in_order from to).rest (ends.mail from to)
          (sym (posted_now m olds news ds size are from to) ∙ (w.in_order from to).is
          ∙ ap (λ ls. ls ++ (w.in_order from to).rest) (handled_now m olds news ds size are from to));
      within = all-map (λ (d : Transition). d.cpu < 0 + length news) (λ (d : Transition). d.cpu < length (map (λ (past : LocalTrace). past.local) news))
          (λ d lt. omega arith) ds are.below;
      stamps = are.stamps;
    }

pub gathered : (m : Machine) (olds news : List LocalTrace) → HaveWorked m olds news → Gathered m 0 olds news
gathered m olds news w =
    gather m 0 olds news w.for_each (λ i cpu old new e was now.
    w.each cpu old new (subst (λ i. slice_get olds i ≡ Some old) (omega arith) was) (subst (λ i. slice_get news i ≡ Some new) (omega arith) now))

-- So the run goes on by them, in the order of their events.
done : (m : Machine) (before : Run) (olds news : List LocalTrace) → EndsAt before olds → (w : HaveWorked m olds news) → (all : Gathered m 0 olds news) →
    AreDone m before (arranged all.transitions) (map (λ past. past.local) news) (λ from to. (w.in_order from to).rest)
done m before olds news ends w all =
    merged_run m before all.transitions (map (λ past. past.local) news) (λ from to. (w.in_order from to).rest) (pasts_ahead m before olds news ends w all)

is_merged : (m : Machine) (before : Run) (olds news : List LocalTrace) (ends : EndsAt before olds) (w : HaveWorked m olds news) (all : Gathered m 0 olds news) →
    IsMergedRun m before olds news (done m before olds news ends w all).run
is_merged m before olds news ends w all =
    let d = done m before olds news ends w all in
    record {
      actions = d.actions;
      is = d.is;
      ends = record {
        locals = d.locals;
        mail = λ from to. (w.in_order from to).is ∙ ap (λ ls. letters_handled news from to ++ ls) (sym (d.mail from to));
      };
      events = d.events ∙ ap (λ es. before.events ++ es) (told-arranged all.transitions ∙ ap merged all.are.told);
    }

pub merge : (m : Machine) (before : Run) (olds news : List LocalTrace) → EndsAt before olds → HaveWorked m olds news → HasMergedRun m before olds news
merge m before olds news ends w =
    let all = gathered m olds news w in
    ((done m before olds news ends w all).run, is_merged m before olds news ends w all)

-- What happens is what happened by the transitions, in that order.
pub merge_happens : (m : Machine) (before : Run) (olds news : List LocalTrace) (ends : EndsAt before olds) (w : HaveWorked m olds news) →
    (merge m before olds news ends w).1.actions ≡ map happened_by (arranged (gathered m olds news w).transitions)
unfolding merge is_merged done
merge_happens m before olds news ends w = (done m before olds news ends w (gathered m olds news w)).by

-- Where they went on by turns alone, so does the run.

have_worked : (m : Machine) (olds news : List LocalTrace) → HaveTurned m olds news → HaveWorked m olds news
have_worked m olds news t = record { for_each = t.for_each; each = λ cpu old new was now. (t.each cpu old new was now).worked; in_order = t.in_order }

pub merge_turns : (m : Machine) (before : Run) (olds news : List LocalTrace) → EndsAt before olds → HaveTurned m olds news → HasTurnedRun m before olds news
unfolding gathered have_worked is_merged done
merge_turns m before olds news ends t =
    let w = have_worked m olds news t in
    let all = gathered m olds news w in
    let d = done m before olds news ends w all in
    let turns = all-arranged (λ (transition : Transition). is_turn transition.event ≡ true) all.transitions (turns_gathered m 0 olds news w.for_each _ (λ i cpu old new e was now.
    (t.each cpu old new (subst (λ i. slice_get olds i ≡ Some old) (omega arith) was) (subst (λ i. slice_get news i ≡ Some new) (omega arith) now)).turns)) in
    (d.run, record { merged = is_merged m before olds news ends w all; turns = d.turns turns })
