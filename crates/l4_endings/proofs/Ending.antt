-- The entries of the states that are ends.
use Rattle.std.proofs.Common.{◌≡◌, ℕ, ◌+◌, ◌<◌, Bool, true, false, cond, List, [], ◌∷◌, ◌++◌, length, map, get_or, take, subst, Some, refl, ap, sym, ◌∙◌}
use Rattle.std.proofs.Common.{Global}
use Rattle.std.specs.Prelude.{filter, IsSome, Vec}
use Rattle.std.proofs.lemmas.List.Elements.{filter-append}
use Rattle.std.proofs.lemmas.List.{append-nil, map-append, take_more}
use Rattle.l4_model.specs.Machine.{Machine}
use Rattle.l4_core_model.specs.Runs.{IsMachine}
use Rattle.l4_core_model.specs.Schedules.{Entry}
use Rattle.l4_explore.specs.Search.{Seen, depth_of, seen_at, unseen, IsCut, IsExplored}
use Rattle.l4_explore.specs.Tries.{State}
use Rattle.l4_replay.specs.Entries.{entry_from}
use Rattle.l4_replay.specs.declared.entries.Entry as code
use Rattle.l4_states.specs.Choices.{choice, state_after}
use Rattle.l4_states.specs.Endings.{ends_of, entries_of}
use Rattle.l4_persistent.specs.Endings.{AreEndings}
use Rattle.l4_persistent.specs.Inner.Ends.{AreOfSet}
use Rattle.l4_persistent.proofs.Endings.{cut_off, looked_at}
use Rattle.l4_persistent.proofs.Rests.{rests_listed}
use Rattle.l4_states.proofs.Following.{state_led}
use Rattle.l4_endings.specs.Inner.Tried.{entries_from, told}
use Rattle.l4_endings.specs.Inner.Walked.{AreChoices}

-- Of one state
pub no_end : (m : Machine) (x : Seen) (es : List (List Entry)) → x.state.is_end ≡ false →
    es ≡ es ++ map (entries_of m) (ends_of (x ∷ []))
no_end m x es is =
    sym (append-nil es)
    ∙ ap (λ b. es ++ map (entries_of m) (map (λ (s : Seen). s.schedule) (cond b (x ∷ []) [])))
    (sym is)

pub one_end : (m : Machine) (x : Seen) (old new : List (Vec code.Entry Global))
    (v : Vec code.Entry Global) → x.state.is_end ≡ true → new ≡ old ++ v ∷ [] →
    entries_from v.items ≡ entries_of m x.schedule →
    told new ≡ told old ++ map (entries_of m) (ends_of (x ∷ []))
one_end m x old new v is same one =
    ap told same ∙ map-append (λ (e : Vec code.Entry Global). entries_from e.items) old (v ∷ [])
    ∙ ap (λ es. told old ++ es ∷ []) one
    ∙ ap (λ b. told old ++ map (entries_of m) (map (λ (s : Seen). s.schedule) (cond b (x ∷ []) [])))
    (sym is)

-- With one more state
ends_append : (m : Machine) (xs ys : List Seen) →
    map (entries_of m) (ends_of (xs ++ ys))
    ≡ map (entries_of m) (ends_of xs) ++ map (entries_of m) (ends_of ys)
ends_append m xs ys =
    ap (λ zs. map (entries_of m) (map (λ (s : Seen). s.schedule) zs))
    (filter-append (λ s. s.state.is_end) xs ys)
    ∙ ap (map (entries_of m)) (map-append (λ (s : Seen). s.schedule)
    (filter (λ s. s.state.is_end) xs) (filter (λ s. s.state.is_end) ys))
    ∙ map-append (entries_of m) (ends_of xs) (ends_of ys)

pub ends_on : (m : Machine) (found : List Seen) (place : ℕ) (old new : List (List Entry)) →
    place < length found → old ≡ map (entries_of m) (ends_of (take place found)) →
    new ≡ old ++ map (entries_of m) (ends_of (seen_at found place ∷ [])) →
    new ≡ map (entries_of m) (ends_of (take (place + 1) found))
ends_on m found place old new inside before same =
    same ∙ ap (λ es. es ++ map (entries_of m) (ends_of (seen_at found place ∷ []))) before
    ∙ sym (ap (λ xs. map (entries_of m) (ends_of xs)) (take_more found place unseen inside)
    ∙ ends_append m (take place found) (seen_at found place ∷ []))

-- One more entry of a schedule
pub one_entry : (m : Machine) (numbers : List ℕ) (i e : ℕ) (old new : List code.Entry)
    (entry : code.Entry) → i < length numbers → e ≡ get_or numbers i 0 →
    entry_from entry ≡ choice m e → new ≡ old ++ entry ∷ [] →
    entries_from old ≡ entries_of m (take i numbers) →
    entries_from new ≡ entries_of m (take (i + 1) numbers)
one_entry m numbers i e old new entry inside is one same before =
    ap entries_from same ∙ map-append entry_from old (entry ∷ [])
    ∙ ap (λ es. es ++ entry_from entry ∷ []) before
    ∙ ap (λ x. entries_of m (take i numbers) ++ x ∷ []) one
    ∙ sym (ap (entries_of m) (take_more numbers i 0 inside
    ∙ ap (λ k. take i numbers ++ k ∷ []) (sym is))
    ∙ map-append (choice m) (take i numbers) (e ∷ []))

-- All of what a search has found are reached by choices.
pub are_choices : (m : Machine) (s : List ℕ) (state : State) → state_after m s ≡ Some state →
    AreChoices m s
are_choices m s state is =
    let led = state_led m s state is in subst IsSome (sym led.1) refl

pub are_endings : (m : Machine) (found : List Seen) (endings : List (List Entry))
    (states asked most depth : ℕ) (is_whole : Bool) → IsMachine m →
    IsExplored (state_after m) (AreOfSet m) found depth is_whole →
    (is_whole ≡ true → depth ≡ depth_of found) →
    (is_whole ≡ false → IsCut (state_after m) (AreOfSet m) found asked most depth) →
    states ≡ length found → endings ≡ map (entries_of m) (ends_of found) →
    AreEndings m endings states asked most depth is_whole
are_endings m found endings states asked most depth is_whole machine explored deep cut count are = record {
  found = found;
  count = count;
  looked = looked_at m machine found depth is_whole explored;
  rests = rests_listed m machine found depth is_whole explored;
  deep = deep;
  cut = λ no. cut_off m machine found depth is_whole explored asked most (cut no);
  endings_are = are;
}
