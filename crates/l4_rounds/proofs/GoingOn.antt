-- Entries that go on, one by one.
use Rattle.std.proofs.Common.{◌≡◌, ℕ, zero, suc, ◌+◌, ◌<◌, ◌≤◌, List, [], ◌∷◌, ◌++◌, length, take, refl, ap, sym, ◌∙◌, arith, length-append}
use Rattle.std.proofs.lemmas.List.{length-take}
use Rattle.std.proofs.Math.Seq.{take-length, take-append_seam}
use Rattle.l4_model.specs.Machine.{Machine}
use Rattle.l4_core_model.specs.Runs.{Run, opening_run}
use Rattle.l4_core_model.specs.Schedules.{turns_of, Entry, replay_entries}
use Rattle.l4_replay.specs.Entries.{after_entry}
use Rattle.l4_rounds.specs.ThenRest.{GoOn}
use Rattle.l4_rounds.proofs.Rounds.{one_more, replays_few, replays_more, unchanged}

-- No more events than entries
pub events_few : (m : Machine) (es : List Entry) → turns_of (replay_entries m es) ≤ length es
events_few m es = let few = replays_few m (opening_run m) es in omega (arith, few)

module _ (m : Machine) (es : List Entry) where
  -- Nothing goes on.
  pub stay : (next : Machine → Run → Run) →
      next m (replay_entries m es) ≡ replay_entries m es → GoOn next m es es
  stay next same = record { begins = take-length es; replayed = sym same; count = refl }

  -- An entry has no event.
  pub stay_at : (e : Entry) →
      turns_of (after_entry e m (replay_entries m es)) ≤ turns_of (replay_entries m es) →
      GoOn (after_entry e) m es es
  stay_at e few = stay (after_entry e) (unchanged m (replay_entries m es) e few)

  -- An entry has an event.
  pub one_on : (e : Entry) →
      turns_of (replay_entries m es) < turns_of (after_entry e m (replay_entries m es)) →
      GoOn (after_entry e) m es (es ++ e ∷ [])
  one_on e more =
      let same = replays_more m (opening_run m) es e in
      let longer = length-append es (e ∷ []) in
      let most = one_more m (replay_entries m es) e in
      let count = ap turns_of same in
      record {
        begins = take-append_seam es (e ∷ []);
        replayed = same;
        count = omega (arith, more, longer, most, count);
      }

-- One after the other

take_again : (n k : ℕ) (es : List Entry) → n ≤ k → take n (take k es) ≡ take n es
take_again zero k es few = refl
take_again (suc n) zero es few = absurd (omega (arith, few))
take_again (suc n) (suc k) [] few = refl
take_again (suc n) (suc k) (e ∷ es) few =
    ap (λ fs. e ∷ fs) (take_again n k es (omega (arith, few)))

no_shorter : (es fs : List Entry) → take (length es) fs ≡ es → length es ≤ length fs
no_shorter es fs begins =
    let size = sym (length-take (length es) fs) ∙ ap length begins in omega (arith, size)

pub then_on : (m : Machine) (f g h : Machine → Run → Run) (es fs gs : List Entry) →
    GoOn f m es fs → GoOn g m fs gs →
    g m (f m (replay_entries m es)) ≡ h m (replay_entries m es) → GoOn h m es gs
then_on m f g h es fs gs a b same = record {
  begins =
      sym (take_again (length es) (length fs) gs (no_shorter es fs a.begins))
      ∙ ap (take (length es)) b.begins ∙ a.begins;
  replayed = b.replayed ∙ ap (g m) a.replayed ∙ same;
  count = let p = a.count in let q = b.count in omega (arith, p, q);
}

pub on_as : (m : Machine) (f h : Machine → Run → Run) (es fs : List Entry) → GoOn f m es fs →
    f m (replay_entries m es) ≡ h m (replay_entries m es) → GoOn h m es fs
on_as m f h es fs a same = record {
  begins = a.begins;
  replayed = a.replayed ∙ same;
  count = a.count;
}

pub few_on : (m : Machine) (f : Machine → Run → Run) (es fs : List Entry) (more : ℕ) →
    GoOn f m es fs → turns_of (f m (replay_entries m es)) ≤ turns_of (replay_entries m es) + more →
    length fs ≤ length es + more
few_on m f es fs more a few =
    let count = a.count in
    let same = ap turns_of a.replayed in
    omega (arith, count, same, few)
