-- Transitions of all processors that are still to be done: before the first of them is done, and after.
use Rattle.std.proofs.Common.{◌≡◌, ℕ, ◌<◌, Bool, true, false, cond, Some, List, ◌∷◌, ◌++◌, length, refl, ap, sym, ◌∙◌, subst, append_assoc}
use Rattle.std.specs.Prelude.{slice_get, ◌==◌}
use Rattle.std.specs.List.{AllByRecursion}
use Rattle.std.proofs.lemmas.Bool.{eqb-true, eqb-false}
use Rattle.std.proofs.lemmas.List.{append_cancel_left}
use Rattle.std.proofs.lemmas.Option.{slice_get_within}
use Rattle.l4_model.specs.Machine.{Machine}
use Rattle.l4_model.proofs.Chains.{some_is, length-changed}
use Rattle.l4_core_model.specs.Letters.{Letter}
use Rattle.l4_core_model.specs.Local.{Local}
use Rattle.l4_core_model.specs.Runs.{System, letters}
use Rattle.l4_merge.specs.Transitions.{letter_of, Transition, posted_by, handled_by, letters_with, Does, Lead}
use Rattle.l4_merge.proofs.Transitions.{HasStamps, does_stamps}
use Rattle.l4_merge.proofs.Own.{own, if_own, posted_own, handled_own}
use Rattle.l4_merge.proofs.OneDeed.{given, IsGiven, done_by, locals_then, own_local_then, other_local_then, given-mail, mail_then}

-- A processor's transitions lead from its local state to the one that it ends in.
pub record LeadsOn (m : Machine) (cpu : ℕ) (l : Local) (ds : List Transition) (ends : List Local) : Type 0 where
  pub end : Local
  pub at : slice_get ends cpu ≡ Some end
  pub lead : Lead m cpu l ds end

-- The letters of a pair that are under way or are to be posted are those that are to be handled and those that are left.
abbrev pub IsBalanced : System → List Transition → (left : (from to : ℕ) → List Letter) → (from to : ℕ) → Type 0
IsBalanced g ds left from to =
    letters g.mail from to ++ letters_with to (posted_by (own from ds)) ≡ letters_with from (handled_by (own to ds)) ++ left from to

-- These transitions are still to be done: those of each processor lead to where it ends, and what is posted and not handled is left.
pub record AreAhead (m : Machine) (g : System) (ds : List Transition) (ends : List Local) (left : (from to : ℕ) → List Letter) : Type 0 where
  pub size : length g.locals ≡ length ends
  pub lead : (cpu : ℕ) (l : Local) → slice_get g.locals cpu ≡ Some l → LeadsOn m cpu l (own cpu ds) ends
  pub mail : (from to : ℕ) → IsBalanced g ds left from to
  pub within : AllByRecursion (λ d. d.cpu < length ends) ds
  pub stamps : AllByRecursion HasStamps ds

-- The letters: what the first transition handles leaves both sides, and what it posts is under way

regrouped : (handled stays posted more rest left : List Letter) → (handled ++ stays) ++ (posted ++ more) ≡ (handled ++ rest) ++ left →
    (stays ++ posted) ++ more ≡ rest ++ left
regrouped handled stays posted more rest left h =
    append_assoc stays posted more
    ∙ append_cancel_left handled (stays ++ (posted ++ more)) (rest ++ left)
    (sym (append_assoc handled stays (posted ++ more)) ∙ h ∙ append_assoc handled rest left)

regrouped_before : (handled stays posted more rest left : List Letter) → (stays ++ posted) ++ more ≡ rest ++ left →
    (handled ++ stays) ++ (posted ++ more) ≡ (handled ++ rest) ++ left
regrouped_before handled stays posted more rest left h =
    append_assoc handled stays (posted ++ more)
    ∙ ap (λ ls. handled ++ ls) (sym (append_assoc stays posted more) ∙ h)
    ∙ sym (append_assoc handled rest left)

-- Both sides of the balance, with the letters of the first transition apart.
record AreApart (g : System) (d : Transition) (ds : List Transition) (from to : ℕ) : Type 0 where
  posted : letters g.mail from to ++ letters_with to (posted_by (own from (d ∷ ds))) ≡
      (if_own to d (letters_with from (letter_of d.event)) ++ letters (given d.cpu d.event g).mail from to)
      ++ (if_own from d (letters_with to d.work.letters) ++ letters_with to (posted_by (own from ds)))
  handled : letters_with from (handled_by (own to (d ∷ ds))) ≡
      if_own to d (letters_with from (letter_of d.event)) ++ letters_with from (handled_by (own to ds))

are_apart : (g : System) (d : Transition) (ds : List Transition) → IsGiven d.cpu d.event g → (from to : ℕ) → AreApart g d ds from to
are_apart g d ds first from to = record {
  posted = ap (λ ls. ls ++ letters_with to (posted_by (own from (d ∷ ds)))) (given-mail d.cpu d.event g first from to)
      ∙ ap (λ ls. (if_own to d (letters_with from (letter_of d.event)) ++ letters (given d.cpu d.event g).mail from to) ++ ls) (posted_own from to d ds);
  handled = handled_own from to d ds;
}

balance_next : (g : System) (d : Transition) (ds : List Transition) (left : (from to : ℕ) → List Letter) → IsGiven d.cpu d.event g → (from to : ℕ) →
    IsBalanced g (d ∷ ds) left from to → IsBalanced (done_by d g).system ds left from to
balance_next g d ds left first from to is =
    let apart = are_apart g d ds first from to in
    ap (λ ls. ls ++ letters_with to (posted_by (own from ds))) (mail_then d g from to)
    ∙ regrouped (if_own to d (letters_with from (letter_of d.event))) (letters (given d.cpu d.event g).mail from to)
    (if_own from d (letters_with to d.work.letters)) (letters_with to (posted_by (own from ds))) (letters_with from (handled_by (own to ds))) (left from to)
    (sym apart.posted ∙ is ∙ ap (λ ls. ls ++ left from to) apart.handled)

balance_before : (g : System) (d : Transition) (ds : List Transition) (left : (from to : ℕ) → List Letter) → IsGiven d.cpu d.event g → (from to : ℕ) →
    IsBalanced (done_by d g).system ds left from to → IsBalanced g (d ∷ ds) left from to
balance_before g d ds left first from to is =
    let apart = are_apart g d ds first from to in
    apart.posted
    ∙ regrouped_before (if_own to d (letters_with from (letter_of d.event))) (letters (given d.cpu d.event g).mail from to)
    (if_own from d (letters_with to d.work.letters)) (letters_with to (posted_by (own from ds))) (letters_with from (handled_by (own to ds))) (left from to)
    (ap (λ ls. ls ++ letters_with to (posted_by (own from ds))) (sym (mail_then d g from to)) ∙ is)
    ∙ ap (λ ls. ls ++ left from to) (sym apart.handled)

-- The local states: the first transition's processor goes on, the others stay

lead_next : (m : Machine) (g : System) (d : Transition) (ds : List Transition) (ends : List Local) (l : Local) → slice_get g.locals d.cpu ≡ Some l →
    ((cpu : ℕ) (l : Local) → slice_get g.locals cpu ≡ Some l → LeadsOn m cpu l (own cpu (d ∷ ds)) ends) →
    (cpu : ℕ) (now : Local) → slice_get (done_by d g).system.locals cpu ≡ Some now → LeadsOn m cpu now (own cpu ds) ends
lead_next m g d ds ends l at lead cpu now is = by (d.cpu == cpu) refl (lead cpu)
  where
    by : (b : Bool) → (d.cpu == cpu) ≡ b → ((l : Local) → slice_get g.locals cpu ≡ Some l → LeadsOn m cpu l (cond b (d ∷ own cpu ds) (own cpu ds)) ends) →
        LeadsOn m cpu now (own cpu ds) ends
    by true h lead =
        let same = eqb-true d.cpu cpu h in
        let o = lead l (subst (λ p. slice_get g.locals p ≡ Some l) same at) in
        let now_is = some_is d.work.local now (sym (own_local_then d g cpu l at same) ∙ is) in
        record { end = o.end; at = o.at; lead = subst (λ l. Lead m cpu l (own cpu ds) o.end) now_is o.lead.1 }
    by false h lead = lead now (sym (other_local_then d g cpu (eqb-false d.cpu cpu h)) ∙ is)

lead_before : (m : Machine) (g : System) (d : Transition) (ds : List Transition) (ends : List Local) (l : Local) → slice_get g.locals d.cpu ≡ Some l → Does m d.cpu l d →
    ((cpu : ℕ) (now : Local) → slice_get (done_by d g).system.locals cpu ≡ Some now → LeadsOn m cpu now (own cpu ds) ends) →
    (cpu : ℕ) (was : Local) → slice_get g.locals cpu ≡ Some was → LeadsOn m cpu was (own cpu (d ∷ ds)) ends
lead_before m g d ds ends l at does lead cpu was is = by (d.cpu == cpu) refl
  where
    by : (b : Bool) → (d.cpu == cpu) ≡ b → LeadsOn m cpu was (cond b (d ∷ own cpu ds) (own cpu ds)) ends
    by true h =
        let same = eqb-true d.cpu cpu h in
        let was_is : l ≡ was = some_is l was (sym at ∙ ap (slice_get g.locals) same ∙ is) in
        let o = lead cpu d.work.local (own_local_then d g cpu l at same) in
        let here : Does m cpu was d = subst (λ l. Does m cpu l d) was_is (subst (λ cpu. Does m cpu l d) same does) in
        record { end = o.end; at = o.at; lead = (here, o.lead) }
    by false h = lead cpu was (other_local_then d g cpu (eqb-false d.cpu cpu h) ∙ is)

-- Where transitions are still to be done and the first is done, the others are.
pub ahead_next : (m : Machine) (g : System) (d : Transition) (ds : List Transition) (ends : List Local) (left : (from to : ℕ) → List Letter) (l : Local) →
    slice_get g.locals d.cpu ≡ Some l → IsGiven d.cpu d.event g → AreAhead m g (d ∷ ds) ends left → AreAhead m (done_by d g).system ds ends left
ahead_next m g d ds ends left l at first ahead = record {
  size = ap length (locals_then d g) ∙ length-changed (λ l. d.work.local) g.locals d.cpu ∙ ahead.size;
  lead = lead_next m g d ds ends l at ahead.lead;
  mail = λ from to. balance_next g d ds left first from to (ahead.mail from to);
  within = ahead.within.1;
  stamps = ahead.stamps.1;
}

-- Where a transition is done and others are still to be done, all of them were before.
pub ahead_before : (m : Machine) (g : System) (d : Transition) (ds : List Transition) (ends : List Local) (left : (from to : ℕ) → List Letter) (l : Local) →
    slice_get g.locals d.cpu ≡ Some l → Does m d.cpu l d → IsGiven d.cpu d.event g → AreAhead m (done_by d g).system ds ends left →
    AreAhead m g (d ∷ ds) ends left
ahead_before m g d ds ends left l at does first ahead =
    let size : length g.locals ≡ length ends =
    sym (ap length (locals_then d g) ∙ length-changed (λ l. d.work.local) g.locals d.cpu) ∙ ahead.size in
    record {
      size = size;
      lead = lead_before m g d ds ends l at does ahead.lead;
      mail = λ from to. balance_before g d ds left first from to (ahead.mail from to);
      within = (subst (λ n. d.cpu < n) size (slice_get_within g.locals d.cpu l at), ahead.within);
      stamps = (does_stamps m d.cpu l d does, ahead.stamps);
    }
