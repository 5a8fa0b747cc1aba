-- Transitions of all processors that are still to be done, in any order, are done in the order of their events.
use Rattle.std.proofs.Common.{◌≡◌, ℕ, ◌<◌, ◌≤◌, List, ◌++◌, length, get_or, refl, ap, sym, ◌∙◌, subst, ⊎_elim, arith}
use Rattle.std.proofs.lemmas.Bool.{cases_lt}
use Rattle.std.proofs.lemmas.Option.{slice_get-get_or}
use Rattle.l4_model.specs.Machine.{Machine}
use Rattle.l4_core_model.specs.Letters.{Letter}
use Rattle.l4_core_model.specs.Local.{Local, opening_local}
use Rattle.l4_core_model.specs.Runs.{System, Run, letters}
use Rattle.l4_core_model.proofs.Lists.{all-map}
use Rattle.l4_merge.specs.Transitions.{Transition, posted_by, handled_by, letters_with, Lead}
use Rattle.l4_merge.proofs.Transitions.{HasStamps}
use Rattle.l4_merge.proofs.Own.{own, own_none}
use Rattle.l4_merge.proofs.Arranged.{arranged, all-arranged, are_arranged, own_arranged}
use Rattle.l4_merge.proofs.Ahead.{AreAhead}
use Rattle.l4_merge.proofs.AllDone.{AreDone, all_done}

-- The transitions of one processor lead from some local state to another.
pub record OwnLead (m : Machine) (cpu : ℕ) (ds : List Transition) : Type 0 where
  pub was : Local
  pub now : Local
  pub lead : Lead m cpu was (own cpu ds) now

-- A number that is no processor's has no transitions.
pub own_lead : (m : Machine) (g : System) (ds : List Transition) (ends : List Local) (left : (from to : ℕ) → List Letter) → AreAhead m g ds ends left →
    (cpu : ℕ) → OwnLead m cpu ds
own_lead m g ds ends left ahead cpu = ⊎_elim of_processor of_none (cases_lt cpu (length g.locals))
  where
    some : Local
    some = opening_local m cpu

    of_processor : cpu < length g.locals → OwnLead m cpu ds
    of_processor lt =
        let l : Local = get_or g.locals cpu some in
        let o = ahead.lead cpu l (slice_get-get_or g.locals cpu some lt) in
        record { was = l; now = o.end; lead = o.lead }

    of_none : length g.locals ≤ cpu → OwnLead m cpu ds
    of_none past =
        let size = ahead.size in
        let others = all-map (λ (d : Transition). d.cpu < length ends) (λ (d : Transition). d.cpu ≡ cpu → ⊥) (λ d lt e. omega arith) ds ahead.within in
        record { was = some; now = some; lead = subst (λ ds. Lead m cpu some ds some) (sym (own_none cpu ds others)) refl }

-- Arranged, the transitions of each processor stand as they stood.
pub own_same : (m : Machine) (g : System) (ds : List Transition) (ends : List Local) (left : (from to : ℕ) → List Letter) → AreAhead m g ds ends left →
    (cpu : ℕ) → own cpu (arranged ds) ≡ own cpu ds
own_same m g ds ends left ahead cpu = let o = own_lead m g ds ends left ahead cpu in own_arranged m cpu o.was o.now ds o.lead

-- So they are still to be done.
ahead_arranged : (m : Machine) (g : System) (ds : List Transition) (ends : List Local) (left : (from to : ℕ) → List Letter) → AreAhead m g ds ends left →
    AreAhead m g (arranged ds) ends left
ahead_arranged m g ds ends left ahead =
    let same = own_same m g ds ends left ahead in
    record {
      size = ahead.size;
      lead = λ cpu l at.
          let o = ahead.lead cpu l at in
          record { end = o.end; at = o.at; lead = subst (λ ds. Lead m cpu l ds o.end) (sym (same cpu)) o.lead };
      mail = λ from to.
          ap (λ ds. letters g.mail from to ++ letters_with to (posted_by ds)) (same from) ∙ ahead.mail from to
          ∙ ap (λ ds. letters_with from (handled_by ds) ++ left from to) (sym (same to));
      within = all-arranged (λ (d : Transition). d.cpu < length ends) ds ahead.within;
      stamps = all-arranged HasStamps ds ahead.stamps;
    }

pub merged_run : (m : Machine) (before : Run) (ds : List Transition) (ends : List Local) (left : (from to : ℕ) → List Letter) →
    AreAhead m before.system ds ends left → AreDone m before (arranged ds) ends left
merged_run m before ds ends left ahead = all_done m (arranged ds) before ends left (ahead_arranged m before.system ds ends left ahead) (are_arranged ds)
