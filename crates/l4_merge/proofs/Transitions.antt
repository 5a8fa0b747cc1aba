-- What is true of the transitions of one processor, which lead from a local state to another.
use Rattle.std.proofs.Common.{◌≡◌, ℕ, ◌<◌, List, [], ◌∷◌, ◌++◌, subst, sym, arith}
use Rattle.std.specs.List.{AllByRecursion}
use Rattle.l4_model.specs.Machine.{Machine}
use Rattle.l4_core_model.specs.Local.{Local}
use Rattle.l4_core_model.proofs.Lists.{all-map}
use Rattle.l4_merge.specs.Transitions.{letter_of, Transition, Does, Lead}
use Rattle.l4_merge.proofs.StampsOfEvents.{work_later}

abbrev pub stamp_of : Transition → ℕ
stamp_of d = d.work.local.stamp

-- A transition's stamp is above that of the letter that it handles, and its letters have it.
pub record HasStamps (d : Transition) : Type 0 where
  pub above_letter : AllByRecursion (λ p. p.1.stamp < stamp_of d) (letter_of d.event)
  pub letters : AllByRecursion (λ p. p.1.stamp ≡ stamp_of d) d.work.letters

pub does_stamps : (m : Machine) (cpu : ℕ) (l : Local) (d : Transition) → Does m cpu l d → HasStamps d
does_stamps m cpu l d does =
    let later = work_later m cpu l d.event d.work does.work in
    record { above_letter = later.than_letter; letters = later.letters }

pub lead_stamps : (m : Machine) (cpu : ℕ) (l now : Local) (ds : List Transition) → Lead m cpu l ds now → AllByRecursion HasStamps ds
lead_stamps m cpu l now [] lead = tt
lead_stamps m cpu l now (d ∷ ds) lead = (does_stamps m cpu l d lead.0, lead_stamps m cpu d.work.local now ds lead.1)

pub lead_own : (m : Machine) (cpu : ℕ) (l now : Local) (ds : List Transition) → Lead m cpu l ds now → AllByRecursion (λ d. d.cpu ≡ cpu) ds
lead_own m cpu l now [] lead = tt
lead_own m cpu l now (d ∷ ds) lead = (lead.0.own, lead_own m cpu d.work.local now ds lead.1)

-- Stamps rise strictly along them.
pub lead_above : (m : Machine) (cpu : ℕ) (l now : Local) (ds : List Transition) → Lead m cpu l ds now → AllByRecursion (λ d. l.stamp < stamp_of d) ds
lead_above m cpu l now [] lead = tt
lead_above m cpu l now (d ∷ ds) lead =
    let later = work_later m cpu l d.event d.work lead.0.work in
    let before = later.than_before in
    let rest = lead_above m cpu d.work.local now ds lead.1 in
    (before, all-map (λ (e : Transition). stamp_of d < stamp_of e) (λ (e : Transition). l.stamp < stamp_of e) (λ e above. omega arith) ds rest)

pub lead-append : (m : Machine) (cpu : ℕ) (l middle now : Local) (xs ys : List Transition) → Lead m cpu l xs middle → Lead m cpu middle ys now →
    Lead m cpu l (xs ++ ys) now
lead-append m cpu l middle now [] ys first then = subst (λ l. Lead m cpu l ys now) (sym first) then
lead-append m cpu l middle now (d ∷ xs) ys first then = (first.0, lead-append m cpu d.work.local middle now xs ys first.1 then)
