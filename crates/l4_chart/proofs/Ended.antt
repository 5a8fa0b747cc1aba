-- How far steps are possible.
use Rattle.std.proofs.Common.{◌≡◌, ℕ, ◌≤◌, List, drop, take, ap, subst, sym, ◌∙◌, arith}
use Rattle.std.specs.Prelude.{Some, None, ◌-◌, min}
use Rattle.std.proofs.lemmas.List.{take-append-drop, take-take}
use Rattle.l4_model.specs.Machine.{Machine}
use Rattle.l4_model.specs.Steps.{Step}
use Rattle.l4_model.specs.World.{World}
use Rattle.l4_model.specs.World.{opening}
use Rattle.l4_model.specs.History.{IsFirstFault, IsHistory, reached, refused_place, run}
use Rattle.l4_model.proofs.Chains.{bind_then}
use Rattle.l4_model.proofs.Faults.{tells_first_fault}
use Rattle.l4_core_model.proofs.Telling.{run-append}
use Rattle.l4_chart.specs.Charts.{until_last}
use Rattle.l4_chart.specs.Windows.{Part, until_refused}

pub all_possible : (m : Machine) (h : List Step) (w : World) → reached m h ≡ Some w → refused_place m h ≡ None
all_possible m h w is = (tells_first_fault m h).history.1 (w, is)

pub some_possible : (m : Machine) (h : List Step) (place : ℕ) → IsFirstFault m h place → refused_place m h ≡ Some place
some_possible m h place is = ((tells_first_fault m h).fault place).1 is

-- The first steps of a history are one.
pub begins_history : (m : Machine) (h : List Step) (n : ℕ) → IsHistory m h → IsHistory m (take n h)
begins_history m h n (w, is) =
    bind_then (run m (opening m) (take n h)) (λ v. run m v (drop n h)) w (sym (run-append m (take n h) (drop n h) (opening m)) ∙ ap (reached m) (take-append-drop n h) ∙ is)
    λ v one more. (v, one)

pub before_none : (m : Machine) (h : List Step) (part : Part) → refused_place m h ≡ None → IsHistory m (until_last (until_refused None part) h)
before_none m h part none = begins_history m h part.last ((tells_first_fault m h).history.0 none)

pub before_first : (m : Machine) (h : List Step) (part : Part) (place : ℕ) → IsFirstFault m h place → IsHistory m (until_last (until_refused (Some place) part) h)
before_first m h part place first =
    let last = min part.last (place - 1) in
    let few : last ≤ first.beginning = omega (arith, first.place_is) in
    subst (IsHistory m) (take-take last first.beginning h few) (begins_history m (take first.beginning h) last first.is_history)
