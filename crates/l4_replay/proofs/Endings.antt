-- A run is at rest exactly where each of its stations is.
use Rattle.std.proofs.Common.{◌≡◌, ℕ, ◌<◌, Bool, true, false, cond, ◌&&◌, Option, Some, None, List, [], ◌∷◌, map, refl, ap, sym, ◌∙◌, arith, min}
use Rattle.std.specs.Prelude.{slice_get, filter, not, ◌==◌}
use Rattle.std.specs.List.{list_all}
use Rattle.std.specs.Option.{option_map}
use Rattle.std.proofs.lemmas.Bool.{eq-eqb, and_from, and_parts}
use Rattle.std.proofs.lemmas.Option.{slice_get_within}
use Rattle.l4_model.specs.Machine.{Machine}
use Rattle.l4_core_model.specs.Turns.{is_busy}
use Rattle.l4_core_model.specs.Runs.{Posted, System, processors, letters, is_between, is_empty, local_at_rest, at_rest}
use Rattle.l4_merge.proofs.Lists.{slice_get_none}
use Rattle.l4_merge.proofs.Processors.{all_processors, each_processor}
use Rattle.l4_replay.specs.Stations.{Station}
use Rattle.l4_replay.specs.UnderWay.{letters_at, AreResting, IsSystem}
use Rattle.l4_replay.proofs.Action.{local_at, letters_here}
use Rattle.l4_core_model.specs.Schedules.{earliest}

-- Where no pair has letters, none is under way.

no_mail : (mail : List Posted) → ((from to : ℕ) → letters mail from to ≡ []) → is_empty mail ≡ true
no_mail [] none = refl
no_mail (p ∷ ps) none = by (p.from == p.from) (p.to == p.to) (eq-eqb p.from p.from refl) (eq-eqb p.to p.to refl) (none p.from p.to)
  where
    others : List Posted
    others = filter (is_between p.from p.to) ps

    by : (b c : Bool) → b ≡ true → c ≡ true → map (λ (p : Posted). p.letter) (cond (b && c) (p ∷ others) others) ≡ [] → is_empty (p ∷ ps) ≡ true
    by true true s t h = cc
    by true false s t h = cc
    by false c s t h = cc

no_letters_then : (mail : List Posted) → is_empty mail ≡ true → (from to : ℕ) → letters mail from to ≡ []
no_letters_then [] none from to = refl
no_letters_then (p ∷ ps) none from to = cc

pub unarmed_is : {A : Type 0} (f : A → ℕ) (xs : List A) → option_map f (slice_get xs 0) ≡ None → is_empty xs ≡ true
unarmed_is f [] h = refl
unarmed_is f (x ∷ xs) h = cc

is_unarmed : {A : Type 0} (f : A → ℕ) (xs : List A) → is_empty xs ≡ true → option_map f (slice_get xs 0) ≡ None
is_unarmed f [] h = refl
is_unarmed f (x ∷ xs) h = cc

not_true : (b : Bool) → not b ≡ true → b ≡ false
not_true true h = cc
not_true false h = refl

local_rest : (m : Machine) (g : System) (ss : List Station) (cpu : ℕ) (s : Station) → IsSystem m g ss → slice_get ss cpu ≡ Some s →
    local_at_rest m g cpu ≡ (not (is_busy s.core.machine s.core.cpu s.core.local) && is_empty s.core.local.lists.armed)
local_rest m g ss cpu s i at =
    let here = local_at m g ss cpu s i at in
    let it = i.each cpu s at in
    rw (here, it.machine, it.cpu_is) refl

pub rests : (m : Machine) (g : System) (ss : List Station) → IsSystem m g ss → AreResting ss → at_rest m g ≡ true
rests m g ss i rest =
    and_from (list_all (local_at_rest m g) (processors m)) (is_empty g.mail)
    (all_processors m (local_at_rest m g) (λ cpu lt. by cpu lt (slice_get ss cpu) refl))
    (no_mail g.mail (λ from to. i.mail from to ∙ none from to (slice_get ss to) refl))
  where
    by : (cpu : ℕ) → cpu < m.cpus → (o : Option Station) → slice_get ss cpu ≡ o → local_at_rest m g cpu ≡ true
    by cpu lt None at = let past = slice_get_none ss cpu at in let size = i.for_each in absurd (omega arith)
    by cpu lt (Some s) at =
        let r = rest cpu s at in
        local_rest m g ss cpu s i at ∙ and_from _ _ (ap not r.idle) (unarmed_is (λ e. e.0) s.core.local.lists.armed r.unarmed)

    none : (from to : ℕ) (o : Option Station) → slice_get ss to ≡ o → letters_at from o ≡ []
    none from to None at = refl
    none from to (Some s) at = (rest to s at).no_mail from

pub are_resting : (m : Machine) (g : System) (ss : List Station) → IsSystem m g ss → at_rest m g ≡ true → AreResting ss
are_resting m g ss i rest cpu s at =
    let parts = and_parts (list_all (local_at_rest m g) (processors m)) (is_empty g.mail) rest in
    let within = slice_get_within ss cpu s at in
    let size = i.for_each in
    let lt : cpu < m.cpus = omega arith in
    let own = and_parts (not (is_busy s.core.machine s.core.cpu s.core.local)) (is_empty s.core.local.lists.armed) (sym (local_rest m g ss cpu s i at) ∙ each_processor m (local_at_rest m g) parts.0 cpu lt) in
    record {
      idle = not_true _ own.0;
      unarmed = is_unarmed (λ e. e.0) s.core.local.lists.armed own.1;
      no_mail = λ from. sym (letters_here m g ss from cpu s i at) ∙ no_letters_then g.mail parts.1 from cpu;
    }

-- The earliest of three deadlines.
pub deadline_assoc : (a b c : Option ℕ) → earliest (earliest a b) c ≡ earliest a (earliest b c)
deadline_assoc None b c = refl
deadline_assoc (Some a) None c = refl
deadline_assoc (Some a) (Some b) None = refl
deadline_assoc (Some a) (Some b) (Some c) = let e : min (min a b) c ≡ min a (min b c) = omega arith in ap Some e
