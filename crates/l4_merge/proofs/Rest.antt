-- A run that ends where the processors are is at rest exactly where each of them is and all letters are handled.
use Rattle.std.proofs.Common.{◌≡◌, ℕ, ◌<◌, Bool, true, false, cond, ◌&&◌, Option, Some, None, List, [], ◌∷◌, ◌++◌, map, refl, ap, sym, ◌∙◌}
use Rattle.std.specs.Prelude.{slice_get, ◌==◌, filter}
use Rattle.std.specs.Option.{option_map}
use Rattle.std.specs.List.{list_all}
use Rattle.std.proofs.lemmas.Bool.{eq-eqb, and_from, and_parts}
use Rattle.std.proofs.lemmas.Option.{slice_get-map}
use Rattle.std.proofs.lemmas.List.{append-nil, append_cancel_left}
use Rattle.l4_model.specs.Machine.{Machine}
use Rattle.l4_core_model.specs.Runs.{Posted, System, Run, processors, letters, is_between, is_empty, local_at_rest, at_rest}
use Rattle.l4_merge.specs.LocalTraces.{LocalTrace, letters_handled}
use Rattle.l4_merge.specs.Merges.{EndsAt, is_at_rest, AreAtRest}
use Rattle.l4_merge.proofs.Processors.{all_processors, each_processor}

-- Where no pair has letters, none is under way

pub no_mail : (mail : List Posted) → ((from to : ℕ) → letters mail from to ≡ []) → is_empty mail ≡ true
no_mail [] none = refl
no_mail (p ∷ ps) none = by (p.from == p.from) (p.to == p.to) (eq-eqb p.from p.from refl) (eq-eqb p.to p.to refl) (none p.from p.to)
  where
    others : List Posted
    others = filter (is_between p.from p.to) ps

    by : (b c : Bool) → b ≡ true → c ≡ true → map (λ (p : Posted). p.letter) (cond (b && c) (p ∷ others) others) ≡ [] → is_empty (p ∷ ps) ≡ true
    by true true s t h = cc
    by true false s t h = cc
    by false c s t h = cc

no_letters_then : (mail : List Posted) → is_empty mail ≡ true → (from to : ℕ) → letters mail from to ≡ []
no_letters_then [] none from to = refl
no_letters_then (p ∷ ps) none from to = cc

-- Each processor

local_rest : (m : Machine) (r : Run) (pasts : List LocalTrace) (cpu : ℕ) (past : LocalTrace) → EndsAt r pasts → slice_get pasts cpu ≡ Some past →
    local_at_rest m r.system cpu ≡ is_at_rest m cpu past.local
local_rest m r pasts cpu past ends at =
    let here : slice_get r.system.locals cpu ≡ Some past.local =
    ap (λ ls. slice_get ls cpu) ends.locals ∙ slice_get-map (λ (past : LocalTrace). past.local) pasts cpu ∙ ap (option_map (λ (past : LocalTrace). past.local)) at in
    rw here

no_local_rest : (m : Machine) (r : Run) (pasts : List LocalTrace) (cpu : ℕ) → EndsAt r pasts → slice_get pasts cpu ≡ None → local_at_rest m r.system cpu ≡ true
no_local_rest m r pasts cpu ends at =
    let here : slice_get r.system.locals cpu ≡ None =
    ap (λ ls. slice_get ls cpu) ends.locals ∙ slice_get-map (λ (past : LocalTrace). past.local) pasts cpu ∙ ap (option_map (λ (past : LocalTrace). past.local)) at in
    rw here

-- The whole run

pub rests : (m : Machine) (pasts : List LocalTrace) (r : Run) → EndsAt r pasts → AreAtRest m pasts → at_rest m r.system ≡ true
rests m pasts r ends rest =
    and_from (list_all (local_at_rest m r.system) (processors m)) (is_empty r.system.mail)
    (all_processors m (local_at_rest m r.system) (λ cpu lt. by cpu lt (slice_get pasts cpu) refl))
    (no_mail r.system.mail (λ from to.
    append_cancel_left (letters_handled pasts from to) (letters r.system.mail from to) []
    (sym (ends.mail from to) ∙ rest.all_handled from to ∙ sym (append-nil (letters_handled pasts from to)))))
  where
    by : (cpu : ℕ) → cpu < m.cpus → (o : Option LocalTrace) → slice_get pasts cpu ≡ o → local_at_rest m r.system cpu ≡ true
    by cpu lt None at = no_local_rest m r pasts cpu ends at
    by cpu lt (Some past) at = local_rest m r pasts cpu past ends at ∙ rest.each cpu past lt at

pub rested : (m : Machine) (pasts : List LocalTrace) (r : Run) → EndsAt r pasts → at_rest m r.system ≡ true → AreAtRest m pasts
rested m pasts r ends rest =
    let parts = and_parts (list_all (local_at_rest m r.system) (processors m)) (is_empty r.system.mail) rest in
    record {
      each = λ cpu past lt at. sym (local_rest m r pasts cpu past ends at) ∙ each_processor m (local_at_rest m r.system) parts.0 cpu lt;
      all_handled = λ from to.
          ends.mail from to ∙ ap (λ ls. letters_handled pasts from to ++ ls) (no_letters_then r.system.mail parts.1 from to)
          ∙ append-nil (letters_handled pasts from to);
    }

-- With the same local states, and the same letters under way of each pair, both are at rest or neither is.
pub same_rest : (m : Machine) (g h : System) → g.locals ≡ h.locals → ((from to : ℕ) → letters g.mail from to ≡ letters h.mail from to) →
    at_rest m g ≡ at_rest m h
same_rest m g h locals mail =
    ap (λ ls. list_all (local_at_rest m (record g { locals = ls })) (processors m) && is_empty g.mail) locals
    ∙ ap (λ b. list_all (local_at_rest m h) (processors m) && b) (by (is_empty g.mail) (is_empty h.mail) refl refl)
  where
    by : (b c : Bool) → is_empty g.mail ≡ b → is_empty h.mail ≡ c → b ≡ c
    by true true s t = refl
    by false false s t = refl
    by true false s t = let none = no_mail h.mail (λ from to. sym (mail from to) ∙ no_letters_then g.mail s from to) in cc
    by false true s t = let none = no_mail g.mail (λ from to. mail from to ∙ no_letters_then h.mail t from to) in cc
