-- Any core run is what its processors did by themselves.
use Rattle.std.proofs.Common.{◌≡◌, ℕ, ◌<◌, ◌≤◌, Bool, true, false, cond, List, [], ◌∷◌, ◌++◌, map, length, get_or, refl, ap, sym, ◌∙◌}
use Rattle.std.proofs.Common.{subst, ⊎_elim, arith}
use Rattle.std.specs.Prelude.{filter, ◌==◌}
use Rattle.std.proofs.lemmas.Bool.{cases_lt}
use Rattle.std.proofs.lemmas.Option.{get_or_from_slice_get}
use Rattle.std.proofs.lemmas.List.{get_or_default}
use Rattle.std.proofs.lemmas.List.FromFn.{length-map-range_with_len, fill_by_all}
use Rattle.l4_model.specs.Machine.{Machine}
use Rattle.l4_core_model.specs.Local.{Local, opening_local}
use Rattle.l4_core_model.specs.Runs.{Event, Run, opening_run, processors, letters}
use Rattle.l4_core_model.specs.Laws.{IsCoreRun}
use Rattle.l4_core_model.proofs.Lists.{all-map}
use Rattle.l4_merge.specs.Transitions.{Transition, told_by, happened_by, posted_by, handled_by, letters_with, Lead}
use Rattle.l4_merge.specs.LocalTraces.{LocalTrace, empty_past, Extends, posted_in, handled_in, letters_posted, letters_handled}
use Rattle.l4_merge.specs.Merges.{HasPasts}
use Rattle.l4_merge.proofs.Own.{own, own_none}
use Rattle.l4_merge.proofs.Processors.{at_processor, at_none, of_processor, locals-map}
use Rattle.l4_merge.proofs.RunDeeds.{HasDeeds, has_transitions}

-- What a processor has done that has done these transitions.
abbrev past_by : List Transition → Local → LocalTrace
past_by ds now =
    record {
      events = map told_by ds;
      actions = map happened_by ds;
      posted = λ to. letters_with to (posted_by ds);
      handled = λ from. letters_with from (handled_by ds);
      local = now;
    }

worked_by : (m : Machine) (cpu : ℕ) (l now : Local) (ds : List Transition) → Lead m cpu l ds now → Extends m cpu (empty_past l) (past_by ds now)
worked_by m cpu l now ds lead =
    record { transitions = ds; are = record { lead = lead; events = refl; actions = refl; posted = λ to. refl; handled = λ from. refl } }

own_told : (cpu : ℕ) (ds : List Transition) → filter (λ e. e.cpu == cpu) (map told_by ds) ≡ map told_by (own cpu ds)
own_told cpu [] = refl
own_told cpu (d ∷ ds) = by (d.cpu == cpu) (own_told cpu ds)
  where
    others : List Event
    others = filter (λ e. e.cpu == cpu) (map told_by ds)

    by : (b : Bool) → others ≡ map told_by (own cpu ds) → cond b (told_by d ∷ others) others ≡ map told_by (cond b (d ∷ own cpu ds) (own cpu ds))
    by true rest = ap (λ es. told_by d ∷ es) rest
    by false rest = rest

pub has_pasts : (m : Machine) (r : Run) → IsCoreRun m r → HasPasts m r
has_pasts m r is = (
  pasts,
  record {
    whole = record {
      for_each = length-map-range_with_len past 0 m.cpus;
      each = λ cpu p at.
          let of = of_processor m past cpu p at in
          subst (Extends m cpu (empty_past (opening_local m cpu))) of.1 (worked_by m cpu (opening_local m cpu) (now cpu) (own cpu ds) (lead cpu of.0));
      in_order = λ from to. record { rest = letters r.system.mail from to; is = mail from to };
    };
    ends = record { locals = locals; mail = mail };
    logs = λ cpu p at.
        ap (λ (p : LocalTrace). p.events) (sym (of_processor m past cpu p at).1) ∙ sym (own_told cpu ds)
        ∙ ap (filter (λ e. e.cpu == cpu)) (sym h.events);
  },
)
  where
    h : HasDeeds m (opening_run m) r
    h = has_transitions m is.0 (opening_run m) r is.1

    ds : List Transition
    ds = h.transitions

    now : (cpu : ℕ) → Local
    now cpu = get_or r.system.locals cpu (opening_local m cpu)

    past : (cpu : ℕ) → LocalTrace
    past cpu = past_by (own cpu ds) (now cpu)

    pasts : List LocalTrace
    pasts = map past (processors m)

    size : length r.system.locals ≡ m.cpus
    size = sym h.ahead.size ∙ length-map-range_with_len (opening_local m) 0 m.cpus

    locals : r.system.locals ≡ map (λ past. past.local) pasts
    locals =
        fill_by_all now r.system.locals m.cpus (opening_local m 0) size (λ k lt.
        get_or_default r.system.locals k (opening_local m 0) (opening_local m k) (subst (λ n. k < n) (sym size) lt))
        ∙ locals-map past (processors m)

    lead : (cpu : ℕ) → cpu < m.cpus → Lead m cpu (opening_local m cpu) (own cpu ds) (now cpu)
    lead cpu lt =
        let o = h.ahead.lead cpu (opening_local m cpu) (at_processor m (opening_local m) cpu lt) in
        subst (Lead m cpu (opening_local m cpu) (own cpu ds)) (sym (get_or_from_slice_get r.system.locals cpu o.end (opening_local m cpu) o.at)) o.lead

    none : (cpu : ℕ) → m.cpus ≤ cpu → own cpu ds ≡ []
    none cpu beyond =
        let many = size in
        own_none cpu ds (all-map (λ (d : Transition). d.cpu < length r.system.locals) (λ (d : Transition). d.cpu ≡ cpu → ⊥) (λ d lt e. omega arith) ds h.ahead.within)

    posted : (from to : ℕ) → letters_posted pasts from to ≡ letters_with to (posted_by (own from ds))
    posted from to =
        ⊎_elim (λ lt. ap (posted_in to) (at_processor m past from lt))
        (λ beyond. ap (posted_in to) (at_none m past from beyond) ∙ ap (λ ds. letters_with to (posted_by ds)) (sym (none from beyond)))
        (cases_lt from m.cpus)

    handled : (from to : ℕ) → letters_handled pasts from to ≡ letters_with from (handled_by (own to ds))
    handled from to =
        ⊎_elim (λ lt. ap (handled_in from) (at_processor m past to lt))
        (λ beyond. ap (handled_in from) (at_none m past to beyond) ∙ ap (λ ds. letters_with from (handled_by ds)) (sym (none to beyond)))
        (cases_lt to m.cpus)

    mail : (from to : ℕ) → letters_posted pasts from to ≡ letters_handled pasts from to ++ letters r.system.mail from to
    mail from to = posted from to ∙ h.ahead.mail from to ∙ ap (λ ls. ls ++ letters r.system.mail from to) (sym (handled from to))
