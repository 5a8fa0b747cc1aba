-- The clock of one processor goes on, where a run has ended.
use Rattle.std.proofs.Common.{◌≡◌, ℕ, zero, suc, Bool, true, false, Some, List, [], ◌∷◌, ◌++◌, map, refl, ap, sym, ◌∙◌, subst, append_assoc}
use Rattle.std.specs.Prelude.{slice_get, ◌==◌, nat_lt, ◌^◌}
use Rattle.std.specs.Option.{option_map}
use Rattle.std.specs.List.Sorted.{IsPermutation}
use Rattle.std.proofs.lemmas.Bool.{eqb-true, eqb-false}
use Rattle.std.proofs.lemmas.Option.{slice_get-map}
use Rattle.std.proofs.lemmas.List.{append-nil}
use Rattle.std.proofs.lemmas.List.Sorted.{IsPermutation-sym, IsPermutation-trans, IsPermutation-to_front, IsPermutation-append_left, IsPermutation-append_right}
use Rattle.l4_model.specs.Machine.{Machine}
use Rattle.l4_model.specs.World.{changed}
use Rattle.l4_model.proofs.Chains.{some_is, guard_then, map-changed, get-changed_same, get-changed_other}
use Rattle.l4_model.specs.Steps.{Tick}
use Rattle.l4_core_model.specs.Local.{Local}
use Rattle.l4_core_model.specs.Acts.{Work, ◌▷◌, does, tells}
use Rattle.l4_core_model.specs.Turns.{opened, clock_is, advance}
use Rattle.l4_core_model.specs.Runs.{Event, Run, Ticks, letters, posted, done, then_event}
use Rattle.l4_core_model.specs.Schedules.{attempts}
use Rattle.l4_merge.specs.Transitions.{told_by, Ticked}
use Rattle.l4_merge.specs.LocalTraces.{LocalTrace, HasTicked, posted_in, handled_in, letters_posted, letters_handled, all_events}
use Rattle.l4_merge.specs.Merges.{EndsAt}

-- A tick posts no letter.
no_letters : (m : Machine) (cpu clock : ℕ) (l : Local) (x : Work) → advance m cpu clock l ≡ Some x → x.letters ≡ []
no_letters m cpu clock l x is =
    let y : Work = opened 0 l ▷ tells (Tick cpu clock) ▷ does (clock_is clock) in
    guard_then (nat_lt l.clock clock) _ x is λ later is.
    guard_then (nat_lt clock (2 ^ 62)) (Some y) x is λ below is.
    ap (λ (x : Work). x.letters) (sym (some_is y x is))

-- It happens where the processor is.
attempted : (m : Machine) (r : Run) (cpu clock : ℕ) (l : Local) (x : Work) → slice_get r.system.locals cpu ≡ Some l → advance m cpu clock l ≡ Some x →
    attempts m r (Ticks cpu clock) ≡ then_event r (done cpu r.system x)
attempted m r cpu clock l x at is = rw (at, is)

-- The letters of each pair stay as they are.

abbrev with_past : (cpu : ℕ) → LocalTrace → List LocalTrace → List LocalTrace
with_past cpu new olds = changed (λ p. new) olds cpu

posted_same : (m : Machine) (cpu clock : ℕ) (olds : List LocalTrace) (old new : LocalTrace) → slice_get olds cpu ≡ Some old → HasTicked m cpu clock old new →
    (from to : ℕ) → letters_posted (with_past cpu new olds) from to ≡ letters_posted olds from to
posted_same m cpu clock olds old new at h from to = by (cpu == from) refl
  where
    by : (b : Bool) → (cpu == from) ≡ b → letters_posted (with_past cpu new olds) from to ≡ letters_posted olds from to
    by true e =
        subst (λ from. letters_posted (with_past cpu new olds) from to ≡ letters_posted olds from to) (eqb-true cpu from e)
        (ap (posted_in to) (get-changed_same (λ (p : LocalTrace). new) olds cpu ∙ ap (option_map (λ (p : LocalTrace). new)) at) ∙ h.posted to ∙ ap (posted_in to) (sym at))
    by false e = ap (posted_in to) (get-changed_other (λ (p : LocalTrace). new) olds cpu from (eqb-false cpu from e))

handled_same : (m : Machine) (cpu clock : ℕ) (olds : List LocalTrace) (old new : LocalTrace) → slice_get olds cpu ≡ Some old → HasTicked m cpu clock old new →
    (from to : ℕ) → letters_handled (with_past cpu new olds) from to ≡ letters_handled olds from to
handled_same m cpu clock olds old new at h from to = by (cpu == to) refl
  where
    by : (b : Bool) → (cpu == to) ≡ b → letters_handled (with_past cpu new olds) from to ≡ letters_handled olds from to
    by true e =
        subst (λ to. letters_handled (with_past cpu new olds) from to ≡ letters_handled olds from to) (eqb-true cpu to e)
        (ap (handled_in from) (get-changed_same (λ (p : LocalTrace). new) olds cpu ∙ ap (option_map (λ (p : LocalTrace). new)) at) ∙ h.handled from
        ∙ ap (handled_in from) (sym at))
    by false e = ap (handled_in from) (get-changed_other (λ (p : LocalTrace). new) olds cpu to (eqb-false cpu to e))

-- So the run ends where the processors are then.
pub ends_ticked : (m : Machine) (r : Run) (cpu clock : ℕ) (olds : List LocalTrace) (old new : LocalTrace) → EndsAt r olds → slice_get olds cpu ≡ Some old →
    HasTicked m cpu clock old new → EndsAt (attempts m r (Ticks cpu clock)) (changed (λ p. new) olds cpu)
ends_ticked m r cpu clock olds old new ends at h =
    subst (λ r. EndsAt r (with_past cpu new olds)) (sym (attempted m r cpu clock old.local h.work here h.advances)) (record {
      locals = ap (λ ls. changed (λ (l : Local). h.work.local) ls cpu) ends.locals
          ∙ sym (map-changed (λ (p : LocalTrace). p.local) (λ p. new) (λ (l : Local). h.work.local) (λ p. sym h.local) olds cpu);
      mail = λ from to.
          posted_same m cpu clock olds old new at h from to ∙ ends.mail from to
          ∙ ap (λ ls. ls ++ letters r.system.mail from to) (sym (handled_same m cpu clock olds old new at h from to))
          ∙ ap (λ ps. letters_handled (with_past cpu new olds) from to ++ letters ps from to) (sym same_mail);
    })
  where
    here : slice_get r.system.locals cpu ≡ Some old.local
    here = ap (λ ls. slice_get ls cpu) ends.locals ∙ slice_get-map (λ (p : LocalTrace). p.local) olds cpu ∙ ap (option_map (λ (p : LocalTrace). p.local)) at

    same_mail : r.system.mail ++ map (posted cpu) h.work.letters ≡ r.system.mail
    same_mail =
        ap (λ ls. r.system.mail ++ map (posted cpu) ls) (no_letters m cpu clock old.local h.work h.advances) ∙ append-nil r.system.mail

-- And its events stay those of all logs.

one_more : (e : Event) (olds : List LocalTrace) (cpu : ℕ) (old new : LocalTrace) → slice_get olds cpu ≡ Some old → new.events ≡ old.events ++ e ∷ [] →
    IsPermutation (all_events olds ++ e ∷ []) (all_events (with_past cpu new olds))
one_more e [] cpu old new at is = absurd cc
one_more e (p ∷ olds) zero old new at is =
    let same : p.events ++ e ∷ [] ≡ new.events = ap (λ (p : LocalTrace). p.events ++ e ∷ []) (some_is p old at) ∙ sym is in
    let moved = IsPermutation-append_right p.events (all_events olds ++ e ∷ []) (e ∷ all_events olds) (IsPermutation-to_front (all_events olds) e) in
    subst (λ xs. IsPermutation ((p.events ++ all_events olds) ++ e ∷ []) (xs ++ all_events olds)) same
    (subst (IsPermutation ((p.events ++ all_events olds) ++ e ∷ [])) (sym (append_assoc p.events (e ∷ []) (all_events olds)))
    (subst (λ xs. IsPermutation xs (p.events ++ e ∷ all_events olds)) (sym (append_assoc p.events (all_events olds) (e ∷ []))) moved))
one_more e (p ∷ olds) (suc cpu) old new at is =
    subst (λ xs. IsPermutation xs (p.events ++ all_events (with_past cpu new olds))) (sym (append_assoc p.events (all_events olds) (e ∷ [])))
    (IsPermutation-append_right p.events (all_events olds ++ e ∷ []) (all_events (with_past cpu new olds)) (one_more e olds cpu old new at is))

pub permuted_ticked : (m : Machine) (r : Run) (cpu clock : ℕ) (olds : List LocalTrace) (old new : LocalTrace) → EndsAt r olds → slice_get olds cpu ≡ Some old →
    HasTicked m cpu clock old new → IsPermutation (all_events olds) r.events →
    IsPermutation (all_events (changed (λ p. new) olds cpu)) (attempts m r (Ticks cpu clock)).events
permuted_ticked m r cpu clock olds old new ends at h moved =
    let e : Event = told_by (record { cpu = cpu; event = Ticked clock; work = h.work }) in
    let here : slice_get r.system.locals cpu ≡ Some old.local =
    ap (λ ls. slice_get ls cpu) ends.locals ∙ slice_get-map (λ (p : LocalTrace). p.local) olds cpu ∙ ap (option_map (λ (p : LocalTrace). p.local)) at in
    let more = one_more e olds cpu old new at h.events in
    subst (λ (r : Run). IsPermutation (all_events (with_past cpu new olds)) r.events) (sym (attempted m r cpu clock old.local h.work here h.advances))
    (IsPermutation-trans (all_events (with_past cpu new olds)) (all_events olds ++ e ∷ []) (r.events ++ e ∷ [])
    (IsPermutation-sym (all_events olds ++ e ∷ []) (all_events (with_past cpu new olds)) more)
    (IsPermutation-append_left (e ∷ []) (all_events olds) r.events moved))
