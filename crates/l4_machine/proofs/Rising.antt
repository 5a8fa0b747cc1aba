-- Events in order of stamp and processor.
use Rattle.std.proofs.Common.{◌≡◌, ℕ, zero, suc, ◌+◌, ◌<◌, Bool, true, false, cond, List, [], ◌∷◌, ◌++◌, map, length, get_or, refl, ap, sym, ◌∙◌, subst, arith, length-append}
use Rattle.std.specs.Prelude.{Some, None, ◌==◌}
use Rattle.std.specs.List.{range_with_len}
use Rattle.std.specs.List.Sorted.{IsPermutation, IsSortedBy}
use Rattle.std.proofs.lemmas.Bool.{eq-eqb}
use Rattle.std.proofs.lemmas.List.{append-nil}
use Rattle.l4_model.specs.Machine.{Machine}
use Rattle.l4_core_model.specs.Local.{Local}
use Rattle.l4_core_model.specs.Runs.{Event, is_earlier, put_event, merged, told}
use Rattle.l4_merge.specs.Transitions.{Transition, told_by, Lead}
use Rattle.l4_merge.specs.LocalTraces.{all_events}
use Rattle.l4_merge.proofs.Transitions.{lead_above}
use Rattle.l4_merge.proofs.EventOrder.{earlier_flip, earlier_by_stamp}
use Rattle.l4_proc.specs.Logs.{events}
use Rattle.l4_proc.specs.declared.processor.Processor.{Processor}
use Rattle.l4_machine.specs.Gathers.{with_number, past_of, pasts_of, IsMerge, IsOneOf}

abbrev IsRising : List Event → Type 0
IsRising [] = Unit {0}
IsRising (a ∷ []) = Unit {0}
IsRising (a ∷ b ∷ es) = (is_earlier b a ≡ false) × IsRising (b ∷ es)

put_behind : (e x : Event) (xs : List Event) → is_earlier e x ≡ false → IsRising (x ∷ xs) → IsRising (x ∷ put_event e xs)
put_behind e x [] h r = (h, tt)
put_behind e x (y ∷ xs) h r = by (is_earlier e y) refl (put_behind e y xs)
  where
    by : (b : Bool) → is_earlier e y ≡ b → (is_earlier e y ≡ false → IsRising (y ∷ xs) → IsRising (y ∷ put_event e xs)) →
        IsRising (x ∷ cond b (e ∷ y ∷ xs) (y ∷ put_event e xs))
    by true k rest = (h, (earlier_flip e y k, r.1))
    by false k rest = (r.0, rest k r.1)

put_rises : (e : Event) (xs : List Event) → IsRising xs → IsRising (put_event e xs)
put_rises e [] r = tt
put_rises e (x ∷ xs) r = by (is_earlier e x) refl
  where
    by : (b : Bool) → is_earlier e x ≡ b → IsRising (cond b (e ∷ x ∷ xs) (x ∷ put_event e xs))
    by true k = (earlier_flip e x k, r)
    by false k = put_behind e x xs k r

merged_rises : (es : List Event) → IsRising (merged es)
merged_rises [] = tt
merged_rises (e ∷ es) = put_rises e (merged es) (merged_rises es)

rising_at : (xs : List Event) (k : ℕ) (d : Event) → IsRising xs → k + 1 < length xs → is_earlier (get_or xs (k + 1) d) (get_or xs k d) ≡ false
rising_at [] k d r lt = absurd (omega arith)
rising_at (a ∷ []) k d r lt = absurd (omega arith)
rising_at (a ∷ b ∷ es) zero d r lt = r.0
rising_at (a ∷ b ∷ es) (suc k) d r lt =
    let next : suc (k + 1) ≡ suc k + 1 = omega arith in
    subst (λ n. is_earlier (get_or (a ∷ b ∷ es) n d) (get_or (b ∷ es) k d) ≡ false) next (rising_at (b ∷ es) k d r.1 (omega arith))

sorted : (es : List Event) → IsRising es → IsSortedBy is_earlier es
sorted es rising = λ k d low lt. rising_at es k d rising (omega arith)

-- Merged, events are sorted.
pub merged_sorted : (es : List Event) → IsSortedBy is_earlier (merged es)
merged_sorted es = sorted (merged es) (merged_rises es)

-- A log stands in that order.

transitions_rise : (m : Machine) (cpu : ℕ) (l now : Local) (ds : List Transition) → Lead m cpu l ds now → IsRising (map told_by ds)
transitions_rise m cpu l now [] lead = tt
transitions_rise m cpu l now (d ∷ []) lead = tt
transitions_rise m cpu l now (d ∷ e ∷ ds) lead =
    let above = (lead_above m cpu d.work.local now (e ∷ ds) lead.1).0 in
    (earlier_flip (told_by d) (told_by e) (earlier_by_stamp (told_by d) (told_by e) above), transitions_rise m cpu d.work.local now (e ∷ ds) lead.1)

log_sorted : (m : Machine) (p : Processor) → IsOneOf m p → IsSortedBy is_earlier (events p.worker.log)
log_sorted m p o =
    let are = o.worked.are in
    subst (IsSortedBy is_earlier) (sym are.events) (sorted (map told_by o.worked.transitions) (transitions_rise m p.worker.core.cpu _ p.worker.core.local o.worked.transitions are.lead))

-- So the log of a processor that is alone is the merge of all.

pub alone_events : (m : Machine) (p : Processor) → m.cpus ≡ 1 → IsOneOf m p → all_events (pasts_of m (p ∷ [])) ≡ events p.worker.log
alone_events m p one o =
    let number = o.number in
    let here : (p.worker.core.cpu == 0) ≡ true = eq-eqb p.worker.core.cpu 0 (omega (arith, one)) in
    ap (λ n. all_events (map (λ cpu. past_of m cpu (with_number cpu (p ∷ []))) (range_with_len 0 n))) one
    ∙ ap (λ b. (past_of m 0 (cond b (Some p) None)).events ++ []) here ∙ append-nil (events p.worker.log)

pub alone_merged : (m : Machine) (p : Processor) → m.cpus ≡ 1 → IsOneOf m p → IsMerge m (p ∷ []) (told (events p.worker.log))
alone_merged m p one o =
    λ es sorts moved. ap told (sorts (events p.worker.log) (subst (IsPermutation es) (alone_events m p one o) moved) (log_sorted m p o))

pub one_left : (ps rest : List Processor) (p : Processor) → ps ≡ rest ++ p ∷ [] → length ps ≡ 1 → ps ≡ p ∷ []
one_left ps [] p is one = is
one_left ps (q ∷ rest) p is one =
    let size = ap length is in
    let more : length ((q ∷ rest) ++ p ∷ []) ≡ suc (length rest) + 1 = length-append (q ∷ rest) (p ∷ []) in
    absurd (omega arith)
