-- The cores of all processors, and the local states that a run of theirs ends in.
use Rattle.std.proofs.Common.{◌≡◌, ℕ, ◌<◌, Bool, true, false, cond, Option, Some, None, List, [], ◌∷◌, map, length, refl, ap, ap₂, sym, ◌∙◌, arith}
use Rattle.std.specs.Prelude.{◌==◌, filter_map, is_some, slice_get}
use Rattle.std.specs.List.{cons_option, range_with_len}
use Rattle.std.proofs.lemmas.List.Quantifiers.{position-Some}
use Rattle.std.specs.Option.{option_map}
use Rattle.std.proofs.lemmas.List.{length-map}
use Rattle.std.proofs.lemmas.List.FromFn.{get_or-map-range_with_len, length-map-range_with_len}
use Rattle.std.proofs.lemmas.Option.{slice_get-get_or, slice_get-map, slice_get_within}
use Rattle.l4_model.specs.Words.{Id, same_id}
use Rattle.l4_model.specs.Machine.{Machine, place_of}
use Rattle.l4_model.specs.Steps.{Step}
use Rattle.l4_model.specs.World.{Name, Send, Thread}
use Rattle.l4_model.specs.Conditions.{◌>>=◌, ◌>>◌}
use Rattle.l4_model.specs.History.{begun_name}
use Rattle.l4_model.proofs.Chains.{some_is}
use Rattle.l4_core_model.specs.Local.{Local, thread, undeclared}
use Rattle.l4_core_model.specs.Runs.{Run, processors}
use Rattle.l4_merge.specs.LocalTraces.{LocalTrace}
use Rattle.l4_merge.specs.Merges.{EndsAt}
use Rattle.l4_merge.proofs.Processors.{of_processor}
use Rattle.l4_core.specs.Processor.{Processor as Core}
use Rattle.l4_mail.specs.Ports.{AreWhole}
use Rattle.l4_proc.specs.Rests.{HaveHandledAll}
use Rattle.l4_proc.specs.declared.processor.Processor.{Processor}
use Rattle.l4_proc.proofs.Rested.{port_of}
use Rattle.l4_refines.specs.Laws.{AreAllHandled, destination_of}
use Rattle.l4_machine.specs.Gathers.{core_of, past_of, pasts_of, with_number, AreOfOne, HaveNumbers}
use Rattle.l4_replay.specs.declared.homes.OwnerView.{OwnerView}
use Rattle.l4_replay.specs.Inner.Heard.{waits_by}
use Rattle.l4_replay.specs.Inner.Homes.{last_send, locals_of, sent_to, sent_waiting, AreAllOf, AreThreads}
use Rattle.l4_machine.proofs.InOneHand.{all_handled_between, found, nothing_left}

-- Of processors in one hand

abbrev numbered : List Processor → ℕ → Option Core
numbered ps cpu = option_map core_of (with_number cpu ps)

here : (m : Machine) (ps : List Processor) (cpu : ℕ) (c : Core) → AreOfOne m ps → numbered ps cpu ≡ Some c → (c.machine ≡ m) × ((past_of m cpu (with_number cpu ps)).local ≡ c.local)
here m ps cpu c all is = by (with_number cpu ps) refl is
  where
    by : (o : Option Processor) → with_number cpu ps ≡ o → option_map core_of o ≡ Some c → (c.machine ≡ m) × ((past_of m cpu o).local ≡ c.local)
    by None at is = cc
    by (Some p) at is =
        let f = found cpu ps p at in
        let same : p.worker.core ≡ c = some_is p.worker.core c is in
        (ap (λ (c : Core). c.machine) (sym same) ∙ (all.each f.at p f.here).machine, ap (λ (c : Core). c.local) same)

locals_from : (m : Machine) (ps : List Processor) (cpus : List ℕ) (cores : List Core) → AreOfOne m ps → map Some cores ≡ map (numbered ps) cpus →
    locals_of cores ≡ map (λ (past : LocalTrace). past.local) (map (λ cpu. past_of m cpu (with_number cpu ps)) cpus)
locals_from m ps [] [] all is = refl
locals_from m ps [] (c ∷ cores) all is = cc
locals_from m ps (cpu ∷ cpus) [] all is = cc
locals_from m ps (cpu ∷ cpus) (c ∷ cores) all is =
    let first : numbered ps cpu ≡ Some c = cc in
    let rest : map Some cores ≡ map (numbered ps) cpus = cc in
    ap₂ (λ (l : Local) (ls : List Local). l ∷ ls) (sym (here m ps cpu c all first).1) (locals_from m ps cpus cores all rest)

pub locals_there : (m : Machine) (ps : List Processor) (cores : List Core) → AreOfOne m ps → map Some cores ≡ map (numbered ps) (processors m) →
    locals_of cores ≡ map (λ (past : LocalTrace). past.local) (pasts_of m ps)
locals_there m ps cores all is = locals_from m ps (processors m) cores all is

pub all_there : (m : Machine) (ps : List Processor) (cores : List Core) → AreOfOne m ps → map Some cores ≡ map (numbered ps) (processors m) → AreAllOf m cores
all_there m ps cores all is = record {
  count = sym (length-map cores Some) ∙ ap length is ∙ length-map-range_with_len (numbered ps) 0 m.cpus;
  each = λ cpu c at. (here m ps cpu c all (of_processor m (numbered ps) cpu (Some c) (ap (λ xs. slice_get xs cpu) (sym is) ∙ slice_get-map Some cores cpu ∙ ap (option_map Some) at)).1).0;
}

pub within_some : {A : Type 0} (xs : List A) (i : ℕ) → is_some (slice_get xs i) ≡ true → i < length xs
within_some {A} xs i is = by (slice_get xs i) refl is
  where
    by : (o : Option A) → slice_get xs i ≡ o → is_some o ≡ true → i < length xs
    by None at is = cc
    by (Some x) at is = slice_get_within xs i x at

-- Each core once, through whatever it is looked at.
pub some_each : {A : Type 0} (f : A → Core) (xs : List A) → map (λ x. Some (f x)) xs ≡ map Some (map f xs)
some_each f [] = refl
some_each f (x ∷ xs) = ap (λ rest. Some (f x) ∷ rest) (some_each f xs)

-- All letters are handled.
pub handled_there : (m : Machine) (ps : List Processor) (r : Run) → AreOfOne m ps → HaveNumbers m.cpus ps → AreWhole (map port_of ps) → EndsAt r (pasts_of m ps) →
    HaveHandledAll ps → AreAllHandled r.system
handled_there m ps r all have whole ends handled = λ from to.
    nothing_left _ _ (sym (ends.mail from to) ∙ all_handled_between m ps all have whole handled from to)

-- The sends that wait

sent_there : (m : Machine) (t : ℕ → Thread) (a : OwnerView) (i : ℕ) → AreThreads m t a → i < length m.threads →
    slice_get a.sends.items i ≡ Some (last_send (t i))
sent_there m t a i is lt =
    let f = λ (i : ℕ). last_send (t i) in
    let size = length-map-range_with_len f 0 (length m.threads) in
    ap (λ xs. slice_get xs i) is.sends
    ∙ slice_get-get_or (map f (range_with_len 0 (length m.threads))) i (f i) (omega arith)
    ∙ ap Some (get_or-map-range_with_len f 0 (length m.threads) i i (f i) lt (omega arith))

sent_is : (k : ℕ) (t : Thread) → sent_to k (Some (last_send t)) ≡ destination_of k t
sent_is k t = by (t.context.begun == k) t.send
  where
    by : (b : Bool) (o : Option Send) → cond b (option_map (λ (send : Send). send.to) o) None ≡ (b >> (o >>= λ send. Some send.to))
    by true None = refl
    by true (Some send) = refl
    by false None = refl
    by false (Some send) = refl

abbrev named : Name → Id → Option (Name × Id)
named s to = Some (s, to)

waits_there : (m : Machine) (t : ℕ → Thread) (a : OwnerView) (step : Step) → AreThreads m t a →
    sent_waiting m a.sends.items step ≡ waits_by m t step
waits_there m t a step is = by (begun_name step)
  where
    at : (s : Name) (o : Option ℕ) → place_of m s.thread ≡ o →
        (o >>= λ i. sent_to s.k (slice_get a.sends.items i) >>= named s)
        ≡ (o >>= λ i. destination_of s.k (t i) >>= named s)
    at s None is_none = refl
    at s (Some i) is_there =
        let lt = (position-Some (λ d. same_id d.id s.thread) m.threads i undeclared is_there).0 in
        ap (λ (o : Option Id). o >>= named s) (ap (sent_to s.k) (sent_there m t a i is lt) ∙ sent_is s.k (t i))

    by : (o : Option Name) →
        (o >>= λ s. place_of m s.thread >>= λ i. sent_to s.k (slice_get a.sends.items i) >>= named s)
        ≡ (o >>= λ s. place_of m s.thread >>= λ i. destination_of s.k (t i) >>= named s)
    by None = refl
    by (Some s) = at s (place_of m s.thread) refl

pub all_wait_there : (m : Machine) (t : ℕ → Thread) (a : OwnerView) (h : List Step) → AreThreads m t a →
    filter_map (sent_waiting m a.sends.items) h ≡ filter_map (waits_by m t) h
all_wait_there m t a [] is = refl
all_wait_there m t a (step ∷ h) is = ap₂ cons_option (waits_there m t a step is) (all_wait_there m t a h is)
