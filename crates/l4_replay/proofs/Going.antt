-- How the processors of a replay go on.
use Rattle.std.proofs.Common.{◌≡◌, ℕ, ◌+◌, ◌<◌, ◌^◌, true, false, Option, Some, None, List, [], ◌∷◌}
use Rattle.std.proofs.Common.{◌++◌, length, map, get_or, set, refl, ap, ap₂, sym, ◌∙◌, subst, arith, length-append}
use Rattle.std.proofs.Common.{append-nil}
use Rattle.std.specs.Prelude.{drop, nat_lt, slice_get, ◌&&◌}
use Rattle.std.specs.Option.{option_map}
use Rattle.std.proofs.Math.Seq.{map-set_same}
use Rattle.std.proofs.lemmas.Bool.{and_parts}
use Rattle.std.proofs.lemmas.Bool.Decides.{nat_tests}
use Rattle.std.proofs.lemmas.List.{get_or-map, length-map, map-set}
use Rattle.std.proofs.lemmas.Option.{slice_get-get_or, slice_get-map}
use Rattle.l4_model.specs.Conditions.{◌>>=◌}
use Rattle.l4_model.specs.Machine.{Machine}
use Rattle.l4_model.specs.Steps.{Step}
use Rattle.l4_model.specs.Words.{clock_limit}
use Rattle.l4_model.specs.World.{changed}
use Rattle.l4_model.proofs.Chains.{set_changed, some_is}
use Rattle.l4_core_model.specs.Acts.{Work}
use Rattle.l4_core_model.specs.Letters.{Letter}
use Rattle.l4_core_model.specs.Runs.{Action, Happened, IsMachine, Run, System, done, happens, then_event}
use Rattle.l4_core_model.specs.Runs.{opening_run, opening_system, told}
use Rattle.l4_core_model.specs.Schedules.{CoreOf, Entry, LetterOf, TickOf, TickTo, TurnOf, entry_event, or_stays}
use Rattle.l4_core_model.proofs.Telling.{told-last}
use Rattle.l4_merge.proofs.Destinations.{letters_go_elsewhere}
use Rattle.l4_core.specs.EventBuffers.{EventBuffer, IsOpen}
use Rattle.l4_core.specs.Inner.Turning.{work}
use Rattle.l4_core.specs.Processor.{Processor as Core}
use Rattle.l4_replay.specs.Entries.{after_entry, is_entry, processor_of}
use Rattle.l4_replay.specs.Inner.Inboxes.{letters_in}
use Rattle.l4_replay.specs.Inner.Nodes.{HasTried, KnowsPoster, station_of}
use Rattle.l4_replay.specs.Inner.Processors.{HasEndedEvent, stations_of, under_way}
use Rattle.l4_replay.specs.Stations.{CanGoOn, Station, with_letter}
use Rattle.l4_replay.specs.UnderWay.{CanPost, IsRun, IsSystem, UnderWay, with_letters}
use Rattle.l4_replay.specs.declared.node.Node.{Node}
use Rattle.l4_replay.specs.declared.processors.Processors.{Processors}
use Rattle.l4_replay.proofs.Action.{AllLawful, Happens, then_is}
use Rattle.l4_replay.proofs.Nodes.{can_go_on_at, entry_done, entry_undone}
use Rattle.l4_replay.proofs.Posting.{post_more}
use Rattle.l4_replay.proofs.Systems.{can_post, done_system}

pub opening_is : (m : Machine) (p : Processors) → IsMachine m → p.machine.now ≡ m →
    IsSystem m (opening_system m) (stations_of p) → p.events ≡ 0 → IsRun m (opening_run m) (under_way p)
opening_is m p lawful machine system events = record {
  machine = machine;
  lawful = lawful;
  core_run = ([], refl);
  system = system;
  events = events;
}

-- A node is read, and written again.

pub record IsHere (nodes : List Node) (i cpu : ℕ) (n : Node) : Type 0 where
  pub within : i < length nodes
  pub at : slice_get (map station_of nodes) cpu ≡ Some (station_of n)

pub node_here : (nodes : List Node) (i cpu : ℕ) (n : Node) → i ≡ cpu → cpu < length nodes → n ≡ get_or nodes i n →
    IsHere nodes i cpu n
node_here nodes i cpu n same lt at = record {
  within = omega (arith, same, lt);
  at = ap (slice_get (map station_of nodes)) (sym same) ∙ slice_get-map station_of nodes i
      ∙ ap (option_map station_of) (slice_get-get_or nodes i n (omega (arith, same, lt)) ∙ ap Some (sym at));
}

pub set_node : (nodes : List Node) (i cpu : ℕ) (new : Node) → i ≡ cpu → i < length nodes →
    map station_of (set nodes i new) ≡ changed (λ s. station_of new) (map station_of nodes) cpu
set_node nodes i cpu new same lt =
    let size = length-map nodes station_of in
    map-set station_of nodes i new
    ∙ set_changed (λ (s : Station). station_of new) (map station_of nodes) i (station_of new) (station_of new)
    (omega (arith, size, lt)) refl
    ∙ ap (changed (λ s. station_of new) (map station_of nodes)) same

-- The cores of nodes are those of their stations.
pub cores_mapped : (nodes : List Node) →
    map (λ (n : Node). n.core) nodes ≡ map (λ (s : Station). s.core) (map station_of nodes)
cores_mapped [] = refl
cores_mapped (n ∷ nodes) = ap (λ (cores : List Core). n.core ∷ cores) (cores_mapped nodes)

pub none_first : {A : Type 0} (xs : List A) → None ≡ slice_get xs 0 → xs ≡ []
none_first [] none = refl
none_first (x ∷ xs) none = cc

-- One letter is delivered.
pub one_delivered : (from to i : ℕ) (letter : Letter) (letters : List (ℕ × Letter)) (nodes : List Node) (old new : Node) →
    i ≡ to → slice_get letters 0 ≡ Some (to, letter) → CanPost from letters (map station_of nodes) →
    old ≡ get_or nodes i old → new.core ≡ old.core →
    letters_in new.inbox ≡ changed (λ ls. ls ++ letter ∷ []) (letters_in old.inbox) from →
    (with_letters from (drop 1 letters) (map station_of (set nodes i new))
    ≡ with_letters from letters (map station_of nodes))
    × CanPost from (drop 1 letters) (map station_of (set nodes i new))
one_delivered from to i letter [] nodes old new same first can read core inbox = cc
one_delivered from to i letter (p ∷ rest) nodes old new same first can read core inbox =
    let is : p ≡ (to, letter) = some_is p (to, letter) first in
    let size = length-map nodes station_of in
    let whole : p ∷ rest ≡ (to, letter) ∷ rest = ap (λ p. p ∷ rest) is in
    let within : i < length nodes =
    let below : to < length (map station_of nodes) =
    (subst (λ ps. CanPost from ps (map station_of nodes)) whole can).0.0.0 in
    omega (arith, below, size, same) in
    let at : station_of old ≡ get_or (map station_of nodes) i (station_of old) =
    ap station_of read ∙ sym (get_or-map station_of nodes i old (station_of old) within) in
    let comes : station_of new ≡ with_letter from letter (station_of old) =
    ap₂ {C = Station} (λ (core : Core) (inbox : List (List Letter)). record { core = core; inbox = inbox }) core inbox in
    let more = post_more from to i letter (p ∷ rest) rest (map station_of nodes) (station_of old) (station_of new) same
    whole can at comes in
    let written : map station_of (set nodes i new) ≡ set (map station_of nodes) i (station_of new) =
    map-set station_of nodes i new in (
      ap (with_letters from rest) written ∙ sym more.come,
      subst (CanPost from rest) (sym written) more.can,
    )

-- The letter goes to a processor that there is, which has a place for it.
pub letter_goes : (from : ℕ) (letters : List (ℕ × Letter)) (to : ℕ) (letter : Letter) (nodes : List Node) →
    CanPost from letters (map station_of nodes) → slice_get letters 0 ≡ Some (to, letter) → to < length nodes
letter_goes from [] to letter nodes can first = cc
letter_goes from (p ∷ rest) to letter nodes can first =
    let is = ap (λ (p : ℕ × Letter). p.0) (some_is p (to, letter) first) in
    let below = can.0.0.0 in
    let size = length-map nodes station_of in
    omega (arith, is, below, size)

pub letter_fits : (from i to : ℕ) (letters : List (ℕ × Letter)) (nodes : List Node) (n : Node) →
    CanPost from letters (map station_of nodes) → IsHere nodes i to n → from < length (letters_in n.inbox)
letter_fits from i to letters nodes n can here = can.1 to (station_of n) here.at

-- What was done for an entry

-- An entry of the machine names a processor that there is, and its letter's poster has a place.
pub entry_cpu : (m : Machine) (entry : Entry) → is_entry m entry ≡ true → processor_of entry < m.cpus
entry_cpu m (TurnOf cpu) is = grind (arith, nat_tests)
entry_cpu m (TickOf cpu) is = grind (arith, nat_tests)
entry_cpu m (CoreOf cpu) is = grind (arith, nat_tests)
entry_cpu m (LetterOf cpu from) is =
    let lt : nat_lt cpu m.cpus ≡ true = (and_parts (nat_lt cpu m.cpus) (nat_lt from m.cpus) is).0 in
    grind (arith, nat_tests)
entry_cpu m (TickTo cpu clock) is =
    let both : (nat_lt cpu m.cpus && nat_lt 0 clock) ≡ true =
    (and_parts (nat_lt cpu m.cpus && nat_lt 0 clock) (nat_lt clock clock_limit) is).0 in
    let lt : nat_lt cpu m.cpus ≡ true = (and_parts (nat_lt cpu m.cpus) (nat_lt 0 clock) both).0 in
    grind (arith, nat_tests)

pub entry_poster : (m : Machine) (entry : Entry) (n : ℕ) → is_entry m entry ≡ true → n ≡ m.cpus → KnowsPoster n entry
entry_poster m (TurnOf cpu) n is same = tt
entry_poster m (TickOf cpu) n is same = tt
entry_poster m (CoreOf cpu) n is same = tt
entry_poster m (TickTo cpu clock) n is same = tt
entry_poster m (LetterOf cpu from) n is same =
    let lt : nat_lt from m.cpus ≡ true = (and_parts (nat_lt cpu m.cpus) (nat_lt from m.cpus) is).1 in
    grind (arith, nat_tests)

-- What it posted can be posted.
pub can_post_at : (m : Machine) (g : System) (e : Action) (cpu : ℕ) (ss : List Station) (s : Station) (x : Work) →
    IsMachine m → cpu < m.cpus → Happens m g e cpu ss s x → CanPost cpu x.letters (changed (λ y. s) ss cpu)
can_post_at m g e cpu ss s x lawful lt h =
    subst (CanPost cpu x.letters) h.written
    (can_post m h.before h.stations cpu h.old s x h.system h.at h.same lt
    (letters_go_elsewhere m cpu h.local h.event x lawful lt h.does))

-- An entry was done, or could not be: the run goes on, and these steps are what it tells more.
pub record HasGone (m : Machine) (r : Run) (entry : Entry) (u : UnderWay) (steps : List Step) : Type 0 where
  pub run : IsRun m (after_entry entry m r) u
  pub more : told (after_entry entry m r).events ≡ told r.events ++ steps

-- The run goes on by an event.
event_gone : (m : Machine) (r : Run) (old new : Processors) (entry : Entry) (e : Action) (cpu : ℕ) (s : Station)
    (x : Work) → IsRun m r (under_way old) → entry_event m r.system entry ≡ Some e → cpu < m.cpus →
    Happens m r.system e cpu (stations_of old) s x → new.machine.now ≡ old.machine.now →
    stations_of new ≡ with_letters cpu x.letters (changed (λ y. s) (stations_of old) cpu) →
    new.events ≡ old.events + 1 → HasGone m r entry (under_way new) x.steps
event_gone m r old new entry e cpu s x is asks lt h machine stations events =
    let can = can_post_at m r.system e cpu (stations_of old) s x is.lawful lt h in
    let after : Happened = done cpu h.before x in
    let count = length-append r.events (after.event ∷ []) in
    let so_far = is.events in
    let next : after_entry entry m r ≡ then_event r after =
    ap (λ (o : Option Action). or_stays r (o >>= happens m r.system)) asks ∙ ap (or_stays r) h.is in
    record {
      run = subst (λ q. IsRun m q (under_way new)) (sym next) (record {
        machine = machine ∙ is.machine;
        lawful = is.lawful;
        core_run = then_is m r e after is.core_run h.is;
        system = subst (IsSystem m after.system) (ap (with_letters cpu x.letters) h.written ∙ sym stations)
            (done_system m h.before h.stations cpu h.old s x h.system h.at h.same
            (subst (CanPost cpu x.letters) (sym h.written) can));
        events = omega (arith, events, so_far, count);
      });
      more = ap (λ (q : Run). told q.events) next ∙ told-last r.events after.event;
    }

-- Nothing was done.
none_gone : (m : Machine) (r : Run) (u : UnderWay) (entry : Entry) (steps : List Step) → IsRun m r u →
    (entry_event m r.system entry >>= happens m r.system) ≡ None → steps ≡ [] → HasGone m r entry u steps
none_gone m r u entry steps is none nothing =
    let next : after_entry entry m r ≡ r = ap (or_stays r) none in
    record {
      run = subst (λ q. IsRun m q u) (sym next) is;
      more = ap (λ (q : Run). told q.events) next
          ∙ sym (ap (λ xs. told r.events ++ xs) nothing ∙ append-nil (told r.events));
    }

-- The processor of an entry

pub record IsEntryHere (m : Machine) (p : Processors) (entry : Entry) (i : ℕ) (n : Node) : Type 0 where
  pub below : processor_of entry < m.cpus
  pub here : IsHere p.nodes.items i (processor_of entry) n
  pub poster : KnowsPoster (length (letters_in n.inbox)) entry

pub entry_here : (m : Machine) (r : Run) (p : Processors) (entry : Entry) (i : ℕ) (n : Node) →
    IsRun m r (under_way p) → is_entry p.machine.now entry ≡ true → i ≡ processor_of entry →
    n ≡ get_or p.nodes.items i n → IsEntryHere m p entry i n
entry_here m r p entry i n is lawful_here same at =
    let lawful : is_entry m entry ≡ true = subst (λ m. is_entry m entry ≡ true) is.machine lawful_here in
    let below = entry_cpu m entry lawful in
    let size = length-map p.nodes.items station_of in
    let count = is.system.for_each in
    let here = node_here p.nodes.items i (processor_of entry) n same (omega (arith, below, size, count)) at in
    record {
      below = below;
      here = here;
      poster = entry_poster m entry (length (letters_in n.inbox)) lawful
          (is.system.each (processor_of entry) (station_of n) here.at).inbox;
    }

pub can_go_on : AllLawful → (m : Machine) (r : Run) (p : Processors) (entry : Entry) (i : ℕ) (n : Node) →
    IsRun m r (under_way p) → p.events < 2 ^ 61 → IsEntryHere m p entry i n → CanGoOn (station_of n)
can_go_on law m r p entry i n is few here =
    let count = is.events in
    can_go_on_at law m r (stations_of p) (processor_of entry) (station_of n) is.lawful is.core_run is.system
    (omega (arith, few, count)) here.here.at

-- The event of an entry posts letters that can be delivered.
pub can_deliver : (m : Machine) (r : Run) (p : Processors) (entry : Entry) (cpu i : ℕ) (n k : Node)
    (first after : EventBuffer) → IsRun m r (under_way p) → cpu ≡ processor_of entry → i ≡ processor_of entry →
    IsEntryHere m p entry i n → HasTried entry true n k first after →
    CanPost cpu after.letters (map station_of (set p.nodes.items i k))
can_deliver m r p entry cpu i n k first after is this same here tried =
    let d = entry_done m r.system (stations_of p) n k first after is.system entry here.here.at here.poster tried in
    subst (λ cpu. CanPost cpu after.letters (map station_of (set p.nodes.items i k))) (sym this)
    (subst (CanPost (processor_of entry) after.letters)
    (sym (set_node p.nodes.items i (processor_of entry) k same here.here.within))
    (can_post_at m r.system d.action (processor_of entry) (stations_of p) (station_of k) (work k.core.local after)
    is.lawful here.below d.happens))

-- What an event adds to its buffer

pub nothing_yet : (b : EventBuffer) → IsOpen b → b.before ≡ b.before ++ b.steps
nothing_yet b opened = sym (ap (λ xs. b.before ++ xs) opened.steps ∙ append-nil b.before)

pub done_kept : (m : Machine) (r : Run) (p : Processors) (entry : Entry) (i : ℕ) (n k : Node)
    (first after : EventBuffer) → IsRun m r (under_way p) → IsEntryHere m p entry i n →
    HasTried entry true n k first after → after.before ≡ first.before
done_kept m r p entry i n k first after is here tried =
    (entry_done m r.system (stations_of p) n k first after is.system entry here.here.at here.poster tried).kept

pub undone_kept : (m : Machine) (r : Run) (p : Processors) (entry : Entry) (i : ℕ) (n k : Node)
    (first after : EventBuffer) → IsRun m r (under_way p) → IsEntryHere m p entry i n →
    HasTried entry false n k first after → after.before ≡ first.before
undone_kept m r p entry i n k first after is here tried =
    ap (λ (b : EventBuffer). b.before)
    (entry_undone m r.system (stations_of p) n k first after is.system entry here.here.at tried).untold

-- The event of an entry has ended.
pub ended_gone : (m : Machine) (r : Run) (old mid new : Processors) (entry : Entry) (cpu i : ℕ) (n k : Node)
    (first between last : EventBuffer) → IsRun m r (under_way old) → cpu ≡ processor_of entry →
    i ≡ processor_of entry → IsEntryHere m old entry i n → HasTried entry true n k first between →
    mid.nodes.items ≡ set old.nodes.items i k → mid.events ≡ old.events → mid.machine.now ≡ old.machine.now →
    HasEndedEvent cpu mid new between last → HasGone m r entry (under_way new) last.steps
ended_gone m r old mid new entry cpu i n k first between last is this same here tried nodes events machine ended =
    let d = entry_done m r.system (stations_of old) n k first between is.system entry here.here.at here.poster tried in
    let x : Work = work k.core.local between in
    subst (HasGone m r entry (under_way new)) (sym ended.steps)
    (event_gone m r old new entry d.action (processor_of entry) (station_of k) x is d.asks here.below d.happens
    (ended.machine ∙ machine)
    (ended.stations
    ∙ ap₂ (λ cpu ns. with_letters cpu between.letters (map station_of ns)) this nodes
    ∙ ap (with_letters (processor_of entry) between.letters)
    (set_node old.nodes.items i (processor_of entry) k same here.here.within))
    (ended.events ∙ ap (λ n. n + 1) events))

-- What an entry asks for could not be done.
pub stays_gone : (m : Machine) (r : Run) (old new : Processors) (entry : Entry) (i : ℕ) (n k : Node)
    (first after : EventBuffer) → IsRun m r (under_way old) → IsEntryHere m old entry i n →
    n ≡ get_or old.nodes.items i n → IsOpen first → HasTried entry false n k first after →
    new.nodes.items ≡ set old.nodes.items i k → new.events ≡ old.events → new.machine.now ≡ old.machine.now →
    HasGone m r entry (under_way new) after.steps
stays_gone m r old new entry i n k first after is here read opened tried nodes events machine =
    let d = entry_undone m r.system (stations_of old) n k first after is.system entry here.here.at tried in
    let stations : stations_of new ≡ stations_of old =
    ap (map station_of) nodes
    ∙ map-set_same station_of old.nodes.items i k n (ap station_of d.same ∙ ap station_of read) in
    none_gone m r (under_way new) entry after.steps (record {
      machine = machine ∙ is.machine;
      lawful = is.lawful;
      core_run = is.core_run;
      system = subst (IsSystem m r.system) (sym stations) is.system;
      events = events ∙ is.events;
    })
    d.none (ap (λ (b : EventBuffer). b.steps) d.untold ∙ opened.steps)
