-- A thread begins the first phase of its Ipc.
use Rattle.std.proofs.Common.{◌≡◌, ℕ, ◌<◌, ◌+◌, ◌^◌, zero, suc, length, get_or, set, map, Bool, true, false, Option, Some, None, List, [], ◌∷◌, refl, ap, sym, ◌∙◌, arith, subst}
use Rattle.std.specs.Prelude.{slice_get, IsSome, IsSomeAnd, slice_index_or, is_some, not, ◌&&◌}
use Rattle.std.specs.Option.{option_map}
use Rattle.std.proofs.lemmas.Bool.{and_parts}
use Rattle.std.proofs.lemmas.List.{length-map}
use Rattle.std.proofs.lemmas.Option.{slice_get-map, get_or_from_slice_get}
use Rattle.l4_model.specs.Words.{Id, NilThread, AnyThread, AnyLocalThread, LocalThread, GlobalThread, GlobalId, global_id, Period}
use Rattle.l4_model.specs.Machine.{Machine, Declaration, Instr, Run, Ipc, Ask, End}
use Rattle.l4_model.specs.World.{Thread, Send, Receive, Owed, World, Name, change, changed}
use Rattle.l4_model.specs.Rules.{Act, RunsAlone, Sends, Receives, Orders, act, ipc_act, id_from, receive_phase}
use Rattle.l4_model.specs.Effects.{begins, waits}
use Rattle.l4_model.specs.Conditions.{Found, found, act_of, instruction}
use Rattle.l4_model.specs.Steps.{Begin, Wait, send_of, receive_of, after_begin, after_wait}
use Rattle.l4_model.proofs.Inversions.{begin_taken, wait_taken}
use Rattle.l4_core_model.specs.Plain.{Waiting}
use Rattle.l4_model.proofs.Chains.{some_is}
use Rattle.l4_model.proofs.Places.{known}
use Rattle.l4_types.specs.Ids.{global_of}
use Rattle.l4_thread.specs.Inner.Parts.{Block}
use Rattle.l4_thread.specs.Inner.Ipcs.{IsPermission, may_show, starts}
use Rattle.l4_thread.specs.Inner.Requests.{asks_to_send, is_end, propagates}
use Rattle.l4_thread.proofs.Asking.{shown_is_global}
use Rattle.l4_audit.specs.Inner.Phases.{is_nil}
use Rattle.l4_audit.specs.Inner.Audited.{Audited, IsOf, with_world}
use Rattle.l4_audit.specs.Starting.{id_at, starts_at, starting, IsStarting, CanStart}
use Rattle.l4_audit.specs.Reasons.{reason}
use Rattle.l4_audit.proofs.Reasoning.{is_possible}
use Rattle.l4_audit.proofs.Writing.{audited, written, is_within}

id_there : (bs : List Block) (i : ℕ) (b : Block) (d : GlobalId) → i < length bs → b ≡ get_or bs i b → slice_index_or (map (λ (x : Block). x.id) bs) i d ≡ b.id
id_there [] i b d lt at = absurd (omega arith)
id_there (x ∷ bs) zero b d lt at = ap (λ (y : Block). y.id) (sym at)
id_there (x ∷ bs) (suc i) b d lt at = id_there bs i b d (omega arith) at

thread_there : (bs : List Block) (i : ℕ) (b : Block) → i < length bs → b ≡ get_or bs i b → slice_get (map (λ (x : Block). x.thread) bs) i ≡ Some b.thread
thread_there [] i b lt at = absurd (omega arith)
thread_there (x ∷ bs) zero b lt at = ap (λ (y : Block). Some y.thread) (sym at)
thread_there (x ∷ bs) (suc i) b lt at = thread_there bs i b (omega arith) at

-- The block at a place where a thread can start.
record StartsHere (m : Machine) (a : Audited) (place : ℕ) (i : Instr) (permitted : Bool) (old : Block) : Type 0 where
  within : place < length a.world.threads
  id : id_at m place ≡ old.id
  thread : IsStarting m (id_at m place) i permitted old.thread

starts_here : (m : Machine) (bs : List Block) (lists : List (List Waiting)) (ws : List (List ℕ)) (cs : List ℕ) (os : List Owed) (a : Audited) (place : ℕ) (i : Instr) (permitted : Bool) (old : Block) → audited m bs ws cs os ≡ a →
    IsOf m bs lists → CanStart a place i permitted → old ≡ get_or bs place old → StartsHere m a place i permitted old
starts_here m bs lists ws cs os a place i permitted old is of can at =
    let machine : a.machine ≡ m = ap (λ (x : Audited). x.machine) (sym is) in
    let lt : place < length a.world.threads = is_within (IsStarting a.machine (id_at a.machine place) i permitted) a.world.threads place can in
    let size : length bs ≡ length a.world.threads = sym (length-map bs (λ (b : Block). b.thread)) ∙ ap (λ (x : Audited). length x.world.threads) is in
    let there : slice_get a.world.threads place ≡ Some old.thread = ap (λ (x : Audited). slice_get x.world.threads place) (sym is) ∙ thread_there bs place old (omega (arith, size)) at in
    record {
      within = lt;
      id = ap (λ ids. slice_index_or ids place (global_id 0 1)) (sym of.ids) ∙ id_there bs place old (global_id 0 1) (omega (arith, size)) at;
      thread = subst (λ n. IsStarting n (id_at n place) i permitted old.thread) machine (subst (λ o. IsSomeAnd o (IsStarting a.machine (id_at a.machine place) i permitted)) there can);
    }

-- An originator that may be shown is named by a global id.
pub start_shown : (m : Machine) (bs : List Block) {lists : List (List Waiting)} (ws : List (List ℕ)) (cs : List ℕ) (os : List Owed) (a : Audited) (place : ℕ) (i : Instr) (permitted : Bool) (old : Block) → audited m bs ws cs os ≡ a →
    IsOf m bs lists → CanStart a place i permitted → old ≡ get_or bs place old → permitted ≡ true → IsSome (global_of old.thread.context.actual)
start_shown m bs {lists} ws cs os a place i permitted old is of can at shown =
    let here = starts_here m bs lists ws cs os a place i permitted old is of can at in
    shown_is_global m (id_at m place) old.thread.context.actual (and_parts _ _ (sym here.thread.shows ∙ shown)).1

-- What its block becomes.
pub started_block : (m : Machine) (bs : List Block) {lists : List (List Waiting)} (ws : List (List ℕ)) (cs : List ℕ) (os : List Owed) (a : Audited) (place : ℕ) (i : Instr) (permitted : Bool) (now : ℕ) (old new : Block) → audited m bs ws cs os ≡ a →
    IsOf m bs lists → CanStart a place i permitted → old ≡ get_or bs place old →
    ((n : Machine) → IsPermission permitted n old.id old.thread.context → new ≡ record old { thread = starts (act n old.id now old.thread.context i) now old.thread }) →
    new ≡ record old { thread = starts_at m (id_at m place) now i old.thread }
started_block m bs {lists} ws cs os a place i permitted now old new is of can at gives =
    let here = starts_here m bs lists ws cs os a place i permitted old is of can at in
    let shows : permitted ≡ (propagates old.thread.context && may_show m old.id old.thread.context.actual) =
    here.thread.shows ∙ ap (λ id. propagates old.thread.context && may_show m id old.thread.context.actual) here.id in
    gives m (λ asks. shows ∙ ap (λ b. b && may_show m old.id old.thread.context.actual) asks) ∙ ap (λ id. record old { thread = starts (act m id now old.thread.context i) now old.thread }) (sym here.id)

pub started : (m : Machine) (bs : List Block) {lists : List (List Waiting)} (ws : List (List ℕ)) (cs : List ℕ) (os : List Owed) (a : Audited) (place : ℕ) (i : Instr) (permitted : Bool) (now : ℕ) (old new : Block) → audited m bs ws cs os ≡ a →
    IsOf m bs lists → CanStart a place i permitted → old ≡ get_or bs place old →
    ((n : Machine) → IsPermission permitted n old.id old.thread.context → new ≡ record old { thread = starts (act n old.id now old.thread.context i) now old.thread }) →
    audited m (set bs place new) ws cs os ≡ with_world a (starting a place now i)
started m bs {lists} ws cs os a place i permitted now old new is of can at gives =
    let machine : a.machine ≡ m = ap (λ (x : Audited). x.machine) (sym is) in
    let here = starts_here m bs lists ws cs os a place i permitted old is of can at in
    let e = started_block m bs ws cs os a place i permitted now old new is of can at gives in
    written m bs ws cs os a place (starts_at m (id_at m place) now i) old new is here.within at e
    ∙ ap (λ n. with_world a (change a.world place (starts_at n (id_at n place) now i))) (sym machine)

-- Of a thread that was found.

pub id_found : (m : Machine) (w : World) (id : GlobalId) (t : Found) → found m w id ≡ Some t → id_at m t.at ≡ t.declared.id
id_found m w id t is =
    let k = known m w id t is in
    let e : slice_get (map (λ (d : Declaration). d.id) m.threads) t.at ≡ Some t.declared.id = slice_get-map (λ (d : Declaration). d.id) m.threads t.at ∙ ap (option_map (λ (d : Declaration). d.id)) k.declared in
    get_or_from_slice_get (map (λ (d : Declaration). d.id) m.threads) t.at t.declared.id (global_id 0 1) e

pub can_start : (a : Audited) (id : GlobalId) (t : Found) (i : Instr) (permitted : Bool) → found a.machine a.world id ≡ Some t →
    (is_end i ≡ false → t.now.context.place < 1024) → (asks_to_send t.now.context i ≡ true → t.now.context.begun + 1 < 2 ^ 64) →
    permitted ≡ (propagates t.now.context && may_show a.machine t.declared.id t.now.context.actual) → CanStart a t.at i permitted
can_start a id t i permitted is room count shows =
    let m : Machine = a.machine in
    let k = known m a.world id t is in
    let here : IsStarting m (id_at m t.at) i permitted t.now = record {
      room = λ e. let lt = room e in omega arith;
      count = count;
      shows = shows ∙ ap (λ x. propagates t.now.context && may_show m x t.now.context.actual) (sym (id_found m a.world id t is));
    } in
    subst (λ o. IsSomeAnd o (IsStarting m (id_at m t.at) i permitted)) (sym k.now) here

changed_at : {A : Type 0} (f g : A → A) (xs : List A) (i : ℕ) (x : A) → slice_get xs i ≡ Some x → f x ≡ g x → changed f xs i ≡ changed g xs i
changed_at f g [] i x h e = refl
changed_at f g (y ∷ xs) zero x h e = let same : y ≡ x = some_is y x h in rw (same, e) refl
changed_at f g (y ∷ xs) (suc i) x h e = ap (λ ys. y ∷ ys) (changed_at f g xs i x h e)

pub changes_at : (w : World) (i : ℕ) (f g : Thread → Thread) (t : Thread) → slice_get w.threads i ≡ Some t → f t ≡ g t → change w i f ≡ change w i g
changes_at w i f g t h e = ap (λ ts. record w { threads = ts }) (changed_at f g w.threads i t h e)

some_send : (a : Act) → is_some (send_of a) ≡ true → (send : Send) × (send_of a ≡ Some send) × ((now : ℕ) (t : Thread) → starts a now t ≡ begins send t)
some_send RunsAlone h = cc
some_send (Sends send) h = (send, refl, λ now t. refl)
some_send (Receives receive) h = cc
some_send (Orders order) h = cc

some_receive : (a : Act) → is_some (receive_of a) ≡ true → (receive : Receive) × (receive_of a ≡ Some receive) × ((now : ℕ) (t : Thread) → starts a now t ≡ waits receive now t)
some_receive RunsAlone h = cc
some_receive (Sends send) h = cc
some_receive (Receives receive) h = (receive, refl, λ now t. refl)
some_receive (Orders order) h = cc

-- A step that begins a phase is what its thread becomes.

pub begins_now : (a : Audited) (s : Name) (t : Found) (i : Instr) → found a.machine a.world s.thread ≡ Some t → reason a.machine a.world (Begin s) ≡ None → i ≡ instruction t →
    after_begin a.machine a.world s ≡ Some (starting a t.at t.clock i)
begins_now a s t i is none instr =
    let m : Machine = a.machine in
    let v = is_possible m a.world (Begin s) none in
    let k = begin_taken m a.world v.0 s v.1 in
    let same : k.t ≡ t = some_is k.t t (sym k.found ∙ is) in
    let sent = some_send (act_of m k.t) (ap is_some k.sends) in
    let send : sent.0 ≡ k.send = some_is sent.0 k.send (sym sent.1 ∙ k.sends) in
    let ids : id_at m k.t.at ≡ k.t.declared.id = id_found m a.world s.thread k.t k.found in
    let instr_k : i ≡ instruction k.t = instr ∙ ap instruction (sym same) in
    let e : begins k.send k.t.now ≡ starts_at m (id_at m k.t.at) k.t.clock i k.t.now = ap (λ x. begins x k.t.now) (sym send) ∙ sym (sent.2 k.t.clock k.t.now) ∙ rw (ids, instr_k) refl in
    let started_at : after_begin m a.world s ≡ Some (starting a k.t.at k.t.clock i) =
    v.1 ∙ ap Some (sym k.leads_to ∙ changes_at a.world k.t.at (begins k.send) (starts_at m (id_at m k.t.at) k.t.clock i) k.t.now (known m a.world s.thread k.t k.found).now e) in
    started_at ∙ ap (λ (x : Found). Some (starting a x.at x.clock i)) same

pub waits_now : (a : Audited) (id : GlobalId) (t : Found) (i : Instr) → found a.machine a.world id ≡ Some t → reason a.machine a.world (Wait id) ≡ None → i ≡ instruction t →
    after_wait a.machine a.world id ≡ Some (starting a t.at t.clock i)
waits_now a id t i is none instr =
    let m : Machine = a.machine in
    let v = is_possible m a.world (Wait id) none in
    let k = wait_taken m a.world v.0 id v.1 in
    let same : k.t ≡ t = some_is k.t t (sym k.found ∙ is) in
    let got = some_receive (act_of m k.t) (ap is_some k.receiving) in
    let receive : got.0 ≡ k.receive = some_is got.0 k.receive (sym got.1 ∙ k.receiving) in
    let ids : id_at m k.t.at ≡ k.t.declared.id = id_found m a.world id k.t k.found in
    let instr_k : i ≡ instruction k.t = instr ∙ ap instruction (sym same) in
    let e : waits k.receive k.t.clock k.t.now ≡ starts_at m (id_at m k.t.at) k.t.clock i k.t.now = ap (λ x. waits x k.t.clock k.t.now) (sym receive) ∙ sym (got.2 k.t.clock k.t.now) ∙ rw (ids, instr_k) refl in
    let started_at : after_wait m a.world id ≡ Some (starting a k.t.at k.t.clock i) =
    v.1 ∙ ap Some (sym k.leads_to ∙ changes_at a.world k.t.at (waits k.receive k.t.clock) (starts_at m (id_at m k.t.at) k.t.clock i) k.t.now (known m a.world id k.t k.found).now e) in
    started_at ∙ ap (λ (x : Found). Some (starting a x.at x.clock i)) same

no_send_at : {P : Type 0} (m : Machine) (t : Found) (i : Instr) → i ≡ instruction t → is_some (receive_of (act_of m t)) ≡ true → asks_to_send t.now.context i ≡ true → P
no_send_at m t i e has asks = by i (subst (λ j. is_some (receive_of (act m t.declared.id t.clock t.now.context j)) ≡ true) (sym e) has) asks
  where
    by_id : {P : Type 0} (to : Id) (period : Period) (receive : Option Receive) → is_some (receive_of (ipc_act m t.declared.id t.clock t.now.context to period receive)) ≡ true → not (is_nil to) ≡ true → P
    by_id NilThread period receive h a = cc
    by_id AnyThread period receive h a = cc
    by_id AnyLocalThread period receive h a = cc
    by_id (LocalThread word) period receive h a = cc
    by_id (GlobalThread x) period receive h a = cc

    by : {P : Type 0} (i : Instr) → is_some (receive_of (act m t.declared.id t.clock t.now.context i)) ≡ true → asks_to_send t.now.context i ≡ true → P
    by (Run own) h a = cc
    by (Ipc to from send_period receive_period) h a = by_id (id_from t.now.context to) send_period (receive_phase (id_from t.now.context from) receive_period) h a
    by (Ask target what) h a = cc
    by End h a = cc

-- A receive phase alone counts no send.
pub no_send : {P : Type 0} (a : Audited) (id : GlobalId) (t : Found) (i : Instr) → i ≡ instruction t → found a.machine a.world id ≡ Some t → reason a.machine a.world (Wait id) ≡ None → asks_to_send t.now.context i ≡ true → P
no_send a id t i e is none asks =
    let m : Machine = a.machine in
    let v = is_possible m a.world (Wait id) none in
    let k = wait_taken m a.world v.0 id v.1 in
    let same : k.t ≡ t = some_is k.t t (sym k.found ∙ is) in
    let has : is_some (receive_of (act_of m t)) ≡ true = ap (λ x. is_some (receive_of (act_of m x))) (sym same) ∙ ap is_some k.receiving in
    no_send_at m t i e has asks
