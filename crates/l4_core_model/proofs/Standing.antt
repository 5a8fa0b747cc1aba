-- Places, and what stands in lists.
use Rattle.std.proofs.Common.{◌≡◌, ℕ, suc, ◌<◌, Bool, true, false, cond, Option, Some, None, List, [], ◌∷◌, length, refl, subst}
use Rattle.std.specs.Prelude.{slice_index_or, ◌||◌}
use Rattle.std.specs.List.{AllByRecursion, list_any}
use Rattle.std.proofs.lemmas.List.Quantifiers.{position-Some}
use Rattle.l4_model.specs.Words.{GlobalId, Id, NilThread, AnyThread, AnyLocalThread, LocalThread, GlobalThread, same_id, Period}
use Rattle.l4_model.specs.Machine.{OrderKind, Instr, Run, Ipc, Ask, End, Machine, place_of}
use Rattle.l4_model.specs.World.{Context, Send, Receive}
use Rattle.l4_model.specs.Rules.{RunsAlone, Sends, Orders, act, ipc_act, ask_act, receive_phase, id_from, is_admitted}
use Rattle.l4_core_model.specs.Plain as plain
use Rattle.l4_core_model.specs.Local.{undeclared, destination_place}

-- A place is one of the machine's.

pub place_within : (m : Machine) (id : GlobalId) (r : ℕ) → place_of m id ≡ Some r → r < length m.threads
place_within m id r h = (position-Some (λ d. same_id d.id id) m.threads r undeclared h).0

pub destination_within : (m : Machine) (to : Id) (r : ℕ) → destination_place m to ≡ Some r → r < length m.threads
destination_within m NilThread r h = cc
destination_within m AnyThread r h = cc
destination_within m AnyLocalThread r h = cc
destination_within m (LocalThread word) r h = cc
destination_within m (GlobalThread t) r h = place_within m t r h

-- A queued sender has its seat.

pub any_at : (p : List plain.Waiting → Bool) (ess : List (List plain.Waiting)) → list_any p ess ≡ true → (r : ℕ) × (p (slice_index_or ess r []) ≡ true)
any_at p [] h = cc
any_at p (es ∷ ess) h = by (p es) refl h (any_at p ess)
  where
    by : (b : Bool) → p es ≡ b → (b || list_any p ess) ≡ true → (list_any p ess ≡ true → (r : ℕ) × (p (slice_index_or ess r []) ≡ true)) → (r : ℕ) × (p (slice_index_or (es ∷ ess) r []) ≡ true)
    by true is h rest = (0, is)
    by false is h rest = let found = rest h in (suc found.0, found.1)

pub any_in : {A : Type 0} (P : A → Type 0) (q : A → Bool) (es : List A) → AllByRecursion P es → list_any q es ≡ true → (e : A) × (q e ≡ true) × P e
any_in P q [] all h = cc
any_in P q (e ∷ es) all h = by (q e) refl h (any_in P q es all.1)
  where
    by : (b : Bool) → q e ≡ b → (b || list_any q es) ≡ true → (list_any q es ≡ true → (x : _) × (q x ≡ true) × P x) → (x : _) × (q x ≡ true) × P x
    by true is h rest = (e, is, all.0)
    by false is h rest = rest h

-- What an instruction sends begins now, and not to nilthread.

pub record BeginsNow (now : ℕ) (send : Send) : Type 0 where
  pub since : send.since ≡ now
  pub not_nil : send.to ≡ NilThread → ⊥

-- of two equal requests, what is known of one
begins_as : (now : ℕ) (a b : Send) → Sends a ≡ Sends b → BeginsNow now a → BeginsNow now b
begins_as now a b h g = let e : a ≡ b = cc in subst (BeginsNow now) e g

ipc_sends : (m : Machine) (id : GlobalId) (now : ℕ) (c : Context) (to : Id) (period : Period) (receive : Option Receive) (send : Send) → ipc_act m id now c to period receive ≡ Sends send → BeginsNow now send
ipc_sends m id now c NilThread period None send h = cc
ipc_sends m id now c NilThread period (Some receive) send h = cc
ipc_sends m id now c AnyThread period receive send h = begins_as now _ send h (record { since = refl; not_nil = λ e. cc })
ipc_sends m id now c AnyLocalThread period receive send h = begins_as now _ send h (record { since = refl; not_nil = λ e. cc })
ipc_sends m id now c (LocalThread word) period receive send h = begins_as now _ send h (record { since = refl; not_nil = λ e. cc })
ipc_sends m id now c (GlobalThread t) period receive send h = begins_as now _ send h (record { since = refl; not_nil = λ e. cc })

ask_sends_none : (m : Machine) (id : GlobalId) (target : Id) (what : OrderKind) (send : Send) → ask_act m id target what ≡ Sends send → ⊥
ask_sends_none m id NilThread what send h = cc
ask_sends_none m id AnyThread what send h = cc
ask_sends_none m id AnyLocalThread what send h = cc
ask_sends_none m id (LocalThread word) what send h = cc
ask_sends_none m id (GlobalThread t) what send h = by (is_admitted m id t what) h
  where
    by : (b : Bool) → cond b (Orders (record { target = t; what = what })) RunsAlone ≡ Sends send → ⊥
    by true h = cc
    by false h = cc

pub act_sends : (m : Machine) (id : GlobalId) (now : ℕ) (c : Context) (i : Instr) (send : Send) → act m id now c i ≡ Sends send → BeginsNow now send
act_sends m id now c (Ipc to from send_period receive_period) send h = ipc_sends m id now c (id_from c to) send_period (receive_phase (id_from c from) receive_period) send h
act_sends m id now c (Ask target what) send h = absurd (ask_sends_none m id (id_from c target) what send h)
act_sends m id now c (Run own) send h = cc
act_sends m id now c End send h = cc
