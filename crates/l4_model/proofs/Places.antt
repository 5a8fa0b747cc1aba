-- Ids, names and places: what is known of a thread or a send that was found.
use Rattle.std.proofs.Common.{subst, ◌≡◌, ℕ, ◌<◌, Bool, true, false, Some, [], length, refl, ap, sym, ◌∙◌, arith, get_or}
use Rattle.std.proofs.lemmas.Bool.{eqb-true}
use Rattle.std.proofs.lemmas.Bool.Decides.{nat_tests}
use Rattle.std.proofs.lemmas.Option.{slice_get-get_or}
use Rattle.std.proofs.lemmas.List.Quantifiers.{position-Some}
use Rattle.std.specs.Prelude.{slice_get, slice_index, ◌==◌, ◌&&◌}
use Rattle.l4_model.specs.Words.{GlobalId, Id, NilThread, AnyThread, AnyLocalThread, LocalThread, GlobalThread, same_id}
use Rattle.l4_model.specs.Machine.{Machine, Declaration, place_of}
use Rattle.l4_model.specs.World.{World, Name}
use Rattle.l4_model.specs.Conditions.{Found, found, found_by, Pending, undecided}
use Rattle.l4_model.specs.Laws.{same_name}
use Rattle.l4_model.specs.Reached.{place_to}
use Rattle.l4_model.proofs.Chains.{bind_then, guard_then, some_is}

-- tests on names
pub and_true : (a b : Bool) → (a && b) ≡ true → (a ≡ true) × (b ≡ true)
and_true true b h = (refl, h)
and_true false b h = cc

pub same_id_is : (a b : GlobalId) → same_id a b ≡ true → a ≡ b
same_id_is a b h =
    let both = and_true (a.number == b.number) (a.version == b.version) h in
    let number : a.number ≡ b.number = eqb-true _ _ both.0 in
    let version : a.version ≡ b.version = eqb-true _ _ both.1 in
    ap (λ n. record { number = n; version = a.version }) number ∙ ap (λ v. record { number = b.number; version = v }) version

pub same_name_is : (a b : Name) → same_name a b ≡ true → a ≡ b
same_name_is a b h =
    let both = and_true (same_id a.thread b.thread) (a.k == b.k) h in
    let thread = same_id_is a.thread b.thread both.0 in
    let k : a.k ≡ b.k = eqb-true _ _ both.1 in
    ap (λ t. record { thread = t; k = a.k }) thread ∙ ap (λ k. record { thread = b.thread; k = k }) k

pub eqb_same : (n : ℕ) → (n == n) ≡ true
eqb_same n = grind (arith, nat_tests)

pub same_name_refl : (s : Name) → same_name s s ≡ true
same_name_refl s = rw (eqb_same s.thread.number, eqb_same s.thread.version, eqb_same s.k)

-- What is known of a thread that was found.
pub record Known (m : Machine) (w : World) (id : GlobalId) (t : Found) : Type 0 where
  pub place : place_of m id ≡ Some t.at
  pub declared : slice_get m.threads t.at ≡ Some t.declared
  pub now : slice_get w.threads t.at ≡ Some t.now
  pub clock : t.clock ≡ slice_index w.clocks t.declared.cpu

pub known : (m : Machine) (w : World) (id : GlobalId) (t : Found) → found m w id ≡ Some t → Known m w id t
known m w id t h =
    bind_then (place_of m id) _ t h λ i place rest.
    bind_then (slice_get m.threads i) _ t rest λ d declared rest.
    bind_then (slice_get w.threads i) _ t rest λ x now rest.
    subst (Known m w id) (some_is _ t rest) (record { place = place; declared = declared; now = now; clock = refl })

-- What is known of an undecided send.
pub record KnownSend (m : Machine) (w : World) (s : Name) (p : Pending) : Type 0 where
  pub sender : Known m w s.thread p.sender
  pub last : p.sender.now.context.begun ≡ s.k
  pub send : p.sender.now.send ≡ Some p.send

pub known_send : (m : Machine) (w : World) (s : Name) (p : Pending) → undecided m w s ≡ Some p → KnownSend m w s p
known_send m w s p h =
    bind_then (found m w s.thread) _ p h λ t sender rest.
    guard_then (t.now.context.begun == s.k) _ p rest λ last rest.
    bind_then t.now.send _ p rest λ send has rest.
    subst (KnownSend m w s) (some_is _ p rest) (record { sender = known m w s.thread t sender; last = eqb-true _ _ last; send = has })

-- the sender of an undecided send was found
pub sender_found : (m : Machine) (w : World) (s : Name) (p : Pending) → undecided m w s ≡ Some p → found m w s.thread ≡ Some p.sender
sender_found m w s p h =
    bind_then (found m w s.thread) _ p h λ t sender rest.
    guard_then (t.now.context.begun == s.k) _ p rest λ last rest.
    bind_then t.now.send _ p rest λ send has rest.
    sender ∙ ap (λ (q : Pending). Some q.sender) (some_is _ p rest)

-- two ids of one place are one
pub place_id : (m : Machine) (a : GlobalId) (i : ℕ) → place_of m a ≡ Some i → (d : Declaration) → (i < length m.threads) × ((get_or m.threads i d).id ≡ a)
place_id m a i h d =
    let p = position-Some (λ (x : Declaration). same_id x.id a) m.threads i d h in
    (p.0, same_id_is (get_or m.threads i d).id a p.1)

pub one_place : (m : Machine) (a b : GlobalId) (i : ℕ) → place_of m a ≡ Some i → place_of m b ≡ Some i → a ≡ b
one_place m a b i ha hb =
    let d : Declaration = record { id = a; cpu = 0; space = 0; script = [] } in
    sym (place_id m a i ha d).1 ∙ (place_id m b i hb d).1

-- who receives is not gone
pub id_of : (m : Machine) (w : World) (id : GlobalId) (t : Found) → found m w id ≡ Some t → (t.declared.id ≡ id) × (place_of m id ≡ Some t.at)
id_of m w id t is =
    let k = known m w id t is in
    let there = place_id m id t.at k.place t.declared in
    let same : get_or m.threads t.at t.declared ≡ t.declared = some_is _ _ (sym (slice_get-get_or m.threads t.at t.declared there.0) ∙ k.declared) in
    (ap (λ (d : Declaration). d.id) (sym same) ∙ there.1, k.place)

pub receiver_place : (m : Machine) (w : World) (to : Id) (r : Found) → found_by m w to ≡ Some r → place_of m r.declared.id ≡ Some r.at
receiver_place m w NilThread r is = cc
receiver_place m w AnyThread r is = cc
receiver_place m w AnyLocalThread r is = cc
receiver_place m w (LocalThread word) r is = cc
receiver_place m w (GlobalThread t) r is = let k = id_of m w t r is in ap (place_of m) k.0 ∙ k.1

pub receiver_there : (m : Machine) (w : World) (to : Id) (r : Found) → found_by m w to ≡ Some r → slice_get w.threads r.at ≡ Some r.now
receiver_there m w NilThread r is = cc
receiver_there m w AnyThread r is = cc
receiver_there m w AnyLocalThread r is = cc
receiver_there m w (LocalThread word) r is = cc
receiver_there m w (GlobalThread t) r is = (known m w t r is).now

pub found_place : (m : Machine) (w : World) (to : Id) (r : Found) → found_by m w to ≡ Some r → place_to m to ≡ Some r.at
found_place m w NilThread r is = cc
found_place m w AnyThread r is = cc
found_place m w AnyLocalThread r is = cc
found_place m w (LocalThread word) r is = cc
found_place m w (GlobalThread t) r is = (known m w t r is).place
