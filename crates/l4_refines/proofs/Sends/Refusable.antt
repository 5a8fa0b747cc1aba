-- Where home refuses a send of timeout zero, the world may: its receiver neither accepts it now nor will once its call is decided.
use Rattle.std.proofs.lemmas.List.Folds.{find_at}
use Rattle.l4_refines.proofs.Relation.Whereabouts.{where_then}
use Rattle.std.proofs.Common.{◌≡◌, ℕ, Bool, true, false, cond, Option, Some, None, length, refl, ap, sym, ◌∙◌, subst}
use Rattle.std.specs.Prelude.{◌&&◌, not, nat_lt, slice_get}
use Rattle.std.specs.List.{position_or_len}
use Rattle.std.proofs.lemmas.Option.{slice_get-get_or}
use Rattle.l4_model.specs.Words.{GlobalId, Id, NilThread, AnyThread, AnyLocalThread, LocalThread, GlobalThread, same_id}
use Rattle.l4_model.specs.Machine.{Machine, Declaration, place_of, declaration_of, is_declared, same_cpu}
use Rattle.l4_model.specs.World.{Thread, Send, Receive, Phase, Ready, Sending, Receiving, Ordering, Ended, Deleted, is_ready, is_alive}
use Rattle.l4_model.specs.Conditions.{Found, is_refusable, may_still_accept, call_accepts, receive_accepts}
use Rattle.l4_model.specs.Effects.{refused, obeyed, goes_on}
use Rattle.l4_model.specs.Reached.{Suits}
use Rattle.l4_core_model.specs.Letters.{Result, Delivered, Refused, TimedOut, Nobody, Cancelled, Dropped}
use Rattle.l4_core_model.specs.Local.{declared, undeclared, destination_place, after_decision, was_dropped}
use Rattle.l4_core_model.proofs.Standing.{place_within}
use Rattle.l4_core_model.proofs.Choosing.{both}
use Rattle.l4_refines.proofs.Lists.{other_is}
use Rattle.l4_refines.proofs.Relation.Views.{View, home}
use Rattle.l4_refines.proofs.Relation.Rows.{AgreesIn, AgreesByPhase, Agrees, Known}
use Rattle.l4_refines.proofs.Relation.Agreement.{ready_is}
use Rattle.l4_refines.proofs.Frames.Moves.{at_home}

-- A declaration is found at its place.

place_is : (n count q : ℕ) → cond (nat_lt n count) (Some n) None ≡ Some q → n ≡ q
place_is n count q h = by (nat_lt n count) h
  where
    by : (b : Bool) → cond b (Some n) None ≡ Some q → n ≡ q
    by true h = cc
    by false h = cc

found_placed : (m : Machine) (t : GlobalId) (q : ℕ) → place_of m t ≡ Some q → declaration_of m t ≡ Some (declared m q)
found_placed m t q at =
    let is = place_is (position_or_len (λ (d : Declaration). same_id d.id t) m.threads) (length m.threads) q at in
    let lt = place_within m t q at in
    find_at (λ (d : Declaration). same_id d.id t) m.threads ∙ ap (slice_get m.threads) is ∙ slice_get-get_or m.threads q undeclared lt

-- A call to a thread of another processor
other_processor : (m : Machine) (r q : ℕ) (t : GlobalId) → place_of m t ≡ Some q → place_of m (declared m r).id ≡ Some r → (home m q ≡ home m r → ⊥) →
    (is_declared m t && not (same_cpu m t (declared m r).id)) ≡ true
other_processor m r q t at here split =
    let there = found_placed m t q at in
    let mine = found_placed m (declared m r).id r here in
    let apart = other_is (home m q) (home m r) split in
    rw (at, there, mine, apart) refl

call_elsewhere : (m : Machine) (r q : ℕ) (send : Send) (found : Found) (shown : GlobalId) → found.declared ≡ declared m r →
    place_of m (declared m r).id ≡ Some r → destination_place m send.to ≡ Some q → (home m q ≡ home m r → ⊥) →
    call_accepts m found (Some send) shown ≡ receive_accepts m send.receive shown (declared m r).id
call_elsewhere m r q send found shown is here to split = by send.to refl to
  where
    by : (id : Id) → send.to ≡ id → destination_place m id ≡ Some q →
        call_accepts m found (Some send) shown ≡ receive_accepts m send.receive shown (declared m r).id
    by NilThread e to = cc
    by AnyThread e to = cc
    by AnyLocalThread e to = cc
    by (LocalThread word) e to = cc
    by (GlobalThread t) e to = let away = other_processor m r q t to here split in rw (e, is, away) refl

-- What a receiver is, in the phase that it is in

abbrev pub seen : Machine → ℕ → ℕ → Thread → Found
seen m r clock t = record { at = r; declared = declared m r; now = t; clock = clock }

-- A receiver that is ready refuses each sender, and one that waits refuses those that it does not accept.
abbrev refuses_in : Machine → Found → GlobalId → Phase → Bool
refuses_in m found shown phase = is_alive phase && not (may_still_accept m found shown phase)

-- What home learns of its own decided call does not make it accept a sender that the call would not have accepted.
goes_on_refusable : (m : Machine) (r q clock now : ℕ) (send call : Send) (t world : Thread) → place_of m (declared m r).id ≡ Some r →
    destination_place m call.to ≡ Some q → (home m q ≡ home m r → ⊥) →
    t.phase ≡ Sending → t.send ≡ Some call → Agrees m world (goes_on call.receive now t) → is_refusable m send (Some (seen m r clock t)) ≡ true →
    is_refusable m send (Some (seen m r clock world)) ≡ true
goes_on_refusable m r q clock now send call t world here to split sending has agrees h = by call.receive refl agrees.by_phase
  where
    before : not (receive_accepts m call.receive send.message.shown (declared m r).id) ≡ true
    before = let elsewhere = call_elsewhere m r q call (seen m r clock t) send.message.shown refl here to split in sym (rw (sending, has, elsewhere) refl) ∙ h

    by : (o : Option Receive) → call.receive ≡ o → AgreesByPhase world (goes_on o now t) → is_refusable m send (Some (seen m r clock world)) ≡ true
    by None is a = rw a refl
    by (Some receive) is a = let same = a.same in rw same (subst (λ o. not (receive_accepts m o send.message.shown (declared m r).id) ≡ true) is before)

-- A ready thread refuses all.
ready_refusable : (m : Machine) (r clock : ℕ) (send : Send) (world : Thread) → world.phase ≡ Ready → is_refusable m send (Some (seen m r clock world)) ≡ true
ready_refusable m r clock send world is = rw is refl

-- where the world has it as home does
pub same_refusable : (m : Machine) (r clock : ℕ) (send : Send) (t world : Thread) → Agrees m world t → is_refusable m send (Some (seen m r clock t)) ≡ true →
    is_refusable m send (Some (seen m r clock world)) ≡ true
same_refusable m r clock send t world a h = by t.phase refl a.by_phase
  where
    one : world ≡ t → is_refusable m send (Some (seen m r clock world)) ≡ true
    one e = subst (λ u. is_refusable m send (Some (seen m r clock u)) ≡ true) (sym e) h

    by : (p : Phase) → t.phase ≡ p → AgreesIn p world t → is_refusable m send (Some (seen m r clock world)) ≡ true
    by Ready is a = one a
    by Sending is a = one a
    by (Receiving receive since) is a =
        let waiting : refuses_in m (seen m r clock t) send.message.shown (Receiving receive since) ≡ true =
        subst (λ p. refuses_in m (seen m r clock t) send.message.shown p ≡ true) is h in
        let same = a.same in
        rw same waiting
    by Ordering is a = one a
    by Ended is a = one a
    by Deleted is a = let gone : refuses_in m (seen m r clock t) send.message.shown Deleted ≡ true =
        subst (λ p. refuses_in m (seen m r clock t) send.message.shown p ≡ true) is h in cc

alive_refusable : (m : Machine) (r clock : ℕ) (send : Send) (t : Thread) → is_refusable m send (Some (seen m r clock t)) ≡ true → is_alive t.phase ≡ true
alive_refusable m r clock send t h = (both (is_alive t.phase) _ h).0

-- where its own call was decided
decided_refusable : (m : Machine) (r clock : ℕ) (send : Send) (result : Result) (t world : Thread) → place_of m (declared m r).id ≡ Some r →
    (call : Send) (q : ℕ) → t.send ≡ Some call → destination_place m call.to ≡ Some q → (home m q ≡ home m r → ⊥) → Suits t.phase t.send t.order →
    Agrees m world (after_decision result clock t) →
    is_refusable m send (Some (seen m r clock t)) ≡ true → is_refusable m send (Some (seen m r clock world)) ≡ true
decided_refusable m r clock send result t world here call q has to split suits a h = by result a
  where
    alive : is_alive t.phase ≡ true
    alive = alive_refusable m r clock send t h

    sending : t.phase ≡ Sending
    sending = in_phase t.phase alive (subst (λ o. Suits t.phase o t.order) has suits)
      where
        in_phase : (p : Phase) → is_alive p ≡ true → Suits p (Some call) t.order → p ≡ Sending
        in_phase Ready alive s = cc
        in_phase Sending alive s = refl
        in_phase (Receiving receive since) alive s = cc
        in_phase Ordering alive s = cc
        in_phase Ended alive s = cc
        in_phase Deleted alive s = cc

    fallen : (u : Thread) → u.phase ≡ Ready → Agrees m world u → is_refusable m send (Some (seen m r clock world)) ≡ true
    fallen u is a = let ready : is_ready u.phase ≡ true = ap is_ready is in
        ready_refusable m r clock send world (ap (λ (t : Thread). t.phase) (ready_is world u ready a) ∙ is)

    refused_ready : (code : ℕ) → (refused code t).phase ≡ Ready
    refused_ready code = rw alive refl

    dropped_ready : (was_dropped t).phase ≡ Ready
    dropped_ready = rw alive refl

    by : (result : Result) → Agrees m world (after_decision result clock t) → is_refusable m send (Some (seen m r clock world)) ≡ true
    by (Refused TimedOut) a = fallen (refused 2 t) (refused_ready 2) a
    by (Refused Nobody) a = fallen (refused 4 t) (refused_ready 4) a
    by (Refused Cancelled) a = fallen (refused 6 t) (refused_ready 6) a
    by (Refused Dropped) a = fallen (was_dropped t) dropped_ready a
    by Delivered a =
        let delivered_is : after_decision Delivered clock t ≡ goes_on call.receive clock t = rw (has, alive) refl in
        goes_on_refusable m r q clock clock send call t world here to split sending has (subst (Agrees m world) delivered_is a) h

obeyed_refusable : (m : Machine) (r clock : ℕ) (send : Send) (t world : Thread) → Agrees m world (obeyed t) →
    is_refusable m send (Some (seen m r clock t)) ≡ true → is_refusable m send (Some (seen m r clock world)) ≡ true
obeyed_refusable m r clock send t world a h =
    let alive = alive_refusable m r clock send t h in
    let ready : (obeyed t).phase ≡ Ready = rw alive refl in
    ready_refusable m r clock send world (ap (λ (t : Thread). t.phase) (ready_is world (obeyed t) (ap is_ready ready) a) ∙ ready)

-- Of a receiver at home
pub refusable_known : (m : Machine) (r : ℕ) (send : Send) (v : View) → place_of m (declared m r).id ≡ Some r → Known m r v →
    is_refusable m send (Some (record { at = r; declared = declared m r; now = (at_home m r v).thread; clock = (at_home m r v).clock })) ≡ true →
    is_refusable m send (Some (record { at = r; declared = declared m r; now = v.world; clock = (at_home m r v).clock })) ≡ true
refusable_known m r send v here known h = where_then m r v known
    (λ quiet none row a. same_refusable m r clock send t v.world a h)
    (λ own quiet has row a. same_refusable m r clock send t v.world a h)
    (λ p is row a. same_refusable m r clock send t v.world a h)
    (λ p name result is content row a.
    decided_refusable m r clock send result t v.world here row.goes.send row.goes.r row.goes.has row.goes.to row.goes.split known.kept.at_home.good.suits a h)
    (λ p is row a. same_refusable m r clock send t v.world a h)
    (λ p caller is content row a. obeyed_refusable m r clock send t v.world a h)
  where
    t : Thread
    t = (at_home m r v).thread

    clock : ℕ
    clock = (at_home m r v).clock
