-- Where a machine is at rest, its threads are settled: nothing but clocks can go on in the world.
use Rattle.l4_core_model.proofs.Changed.{same_nat}
use Rattle.l4_refines.proofs.Letters.Lawful.{placed}
use Rattle.l4_refines.proofs.Relation.Owing.{is_at_one, goes_away, is_beside, retargets_in}
use Rattle.l4_refines.proofs.Lists.{any_block, any_kept, any_list}
use Rattle.l4_model.proofs.Rows.Writing.{send}
use Rattle.l4_model.specs.Reached.{Suits, IsOwedAmong, WorldFacts}
use Rattle.l4_core_model.specs.Plain.{Waiting}
use Rattle.std.proofs.Common.{◌≡◌, ℕ, ◌<◌, true, false, Some, List, [], ◌∷◌, filter, length, refl, ap, sym, ◌∙◌, subst, inl, inr, None, Option, Bool, ◌&&◌}
use Rattle.std.specs.Prelude.{◌==◌, slice_index, not}
use Rattle.std.specs.List.{list_any, AllByRecursion, cons_option}
use Rattle.std.proofs.lemmas.Bool.{eqb-true}
use Rattle.l4_model.specs.Machine.{Machine, place_of, is_place}
use Rattle.l4_model.specs.World.{World, Send, Phase, Ready, Sending, Receiving, Ordering, Ended, Deleted, is_deleted, Receive, receive_now, Owed}
use Rattle.l4_model.specs.Conditions.{is_zero, is_refusable, is_nobody}
use Rattle.l4_model.proofs.Chains.{some_is}
use Rattle.l4_core_model.specs.Plain as plain
use Rattle.l4_core_model.specs.Local.{Local, declared, thread, held, armed_period, destination_place, held_by}
use Rattle.l4_core_model.specs.Acts.{entry, zero_refusable, first_acceptable}
use Rattle.l4_core_model.proofs.Standing.{any_in, destination_within, place_within}
use Rattle.l4_core_model.proofs.Apart.{same_or_apart}
use Rattle.l4_core_model.proofs.Choosing.{receiving_is}
use Rattle.l4_refines.proofs.Relation.Views.{Scene, view, world_thread, home, is_of, scene}
use Rattle.l4_refines.proofs.Relation.Rows.{seats, IsWaiting}
use Rattle.l4_refines.proofs.Promises.Promised.{IsSplitSend, Promised}
use Rattle.l4_refines.proofs.Relation.Relates.{senders, Relates}
use Rattle.l4_refines.proofs.Frames.Moves.{deleted_phase}
use Rattle.l4_refines.proofs.Rest.Seen.{refusable_at_home}
use Rattle.l4_refines.proofs.Rest.Settled.{IsSettledSend, there, IsSettledReceive, IsSettledThread, IsSettled}
use Rattle.l4_refines.proofs.Rest.Resting.{IsAtRest, own, own_agrees, own_shown, own_waits, no_deadline, none_armed, none_ending, is_at_rest, no_order, unready, known_gone}
use Rattle.std.specs.Option.{option_map}
use Rattle.l4_model.specs.Words.{Id, NilThread, AnyThread, AnyLocalThread, LocalThread, GlobalThread}
use Rattle.l4_core_model.specs.Runs.{System, at_rest, IsMachine}
use Rattle.l4_core_model.proofs.Good.{receiving_has_none}
use Rattle.l4_refines.proofs.Sends.Waiting.{first_accepted_is}

-- An undecided send waits, and nothing can decide it.

-- A send that waits, at home or elsewhere
record WaitsAtRest (m : Machine) (s : Scene) (w : World) (i : ℕ) (send : Send) : Type 0 where
  rest : IsAtRest m s w
  within : i < length m.threads
  has : (own m s i).send ≡ Some send
  row : IsWaiting m i send (seats m i (view m s w i))

to_within : (m : Machine) (s : Scene) (w : World) (i : ℕ) (send : Send) → (h : WaitsAtRest m s w i send) → h.row.r < length m.threads
to_within m s w i send h = destination_within m send.to h.row.r h.row.to

-- It does not go to another processor's thread.
not_split : (m : Machine) (s : Scene) (w : World) (i : ℕ) (send : Send) → (h : WaitsAtRest m s w i send) → home m h.row.r ≡ home m i →
    IsSplitSend m i (own m s i).send → ⊥
not_split m s w i send h same split =
    let q : IsSplitSend m i (Some send) = subst (IsSplitSend m i) h.has split in
    q.1.1 (ap (home m) (some_is q.0 h.row.r (sym q.1.0 ∙ h.row.to)) ∙ same)

stands_at_home : (m : Machine) (s : Scene) (w : World) (i : ℕ) (send : Send) → (h : WaitsAtRest m s w i send) → home m h.row.r ≡ home m i →
    plain.is_queued (s.locals (home m i)).lists i ≡ true
stands_at_home m s w i send h same =
    let e : plain.Waiting = entry m h.row.r i send in
    any_list (is_of i) (s.locals (home m i)).lists.waiting h.row.r
    (any_kept (is_of i) _ [] e (subst (λ c. filter (is_of i) (plain.list_of (s.locals c).lists h.row.r) ≡ e ∷ []) same h.row.listed))

no_drop : (m : Machine) (s : Scene) (w : World) (i : ℕ) (send : Send) → WaitsAtRest m s w i send → is_deleted (own m s i).phase ≡ true → ⊥
no_drop m s w i send h gone = same_or_apart ⊥ (home m h.row.r) (home m i)
    (λ same. (h.rest.idle i h.within).no_drop gone (stands_at_home m s w i send h same))
    (λ ne. none_ending m s w i h.row.r send h.rest h.within h.has h.row.to ne (inr (inr (deleted_phase (own m s i).phase gone))))

no_wish : (m : Machine) (s : Scene) (w : World) (i : ℕ) (send : Send) → WaitsAtRest m s w i send → (own m s i).cancel_send ≡ true → ⊥
no_wish m s w i send h wish = same_or_apart ⊥ (home m h.row.r) (home m i)
    (λ same. (h.rest.idle i h.within).no_cancel (stands_at_home m s w i send h same) wish)
    (λ ne. none_ending m s w i h.row.r send h.rest h.within h.has h.row.to ne (inr (inl wish)))

endless : (m : Machine) (s : Scene) (w : World) (i n : ℕ) (send : Send) → WaitsAtRest m s w i send → send.period ≡ Some n → is_zero send.period ≡ false → ⊥
endless m s w i n send h period not_zero =
    by (own m s i).phase refl
    (subst (λ o. Suits (own m s i).phase o (own m s i).order) h.has (h.rest.relates.places i h.within tt).known.kept.at_home.good.suits)
  where
    timed : (own m s i).phase ≡ Sending → armed_period (own m s i).phase (own m s i).send ≡ None → ⊥
    timed is none = let has = h.has in let some : armed_period (own m s i).phase (own m s i).send ≡ Some n = rw (is, has, not_zero) period in cc (none, some)

    by : (p : Phase) → (own m s i).phase ≡ p → Suits p (Some send) (own m s i).order → ⊥
    by Ready is suits = cc
    by Sending is suits = same_or_apart ⊥ (home m h.row.r) (home m i)
        (λ same. timed is (no_deadline m s w i h.rest h.within (not_split m s w i send h same)))
        (λ ne. none_ending m s w i h.row.r send h.rest h.within h.has h.row.to ne (inl (none_armed m s w i h.rest h.within, timed is)))
    by (Receiving receive since) is suits = cc
    by Ordering is suits = cc
    by Ended is suits = cc
    by Deleted is suits = no_drop m s w i send h (ap is_deleted is)

-- Its receiver has no duty to refuse it.

-- what is kept of it where it waits
at_receiver : (m : Machine) (s : Scene) (w : World) (i : ℕ) (send : Send) (clock : ℕ) → (h : WaitsAtRest m s w i send) → is_zero send.period ≡ true →
    is_refusable m send (Some (record { at = h.row.r; declared = declared m h.row.r; now = own m s h.row.r; clock = clock })) ≡ true →
    zero_refusable m (record { at = h.row.r; declared = declared m h.row.r; now = own m s h.row.r; clock = clock })
    (thread (s.locals (home m h.row.r)) i).send ≡ true
at_receiver m s w i send clock h at_once refusable = same_or_apart _ (home m h.row.r) (home m i)
    (λ same. let has : (thread (s.locals (home m h.row.r)) i).send ≡ Some send = ap (λ c. (thread (s.locals c) i).send) same ∙ h.has in
    rw (has, at_once) refusable)
    (λ ne. let has = (h.row.stand_in ne).has in rw (has, at_once) refusable)

stays : (m : Machine) (s : Scene) (w : World) (i : ℕ) (send : Send) (clocks : List ℕ) → (h : WaitsAtRest m s w i send) → is_zero send.period ≡ true →
    is_refusable m send (Some (there m w clocks h.row.r)) ≡ true → ⊥
stays m s w i send clocks h at_once refusable =
    let r = h.row.r in
    let l : Local = s.locals (home m r) in
    let lt = to_within m s w i send h in
    let here = refusable_at_home m r (slice_index clocks (declared m r).cpu) l.clock send (world_thread w r) (own m s r)
    (own_agrees m s w r h.rest lt) refusable in
    let it = any_in (λ (e : plain.Waiting). zero_refusable m (held m l r) (thread l e.block).send ≡ false) (is_of i) (plain.list_of l.lists r)
    (h.rest.idle r lt).no_zero (any_kept (is_of i) _ [] (entry m r i send) h.row.listed) in
    let none : zero_refusable m (held m l r) (thread l i).send ≡ false =
    ap (λ j. zero_refusable m (held m l r) (thread l j).send) (eqb-true i it.0.block it.1) ∙ it.2 in
    let some = at_receiver m s w i send l.clock h at_once here in
    cc (none, some)

receiver_alive : (m : Machine) (s : Scene) (w : World) (i : ℕ) (send : Send) → (h : WaitsAtRest m s w i send) →
    is_deleted (world_thread w h.row.r).phase ≡ true → ⊥
receiver_alive m s w i send h gone =
    let lt = to_within m s w i send h in
    let empty = (h.rest.idle h.row.r lt).no_refusal (sym (own_shown m s w h.row.r h.rest lt).deleted ∙ gone) in
    let none = ap (filter (is_of i)) empty in
    let one = h.row.listed in
    cc (none, one)

settled_send : (m : Machine) (s : Scene) (w : World) (i : ℕ) (send : Send) → IsAtRest m s w → i < length m.threads → (world_thread w i).send ≡ Some send →
    IsSettledSend m w i send
settled_send m s w i send rest lt has_there =
    let seen = own_shown m s w i rest lt in
    let has = sym seen.send ∙ has_there in
    let h : WaitsAtRest m s w i send = record { rest = rest; within = lt; has = has; row = own_waits m s w i send rest lt has } in
    let r = h.row.r in
    let e : plain.Waiting = entry m r i send in
    record {
      receiver = r;
      to = h.row.to;
      waits = any_list (λ x. i == x) w.waiting r
          (ap (list_any (λ x. i == x)) (rest.relates.lists r (to_within m s w i send h)) ∙ any_block i (senders m s r)
          ∙ any_kept (is_of i) (senders m s r) [] e h.row.listed);
      endless = λ n. endless m s w i n send h;
      stays = λ clocks. stays m s w i send clocks h;
      alive = receiver_alive m s w i send h;
      no_wish = λ wish. no_wish m s w i send h (sym seen.cancel_send ∙ wish);
      no_drop = λ gone. no_drop m s w i send h (sym seen.deleted ∙ gone);
    }

-- A receive phase goes on.

-- Whom the world knows to be gone, each processor knows to be gone.
nobody_here : (m : Machine) (s : Scene) (w : World) (cpu : ℕ) (clocks : List ℕ) (from : Id) → IsAtRest m s w → cpu < m.cpus →
    is_nobody from (option_map (there m w clocks) (destination_place m from)) ≡ true → is_nobody from (held_by m (s.locals cpu) from) ≡ true
nobody_here m s w cpu clocks NilThread rest lt h = h
nobody_here m s w cpu clocks AnyThread rest lt h = h
nobody_here m s w cpu clocks AnyLocalThread rest lt h = h
nobody_here m s w cpu clocks (LocalThread word) rest lt h = refl
nobody_here m s w cpu clocks (GlobalThread t) rest lt h = by (place_of m t) refl h
  where
    by : (o : Option ℕ) → place_of m t ≡ o → is_nobody (GlobalThread t) (option_map (there m w clocks) o) ≡ true →
        is_nobody (GlobalThread t) (held_by m (s.locals cpu) (GlobalThread t)) ≡ true
    by None is h = rw is refl
    by (Some j) is h = let here = known_gone m s w j cpu rest (place_within m t j is) lt h in rw is here

settled_receive : (m : Machine) (s : Scene) (w : World) (i : ℕ) (receive : Receive) → IsAtRest m s w → i < length m.threads →
    receive_now (world_thread w i).phase ≡ Some receive → IsSettledReceive m w i receive
settled_receive m s w i receive rest lt receiving_there =
    let seen = own_shown m s w i rest lt in
    let receiving = sym seen.receives ∙ receiving_there in
    let now = receiving_is (own m s i) receive receiving in
    let is = now.is in
    let none = receiving_has_none (own m s i).phase receive now.since (own m s i).send (own m s i).order is
    (rest.relates.places i lt tt).known.kept.at_home.good.suits in
    let idle = rest.idle i lt in
    record {
      endless = λ n period. finite n period now.since is none.0;
      none = λ clocks. first_accepted_is m s w i receive.from (there m w clocks i) rest.machine lt refl refl rest.relates
          ∙ accepts now.since is idle.no_delivery;
      somebody = λ clocks nobody. idle.no_close receive receiving (nobody_here m s w (home m i) clocks receive.from rest (rest.machine.homed i lt) nobody);
      no_wish = λ wish. idle.no_wish receive receiving (sym (seen.cancel_receive receive receiving_there) ∙ wish);
    }
  where
    accepts : (since : ℕ) → (own m s i).phase ≡ Receiving receive since → first_acceptable (s.locals (home m i)) i ≡ None →
        plain.first_taken receive.from (senders m s i) ≡ None
    accepts since is h = rw is at h

    finite : (n : ℕ) → receive.period ≡ Some n → (since : ℕ) → (own m s i).phase ≡ Receiving receive since → (own m s i).send ≡ None → ⊥
    finite n period since is none =
        let never = no_deadline m s w i rest lt (subst (λ o. IsSplitSend m i o → ⊥) (sym none) (λ split. split)) in
        let some : armed_period (own m s i).phase (own m s i).send ≡ Some n = rw is period in
        cc (never, some)

settled_thread : (m : Machine) (s : Scene) (w : World) (i : ℕ) → IsAtRest m s w → i < length m.threads → IsSettledThread m w i
settled_thread m s w i rest lt = record {
  unready = unready m s w i rest lt;
  no_order = no_order m s w i rest lt;
  sends = λ send has. settled_send m s w i send rest lt has;
  receives = λ receive is. settled_receive m s w i receive rest lt is;
}

-- Nothing is owed: neither beside a thread nor by a letter.
nothing_owed : (m : Machine) (owed : List Owed) → AllByRecursion (IsOwedAmong m) owed →
    ((r : ℕ) → r < length m.threads → filter (is_beside m r) owed ≡ []) → filter (goes_away m) owed ≡ [] → owed ≡ []
nothing_owed m [] among kept letters = refl
nothing_owed m (o ∷ owed) among kept letters =
    let r = placed m o.new_partner among.0.new_partner in
    by (is_at_one m o) refl r.0 r.1
  where
    kept_one : (r : ℕ) → is_beside m r o ≡ true → filter (is_beside m r) (o ∷ owed) ≡ o ∷ filter (is_beside m r) owed
    kept_one r is = rw is refl

    by : (b : Bool) → is_at_one m o ≡ b → (r : ℕ) → place_of m o.new_partner ≡ Some r → o ∷ owed ≡ []
    by true is r at =
        let same = same_nat r in
        let here : is_beside m r o ≡ true = ap (λ b. b && is_at_one m o) (ap (λ p. is_place p r) at ∙ same) ∙ is in
        let none = kept r (place_within m o.new_partner r at) in
        let some = kept_one r here in
        cc (none, some)
    by false is r at =
        let away : goes_away m o ≡ true = ap not is in
        let some : filter (goes_away m) (o ∷ owed) ≡ o ∷ filter (goes_away m) owed = rw away refl in
        cc (letters, some)

-- All threads of a machine at rest are settled.
pub resting_settled : (m : Machine) (g : System) (w : World) → IsMachine m → length g.locals ≡ m.cpus → Relates m g w → Promised m [] (scene g) →
    WorldFacts m w → at_rest m g ≡ true → IsSettled m w
resting_settled m g w machine counted rel promised facts h =
    let rest = is_at_rest m g w machine counted rel promised h in
    record {
      size = rel.sized_world.threads;
      nothing_owed = nothing_owed m w.owed facts.owed_among
          (λ r lt. rel.owing.kept r lt ∙ ap (λ o. cons_option o []) (rest.idle r lt).nothing_owed) (sym rel.owing.letters ∙ ap retargets_in rest.quiet);
      threads = λ i lt. settled_thread m (scene g) w i rest lt;
    }
