-- What stands in the list of a receiver is so in the world, and the first that it accepts is the same.
use Rattle.l4_refines.proofs.Relation.Whereabouts.{where_then}
use Rattle.std.proofs.Common.{◌≡◌, ℕ, ◌<◌, ◌≤◌, Bool, true, false, cond, Some, List, [], ◌∷◌, length, filter, refl, ap, sym, ◌∙◌, subst, inl, inr, ◌⊎◌, arith}
use Rattle.std.specs.Prelude.{◌==◌, find, slice_get}
use Rattle.std.specs.Option.{option_map}
use Rattle.std.specs.List.{AllByRecursion}
use Rattle.std.proofs.lemmas.Bool.{cases_lt}
use Rattle.std.proofs.lemmas.Option.{slice_get-get_or}
use Rattle.l4_model.specs.Words.{Id}
use Rattle.l4_model.specs.Machine.{Machine}
use Rattle.l4_model.specs.World.{Thread, World, Send, Phase, Ready, Sending, Receiving, Ordering, Ended, Deleted, opening_thread}
use Rattle.l4_model.specs.Conditions.{Found, shows_accepted, first_accepted}
use Rattle.l4_model.specs.Rules.{takes}
use Rattle.l4_model.specs.Reached.{Suits}
use Rattle.l4_core_model.specs.Plain as plain
use Rattle.l4_core_model.specs.Local.{declared}
use Rattle.l4_core_model.specs.Acts.{entry}
use Rattle.l4_core_model.specs.Runs.{IsMachine}
use Rattle.l4_core_model.proofs.Changed.{blocks}
use Rattle.l4_core_model.proofs.Lists.{all-map}
use Rattle.l4_core_model.proofs.Apart.{same_or_apart}
use Rattle.l4_refines.proofs.Lists.{other_is, all_by_place}
use Rattle.l4_refines.proofs.Relation.Views.{Scene, View, view, world_thread, home, is_of, locators}
use Rattle.l4_refines.proofs.Relation.Rows.{seats, AgreesIn, Agrees, IsUnplaced, IsWaiting, IsStandIn, Known, Matches}
use Rattle.l4_refines.proofs.Relation.Relates.{RelatesExcept, senders}
use Rattle.l4_refines.proofs.Frames.Moves.{at_home}
use Rattle.l4_refines.proofs.Sends.Deciding.{IsSendAt, sender_unready}

-- What the world has of a thread

pub agrees_send : {m : Machine} (world t : Thread) → Agrees m world t → world.send ≡ t.send
agrees_send world t a = by t.phase a.by_phase
  where
    by : (p : Phase) → AgreesIn p world t → world.send ≡ t.send
    by Ready a = ap (λ (t : Thread). t.send) a
    by Sending a = ap (λ (t : Thread). t.send) a
    by (Receiving receive since) a = ap (λ (t : Thread). t.send) a.same
    by Ordering a = ap (λ (t : Thread). t.send) a
    by Ended a = ap (λ (t : Thread). t.send) a
    by Deleted a = a.send

pub agrees_begun : {m : Machine} (world t : Thread) → Agrees m world t → world.context.begun ≡ t.context.begun
agrees_begun world t a = by t.phase a.by_phase
  where
    by : (p : Phase) → AgreesIn p world t → world.context.begun ≡ t.context.begun
    by Ready a = ap (λ (t : Thread). t.context.begun) a
    by Sending a = ap (λ (t : Thread). t.context.begun) a
    by (Receiving receive since) a = ap (λ (t : Thread). t.context.begun) a.same
    by Ordering a = ap (λ (t : Thread). t.context.begun) a
    by Ended a = ap (λ (t : Thread). t.context.begun) a
    by Deleted a = a.begun

-- An entry of the thread at place i in the list of the one at r

-- It is the entry of the send that waits there, and of no other letter is anything said.
pub record IsEntry (m : Machine) (r i : ℕ) (v : View) (e : plain.Waiting) : Type 0 where
  pub send : Send
  pub has : (at_home m i v).thread.send ≡ Some send
  pub quiet : locators v.mail ≡ []
  pub agrees : Agrees m v.world (at_home m i v).thread
  pub waits : IsWaiting m i send (seats m i v)
  pub receiver : waits.r ≡ r
  pub is : e ≡ entry m r i send

none_listed : (m : Machine) (r i : ℕ) (v : View) (es : List plain.Waiting) → es ≡ [] → AllByRecursion (IsEntry m r i v) es
none_listed m r i v es none = subst (AllByRecursion (IsEntry m r i v)) (sym none) tt

entries_of : (m : Machine) (r i : ℕ) (v : View) → Known m i v → AllByRecursion (IsEntry m r i v) ((v.kept (home m r)).listed r)
entries_of m r i v known = where_then m i v known
    (λ quiet none row agrees. unplaced row.unplaced)
    (λ send quiet has row agrees. same_or_apart (AllByRecursion (IsEntry m r i v) ((v.kept (home m r)).listed r)) row.r r
    (λ same. let listed = subst (λ q. (v.kept (home m q)).listed q ≡ entry m q i send ∷ []) same row.listed in
    subst (AllByRecursion (IsEntry m r i v)) (sym listed)
    (record { send = send; has = has; quiet = quiet; agrees = agrees; waits = row; receiver = same; is = refl }, tt))
    (λ apart. none_listed m r i v ((v.kept (home m r)).listed r)
    (same_or_apart ((v.kept (home m r)).listed r ≡ []) (home m r) (home m row.r) (λ h. subst (λ c. (v.kept c).listed r ≡ []) (sym h) (row.other_lists r apart))
    (λ ne. row.elsewhere (home m r) r ne))))
    (λ p is row agrees. unplaced row.unplaced)
    (λ p name result is content row agrees. unplaced row.unplaced)
    (λ p is row agrees. unplaced row.orders.unplaced)
    (λ p caller is content row agrees. unplaced row.orders.unplaced)
  where
    unplaced : IsUnplaced m i (seats m i v) → AllByRecursion (IsEntry m r i v) ((v.kept (home m r)).listed r)
    unplaced none = none_listed m r i v ((v.kept (home m r)).listed r) (none.listed (home m r) r)

-- A waiting send is on its receiver's processor.
pub entry_at : (m : Machine) (r i : ℕ) (v : View) (e : plain.Waiting) → Matches m i v → (w : IsEntry m r i v e) → IsSendAt m (home m r) i w.send v
entry_at m r i v e matches w =
    let row = w.waits in
    let at = ap (home m) w.receiver in
    let good = matches.known.kept.at_home.good in
    record {
      kept = matches.known.kept;
      out = matches.ready ∙ sender_unready i (at_home m i v).thread.phase w.send (at_home m i v).thread.order
          (subst (λ o. Suits (at_home m i v).thread.phase o (at_home m i v).thread.order) w.has good.suits);
      has = w.has;
      order = row.order;
      quiet = w.quiet;
      agrees = w.agrees;
      elsewhere = λ c q ne. row.elsewhere c q (λ h. ne (sym (h ∙ at)));
      foreign = λ away. record {
        r = row.r;
        to = row.to;
        at = at;
        stand_in = subst (λ c. IsStandIn m row.r w.send (at_home m i v).thread.context.begun (v.kept c).thread.send (v.kept c).thread.context.begun) at
            (row.stand_in (λ h. away (sym h ∙ at)));
      };
      no_other = λ c away ne. row.no_other c away (λ h. ne (sym (h ∙ at)));
    }

-- All entries of a list

past_none : (n i : ℕ) (es : List plain.Waiting) → n ≤ i → AllByRecursion (λ (e : plain.Waiting). e.block < n) es → filter (is_of i) es ≡ []
past_none n i [] le h = refl
past_none n i (e ∷ es) le h = let lt = h.0 in let apart = other_is i e.block (λ same. omega arith) in rw apart (past_none n i es le h.1)

-- An entry stands for its own block.
abbrev pub IsEntryHere : Machine → Scene → World → ℕ → plain.Waiting → Type 0
IsEntryHere m s w r e = (e.block < length m.threads) × IsEntry m r e.block (view m s w e.block) e

of_block : (m : Machine) (s : Scene) (w : World) (r i : ℕ) (es : List plain.Waiting) → i < length m.threads → AllByRecursion (IsEntry m r i (view m s w i)) es →
    AllByRecursion (IsEntryHere m s w r) es
of_block m s w r i es lt all = all-map (IsEntry m r i (view m s w i)) (IsEntryHere m s w r) (λ e h. let same : i ≡ e.block =
    sym (ap (λ (e : plain.Waiting). e.block) h.is) in
    (subst (λ j. j < length m.threads) same lt, subst (λ j. IsEntry m r j (view m s w j) e) same h)) es all

pub entries_here : (m : Machine) (s : Scene) (w : World) (r : ℕ) → IsMachine m → r < length m.threads → RelatesExcept m (Matches m) [] s w →
    AllByRecursion (IsEntryHere m s w r) (senders m s r)
entries_here m s w r machine lt rel =
    all_by_place (IsEntryHere m s w r) (λ (e : plain.Waiting). e.block) (senders m s r) (λ i. by i (cases_lt i (length m.threads)))
  where
    by : (i : ℕ) → ((i < length m.threads) ⊎ (length m.threads ≤ i)) →
        AllByRecursion (IsEntryHere m s w r) (filter (λ (e : plain.Waiting). i == e.block) (senders m s r))
    by i (inl here) = of_block m s w r i (filter (λ (e : plain.Waiting). i == e.block) (senders m s r)) here
        (entries_of m r i (view m s w i) (rel.places i here tt).known)
    by i (inr past) = subst (AllByRecursion (IsEntryHere m s w r))
        (sym (past_none (length m.threads) i (senders m s r) past ((rel.sized (home m r) (machine.homed r lt)).listed r))) tt

-- The first that a receiver accepts

entry_accepted : (m : Machine) (s : Scene) (w : World) (r : ℕ) (from : Id) (e : plain.Waiting) → length w.threads ≡ length m.threads → IsEntryHere m s w r e →
    shows_accepted m from (declared m r).id (slice_get w.threads e.block) ≡ takes from e.shown e.local
entry_accepted m s w r from e size h =
    let lt : e.block < length w.threads = omega (arith, size, h.0) in
    let is = h.1 in
    let has : (world_thread w e.block).send ≡ Some is.send = agrees_send (world_thread w e.block) _ is.agrees ∙ is.has in
    let shown = ap (λ (e : plain.Waiting). e.shown) is.is in
    let local = ap (λ (e : plain.Waiting). e.local) is.is in
    rw (slice_get-get_or w.threads e.block opening_thread, has, shown, local) refl

first_of : (m : Machine) (s : Scene) (w : World) (r : ℕ) (from : Id) (es : List plain.Waiting) → length w.threads ≡ length m.threads →
    AllByRecursion (IsEntryHere m s w r) es →
    find (λ i. shows_accepted m from (declared m r).id (slice_get w.threads i)) (blocks es) ≡ plain.first_taken from es
first_of m s w r from [] size all = refl
first_of m s w r from (e ∷ es) size all =
    let here = entry_accepted m s w r from e size all.0 in
    rw here (by (takes from e.shown e.local) (first_of m s w r from es size all.1))
  where
    by : (b : Bool) → find (λ i. shows_accepted m from (declared m r).id (slice_get w.threads i)) (blocks es) ≡ plain.first_taken from es →
        cond b (Some e.block) (find (λ i. shows_accepted m from (declared m r).id (slice_get w.threads i)) (blocks es)) ≡ option_map
        (λ (x : plain.Waiting). x.block) (cond b (Some e) (find (λ (x : plain.Waiting). takes from x.shown x.local) es))
    by true h = refl
    by false h = h

pub first_accepted_is : (m : Machine) (s : Scene) (w : World) (r : ℕ) (from : Id) (found : Found) → IsMachine m → r < length m.threads → found.at ≡ r →
    found.declared ≡ declared m r → RelatesExcept m (Matches m) [] s w →
    first_accepted m w found from ≡ plain.first_taken from (senders m s r)
first_accepted_is m s w r from found machine lt at declared_is rel =
    let list = rel.lists r lt in
    rw (at, declared_is, list) (first_of m s w r from (senders m s r) rel.sized_world.threads (entries_here m s w r machine lt rel))

-- Where one is first, its entry is in the list.
pub record IsFirstSender (m : Machine) (s : Scene) (w : World) (r i : ℕ) : Type 0 where
  pub entry : plain.Waiting
  pub within : i < length m.threads
  pub is : IsEntry m r i (view m s w i) entry

pub first_entry : (m : Machine) (s : Scene) (w : World) (r i : ℕ) (p : plain.Waiting → Bool) (es : List plain.Waiting) →
    AllByRecursion (IsEntryHere m s w r) es → option_map (λ (x : plain.Waiting). x.block) (find p es) ≡ Some i → IsFirstSender m s w r i
first_entry m s w r i p [] all h = cc
first_entry m s w r i p (e ∷ es) all h = by (p e) h (first_entry m s w r i p es all.1)
  where
    by : (b : Bool) → option_map (λ (x : plain.Waiting). x.block) (cond b (Some e) (find p es)) ≡ Some i →
        (option_map (λ (x : plain.Waiting). x.block) (find p es) ≡ Some i → IsFirstSender m s w r i) → IsFirstSender m s w r i
    by true h rest = let same : e.block ≡ i = cc in record {
      entry = e;
      within = subst (λ j. j < length m.threads) same all.0.0;
      is = subst (λ j. IsEntry m r j (view m s w j) e) same all.0.1;
    }
    by false h rest = rest h
