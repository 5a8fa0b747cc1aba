-- What is delivered is the message that the send had when it began: it began, since nothing is under way at the opening, and until it is
-- decided nothing changes it.
use Rattle.std.proofs.Common.{subst, ◌≡◌, ℕ, zero, suc, ◌+◌, ◌*◌, ◌/◌, ◌^◌, ◌<◌, ◌≤◌, Bool, true, false, cond, Option, Some, List, [], ◌∷◌, length, refl, ap, sym, ◌∙◌, arith}
use Rattle.std.proofs.lemmas.Bool.{eqb-true}
use Rattle.std.proofs.lemmas.Slice.Eq.{bytes_eq-Decides}
use Rattle.std.specs.Prelude.{slice_get, ◌==◌, is_some}
use Rattle.std.specs.Str.{bytes_eq}
use Rattle.l4_model.specs.Words.{GlobalId, same_id}
use Rattle.l4_model.specs.Machine.{Machine}
use Rattle.std.specs.Option.{option_map}
use Rattle.l4_model.specs.World.{World, Message, Send, changed, opening, Name}
use Rattle.l4_model.specs.Rules.{message_of, received_tag, is_cross, bit}
use Rattle.l4_model.specs.Conditions.{Pending, instruction, undecided}
use Rattle.l4_model.specs.Effects.{begins}
use Rattle.l4_model.specs.Steps.{Step, Begin, Deliver, Drop, next, OfSend, Failed}
use Rattle.l4_model.specs.History.{run, reached, begun_name}
use Rattle.l4_model.specs.Laws.{names, message_at, message_begun, Carries, IsUnaltered}
use Rattle.l4_model.proofs.Chains.{bind_then, some_is, get-map, get-changed_same}
use Rattle.l4_model.proofs.Requests.{act_request, message_short}
use Rattle.l4_model.proofs.Inversions.{BeginTaken, begin_taken, deliver_taken}
use Rattle.l4_model.proofs.Sends.{lasting, Status, status, statuses, with_begun, with_decided, Begins, Decides, Effect, effect}
use Rattle.l4_model.proofs.Deleted.{parted}
use Rattle.l4_model.proofs.Sound.{AreSound, opening_sound, step_sound}
use Rattle.l4_model.proofs.Accounted.{pending_of, pending_is, opening_pending, beginnings, step_balance}
use Rattle.l4_model.proofs.Places.{same_id_is, same_name_is, known, known_send, id_of}

label_read : (label cross propagated count : ℕ) → cross ≤ 1 → propagated ≤ 1 → count < 64 → (label * 2 ^ 16 + cross * 2 ^ 14 + propagated * 2 ^ 12 + count) / 2 ^ 16 ≡ label
label_read label cross propagated count c p n = omega arith

bit_small : (b : Bool) → bit b ≤ 1
bit_small true = omega arith
bit_small false = omega arith

-- Of the k-th send of a thread: it has begun, and as long as it is the last and undecided it is this one.
record Holds (k : ℕ) (send : Send) (x : Status) : Type 0 where
  begun : k ≤ x.begun
  same : (y : Send) → x.begun ≡ k → x.send ≡ Some y → send ≡ y

abbrev HoldsAt : (j k : ℕ) → Send → World → Type 0
HoldsAt j k send w = (x : Status) → slice_get (statuses w) j ≡ Some x → Holds k send x

begun_holds : (k : ℕ) (send begun : Send) (x : Status) → Holds k send x → Holds k send (with_begun begun x)
begun_holds k send begun x h = record { begun = omega (arith, h.begun); same = λ y last has. absurd (omega (arith, h.begun, last)) }

decided_holds : (k : ℕ) (send : Send) (x : Status) → Holds k send x → Holds k send (with_decided x)
decided_holds k send x h = record { begun = h.begun; same = λ y last has. cc }

-- what every element at a place has, it has after a change that keeps it
kept_at : {A : Type 0} (P : A → Type 0) (f : A → A) → ((x : A) → P x → P (f x)) → (xs ys : List A) (i j : ℕ) → ys ≡ changed f xs i →
    ((x : A) → slice_get xs j ≡ Some x → P x) → (y : A) → slice_get ys j ≡ Some y → P y
kept_at {A = A} P f keep xs ys i j e h y at = over xs i j h (ap (λ zs. slice_get zs j) (sym e) ∙ at)
  where
    over : (xs : List A) (i j : ℕ) → ((x : A) → slice_get xs j ≡ Some x → P x) → slice_get (changed f xs i) j ≡ Some y → P y
    over [] i j h at = cc
    over (x ∷ xs) zero zero h at = subst P (some_is (f x) y at) (keep x (h x refl))
    over (x ∷ xs) zero (suc j) h at = h y at
    over (x ∷ xs) (suc i) zero h at = h y at
    over (x ∷ xs) (suc i) (suc j) h at = over xs i j h at

begins_hold : (m : Machine) (w v : World) (t : Name) (j k : ℕ) (send : Send) → Begins m w v t → HoldsAt j k send w → HoldsAt j k send v
begins_hold m w v t j k send b = kept_at (Holds k send) (with_begun b.send) (begun_holds k send b.send) (statuses w) (statuses v) b.place j b.now

decides_hold : (m : Machine) (w v : World) (t : Name) (j k : ℕ) (send : Send) → Decides m w v t → HoldsAt j k send w → HoldsAt j k send v
decides_hold m w v t j k send d = kept_at (Holds k send) with_decided (decided_holds k send) (statuses w) (statuses v) d.place j d.now

keeps_hold : (w v : World) (j k : ℕ) (send : Send) → statuses v ≡ statuses w → HoldsAt j k send w → HoldsAt j k send v
keeps_hold w v j k send e h x at = h x (ap (λ xs. slice_get xs j) (sym e) ∙ at)

step_holds : (m : Machine) (w v : World) (step : Step) (j k : ℕ) (send : Send) → Effect m w v step → HoldsAt j k send w → HoldsAt j k send v
step_holds m w v (Begin t) j k send e = begins_hold m w v t j k send e
step_holds m w v (Deliver t receiver shown actual tag words) j k send e = decides_hold m w v t j k send e
step_holds m w v (OfSend (Failed why) t) j k send e = decides_hold m w v t j k send e
step_holds m w v (Drop t) j k send e = decides_hold m w v t j k send e
step_holds m w v _ j k send e = keeps_hold w v j k send e

run_holds : (m : Machine) (h : List Step) (w v : World) (j k : ℕ) (send : Send) → run m w h ≡ Some v → HoldsAt j k send w → HoldsAt j k send v
run_holds m [] w v j k send r holds = subst (HoldsAt j k send) (some_is w v r) holds
run_holds m (step ∷ h) w v j k send r holds =
    bind_then (next m w step) (λ u. run m u h) v r λ u is rest.
    run_holds m h u v j k send rest (step_holds m w u step j k send (effect m w u step is) holds)

-- An undecided send has the message that it began with.
record HasBegun (send : Send) (message : Option Message) : Type 0 where
  same : message ≡ Some send.message
  short : length send.message.words < 64

-- the begin step itself
begins_so : (m : Machine) (w u v : World) (s : Name) (p : Pending) (h : List Step) → BeginTaken m w u s → run m u h ≡ Some v → undecided m v s ≡ Some p →
    HasBegun p.send (message_at m w s.thread)
begins_so m w u v s p h k r waits =
    let sender = known m w s.thread k.t k.found in
    let id : k.t.declared.id ≡ s.thread = (id_of m w s.thread k.t k.found).0 in
    let e : message_of m s.thread k.t.now.context ≡ k.send.message =
    ap (λ x. message_of m x k.t.now.context) (sym id) ∙ (act_request m k.t.declared.id k.t.clock k.t.now.context (instruction k.t) k.send k.sends).message in
    let begun : HoldsAt k.t.at s.k (lasting k.send) u = subst (HoldsAt k.t.at s.k (lasting k.send)) k.leads_to (λ x at.
    subst (Holds s.k (lasting k.send)) (some_is _ x (sym (get-map status (changed (begins k.send) w.threads k.t.at) k.t.at _ (get-changed_same (begins k.send) w.threads k.t.at ∙ ap (option_map (begins k.send)) sender.now)) ∙ at))
    (record { begun = omega (arith, eqb-true _ _ k.next_k); same = λ y last has. some_is (lasting k.send) y has })) in
    let later = known_send m v s p waits in
    let at : p.sender.at ≡ k.t.at = some_is _ _ (sym later.sender.place ∙ sender.place) in
    let now : slice_get (statuses v) k.t.at ≡ Some (status p.sender.now) = ap (slice_get (statuses v)) (sym at) ∙ get-map status v.threads p.sender.at p.sender.now later.sender.now in
    let same : lasting k.send ≡ lasting p.send = (run_holds m h u v k.t.at s.k (lasting k.send) r begun (status p.sender.now) now).same (lasting p.send) later.last (ap (option_map lasting) later.send) in
    let is : message_of m s.thread k.t.now.context ≡ p.send.message = e ∙ ap (λ (x : Send). x.message) same in
    record { same = rw k.found (ap Some is); short = subst (λ (x : Message). length x.words < 64) is (message_short m s.thread k.t.now.context) }

-- a send that was not under way, and is, began in between
begun_between : (m : Machine) (s : Name) (p : Pending) (h : List Step) (w v : World) → run m w h ≡ Some v → AreSound m w → pending_of m w s ≡ 0 → undecided m v s ≡ Some p →
    HasBegun p.send (message_begun m w s h)
begun_between m s p [] w v r sound none waits =
    let one : ◌≡◌ {A = ℕ} 1 (pending_of m v s) = ap (λ o. cond (is_some o) 1 0) (sym waits) ∙ pending_is m v s in
    absurd (omega (arith, one, ap (λ x. pending_of m x s) (some_is w v r), none))
begun_between m s p (step ∷ h) w v r sound none waits =
    bind_then (next m w step) (λ u. run m u h) v r λ u is rest.
    by_step u is rest (begun_between m s p h u v rest (step_sound m w u step is sound)) (names s (begun_name step)) refl
  where
    here : (t : Step) (u : World) → next m w t ≡ Some u → run m u h ≡ Some v → names s (begun_name t) ≡ true → HasBegun p.send (message_at m w s.thread)
    here (Begin t) u is rest named =
        begins_so m w u v s p h (subst (BeginTaken m w u) (sym (same_name_is s t named)) (begin_taken m w u t is)) rest waits
    here _ u is rest named = cc

    by_step : (u : World) → next m w step ≡ Some u → run m u h ≡ Some v → (pending_of m u s ≡ 0 → undecided m v s ≡ Some p → HasBegun p.send (message_begun m u s h)) → (b : Bool) → names s (begun_name step) ≡ b → HasBegun p.send (message_begun m w s (step ∷ h))
    by_step u is rest later true named = rw named (here step u is rest named)
    by_step u is rest later false other =
        let account = step_balance m w u s step (effect m w u step is) sound in
        let begins : beginnings s step ≡ 0 = ap (λ b. cond b 1 0) other in
        rw (other, is) (later (omega (arith, account, begins, none)) waits)

-- what a delivery shows is the message of its send
delivery_carries : (message : Message) (cross : Bool) (shown actual : GlobalId) (tag : ℕ) (words : List ℕ) → length message.words < 64 →
    same_id shown message.shown ≡ true → same_id actual message.actual ≡ true →
    (tag == received_tag cross message) ≡ true → bytes_eq words message.words ≡ true → Carries message shown actual tag words
delivery_carries message cross shown actual tag words short same_shown same_actual same_tag same_words =
    let tag_is : tag ≡ received_tag cross message = eqb-true _ _ same_tag in
    record {
      same_label = ap (λ t. t / 2 ^ 16) tag_is
          ∙ label_read message.label (bit cross) (bit message.propagated) (length message.words) (bit_small cross) (bit_small message.propagated) short;
      same_words = (bytes_eq-Decides words message.words).0 same_words;
      same_shown = same_id_is shown message.shown same_shown;
      same_actual = same_id_is actual message.actual same_actual;
    }

pub unaltered : (m : Machine) (h : List Step) (v : World) → reached m h ≡ Some v → IsUnaltered m h
unaltered m h v r before after s receiver shown actual tag words split =
    let parts = parted m before (Deliver s receiver shown actual tag words ∷ after) (opening m) v (ap (reached m) (sym split) ∙ r) in
    bind_then (next m parts.between (Deliver s receiver shown actual tag words)) (λ x. run m x after) v parts.second λ x is rest.
    let k = deliver_taken m parts.between x s receiver shown actual tag words is in
    let begun = begun_between m s k.p before (opening m) parts.between parts.first (opening_sound m) (opening_pending m s) k.is_undecided in
    rw begun.same (delivery_carries k.p.send.message (is_cross m receiver k.p.send.message) shown actual tag words begun.short k.same_shown k.same_actual k.same_tag k.same_words)
