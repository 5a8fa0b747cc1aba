-- A port of which nothing but one part has changed.
use Rattle.std.proofs.Common.{◌≡◌, ◌↔◌, ℕ, ◌+◌, ◌<◌, ◌≤◌, List, [], ◌∷◌, ◌++◌, length, map, set, get_or, subst, sym, ap, ◌∙◌, ◌⊎◌, ⊎_elim, inl, inr, arith, Option, Some, None}
use Rattle.std.specs.Vec.{with_item, with_items}
use Rattle.std.proofs.lemmas.List.{with_items_is, length-map}
use Rattle.std.proofs.lemmas.Bool.Decides.{eqb_tells}
use Rattle.std.proofs.lemmas.Option.{none-some}
use Rattle.std.proofs.Math.Seq.{map-set_same}
use Rattle.l4_core_model.specs.Letters.{Letter}
use Rattle.l4_mail.specs.declared.outlets.Outlet.{Outlet}
use Rattle.l4_mail.specs.declared.inlets.Inlet.{Inlet}
use Rattle.l4_mail.specs.declared.ports.Port.{Port}
use Rattle.l4_mail.specs.Ends.{RingId, ring_out, posted, waiting, free, room, ring_in, taken, kept, here}
use Rattle.l4_mail.specs.Ports.{room_to, taken_from, kept_from, only, IsAsBefore, HasPosted, HasTaken}
use Rattle.l4_mail.specs.Inner.Takes.{NoneIsKept, NoneIsHere, NoneIsTaken, IsNext}
use Rattle.l4_mail.proofs.Looking.{IsTaken, IsFirst, next_taken}
use Rattle.l4_mail.proofs.Rows.{below_or, AreAsBefore, HaveRoom, grown_at, set_elsewhere, set_here, read_here, read_beyond, room_within}

-- Only the outlets have changed.
pub outlets_changed : (old new : Port) (items : List (Option Outlet)) → new.cpu ≡ old.cpu → new.inlets ≡ old.inlets → new.outlets ≡ with_items old.outlets items → AreAsBefore old.outlets.items items → IsAsBefore old new
outlets_changed old new items c i o h =
    let e : new.outlets.items ≡ items = ap (λ v. v.items) o ∙ with_items_is old.outlets items (h.len ∙ sym old.outlets.ok.0) in
    record {
      place = λ k. record { cpu = c k; outs = (ap (map ring_out) e ∙ h.rings) k; ins = map ring_in (i k).items };
      posted = λ to. ap (λ l. get_or l to []) (ap (map posted) e ∙ h.posted);
      taken = λ from. ap (λ v. get_or (map taken v.items) from []) i;
      kept = λ from. ap (λ v. get_or (map kept v.items) from []) i;
      room = λ to. subst (λ l. get_or (map room old.outlets.items) to 0 ≤ get_or (map room l) to 0) (sym e) (h.room to);
    }

rooms_there : (l : List (Option Outlet)) (n i : ℕ) → HaveRoom l i n → length l ≤ i → (to : ℕ) → (ring : RingId) × (get_or (map ring_out l) to None ≡ Some ring) → n ≤ get_or (map room l) to 0
rooms_there l n i h le to w = ⊎_elim
    (λ lt. h to (omega arith) w.0 w.1)
    (λ ge. absurd (none-some w.0 (sym (read_beyond ring_out l to None ge) ∙ w.1)))
    (below_or to (length l))

pub rooms_reserved : (old : Port) (items : List (Option Outlet)) (n i : ℕ) → AreAsBefore old.outlets.items items → HaveRoom items i n → length items ≤ i
    → (to : ℕ) → (ring : RingId) × (get_or (map ring_out (with_items old.outlets items).items) to None ≡ Some ring) → n ≤ get_or (map room (with_items old.outlets items).items) to 0
rooms_reserved old items n i h r le =
    subst (λ l. (to : ℕ) → (ring : RingId) × (get_or (map ring_out l) to None ≡ Some ring) → n ≤ get_or (map room l) to 0) (sym (with_items_is old.outlets items (h.len ∙ sym old.outlets.ok.0))) (rooms_there items n i r le)

-- The letter is posted at the outlet that stands at the place of its destination.
pub one_posted : (old new : Port) (i to : ℕ) (o y : Option Outlet) (letter : Letter) → new.cpu ≡ old.cpu → new.inlets ≡ old.inlets → new.outlets ≡ with_item old.outlets i y → i ≡ to → 0 < room_to old to
    → o ≡ get_or old.outlets.items i o → ring_out y ≡ ring_out o → posted y ≡ posted o ++ letter ∷ [] → room y + 1 ≡ room o → HasPosted old new to letter
one_posted old new i to o y letter c n s e has is w q r =
    let l = old.outlets.items in
    let lt : to < length l = room_within l to has in
    let here : o ≡ get_or l to o = is ∙ ap (λ j. get_or l j o) e in
    let items : new.outlets.items ≡ set l to y = ap (λ v. v.items) s ∙ ap (λ j. set l j y) e in
    record {
      place = λ k. record { cpu = c k; outs = (ap (map ring_out) items ∙ map-set_same ring_out l to y o (w ∙ ap ring_out here)) k; ins = map ring_in (n k).items };
      posted = λ k. ap (λ v. get_or (map posted v) k []) items ∙ grown_at posted l to y o letter lt (q ∙ ap (λ u. posted u ++ letter ∷ []) here) k;
      taken = λ from. ap (λ v. get_or (map taken v.items) from []) n;
      kept = λ from. ap (λ v. get_or (map kept v.items) from []) n;
      room = λ k ne. ap (λ v. get_or (map room v) k 0) items ∙ set_elsewhere room l to y k 0 ne;
      used = ap (λ v. get_or (map room v) to 0 + 1) items ∙ ap (λ m. m + 1) (set_here room l to y 0 lt) ∙ r ∙ ap room here ∙ sym (read_here room l to o 0 lt);
    }

pub same_length : {A B : Type 0} (f : A → B) (l k : List A) → map f l ≡ map f k → length l ≡ length k
same_length f l k e = sym (length-map l f) ∙ ap length e ∙ length-map k f

-- The inlets of a port that are written back.
pub items_there : (old : Port) (items : List (Option Inlet)) → map ring_in items ≡ map ring_in old.inlets.items → (with_items old.inlets items).items ≡ items
items_there old items r = with_items_is old.inlets items (same_length ring_in items old.inlets.items r ∙ sym old.inlets.ok.0)

one_taken : (old new : Port) (from : ℕ) (letter : Letter) → new.cpu ≡ old.cpu → new.outlets ≡ old.outlets → map ring_in new.inlets.items ≡ map ring_in old.inlets.items
    → ((k : ℕ) → taken_from new k ≡ taken_from old k ++ only k from letter) → ((k : ℕ) → kept_from old k ≡ only k from letter ++ kept_from new k) ⊎ ((k : ℕ) → (kept_from old k ≡ []) × (kept_from new k ≡ [])) → HasTaken old new from letter
one_taken old new from letter c o r t h = record {
  place = λ k. record { cpu = c k; outs = map ring_out (o k).items; ins = r k };
  posted = λ to. ap (λ v. get_or (map posted v.items) to []) o;
  taken = t;
  kept = h;
  room = λ to. ap (λ v. get_or (map room v.items) to 0) o;
}

both_ways : {A B C D : Type 0} → A ⊎ B → (A → C) → (B → D) → C ⊎ D
both_ways h f g = ⊎_elim (λ a. inl (f a)) (λ b. inr (g b)) h

letter_taken : (old new : Port) (items : List (Option Inlet)) (from : ℕ) (letter : Letter) → new.cpu ≡ old.cpu → new.outlets ≡ old.outlets → new.inlets.items ≡ items
    → IsTaken old.inlets.items items from letter × IsFirst old.inlets.items items from letter → HasTaken old new from letter
letter_taken old new items from letter c o e h =
    one_taken old new from letter c o (ap (map ring_in) e ∙ h.0.rings)
    (λ k. ap (λ l. get_or (map taken l) k []) e ∙ h.0.taken k)
    (both_ways h.1
    (λ w k. w k ∙ ap (λ l. only k from letter ++ get_or (map kept l) k []) (sym e))
    (λ w k. (w.0 k, ap (λ l. get_or (map kept l) k []) e ∙ w.1 k)))

-- The letter that is next was taken at the inlet `end`, which became `end'`.
pub next_letter_taken : (old new : Port) (olds items : List (Option Inlet)) (from : ℕ) (end end' : Option Inlet) (letter : Letter) → new.cpu ≡ old.cpu → new.outlets ≡ old.outlets
    → new.inlets ≡ with_item (with_items old.inlets items) from end' → olds ≡ old.inlets.items → NoneIsTaken olds items → map kept items ≡ map kept olds → IsNext items from
    → end ≡ get_or (with_items old.inlets items).items from end → ring_in end' ≡ ring_in end → taken end' ≡ taken end ++ letter ∷ [] → (kept end ≡ letter ∷ kept end') ⊎ ((kept end ≡ []) × (kept end' ≡ []))
    → HasTaken old new from letter
next_letter_taken old new olds items from end end' letter c o i e none same next at r t k =
    let l = (with_items old.inlets items).items in
    let is : l ≡ items = items_there old items (none.rings ∙ ap (map ring_in) e) in
    letter_taken old new (set l from end') from letter c o (ap (λ v. v.items) i)
    (next_taken old.inlets.items l from end' end letter
    (subst (λ v. IsNext v from) (sym is) next)
    (subst (λ v. NoneIsTaken old.inlets.items v) (sym is) (subst (λ v. NoneIsTaken v items) e none))
    (ap (map kept) is ∙ same ∙ ap (map kept) e)
    (r ∙ ap ring_in at) (t ∙ ap (λ x. taken x ++ letter ∷ []) at)
    (subst (λ x. (kept x ≡ letter ∷ kept end') ⊎ ((kept x ≡ []) × (kept end' ≡ []))) at k))

pub none_there : (old : Port) (olds : List (Option Inlet)) → olds ≡ old.inlets.items → NoneIsKept olds → (from : ℕ) → kept_from old from ≡ []
none_there old olds e none from = ap (λ l. get_or (map kept l) from []) (sym e) ∙ none from

-- What is here at the inlets of a port that are written back.
here_there : (old : Port) (items : List (Option Inlet)) → map ring_in items ≡ map ring_in old.inlets.items
    → (from : ℕ) → get_or (map here (with_items old.inlets items).items) from [] ≡ get_or (map here items) from []
here_there old items r from = ap (λ l. get_or (map here l) from []) (items_there old items r)

pub mail_is_here : (old : Port) (olds items : List (Option Inlet)) (P : Type 0) → olds ≡ old.inlets.items → NoneIsTaken olds items
    → P ↔ NoneIsHere items → P ↔ ((from : ℕ) → get_or (map here (with_items old.inlets items).items) from [] ≡ [])
mail_is_here old olds items P e none told =
    let same = here_there old items (none.rings ∙ ap (map ring_in) e) in
    (λ p from. same from ∙ told.0 p from, λ h. told.1 (λ from. sym (same from) ∙ h from))

-- Of the outlets, the waiting letters have found no place in the ring.
abbrev pub HaveMoved : List (Option Outlet) → (below : ℕ) → Type 0
HaveMoved l below = (k : ℕ) → k < below → (get_or (map waiting l) k [] ≡ []) ⊎ (get_or (map free l) k 0 ≡ 0)

pub moved_before : (l : List (Option Outlet)) (i : ℕ) (y : Option Outlet) → i < length l → (waiting y ≡ []) ⊎ (free y ≡ 0) → HaveMoved l i
    → HaveMoved (set l i y) (i + 1)
moved_before l i y lt moved h k le = ⊎_elim
    (λ t. both_ways moved
    (λ none. ap (λ j. get_or (map waiting (set l i y)) j []) t.1 ∙ set_here waiting l i y [] lt ∙ none)
    (λ full. ap (λ j. get_or (map free (set l i y)) j 0) t.1 ∙ set_here free l i y 0 lt ∙ full))
    (λ t. let n = t.1 in both_ways (h k (omega arith))
    (λ none. set_elsewhere waiting l i y k [] n ∙ none)
    (λ full. set_elsewhere free l i y k 0 n ∙ full))
    (eqb_tells k i)
