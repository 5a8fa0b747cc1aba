-- Where a send need not wait for a retarget: where it stands in a list, where nothing is kept beside its sender, where its letter is the first of its
-- pair, and where its destination is not declared.
use Rattle.l4_refines.proofs.Frames.Mail.{IsFirstLetter}
use Rattle.l4_core_model.proofs.Lists.{all-map, all-map_with}
use Rattle.l4_core_model.specs.Runs.{Posted, is_between}
use Rattle.l4_core_model.specs.Letters.{SendLetter, Letter}
use Rattle.std.proofs.Common.{◌≡◌, ℕ, Bool, true, false, cond, Option, Some, None, List, [], ◌∷◌, ◌++◌, filter, refl, ap, sym, ◌∙◌, subst}
use Rattle.std.specs.Prelude.{◌==◌, ◌&&◌, ◌||◌, is_some, IfSome}
use Rattle.std.specs.List.{AllByRecursion, list_any, cons_option}
use Rattle.l4_model.specs.Words.{GlobalId, Id, NilThread, AnyThread, AnyLocalThread, LocalThread, GlobalThread, same_id, is_id_of}
use Rattle.l4_model.specs.Machine.{Machine, place_of}
use Rattle.l4_model.specs.World.{Owed, is_in, list_at, must_wait, Name, Message}
use Rattle.l4_model.specs.Reached.{IsOwedAmong, IsOwedApart}
use Rattle.l4_model.proofs.Places.{and_true, same_id_is, one_place}
use Rattle.l4_core_model.specs.Local.{declared, destination_place}
use Rattle.l4_core_model.proofs.Changed.{same_nat}
use Rattle.l4_refines.proofs.Lists.{none_kept, other_is, all_join}
use Rattle.l4_refines.proofs.Relation.Views.{home}
use Rattle.l4_refines.proofs.Relation.Owing.{home_of, goes_away, is_beside, retarget_of, retargets_in, IsRouted, IsNoSendOf, MayFollow, AreInOrder, Owing}

-- It must wait for this one.
abbrev pub waits_for : GlobalId → Id → Owed → Bool
waits_for sender to o = same_id sender o.new_partner && is_id_of to o.originator

unless : (b : Bool) → ((b ≡ true) → ⊥) → b ≡ false
unless true no_way = absurd (no_way refl)
unless false no_way = refl

-- Then its destination is the originator, and it is the new partner.
record IsFor (m : Machine) (to : Id) (sender : GlobalId) (o : Owed) : Type 0 where
  pub new_partner : sender ≡ o.new_partner
  pub originator : to ≡ GlobalThread o.originator

is_for : (m : Machine) (to : Id) (sender : GlobalId) (o : Owed) → waits_for sender to o ≡ true → IsFor m to sender o
is_for m to sender o h =
    let both = and_true (same_id sender o.new_partner) (is_id_of to o.originator) h in
    record { new_partner = same_id_is sender o.new_partner both.0; originator = id to both.1 }
  where
    id : (to : Id) → is_id_of to o.originator ≡ true → to ≡ GlobalThread o.originator
    id NilThread h = cc
    id AnyThread h = cc
    id AnyLocalThread h = cc
    id (LocalThread word) h = cc
    id (GlobalThread t) h = ap GlobalThread (same_id_is t o.originator h)

-- None of them is such.
none_for : (P : Owed → Type 0) (m : Machine) (to : Id) (sender : GlobalId) (owed : List Owed) → ((o : Owed) → P o → IsFor m to sender o → ⊥) →
    AllByRecursion P owed → must_wait owed sender to ≡ false
none_for P m to sender [] differ all = refl
none_for P m to sender (o ∷ owed) differ all =
    let first = unless (waits_for sender to o) (λ h. differ o all.0 (is_for m to sender o h)) in
    rw first (none_for P m to sender owed differ all.1)

-- It stands in its receiver's list.
pub waiting_free : (m : Machine) (i r : ℕ) (to : Id) (lists : List (List ℕ)) (owed : List Owed) → place_of m (declared m i).id ≡ Some i →
    destination_place m to ≡ Some r → is_in i (list_at lists r) ≡ true → AllByRecursion (IsOwedApart m lists) owed →
    must_wait owed (declared m i).id to ≡ false
waiting_free m i r to lists owed placed at stands all =
    none_for (IsOwedApart m lists) m to (declared m i).id owed
    (λ o apart is. let out = apart r i (sym (ap (destination_place m) is.originator) ∙ at) (sym (ap (place_of m) is.new_partner) ∙ placed) in cc) all

-- Its destination is no declared thread.
pub nowhere_free : (m : Machine) (sender : GlobalId) (to : Id) (owed : List Owed) → destination_place m to ≡ None → AllByRecursion (IsOwedAmong m) owed →
    must_wait owed sender to ≡ false
nowhere_free m sender to owed at all =
    none_for (IsOwedAmong m) m to sender owed
    (λ o among is. let none : place_of m o.originator ≡ None = sym (ap (destination_place m) is.originator) ∙ at in
    let some : is_some (place_of m o.originator) ≡ true = among.originator in
    let no : is_some {T = ℕ} None ≡ true = ap is_some (sym none) ∙ some in cc) all

-- A test that is stricter fails where this one does.
none_stricter : (p q : Owed → Bool) (owed : List Owed) → ((o : Owed) → p o ≡ true → q o ≡ true) → list_any q owed ≡ false → list_any p owed ≡ false
none_stricter p q [] less none = refl
none_stricter p q (o ∷ owed) less none = by (p o) refl (q o) refl none (none_stricter p q owed less)
  where
    by : (a : Bool) → p o ≡ a → (b : Bool) → q o ≡ b → (b || list_any q owed) ≡ false → (list_any q owed ≡ false → list_any p owed ≡ false) →
        (a || list_any p owed) ≡ false
    by a is true at h rest = cc
    by true is false at h rest = let no = less o is in cc
    by false is false at h rest = rest h

pub home_at : (m : Machine) (id : GlobalId) (i : ℕ) → place_of m id ≡ Some i → home_of m id ≡ home m i
home_at m id i at = rw at refl

-- Nothing is kept beside its sender, and the two are of one processor.
pub own_free : (m : Machine) (i r : ℕ) (to : Id) (owed : List Owed) → place_of m (declared m i).id ≡ Some i → destination_place m to ≡ Some r → home m r ≡ home m i →
    filter (is_beside m i) owed ≡ [] → must_wait owed (declared m i).id to ≡ false
own_free m i r to owed placed at one none =
    none_stricter (waits_for (declared m i).id to) (is_beside m i) owed
    (λ o h. let is = is_for m to (declared m i).id o h in
    let new_partner : place_of m o.new_partner ≡ Some i = sym (ap (place_of m) is.new_partner) ∙ placed in
    let originator : place_of m o.originator ≡ Some r = sym (ap (destination_place m) is.originator) ∙ at in
    let same : (home m r == home m i) ≡ true = rw one (same_nat (home m i)) in
    let here = same_nat i in
    rw (new_partner, originator, here, same) refl)
    (none_kept (is_beside m i) owed none)

-- All that go away are others.
pub away_free : (m : Machine) (i r : ℕ) (to : Id) (owed : List Owed) → place_of m (declared m i).id ≡ Some i → destination_place m to ≡ Some r →
    (home m r ≡ home m i → ⊥) → AllByRecursion (λ o. waits_for (declared m i).id to o ≡ false) (filter (goes_away m) owed) →
    must_wait owed (declared m i).id to ≡ false
away_free m i r to [] placed at apart all = refl
away_free m i r to (o ∷ owed) placed at apart all = by (goes_away m o) refl all (away_free m i r to owed placed at apart)
  where
    by : (b : Bool) → goes_away m o ≡ b →
        AllByRecursion (λ o. waits_for (declared m i).id to o ≡ false) (cond b (o ∷ filter (goes_away m) owed) (filter (goes_away m) owed)) →
        (AllByRecursion (λ o. waits_for (declared m i).id to o ≡ false) (filter (goes_away m) owed) → must_wait owed (declared m i).id to ≡ false) →
        (waits_for (declared m i).id to o || must_wait owed (declared m i).id to) ≡ false
    by true away all rest = let first = all.0 in rw first (rest all.1)
    by false stays all rest =
        let first : waits_for (declared m i).id to o ≡ false = unless (waits_for (declared m i).id to o) (λ h.
        let is = is_for m to (declared m i).id o h in
        let new_partner : place_of m o.new_partner ≡ Some i = sym (ap (place_of m) is.new_partner) ∙ placed in
        let originator : place_of m o.originator ≡ Some r = sym (ap (destination_place m) is.originator) ∙ at in
        let differ : (home m r == home m i) ≡ false = other_is (home m r) (home m i) apart in
        let goes : goes_away m o ≡ true = rw (new_partner, originator, differ) refl in
        cc) in
        rw first (rest all)

-- Its letter is the first of its pair: no letter of a retarget for it stands before or behind.

all_retargets : (P : Owed → Type 0) (mail : List Posted) → AllByRecursion (λ q. IfSome (retarget_of q) P) mail → AllByRecursion P (retargets_in mail)
all_retargets P [] all = tt
all_retargets P (q ∷ mail) all = by (retarget_of q) all.0 (all_retargets P mail all.1)
  where
    by : (o : Option Owed) → IfSome o P → AllByRecursion P (retargets_in mail) → AllByRecursion P (cons_option o (retargets_in mail))
    by None h rest = rest
    by (Some o) h rest = (h, rest)

all_before : {A : Type 0} (P : A → Type 0) (xs ys : List A) → AllByRecursion P (xs ++ ys) → AllByRecursion P xs
all_before P [] ys all = tt
all_before P (x ∷ xs) ys all = (all.0, all_before P xs ys all.1)

follow_in : (xs ys : List Posted) (p : Posted) → AreInOrder (xs ++ p ∷ ys) → AllByRecursion (MayFollow p) ys
follow_in [] ys p h = h.0
follow_in (x ∷ xs) ys p h = follow_in xs ys p h.1

some_as : (P Q : Owed → Type 0) (o : Option Owed) → ((x : Owed) → P x → Q x) → IfSome o P → IfSome o Q
some_as P Q None f h = tt
some_as P Q (Some x) f h = f x h

pub first_free : (m : Machine) (kept_beside : ℕ → List (Option Owed)) (from cpu i r : ℕ) (letter : Letter) (name : Name) (receiver : GlobalId) (message : Message)
    (zero_timeout : Bool) (to : Id) (mail : List Posted) (owed : List Owed) → letter.content ≡ SendLetter name receiver message zero_timeout →
    place_of m name.thread ≡ Some i → place_of m (declared m i).id ≡ Some i → destination_place m to ≡ Some r → home m i ≡ from → home m r ≡ cpu →
    (home m r ≡ home m i → ⊥) → IsFirstLetter from cpu letter mail → Owing m kept_beside mail owed → must_wait owed (declared m i).id to ≡ false
first_free m kept_beside from cpu i r letter name receiver message zero_timeout to mail owed content named placed at home_i home_r apart f h =
    away_free m i r to owed placed at apart
    (subst (AllByRecursion T) h.letters (all_retargets T mail (subst (AllByRecursion (λ q. IfSome (retarget_of q) T)) (sym f.is)
    (all_join (λ q. IfSome (retarget_of q) T) f.before (p ∷ f.after)
    (all-map_with (IsRouted m) (λ q. is_between from cpu q ≡ false) (λ q. IfSome (retarget_of q) T) before f.before
    (all_before (IsRouted m) f.before (p ∷ f.after) (subst (AllByRecursion (IsRouted m)) f.is h.routed)) f.first)
    (itself, all-map (MayFollow p) (λ q. IfSome (retarget_of q) T) behind f.after (follow_in f.before f.after p (subst AreInOrder f.is h.in_order)))))))
  where
    T : Owed → Type 0
    T o = waits_for (declared m i).id to o ≡ false

    p : Posted
    p = record { from = from; to = cpu; letter = letter }

    itself : IfSome (retarget_of (record { from = from; to = cpu; letter = letter })) (λ o. waits_for (declared m i).id to o ≡ false)
    itself = rw content tt

    before : (q : Posted) → IsRouted m q → is_between from cpu q ≡ false → IfSome (retarget_of q) (λ o. waits_for (declared m i).id to o ≡ false)
    before q routed out = some_as (λ o. (q.from ≡ home_of m o.new_partner) × (q.to ≡ home_of m o.originator)) (λ o. waits_for (declared m i).id to o ≡ false)
        (retarget_of q) (λ o route. unless (waits_for (declared m i).id to o) (λ h.
        let is = is_for m to (declared m i).id o h in
        let from_is : q.from ≡ from = route.0 ∙ home_at m o.new_partner i (sym (ap (place_of m) is.new_partner) ∙ placed) ∙ home_i in
        let to_is : q.to ≡ cpu = route.1 ∙ home_at m o.originator r (sym (ap (destination_place m) is.originator) ∙ at) ∙ home_r in
        let a = same_nat from in
        let b = same_nat cpu in
        let between : is_between from cpu q ≡ true = rw (from_is, to_is, a, b) refl in
        cc)) routed

    behind : (q : Posted) → MayFollow (record { from = from; to = cpu; letter = letter }) q → IfSome (retarget_of q) (λ o. waits_for (declared m i).id to o ≡ false)
    behind q may = some_as (λ o. IsNoSendOf o letter.content) (λ o. waits_for (declared m i).id to o ≡ false) (retarget_of q) (λ o none.
        let other : same_id name.thread o.new_partner ≡ false = subst (IsNoSendOf o) content none in
        let one : name.thread ≡ (declared m i).id = one_place m name.thread (declared m i).id i named placed in
        let differ : same_id (declared m i).id o.new_partner ≡ false = ap (λ t. same_id t o.new_partner) (sym one) ∙ other in
        rw differ refl) may
