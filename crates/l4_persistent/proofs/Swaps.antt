-- Events of different processors happen in either order.
use Rattle.std.proofs.Common.{◌≡◌, ℕ, zero, suc, ◌⊎◌, inl, inr, Bool, true, false, cond, Option, Some, None, List, [], ◌∷◌, ◌++◌, refl, ap, sym, ◌∙◌, subst, append_assoc}
use Rattle.std.specs.Prelude.{slice_get, ◌==◌}
use Rattle.std.specs.Option.{option_map}
use Rattle.std.proofs.lemmas.Bool.{eqb-true, ne_eqb}
use Rattle.std.proofs.lemmas.List.{append-nil, append_cancel_left}
use Rattle.l4_model.specs.Machine.{Machine}
use Rattle.l4_model.specs.World.{changed}
use Rattle.l4_model.proofs.Chains.{bind_then, some_is}
use Rattle.l4_core_model.specs.Letters.{Letter}
use Rattle.l4_core_model.specs.Local.{Local}
use Rattle.l4_core_model.specs.Acts.{Work}
use Rattle.l4_core_model.specs.Runs.{System, Action, Handles, Turns, Ticks, Happened, done, happens, letters}
use Rattle.l4_merge.specs.Transitions.{LocalEvent, Handled, Turned, Ticked, work_of, action_of, letter_of, Transition, letters_with, Does}
use Rattle.l4_merge.specs.LocalTraces.{Begins}
use Rattle.l4_merge.proofs.OneDeed.{given, IsGiven, done_by, happens_so, given-mail, mail_then, locals_then, other_local_then}
use Rattle.l4_persistent.specs.Persistent.{cpu_of, IsThere, AreSame, AreSwapped}

-- What happens is a processor's transition, of this very event.
pub record IsDeedOf (m : Machine) (g : System) (a : Action) (h : Happened) : Type 0 where
  pub transition : Transition
  pub local : Local
  pub action : action_of transition.cpu transition.event ≡ a
  pub at : slice_get g.locals transition.cpu ≡ Some local
  pub does : Does m transition.cpu local transition
  pub given : IsGiven transition.cpu transition.event g
  pub is : done_by transition g ≡ h

is_deed : (m : Machine) (g : System) (h : Happened) (cpu : ℕ) (event : LocalEvent) (l : Local) →
    slice_get g.locals cpu ≡ Some l → IsGiven cpu event g →
    option_map (done cpu (given cpu event g)) (work_of m cpu l event) ≡ Some h → IsDeedOf m g (action_of cpu event) h
is_deed m g h cpu event l at first is = by (work_of m cpu l event) refl is
  where
    by : (o : Option Work) → work_of m cpu l event ≡ o → option_map (done cpu (given cpu event g)) o ≡ Some h →
        IsDeedOf m g (action_of cpu event) h
    by None works is = absurd cc
    by (Some x) works is = record {
      transition = record { cpu = cpu; event = event; work = x };
      local = l;
      action = refl;
      at = at;
      does = record { own = refl; work = works };
      given = first;
      is = some_is (done cpu (given cpu event g) x) h is;
    }

first_of : (ls : List Letter) (letter : Letter) → slice_get ls 0 ≡ Some letter → Begins (letter ∷ []) ls
first_of [] letter h = absurd cc
first_of (l ∷ ls) letter h = record { rest = ls; is = ap (λ l. l ∷ ls) (some_is l letter h) }

pub deed_of : (m : Machine) (g : System) (a : Action) (h : Happened) → happens m g a ≡ Some h → IsDeedOf m g a h
deed_of m g (Handles cpu from) h is =
    bind_then (slice_get g.locals cpu) _ h is λ l at is.
    bind_then (slice_get (letters g.mail from cpu) 0) _ h is λ letter first is.
    is_deed m g h cpu (Handled from letter) l at (first_of (letters g.mail from cpu) letter first) is
deed_of m g (Turns cpu) h is =
    bind_then (slice_get g.locals cpu) _ h is λ l at is.
    is_deed m g h cpu Turned l at tt is
deed_of m g (Ticks cpu clock) h is =
    bind_then (slice_get g.locals cpu) _ h is λ l at is.
    is_deed m g h cpu (Ticked clock) l at tt is

pub cpu_is : (cpu : ℕ) (event : LocalEvent) → cpu_of (action_of cpu event) ≡ cpu
cpu_is cpu (Handled from letter) = refl
cpu_is cpu Turned = refl
cpu_is cpu (Ticked clock) = refl

-- Two elements are changed in either order.
swap_changed : {A : Type 0} (f h : A → A) (xs : List A) (i j : ℕ) → (i ≡ j → ⊥) →
    changed f (changed h xs j) i ≡ changed h (changed f xs i) j
swap_changed f h [] i j ne = refl
swap_changed f h (x ∷ xs) zero zero ne = absurd (ne refl)
swap_changed f h (x ∷ xs) zero (suc j) ne = refl
swap_changed f h (x ∷ xs) (suc i) zero ne = refl
swap_changed f h (x ∷ xs) (suc i) (suc j) ne = ap (λ ys. x ∷ ys) (swap_changed f h xs i j (λ e. ne (ap suc e)))

-- Letters of one pair: at most one of two processors handles them, and at most one posts them.

swap_ends : (z p q : List Letter) → (p ≡ []) ⊎ (q ≡ []) → (z ++ p) ++ q ≡ (z ++ q) ++ p
swap_ends z p q (inl e) = rw e (ap (λ ls. ls ++ q) (append-nil z) ∙ sym (append-nil (z ++ q)))
swap_ends z p q (inr e) = rw e (append-nil (z ++ p) ∙ ap (λ ls. ls ++ p) (sym (append-nil z)))

swap_lists : (first second posted more all x y z w : List Letter) → (first ≡ []) ⊎ (second ≡ []) →
    (posted ≡ []) ⊎ (more ≡ []) →
    all ≡ first ++ x → x ++ posted ≡ second ++ y → all ≡ second ++ z → z ++ more ≡ first ++ w → y ++ more ≡ w ++ posted
swap_lists first second posted more all x y z w (inl e) ends one then_one other then_other =
    let x_is : all ≡ x = one ∙ ap (λ ls. ls ++ x) e in
    let w_is : z ++ more ≡ w = then_other ∙ ap (λ ls. ls ++ w) e in
    let y_is : z ++ posted ≡ y =
    append_cancel_left second (z ++ posted) y
    (sym (append_assoc second z posted) ∙ ap (λ ls. ls ++ posted) (sym other ∙ x_is) ∙ then_one) in
    ap (λ ls. ls ++ more) (sym y_is) ∙ swap_ends z posted more ends ∙ ap (λ ls. ls ++ posted) w_is
swap_lists first second posted more all x y z w (inr e) ends one then_one other then_other =
    let z_is : all ≡ z = other ∙ ap (λ ls. ls ++ z) e in
    let y_is : x ++ posted ≡ y = then_one ∙ ap (λ ls. ls ++ y) e in
    let w_is : x ++ more ≡ w =
    append_cancel_left first (x ++ more) w
    (sym (append_assoc first x more) ∙ ap (λ ls. ls ++ more) (sym one ∙ z_is) ∙ then_other) in
    ap (λ ls. ls ++ more) (sym y_is) ∙ swap_ends x posted more ends ∙ ap (λ ls. ls ++ posted) w_is

-- One of two numbers is not this one.
one_is_not : (p q n : ℕ) (xs ys : List Letter) → (p ≡ q → ⊥) → (cond (p == n) xs [] ≡ []) ⊎ (cond (q == n) ys [] ≡ [])
one_is_not p q n xs ys other = by (p == n) (q == n) refl refl
  where
    by : (b c : Bool) → (p == n) ≡ b → (q == n) ≡ c → (cond b xs [] ≡ []) ⊎ (cond c ys [] ≡ [])
    by false c s t = inl refl
    by true false s t = inr refl
    by true true s t = absurd (other (eqb-true p n s ∙ sym (eqb-true q n t)))

-- What is under way to a processor stays under way, in front, while another goes on.
pub stays_under_way : (d : Transition) (g : System) (from to : ℕ) → (d.cpu ≡ to → ⊥) → IsGiven d.cpu d.event g →
    Begins (letters g.mail from to) (letters (done_by d g).system.mail from to)
stays_under_way d g from to other first = record {
  rest = cond (d.cpu == from) (letters_with to d.work.letters) [];
  is = mail_then d g from to
      ∙ ap (λ ls. ls ++ cond (d.cpu == from) (letters_with to d.work.letters) [])
      (sym (given-mail d.cpu d.event g first from to ∙ ap (λ b. cond b
      (letters_with from (letter_of d.event)) [] ++ letters (given d.cpu d.event g).mail from to)
      (ne_eqb d.cpu to other)));
}

pub given_later : (d e : Transition) (g : System) → (d.cpu ≡ e.cpu → ⊥) → IsGiven d.cpu d.event g →
    IsGiven e.cpu e.event g → IsGiven d.cpu d.event (done_by e g).system
given_later d e g other first given = by d.event first
  where
    by : (event : LocalEvent) → IsGiven d.cpu event g → IsGiven d.cpu event (done_by e g).system
    by (Handled q letter) first =
        let stays = stays_under_way e g q d.cpu (λ s. other (sym s)) given in
        record { rest = first.rest ++ stays.rest; is = stays.is ∙ ap (λ ls. ls ++ stays.rest) first.is }
    by Turned first = tt
    by (Ticked clock) first = tt

begins_with : (letter : Letter) (xs more ls rest : List Letter) → (xs ≡ [] → ⊥) → ls ≡ xs ++ more → ls ≡ letter ∷ rest →
    Begins (letter ∷ []) xs
begins_with letter [] more ls rest some is first = absurd (some refl)
begins_with letter (x ∷ xs) more ls rest some is first =
    let both : x ∷ (xs ++ more) ≡ letter ∷ rest = sym is ∙ first in
    let same : x ≡ letter = cc in
    record { rest = xs; is = ap (λ l. l ∷ xs) same }

given_before : (d e : Transition) (g : System) → (d.cpu ≡ e.cpu → ⊥) → IsGiven d.cpu d.event g →
    IsGiven e.cpu e.event (done_by d g).system → IsThere g (action_of e.cpu e.event) →
    IsGiven e.cpu e.event g
given_before d e g other first given there = by e.event given there
  where
    by : (event : LocalEvent) → IsGiven e.cpu event (done_by d g).system → IsThere g (action_of e.cpu event) →
        IsGiven e.cpu event g
    by (Handled q letter) given there =
        let stays = stays_under_way d g q e.cpu other first in
        begins_with letter (letters g.mail q e.cpu) stays.rest _ given.rest there stays.is given.is
    by Turned given there = tt
    by (Ticked clock) given there = tt

-- The events

same_state : (d e : Transition) (g : System) → (d.cpu ≡ e.cpu → ⊥) → IsGiven d.cpu d.event g → IsGiven e.cpu e.event g →
    IsGiven e.cpu e.event (done_by d g).system →
    IsGiven d.cpu d.event (done_by e g).system → AreSame (done_by e (done_by d g).system).system
    (done_by d (done_by e g).system).system
same_state d e g other first second then_second then_first = record {
  locals =
      locals_then e (done_by d g).system
      ∙ ap (λ ls. changed (λ l. e.work.local) ls e.cpu) (locals_then d g)
      ∙ swap_changed (λ l. e.work.local) (λ l. d.work.local) g.locals e.cpu d.cpu (λ s. other (sym s))
      ∙ sym (ap (λ ls. changed (λ l. d.work.local) ls d.cpu) (locals_then e g))
      ∙ sym (locals_then d (done_by e g).system);
  mail = λ from to.
      mail_then e (done_by d g).system from to
      ∙ swap_lists _ _ _ _ (letters g.mail from to) _ _ _ _
      (one_is_not d.cpu e.cpu to (letters_with from (letter_of d.event)) (letters_with from (letter_of e.event)) other)
      (one_is_not d.cpu e.cpu from (letters_with to d.work.letters) (letters_with to e.work.letters) other)
      (given-mail d.cpu d.event g first from to)
      (sym (mail_then d g from to) ∙ given-mail e.cpu e.event (done_by d g).system then_second from to)
      (given-mail e.cpu e.event g second from to)
      (sym (mail_then e g from to) ∙ given-mail d.cpu d.event (done_by e g).system then_first from to)
      ∙ sym (mail_then d (done_by e g).system from to);
}

swap_deeds : (m : Machine) (g : System) (a b : Action) (d e : Transition) (l n : Local) → action_of d.cpu d.event ≡ a →
    action_of e.cpu e.event ≡ b → (d.cpu ≡ e.cpu → ⊥) →
    slice_get g.locals d.cpu ≡ Some l → Does m d.cpu l d → IsGiven d.cpu d.event g →
    slice_get (done_by d g).system.locals e.cpu ≡ Some n → Does m e.cpu n e →
    IsGiven e.cpu e.event (done_by d g).system → IsThere g b →
    AreSwapped m g a b (done_by d g) (done_by e (done_by d g).system)
swap_deeds m g a b d e l n a_is b_is other at does first at_then does_then then_second there =
    let second : IsGiven e.cpu e.event g = given_before d e g other first then_second
    (subst (IsThere g) (sym b_is) there) in
    let then_first : IsGiven d.cpu d.event (done_by e g).system = given_later d e g other first second in
    record {
      first = done_by e g;
      second = done_by d (done_by e g).system;
      goes = ap (happens m g) (sym b_is) ∙ happens_so m g e n (sym (other_local_then d g e.cpu other)
          ∙ at_then) does_then second;
      goes_on =
          ap (happens m (done_by e g).system) (sym a_is)
          ∙ happens_so m (done_by e g).system d l (other_local_then e g d.cpu (λ s. other (sym s))
          ∙ at) does then_first;
      told_first = refl;
      told_second = refl;
      same = same_state d e g other first second then_second then_first;
    }

pub swapped : (m : Machine) (g : System) (a b : Action) (h k : Happened) → (cpu_of a ≡ cpu_of b → ⊥) →
    happens m g a ≡ Some h → happens m h.system b ≡ Some k →
    IsThere g b → AreSwapped m g a b h k
swapped m g a b h k other may next there =
    let da = deed_of m g a h may in
    let d = da.transition in
    let db = deed_of m (done_by d g).system b k (subst (λ (h : Happened). happens m h.system b ≡ Some k)
    (sym da.is) next) in
    let e = db.transition in
    let apart : d.cpu ≡ e.cpu → ⊥ =
    λ s. other (sym (ap cpu_of da.action) ∙ cpu_is d.cpu d.event ∙ s ∙ sym (cpu_is e.cpu e.event)
    ∙ ap cpu_of db.action) in
    subst (λ (h : Happened). AreSwapped m g a b h k) da.is
    (subst (λ (k : Happened). AreSwapped m g a b (done_by d g) k) db.is
    (swap_deeds m g a b d e da.local db.local da.action db.action apart da.at da.does da.given db.at db.does db.given
    there))
