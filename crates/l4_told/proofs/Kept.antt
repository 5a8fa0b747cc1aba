-- The begins of the undecided sends of a history are all that later steps need of it: a send that is decided stays
-- so, as it does not begin again.
use Rattle.std.proofs.Common.{◌≡◌, ◌+◌, ◌<◌, ◌≤◌, Bool, cond, Option, Some, None, List, [], ◌∷◌, ◌++◌, refl}
use Rattle.std.proofs.Common.{ap, sym, ◌∙◌, arith}
use Rattle.std.specs.Prelude.{is_some}
use Rattle.std.specs.List.{cons_option}
use Rattle.std.proofs.lemmas.List.Elements.{filter_map-append}
use Rattle.std.proofs.lemmas.List.Sums.{sum_by-cons, sum_by-append}
use Rattle.l4_model.specs.Words.{Id}
use Rattle.l4_model.specs.Machine.{Machine}
use Rattle.l4_model.specs.World.{Name, World, opening}
use Rattle.l4_model.specs.Steps.{Step, Begin, next}
use Rattle.l4_model.specs.Conditions.{◌>>=◌, Pending, undecided}
use Rattle.l4_model.specs.History.{begun_name, reached, run, waiting, waiting_name}
use Rattle.l4_model.specs.Laws.{begins_of, names, same_name}
use Rattle.l4_model.proofs.Accounted.{beginnings, begins_once, pending_is, pending_of, step_balance}
use Rattle.l4_model.proofs.Chains.{bind_then, some_is}
use Rattle.l4_model.proofs.Deleted.{parted}
use Rattle.l4_model.proofs.Places.{same_name_refl}
use Rattle.l4_model.proofs.Sends.{effect}
use Rattle.l4_model.proofs.Sound.{AreSound, step_sound}
use Rattle.l4_model.proofs.Worlds.{standing}
use Rattle.l4_told.specs.Inner.Kept.{Keeps, begins}

-- Counts of begins over lists

begins_cons : (s : Name) (step : Step) (h : List Step) →
    begins_of s (step ∷ h) ≡ beginnings s step + begins_of s h
begins_cons s step h = sum_by-cons (λ x. cond (names s (begun_name x)) 1 0) step h

begins_append : (s : Name) (h more : List Step) →
    begins_of s (h ++ more) ≡ begins_of s h + begins_of s more
begins_append s h more = sum_by-append (λ x. cond (names s (begun_name x)) 1 0) h more

-- What is undecided was so before, or has begun since.
later_pending : (m : Machine) (s : Name) (more : List Step) (w v : World) →
    run m w more ≡ Some v → AreSound m w → pending_of m v s ≤ begins_of s more + pending_of m w s
later_pending m s [] w v r sound =
    let same : pending_of m v s ≡ pending_of m w s = ap (λ x. pending_of m x s) (sym (some_is w v r)) in
    omega (arith, same)
later_pending m s (step ∷ more) w v r sound =
    bind_then (next m w step) (λ u. run m u more) v r λ u is rest.
    let first = step_balance m w u s step (effect m w u step is) sound in
    let others = later_pending m s more u v rest (step_sound m w u step is sound) in
    omega (arith, first, others, begins_cons s step more)

none_counted : (o : Option Pending) → cond (is_some o) 1 0 ≤ 0 → o ≡ None
none_counted None none = refl
none_counted (Some p) none = absurd (omega (arith, none))

-- A send of a history that is decided stays so.
stays_decided : (m : Machine) (h more : List Step) (w v : World) (s : Name) →
    reached m h ≡ Some w → reached m (h ++ more) ≡ Some v → 0 < begins_of s h → undecided m w s ≡ None →
    undecided m v s ≡ None
stays_decided m h more w v s now later begun decided =
    let parts = parted m h more (opening m) v later in
    let same : parts.between ≡ w = some_is parts.between w (sym parts.first ∙ now) in
    let rest : run m w more ≡ Some v = ap (λ u. run m u more) (sym same) ∙ parts.second in
    let none : pending_of m w s ≡ 0 =
    sym (pending_is m w s) ∙ ap (λ (o : Option Pending). cond (is_some o) 1 0) decided in
    none_counted (undecided m v s)
    (omega (
      arith,
      begun,
      none,
      begins_once m (h ++ more) s v later,
      begins_append s h more,
      later_pending m s more w v rest (standing m h w now).sound,
      pending_is m v s,
    ))

-- A send is listed where it is undecided.
abbrev listed : Name → Option Pending → Option (Name × Id)
listed s o = o >>= λ p. Some (s, p.send.to)

-- Steps whose sends are decided at one world, and stay so, need not be kept from there on.
still_waiting : (m : Machine) (w v : World) (h : List Step) →
    ((s : Name) → 0 < begins_of s h → undecided m w s ≡ None → undecided m v s ≡ None) →
    waiting m v (begins (waiting m w h)) ≡ waiting m v h
still_waiting m w v [] stay = refl
still_waiting m w v (step ∷ h) stay =
    by (begun_name step) refl
    (still_waiting m w v h (λ s begun. stay s (omega (arith, begun, begins_cons s step h))))
  where
    begun_here : (s : Name) → begun_name step ≡ Some s → 0 < begins_of s (step ∷ h)
    begun_here s is =
        let one : beginnings s step ≡ 1 =
        ap (λ (o : Option Name). cond (names s o) 1 0) is ∙ ap (λ (b : Bool). cond b 1 0) (same_name_refl s) in
        omega (arith, one, begins_cons s step h)

    named : (s : Name) (o : Option Pending) → (o ≡ None → undecided m v s ≡ None) →
        waiting m v (begins (waiting m w h)) ≡ waiting m v h →
        waiting m v (begins (cons_option (listed s o) (waiting m w h)))
        ≡ cons_option (listed s (undecided m v s)) (waiting m v h)
    named s None decided rest =
        rest ∙ ap (λ (o : Option Pending). cons_option (listed s o) (waiting m v h)) (sym (decided refl))
    named s (Some p) decided rest = ap (cons_option (listed s (undecided m v s))) rest

    by : (o : Option Name) → begun_name step ≡ o → waiting m v (begins (waiting m w h)) ≡ waiting m v h →
        waiting m v (begins (cons_option (o >>= λ s. listed s (undecided m w s)) (waiting m w h)))
        ≡ cons_option (o >>= λ s. listed s (undecided m v s)) (waiting m v h)
    by None is rest = rest
    by (Some s) is rest = named s (undecided m w s) (λ none. stay s (begun_here s is) none) rest

-- Of nothing told nothing is kept.
pub keeps_none : (m : Machine) → Keeps m [] []
keeps_none m more w r = refl

-- Of a history its undecided sends are kept.
pub keeps : (m : Machine) (h : List Step) (w : World) → reached m h ≡ Some w → Keeps m (begins (waiting m w h)) h
keeps m h w now more v later =
    still_waiting m w v h (λ s begun decided. stays_decided m h more w v s now later begun decided)

-- What is told next is put behind both.
pub kept_goes_on : (m : Machine) (kept told steps : List Step) (w : World) → Keeps m kept told →
    reached m (told ++ steps) ≡ Some w → waiting m w (kept ++ steps) ≡ waiting m w (told ++ steps)
kept_goes_on m kept told steps w keep r =
    filter_map-append (waiting_name m w) kept steps
    ∙ ap (λ (xs : List (Name × Id)). xs ++ waiting m w steps) (keep steps w r)
    ∙ sym (filter_map-append (waiting_name m w) told steps)

-- What is kept begins no send more often than what was told does, whatever the world.
pub fewer_begun : (m : Machine) (told : List Step) (w : World) (s : Name) →
    begins_of s (begins (waiting m w told)) ≤ begins_of s told
fewer_begun m [] w s = omega arith
fewer_begun m (step ∷ told) w s =
    omega (arith, begins_cons s step told, by (begun_name step) (fewer_begun m told w s))
  where
    named : (t : Name) (o : Option Pending) → begins_of s (begins (waiting m w told)) ≤ begins_of s told →
        begins_of s (begins (cons_option (listed t o) (waiting m w told)))
        ≤ cond (same_name s t) 1 0 + begins_of s told
    named t None rest = omega (arith, rest)
    named t (Some p) rest = omega (arith, rest, begins_cons s (Begin t) (begins (waiting m w told)))

    by : (o : Option Name) → begins_of s (begins (waiting m w told)) ≤ begins_of s told →
        begins_of s (begins (cons_option (o >>= λ t. listed t (undecided m w t)) (waiting m w told)))
        ≤ cond (names s o) 1 0 + begins_of s told
    by None rest = omega (arith, rest)
    by (Some t) rest = named t (undecided m w t) rest

pub kept_once : (m : Machine) (told : List Step) (w : World) (s : Name) → reached m told ≡ Some w →
    begins_of s (begins (waiting m w told)) ≤ begins_of s told
kept_once m told w s r = fewer_begun m told w s

pub begun_once : (m : Machine) (told steps : List Step) (w : World) (s : Name) → reached m told ≡ Some w →
    begins_of s (begins (waiting m w told) ++ steps) ≤ begins_of s (told ++ steps)
begun_once m told steps w s r =
    omega (
      arith,
      kept_once m told w s r,
      begins_append s (begins (waiting m w told)) steps,
      begins_append s told steps,
    )
