-- What the code sees of a step is what the condition sees.
use Rattle.std.proofs.Common.{◌≡◌, ℕ, zero, suc, ◌<◌, Bool, true, false, Option, Some, None, List, [], ◌∷◌, length, get_or, refl, ap, ap₂, sym, ◌∙◌, arith}
use Rattle.std.specs.Prelude.{◌&&◌, ◌||◌, not, slice_get}
use Rattle.std.specs.List.{list_any}
use Rattle.l4_model.specs.Words.{GlobalId}
use Rattle.l4_model.specs.Machine.{Machine, Declaration, place_of}
use Rattle.l4_model.specs.World.{World}
use Rattle.l4_model.specs.Conditions.{Found, found, instruction}
use Rattle.l4_model.specs.Steps.{Step, Local, Begin, Queue, Deliver, Wait, SendTimeout, ReceiveTimeout, SendNobody, ReceiveNobody, SendCancel, ReceiveCancel, Drop, Order, Obey, Tick, Retarget}
use Rattle.l4_model.proofs.Chains.{get-map, some_is}
use Rattle.l4_model.proofs.Places.{id_of, place_id}
use Rattle.l4_first.specs.First.{stands_alone}
use Rattle.l4_invariants.specs.Inner.Reads.{Reads, InState, InCode, InSenders, InRegisters, InSend, goes_unseen, is_visible, reads_any, run_is_visible, written}
use Rattle.l4_invariants.specs.Inner.Reads as reads
use Rattle.l4_condition_lines.specs.Inner.Reading.{reads_of}
use Rattle.l4_outlooks.specs.Inner.Standing.{left_alone, spared_of, stands_by}
use Rattle.l4_always.specs.Inner.Parts.{has_part, own_thread, parts_of, parts_read, run_writes, writes_part}
use Rattle.l4_always.specs.declared.reading.Parts.{Parts}

same_part : (is_read : reads.Part → Bool) (p : reads.Part) → has_part (parts_of is_read) p ≡ is_read p
same_part is_read InState = refl
same_part is_read InCode = refl
same_part is_read InSenders = refl
same_part is_read InRegisters = refl
same_part is_read InSend = refl

same_any : (is_read : reads.Part → Bool) (ps : List reads.Part) → list_any (has_part (parts_of is_read)) ps ≡ list_any is_read ps
same_any is_read [] = refl
same_any is_read (p ∷ ps) = ap₂ (λ (a b : Bool). a || b) (same_part is_read p) (same_any is_read ps)

module _ (m : Machine) (w : World) (reads : Reads) where
  of_run : (id : GlobalId) (o : Option Found) → found m w id ≡ o → run_writes (parts_of (reads id)) o ≡ run_is_visible reads o
  of_run id None is = refl
  of_run id (Some t) is = same_any (reads id) (written (instruction t)) ∙ ap (λ x. list_any (reads x) (written (instruction t))) (sym (id_of m w id t is).0)

  -- By the thread whose step it is
  visible_as : (id : GlobalId) (step : Step) → own_thread step ≡ Some id → writes_part m w (parts_of (reads id)) step ≡ is_visible m reads w step
  visible_as id (Local x) own = ap (λ y. writes_part m w (parts_of (reads y)) (Local x)) (sym (some_is x id own)) ∙ of_run x (found m w x) refl
  visible_as id (Begin s) own = ap (λ y. writes_part m w (parts_of (reads y)) (Begin s)) (sym (some_is s.thread id own)) ∙ same_any (reads s.thread) (InState ∷ InSend ∷ [])
  visible_as id (Wait x) own = ap (λ y. writes_part m w (parts_of (reads y)) (Wait x)) (sym (some_is x id own)) ∙ same_any (reads x) (InState ∷ [])
  visible_as id (Order x target what) own = ap (λ y. writes_part m w (parts_of (reads y)) (Order x target what)) (sym (some_is x id own)) ∙ same_any (reads x) (InState ∷ [])
  visible_as id (Queue s) own = refl
  visible_as id (Deliver s r shown actual tag words) own = refl
  visible_as id (SendTimeout s) own = refl
  visible_as id (ReceiveTimeout x) own = refl
  visible_as id (SendNobody s) own = refl
  visible_as id (ReceiveNobody x) own = refl
  visible_as id (SendCancel s) own = refl
  visible_as id (ReceiveCancel x) own = refl
  visible_as id (Drop s) own = refl
  visible_as id (Obey x) own = refl
  visible_as id (Tick cpu clock) own = refl
  visible_as id (Retarget s) own = refl

alone_as : (m : Machine) (id : GlobalId) (step : Step) → own_thread step ≡ Some id → stands_by (Some (spared_of m id)) step ≡ stands_alone m step
alone_as m id (Local x) own = ap (λ y. stands_by (Some (spared_of m y)) (Local x)) (sym (some_is x id own))
alone_as m id (Begin s) own = ap (λ y. stands_by (Some (spared_of m y)) (Begin s)) (sym (some_is s.thread id own))
alone_as m id (Wait x) own = ap (λ y. stands_by (Some (spared_of m y)) (Wait x)) (sym (some_is x id own))
alone_as m id (Order x target what) own = ap (λ y. stands_by (Some (spared_of m y)) (Order x target what)) (sym (some_is x id own))
alone_as m id (Queue s) own = cc
alone_as m id (Deliver s r shown actual tag words) own = cc
alone_as m id (SendTimeout s) own = cc
alone_as m id (ReceiveTimeout x) own = cc
alone_as m id (SendNobody s) own = cc
alone_as m id (ReceiveNobody x) own = cc
alone_as m id (SendCancel s) own = cc
alone_as m id (ReceiveCancel x) own = cc
alone_as m id (Drop s) own = cc
alone_as m id (Obey x) own = cc
alone_as m id (Tick cpu clock) own = cc
alone_as m id (Retarget s) own = cc

pub get_at : {A : Type 0} (xs : List A) (i : ℕ) (d : A) → i < length xs → slice_get xs i ≡ Some (get_or xs i d)
get_at [] i d lt = absurd (omega (arith, lt))
get_at (x ∷ xs) zero d lt = refl
get_at (x ∷ xs) (suc i) d lt = get_at xs i d (omega (arith, lt))

-- The declaration at the place of a thread is its own.
declared_at : (m : Machine) (id : GlobalId) (place : ℕ) (d : Declaration) → place_of m id ≡ Some place → slice_get m.threads place ≡ Some d → d.id ≡ id
declared_at m id place d is at =
    let p = place_id m id place is d in
    ap (λ (x : Declaration). x.id) (sym (some_is _ d (sym (get_at m.threads place d p.0) ∙ at))) ∙ p.1

there : (m : Machine) (id : GlobalId) (place : ℕ) → place_of m id ≡ Some place → (d : Declaration) × (slice_get m.threads place ≡ Some d) × (d.id ≡ id)
there m id place is = by m.threads refl
  where
    by : (ds : List Declaration) → m.threads ≡ ds → (d : Declaration) × (slice_get m.threads place ≡ Some d) × (d.id ≡ id)
    by [] none = absurd (omega (arith, ap length none, (place_id m id place is (record { id = id; cpu = 0; space = 0; script = [] })).0))
    by (e ∷ ds) some =
        let p = place_id m id place is e in
        (get_or m.threads place e, get_at m.threads place e p.0, p.1)

both : (a b : Bool) → a ≡ true → not b ≡ true → (a && not b) ≡ true
both true b is none = none
both false b is none = cc

pub unseen : (m : Machine) (w : World) (asked : List (List ℕ)) (id : GlobalId) (place : ℕ) (read : List Parts) (parts : Parts) (step : Step) (has sees : Bool) →
    own_thread step ≡ Some id → place_of m id ≡ Some place → slice_get read place ≡ Some parts → read ≡ parts_read m asked →
    has ≡ stands_by (slice_get (left_alone m) place) step → sees ≡ writes_part m w parts step → has ≡ true → not sees ≡ true →
    goes_unseen m (reads_of asked) w step ≡ true
unseen m w asked id place read parts step has sees own is at are has_is sees_is alone none =
    let d = there m id place is in
    let spared : slice_get (left_alone m) place ≡ Some (spared_of m id) =
    get-map (λ (x : Declaration). spared_of m x.id) m.threads place d.0 d.1 ∙ ap (λ x. Some (spared_of m x)) d.2 in
    let read_at : slice_get (parts_read m asked) place ≡ Some (parts_of (reads_of asked id)) =
    get-map (λ (x : Declaration). parts_of (reads_of asked x.id)) m.threads place d.0 d.1 ∙ ap (λ x. Some (parts_of (reads_of asked x))) d.2 in
    let same : parts ≡ parts_of (reads_of asked id) = some_is parts (parts_of (reads_of asked id)) (sym at ∙ ap (λ xs. slice_get xs place) are ∙ read_at) in
    both (stands_alone m step) (is_visible m (reads_of asked) w step)
    (sym (ap (λ o. stands_by o step) spared ∙ alone_as m id step own) ∙ sym has_is ∙ alone)
    (ap not (sym (sees_is ∙ ap (λ p. writes_part m w p step) same ∙ visible_as m w (reads_of asked) id step own)) ∙ none)
