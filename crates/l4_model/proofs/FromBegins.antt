-- The same told from the step that begins a send: every delivery behind it carries what stands in the sender's registers there. Of
-- every list of steps that has the laws, whether it is a history or not.
use Rattle.std.proofs.Common.{◌≡◌, ℕ, ◌+◌, ◌≤◌, Bool, true, false, cond, Option, Some, None, List, [], ◌∷◌, ◌++◌, refl, ap, sym, ◌∙◌, arith, subst, get_or}
use Rattle.std.proofs.lemmas.List.{append_assoc}
use Rattle.std.proofs.lemmas.List.Sums.{sum_by-cons, sum_by-append}
use Rattle.std.proofs.lemmas.Option.{slice_get-get_or}
use Rattle.std.specs.Prelude.{is_some, IsSomeAnd}
use Rattle.std.specs.List.{AllByRecursion}
use Rattle.l4_model.specs.Machine.{Machine, Declaration, place_of}
use Rattle.l4_model.specs.World.{World, Message, opening, opening_thread, Name}
use Rattle.l4_model.specs.Rules.{message_of}
use Rattle.l4_model.specs.Steps.{Step, Begin, Deliver, next}
use Rattle.l4_model.specs.History.{run, reached, begun_name}
use Rattle.l4_model.specs.Laws.{names, same_name, begins_of, message_at, message_begun, Carries, IsUnaltered, DeliversAs}
use Rattle.l4_model.specs.Laws.{IsUnalteredFromBegin, AreBegunThenEnded}
use Rattle.l4_model.proofs.Chains.{bind_then, some_is}
use Rattle.l4_model.proofs.Places.{same_name_is, same_name_refl, place_id}
use Rattle.l4_model.proofs.Worlds.{standing}

cond_none : (b : Bool) → cond b 1 0 ≤ 0 → b ≡ false
cond_none true le = absurd (omega arith)
cond_none false le = refl

begun_here : (m : Machine) (s : Name) (before between : List Step) (u w : World) → run m u before ≡ Some w → begins_of s before ≡ 0 →
    message_begun m u s (before ++ Begin s ∷ between) ≡ message_at m w s.thread
begun_here m s [] between u w r none = rw (same_name_refl s) (ap (λ x. message_at m x s.thread) (some_is u w r))
begun_here m s (step ∷ before) between u w r none =
    bind_then (next m u step) (λ v. run m v before) w r λ v is rest.
    let first : begins_of s (step ∷ before) ≡ cond (names s (begun_name step)) 1 0 + begins_of s before = sum_by-cons (λ x. cond (names s (begun_name x)) 1 0) step before in
    let other : names s (begun_name step) ≡ false = cond_none (names s (begun_name step)) (omega arith) in
    rw (other, is) (begun_here m s before between v w rest (omega arith))

-- the account of a list that this step parts
begins_parted : (s : Name) (before after : List Step) → begins_of s (before ++ Begin s ∷ after) ≡ begins_of s before + (1 + begins_of s after)
begins_parted s before after =
    let first : begins_of s (Begin s ∷ after) ≡ cond (same_name s s) 1 0 + begins_of s after = sum_by-cons (λ x. cond (names s (begun_name x)) 1 0) (Begin s) after in
    sum_by-append (λ x. cond (names s (begun_name x)) 1 0) before (Begin s ∷ after)
    ∙ ap (λ n. begins_of s before + n) (first ∙ ap (λ b. cond b 1 0 + begins_of s after) (same_name_refl s))

behind : (m : Machine) (h before : List Step) (s : Name) (w : World) (message : Message) → IsUnaltered m h → reached m before ≡ Some w → begins_of s before ≡ 0 →
    message_at m w s.thread ≡ Some message → (rest between : List Step) → h ≡ (before ++ Begin s ∷ between) ++ rest → AllByRecursion (DeliversAs s message) rest
behind m h before s w message law r none has [] between e = tt
behind m h before s w message law r none has (step ∷ rest) between e =
    (here step e, behind m h before s w message law r none has rest (between ++ step ∷ []) (e ∙ moved))
  where
    moved : (before ++ Begin s ∷ between) ++ step ∷ rest ≡ (before ++ Begin s ∷ (between ++ step ∷ [])) ++ rest
    moved =
        sym (append_assoc (before ++ Begin s ∷ between) (step ∷ []) rest)
        ∙ ap (λ xs. xs ++ rest) (append_assoc before (Begin s ∷ between) (step ∷ []))

    here : (x : Step) → h ≡ (before ++ Begin s ∷ between) ++ x ∷ rest → DeliversAs s message x
    here (Deliver t receiver shown actual tag words) e = λ match.
        let one : t ≡ s = sym (same_name_is s t match) in
        let told : IsSomeAnd (message_begun m (opening m) t (before ++ Begin s ∷ between)) (λ x. Carries x shown actual tag words) =
        law (before ++ Begin s ∷ between) rest t receiver shown actual tag words e in
        let is : message_begun m (opening m) t (before ++ Begin s ∷ between) ≡ Some message =
        ap (λ x. message_begun m (opening m) x (before ++ Begin s ∷ between)) one ∙ begun_here m s before between (opening m) w r none ∙ has in
        subst (λ o. IsSomeAnd o (λ x. Carries x shown actual tag words)) is told
    here _ e = tt

-- a declared thread has registers
record HasMessage (m : Machine) (w : World) (s : Name) : Type 0 where
  message : Message
  is : message_at m w s.thread ≡ Some message

declared_has : (m : Machine) (before : List Step) (w : World) (s : Name) → reached m before ≡ Some w → is_some (place_of m s.thread) ≡ true → HasMessage m w s
declared_has m before w s r declared = by (place_of m s.thread) refl declared
  where
    by : (o : Option ℕ) → place_of m s.thread ≡ o → is_some o ≡ true → HasMessage m w s
    by None none some = cc
    by (Some i) at some =
        let none : Declaration = record { id = s.thread; cpu = 0; space = 0; script = [] } in
        let low = (place_id m s.thread i at none).0 in
        let counted = (standing m before w r).sized.threads in
        let declared = slice_get-get_or m.threads i none low in
        let now = slice_get-get_or w.threads i opening_thread (omega (arith, low, counted)) in
        record { message = message_of m s.thread (get_or w.threads i opening_thread).context; is = rw (at, declared, now) refl }

pub unaltered_from_begin : (m : Machine) (h : List Step) → IsUnaltered m h → AreBegunThenEnded m h → IsUnalteredFromBegin m h
unaltered_from_begin m h law begun before after s w split r =
    let account : begins_of s h ≡ begins_of s before + (1 + begins_of s after) = ap (begins_of s) split ∙ begins_parted s before after in
    let once = (begun s).begun_once in
    let has = declared_has m before w s r ((begun s).by_declared (omega arith)) in
    let all : AllByRecursion (DeliversAs s has.message) after =
    behind m h before s w has.message law r (omega arith) has.is after [] (split ∙ sym (append_assoc before (Begin s ∷ []) after)) in
    rw has.is all
