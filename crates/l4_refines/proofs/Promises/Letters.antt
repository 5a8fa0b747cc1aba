-- Some letter under way is such a one: after a letter was posted, or taken out.
use Rattle.std.proofs.Common.{◌≡◌, Bool, true, false, cond, List, [], ◌∷◌, ◌++◌, filter, inl, inr}
use Rattle.std.specs.List.{AllByRecursion}
use Rattle.l4_core_model.specs.Runs.{Posted}
use Rattle.l4_core_model.proofs.Lists.{all-append, all-filter}
use Rattle.l4_refines.proofs.Promises.Promised.{AnyOf, MayFollow, InOrder}

pub any_append : (P : Posted → Type 0) (xs : List Posted) (y : Posted) → AnyOf P xs → AnyOf P (xs ++ y ∷ [])
any_append P [] y h = absurd h
any_append P (x ∷ xs) y (inl h) = inl h
any_append P (x ∷ xs) y (inr h) = inr (any_append P xs y h)

pub any_last : (P : Posted → Type 0) (xs : List Posted) (y : Posted) → P y → AnyOf P (xs ++ y ∷ [])
any_last P [] y h = inl h
any_last P (x ∷ xs) y h = inr (any_last P xs y h)

pub any_map : (P Q : Posted → Type 0) → ((p : Posted) → P p → Q p) → (xs : List Posted) → AnyOf P xs → AnyOf Q xs
any_map P Q f [] h = h
any_map P Q f (x ∷ xs) (inl h) = inl (f x h)
any_map P Q f (x ∷ xs) (inr h) = inr (any_map P Q f xs h)

pub any_filter : (P : Posted → Type 0) (p : Posted → Bool) (xs : List Posted) → AnyOf P (filter p xs) → AnyOf P xs
any_filter P p [] h = h
any_filter P p (x ∷ xs) h = by (p x) h (any_filter P p xs)
  where
    by : (b : Bool) → AnyOf P (cond b (x ∷ filter p xs) (filter p xs)) → (AnyOf P (filter p xs) → AnyOf P xs) → AnyOf P (x ∷ xs)
    by true (inl h) rest = inl h
    by true (inr h) rest = inr (rest h)
    by false h rest = inr (rest h)

-- One of a filtered list
pub any_filtered : (P : Posted → Type 0) (p : Posted → Bool) (xs : List Posted) → ((x : Posted) → P x → p x ≡ true) → AnyOf P xs → AnyOf P (filter p xs)
any_filtered P p [] are h = h
any_filtered P p (x ∷ xs) are (inl h) = let is = are x h in rw is (inl h)
any_filtered P p (x ∷ xs) are (inr h) = by (p x) (any_filtered P p xs are h)
  where
    by : (b : Bool) → AnyOf P (filter p xs) → AnyOf P (cond b (x ∷ filter p xs) (filter p xs))
    by true h = inr h
    by false h = h

pub none_and_all : {G : Type 0} (P Q : Posted → Type 0) → ((p : Posted) → P p → Q p → G) → (xs : List Posted) → AnyOf P xs → AllByRecursion Q xs → G
none_and_all P Q f [] h all = absurd h
none_and_all P Q f (x ∷ xs) (inl h) all = f x h all.0
none_and_all P Q f (x ∷ xs) (inr h) all = none_and_all P Q f xs h all.1

-- In order

pub order_append : (xs : List Posted) (y : Posted) → AllByRecursion (λ (p : Posted). MayFollow y.letter.content p.letter.content) xs → InOrder xs →
    InOrder (xs ++ y ∷ [])
order_append [] y may h = (tt, tt)
order_append (x ∷ xs) y may h = (all-append (λ (q : Posted). MayFollow q.letter.content x.letter.content) xs y h.0 may.0, order_append xs y may.1 h.1)

pub order_filter : (p : Posted → Bool) (xs : List Posted) → InOrder xs → InOrder (filter p xs)
order_filter p [] h = h
order_filter p (x ∷ xs) h = by (p x) (order_filter p xs h.1)
  where
    by : (b : Bool) → InOrder (filter p xs) → InOrder (cond b (x ∷ filter p xs) (filter p xs))
    by true rest = (all-filter (λ (q : Posted). MayFollow q.letter.content x.letter.content) p xs h.0, rest)
    by false rest = rest
