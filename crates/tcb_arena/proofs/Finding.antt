-- The first send that a receive takes, by one name after another.
use Rattle.std.specs.Prelude.{slice_get, Some, None, Option, drop, find}
use Rattle.std.specs.Option.{option_map}
use Rattle.std.proofs.Common.{◌≡◌, ℕ, ◌+◌, Bool, true, false, List, [], ◌∷◌, map, get_or, refl, sym, ◌∙◌, ap, zero, suc, add-one}
use Rattle.std.proofs.lemmas.Bool.{cond-true, cond-false}
use Rattle.l4_model.specs.Words.{Id, NilThread, AnyThread, AnyLocalThread, LocalThread, GlobalThread, is_same}
use Rattle.l4_model.specs.Rules.{takes}
use Rattle.l4_core_model.specs.Plain.{Waiting, Plain, first_taken, list_of}
use Rattle.tcb_arena.specs.declared.Sender.{Sender}
use Rattle.tcb_arena.specs.Inner.Due.{Due}
use Rattle.tcb_arena.specs.Inner.Rings.{Lists}
use Rattle.tcb_arena.specs.Inner.Shown.{waiting_at, shown_lists}
use Rattle.tcb_arena.proofs.Showing.{list-shown}

pub drop_at : (xs : List ℕ) (k x : ℕ) → slice_get xs k ≡ Some x → drop k xs ≡ x ∷ drop (suc k) xs
drop_at [] k x e = absurd (cc)
drop_at (y ∷ ys) zero x e = let same : y ≡ x = cc in ap (λ z. z ∷ ys) same
drop_at (y ∷ ys) (suc k) x e = drop_at ys k x e

pub drop_past : (xs : List ℕ) (k : ℕ) → slice_get xs k ≡ None → drop k xs ≡ []
drop_past [] zero e = refl
drop_past [] (suc k) e = refl
drop_past (y ∷ ys) zero e = absurd (cc)
drop_past (y ∷ ys) (suc k) e = drop_past ys k e

abbrev pub accepts : Id → Waiting → Bool
accepts spec w = takes spec w.shown w.local

-- The first send taken from the k-th name on.
abbrev pub found_from : Id → List Sender → List ℕ → ℕ → Option Waiting
found_from spec f xs k = find (accepts spec) (map (waiting_at f) (drop k xs))

pub found-here : (spec : Id) (f : List Sender) (xs : List ℕ) (k x : ℕ) → slice_get xs k ≡ Some x → accepts spec (waiting_at f x) ≡ true → found_from spec f xs k ≡ Some (waiting_at f x)
found-here spec f xs k x e t =
    ap (λ ys. find (accepts spec) (map (waiting_at f) ys)) (drop_at xs k x e)
    ∙ cond-true (accepts spec (waiting_at f x)) (Some (waiting_at f x)) (found_from spec f xs (suc k)) t

-- Anythread takes the first one.
pub found-any : (spec : Id) (f : List Sender) (xs : List ℕ) (x : ℕ) → is_same spec AnyThread ≡ true → slice_get xs 0 ≡ Some x → found_from spec f xs 0 ≡ Some (waiting_at f x)
found-any AnyThread f xs x e here = found-here AnyThread f xs 0 x here refl
found-any NilThread f xs x e here = absurd (cc)
found-any AnyLocalThread f xs x e here = absurd (cc)
found-any (LocalThread word) f xs x e here = absurd (cc)
found-any (GlobalThread t) f xs x e here = absurd (cc)

pub found-later : (spec : Id) (f : List Sender) (xs : List ℕ) (k x : ℕ) → slice_get xs k ≡ Some x → accepts spec (waiting_at f x) ≡ false → found_from spec f xs k ≡ found_from spec f xs (k + 1)
found-later spec f xs k x e t =
    ap (λ ys. find (accepts spec) (map (waiting_at f) ys)) (drop_at xs k x e)
    ∙ cond-false (accepts spec (waiting_at f x)) (Some (waiting_at f x)) (found_from spec f xs (suc k)) t
    ∙ ap (λ j. found_from spec f xs j) (sym (add-one k))

pub found-none : (spec : Id) (f : List Sender) (xs : List ℕ) (k : ℕ) → slice_get xs k ≡ None → found_from spec f xs k ≡ None
found-none spec f xs k e = ap (λ ys. find (accepts spec) (map (waiting_at f) ys)) (drop_past xs k e)

pub taken-shown : (waiting : Lists) (f : List Sender) (ready : Lists) (due : Due) (s : Plain) (h : ℕ) (spec : Id) (r : Option Waiting) → shown_lists waiting f ready due ≡ s → found_from spec f (get_or waiting.lists h []) 0 ≡ r
    → option_map (λ (w : Waiting). w.block) r ≡ first_taken spec (list_of s h)
taken-shown waiting f ready due s h spec r v e =
    ap (λ (o : Option Waiting). option_map (λ (w : Waiting). w.block) o) (sym e)
    ∙ ap (λ (ws : List Waiting). first_taken spec ws) (sym (list-shown f waiting.lists h) ∙ ap (λ (a : Plain). list_of a h) v)
