-- What is so of an answer where there is one, where there is none, and where it is a fault.
use Rattle.std.proofs.Common.{◌≡◌, Option, None, Some, Result, Ok, Err, subst, sym}
use Rattle.std.specs.Prelude.{IfErr, IfNone, IfSome}

pub some_of : {A : Type 0} (o : Option A) (x : A) (P : A → Type 0) → o ≡ Some x → IfSome o P → P x
some_of o x P is held = subst (λ a. IfSome a P) is held

pub none_of : {A : Type 0} (o : Option A) (P : Type 0) → o ≡ None → IfNone o P → P
none_of o P is held = subst (λ a. IfNone a P) is held

pub if_err : {A E : Type 0} (r : Result A E) (e : E) (P : E → Type 0) → IfErr r (λ f. f ≡ e) →
    P e → IfErr r P
if_err (Ok x) e P is p = tt
if_err (Err f) e P is p = subst P (sym is) p
