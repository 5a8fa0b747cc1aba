-- What was found was found by each part.
use Rattle.std.proofs.Common.{◌≡◌, Bool, true, false, Option, Some, None, refl}
use Rattle.std.specs.Option.{option_map}
use Rattle.l4_model.specs.Conditions.{◌>>=◌, ◌>>◌}

pub some_same : {A : Type 0} (a b : A) → Some a ≡ Some b → a ≡ b
some_same a b e = cc

pub some_bind : {A B : Type 0} (o : Option A) (rest : A → Option B) (b : B) → (o >>= rest) ≡ Some b → (a : A) × (o ≡ Some a) × (rest a ≡ Some b)
some_bind None rest b e = absurd cc
some_bind (Some a) rest b e = (a, refl, e)

pub some_then : {B : Type 0} (test : Bool) (rest : Option B) (b : B) → (test >> rest) ≡ Some b → (test ≡ true) × (rest ≡ Some b)
some_then true rest b e = (refl, e)
some_then false rest b e = absurd cc

pub mapped : {A B : Type 0} (f : A → B) (o : Option A) (b : B) → option_map f o ≡ Some b → (a : A) × (o ≡ Some a) × (f a ≡ b)
mapped f None b e = absurd cc
mapped f (Some a) b e = (a, refl, some_same (f a) b e)
