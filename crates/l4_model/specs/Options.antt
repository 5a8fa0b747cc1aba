-- Going on with a value that may not be there.
use Rattle.std.specs.Prelude.{Bool, true, false, Option, Some, None}

-- In a `do` block a line `x ← o` goes on where o has a value, and a line that is a test goes on
-- where it is true.
infixl 10 ◌>>=◌
abbrev pub ◌>>=◌ : {A B : Type 0} → Option A → (A → Option B) → Option B
None >>= f = None
(Some x) >>= f = f x

infixl 10 ◌>>◌
abbrev pub ◌>>◌ : {B : Type 0} → Bool → Option B → Option B
true >> o = o
false >> o = None

-- What is done with a value, where there is one.
abbrev pub if_some : {A B : Type 0} → (A → B → B) → Option A → B → B
if_some f None x = x
if_some f (Some a) x = f a x
