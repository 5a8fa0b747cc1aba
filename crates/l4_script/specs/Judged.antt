-- What a part of a text says, or the first fault that it has.
use Rattle.std.specs.Prelude.{◌≡◌, Bool, true, false, Option, Some, None, Result, Ok, Err}
use Rattle.l4_script.specs.declared.text.fault.TextFaultKind.{TextFaultKind}
use Rattle.l4_script.specs.declared.text.fault.TextFaultKind.TheVariants.{NoMemory}

abbrev pub Judged : Type 0 → Type 0
Judged X = Result X TextFaultKind

-- Each line of a `do` block must be free of faults: `x ← part` binds what it says, a bare line only
-- checks.
infixl 10 ◌>>=◌
abbrev pub ◌>>=◌ : {A B : Type 0} → Result A TextFaultKind → (A → Result B TextFaultKind) →
    Result B TextFaultKind
(Ok x) >>= f = f x
(Err kind) >>= f = Err kind

infixl 10 ◌>>◌
abbrev pub ◌>>◌ : {B : Type 0} → Result (Unit {0}) TextFaultKind → Result B TextFaultKind →
    Result B TextFaultKind
(Ok x) >> part = part
(Err kind) >> part = Err kind

-- A fault of this kind if the test fails.
abbrev pub must : Bool → TextFaultKind → Result (Unit {0}) TextFaultKind
must true kind = Ok tt
must false kind = Err kind

-- A fault of this kind if there is no value.
abbrev pub needs : {A : Type 0} → Option A → TextFaultKind → Result A TextFaultKind
needs None kind = Err kind
needs (Some x) kind = Ok x

-- What a function returned, seen by a view, is what the definition gives.
abbrev pub Returns : {X Y : Type 0} → (X → Y) → Result X TextFaultKind →
    Result Y TextFaultKind → Type 0
Returns view (Ok x) part = part ≡ Ok (view x)
Returns view (Err kind) part = part ≡ Err kind

-- The fault that a function returned is the definition's, unless memory ran out.
abbrev pub Fails : {Y : Type 0} → TextFaultKind → Result Y TextFaultKind → Type 0
Fails NoMemory part = Unit {0}
Fails kind part = part ≡ Err kind

-- What a function changed in place is what the definition gives. Its fault is the definition's,
-- unless memory ran out.
abbrev pub Leads : {Y : Type 0} → Result (Unit {0}) TextFaultKind → (after : Y) →
    Result Y TextFaultKind → Type 0
Leads (Ok x) after part = part ≡ Ok after
Leads (Err kind) after part = Fails kind part
