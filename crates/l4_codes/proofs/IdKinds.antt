-- What an id is, by its kind.
use Rattle.std.proofs.Common.{◌≡◌, ℕ, List, ◌∷◌, sym, ap}
use Rattle.l4_model.specs.Words.{Id, NilThread, AnyThread, AnyLocalThread, LocalThread, GlobalThread, word_of}
use Rattle.l4_types.specs.Ids.{kind_of}
use Rattle.l4_types.specs.declared.ids.Kind.TheVariants.{Local, Global}
use Rattle.l4_states.specs.Inner.Codes.{id_code}

pub local_id : (id : Id) (word : ℕ) → kind_of id ≡ Local → word ≡ word_of id → (rest : List ℕ) → id_code id rest ≡ 3 ∷ word ∷ rest
local_id NilThread word is of rest = cc
local_id AnyThread word is of rest = cc
local_id AnyLocalThread word is of rest = cc
local_id (LocalThread w) word is of rest = ap (λ v. 3 ∷ v ∷ rest) (sym of)
local_id (GlobalThread t) word is of rest = cc

pub global_id_told : (id : Id) (number version : ℕ) → kind_of id ≡ Global number version → (rest : List ℕ) → id_code id rest ≡ 4 ∷ number ∷ version ∷ rest
global_id_told NilThread number version is rest = cc
global_id_told AnyThread number version is rest = cc
global_id_told AnyLocalThread number version is rest = cc
global_id_told (LocalThread w) number version is rest = cc
global_id_told (GlobalThread t) number version is rest =
    let a : t.number ≡ number = cc in
    let b : t.version ≡ version = cc in
    λ i. 4 ∷ a i ∷ b i ∷ rest
