-- Owed retargets of the program are those of the world.
use Rattle.std.proofs.Common.{◌≡◌, ℕ, Bool, true, false, cond, Option, Some, List, [], ◌∷◌, ◌++◌, ◌||◌, map, length, refl, ap, sym, ◌∙◌}
use Rattle.std.specs.Prelude.{not, find, filter}
use Rattle.std.specs.List.{list_any}
use Rattle.std.specs.Option.{option_map}
use Rattle.std.proofs.lemmas.List.{length-map, map_push}
use Rattle.l4_model.specs.Words.{GlobalId, Id}
use Rattle.l4_model.specs.Machine.{Machine}
use Rattle.l4_model.specs.World as world
use Rattle.l4_model.specs.World.{Name, others_owed, must_wait}
use Rattle.l4_model.specs.Steps.{owing}
use Rattle.l4_types.specs.declared.owed.Owed.{Owed}
use Rattle.l4_types.specs.Inner.OwedView.{owed_of}
use Rattle.l4_thread.specs.Inner.Parts.{Block}
use Rattle.l4_audit.specs.Inner.Audited.{Audited, with_world}
use Rattle.l4_audit.specs.Inner.Owing.{is_of_name, holds_up}
use Rattle.l4_audit.proofs.Writing.{audited}

-- What is asked of them

pub any_holds_up : (sender : GlobalId) (to : Id) (os : List Owed) → list_any (holds_up sender to) os ≡ must_wait (map owed_of os) sender to
any_holds_up sender to [] = refl
any_holds_up sender to (o ∷ os) = ap (λ b. holds_up sender to o || b) (any_holds_up sender to os)

pub named_is : (name : Name) (os : List Owed) → option_map owed_of (find (is_of_name name) os) ≡ world.owed_of (map owed_of os) name
named_is name [] = refl
named_is name (o ∷ os) = by (is_of_name name o) (named_is name os)
  where
    by : (b : Bool) → option_map owed_of (find (is_of_name name) os) ≡ world.owed_of (map owed_of os) name →
        option_map owed_of (cond b (Some o) (find (is_of_name name) os)) ≡ cond b (Some (owed_of o)) (world.owed_of (map owed_of os) name)
    by true rest = refl
    by false rest = rest

others_are : (name : Name) (os : List Owed) → map owed_of (filter (λ o. not (is_of_name name o)) os) ≡ others_owed (map owed_of os) name
others_are name [] = refl
others_are name (o ∷ os) = by (not (is_of_name name o)) (others_are name os)
  where
    by : (b : Bool) → map owed_of (filter (λ x. not (is_of_name name x)) os) ≡ others_owed (map owed_of os) name →
        map owed_of (cond b (o ∷ filter (λ x. not (is_of_name name x)) os) (filter (λ x. not (is_of_name name x)) os))
        ≡ cond b (owed_of o ∷ others_owed (map owed_of os) name) (others_owed (map owed_of os) name)
    by true rest = ap (λ xs. owed_of o ∷ xs) rest
    by false rest = rest

pub as_many_owed : (m : Machine) (bs : List Block) (ws : List (List ℕ)) (cs : List ℕ) (os : List Owed) (a : Audited) → audited m bs ws cs (map owed_of os) ≡ a → length os ≡ length a.world.owed
as_many_owed m bs ws cs os a is = sym (length-map os owed_of) ∙ ap (λ (b : Audited). length b.world.owed) is

-- What is done to them

pub owes_more : (m : Machine) (bs : List Block) (ws : List (List ℕ)) (cs : List ℕ) (os new : List Owed) (a : Audited) (q : Option Owed) (o : Owed) → q ≡ Some o → audited m bs ws cs (map owed_of os) ≡ a → new ≡ os ++ o ∷ [] →
    audited m bs ws cs (map owed_of new) ≡ with_world a (owing (option_map owed_of q) a.world)
owes_more m bs ws cs os new a q o one is e = let pushed = map_push owed_of os o in rw (← is, e, one, pushed) refl

pub forgotten : (m : Machine) (bs : List Block) (ws : List (List ℕ)) (cs : List ℕ) (os new : List Owed) (a : Audited) (name : Name) → audited m bs ws cs (map owed_of os) ≡ a →
    new ≡ filter (λ o. not (is_of_name name o)) os → audited m bs ws cs (map owed_of new) ≡ with_world a (record a.world { owed = others_owed a.world.owed name })
forgotten m bs ws cs os new a name is e = let others = others_are name os in rw (← is, e, others) refl
