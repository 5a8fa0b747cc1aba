-- What is known of a thread where a duty of it was chosen, or none.
use Rattle.std.proofs.Common.{[], ◌≡◌, ◌≢◌, ℕ, ◌+◌, ◌<◌, Bool, true, false, cond, Option, Some, None, List, ◌∷◌, refl, ap, ◌∙◌, subst, arith}
use Rattle.std.specs.Prelude.{is_some, ◌&&◌, ◌==◌, nat_lt}
use Rattle.std.specs.List.{AllByRecursion}
use Rattle.l4_model.specs.Machine.{Machine, is_place}
use Rattle.l4_model.specs.World.{Thread, Receive, Phase, Ready, Sending, Receiving, Ordering, Ended, Deleted, receive_now}
use Rattle.l4_model.specs.Conditions.{◌>>=◌, ◌>>◌}
use Rattle.l4_model.proofs.Chains.{some_is}
use Rattle.l4_core_model.specs.Acts.{first_of_list}
use Rattle.l4_core_model.specs.Turns.{DeliversFirst, first_some, next_untold}
use Rattle.l4_core_model.proofs.Apart.{apart}
use Rattle.std.proofs.lemmas.Bool.{eqb-true, ltb-true}
use Rattle.l4_core_model.specs.Plain as plain

-- A receive phase fails.
pub record IsReceiving (t : Thread) (receive : Receive) : Type 0 where
  pub since : ℕ
  pub is : t.phase ≡ Receiving receive since

pub receiving_is : (t : Thread) (receive : Receive) → receive_now t.phase ≡ Some receive → IsReceiving t receive
receiving_is t receive h = by t.phase refl h
  where
    by : (p : Phase) → t.phase ≡ p → receive_now p ≡ Some receive → IsReceiving t receive
    by Ready e h = cc
    by Sending e h = cc
    by (Receiving other since) e h = let same : other ≡ receive = cc in record { since = since; is = e ∙ ap (λ r. Receiving r since) same }
    by Ordering e h = cc
    by Ended e h = cc
    by Deleted e h = cc

pub receives_some : (o : Option Receive) → is_some o ≡ true → (receive : Receive) × (o ≡ Some receive)
receives_some None h = cc
receives_some (Some receive) h = (receive, refl)

-- The first of several options that has a value.
pub first_then : {A P : Type 0} (o : Option A) (os : List (Option A)) (x : A) → first_some (o ∷ os) ≡ Some x → (o ≡ Some x → P) →
    (o ≡ None → first_some os ≡ Some x → P) → P
first_then None os x h hit miss = miss refl h
first_then (Some y) os x h hit miss = hit h

pub accepts_none : (o : Option ℕ) → (o >>= λ s. Some (DeliversFirst s)) ≡ None → o ≡ None
accepts_none None h = refl
accepts_none (Some s) h = cc

-- It is so where the core is idle and nothing is armed.
pub none_of : {A : Type 0} (os : List (Option A)) → first_some os ≡ None → AllByRecursion (λ o. o ≡ None) os
none_of [] h = tt
none_of (None ∷ os) h = (refl, none_of os h)
none_of (Some x ∷ os) h = cc

pub guarded : {A : Type 0} (a b : Bool) (x : A) → (a >> (b >> Some x)) ≡ None → a ≡ true → b ≡ true → ⊥
guarded true true x h p q = cc
guarded true false x h p q = cc
guarded false b x h p q = cc

-- A thread that accepts a waiting send receives.
pub record Accepts (s : plain.Plain) (r i : ℕ) (phase : Phase) : Type 0 where
  pub receive : Receive
  pub since : ℕ
  pub receiving : phase ≡ Receiving receive since
  pub first : plain.first_taken receive.from (plain.list_of s r) ≡ Some i

pub accepts_is : (s : plain.Plain) (r i : ℕ) (phase : Phase) → is_place (first_of_list s r phase) i ≡ true → Accepts s r i phase
accepts_is s r i Ready h = cc
accepts_is s r i Sending h = cc
accepts_is s r i (Receiving receive since) h =
    record { receive = receive; since = since; receiving = refl; first = by (plain.first_taken receive.from (plain.list_of s r)) h }
  where
    by : (o : Option ℕ) → is_place o i ≡ true → o ≡ Some i
    by None h = cc
    by (Some j) h = ap Some (eqb-true j i h)
accepts_is s r i Ordering h = cc
accepts_is s r i Ended h = cc
accepts_is s r i Deleted h = cc

pub both : (a b : Bool) → (a && b) ≡ true → (a ≡ true) × (b ≡ true)
both true b h = (refl, h)
both false b h = cc

-- A processor tells another one of the machine next, if any.
pub next_elsewhere : (m : Machine) (cpu told to : ℕ) → next_untold m cpu told ≡ Some to → (to < m.cpus) × (to ≢ cpu)
next_elsewhere m cpu told to h = by (told == cpu) refl h
  where
    within : (n : ℕ) → cond (nat_lt n m.cpus) (Some n) None ≡ Some to → (n ≡ to) × (to < m.cpus)
    within n h = at (nat_lt n m.cpus) refl h
      where
        at : (b : Bool) → nat_lt n m.cpus ≡ b → cond b (Some n) None ≡ Some to → (n ≡ to) × (to < m.cpus)
        at true below h = let same = some_is n to h in (same, subst (λ n. n < m.cpus) same (ltb-true n m.cpus below))
        at false below h = cc

    by : (b : Bool) → (told == cpu) ≡ b → cond (nat_lt (cond b (told + 1) told) m.cpus) (Some (cond b (told + 1) told)) None ≡ Some to →
        (to < m.cpus) × (to ≢ cpu)
    by true is h =
        let next = within (told + 1) h in
        (next.1, λ own. let here = eqb-true told cpu is in let after = next.0 in absurd (omega arith))
    by false is h =
        let next = within told h in
        (next.1, λ own. apart told cpu is (next.0 ∙ own))
