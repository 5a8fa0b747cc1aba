-- Counts of one step more.
use Rattle.std.proofs.Common.{◌≡◌, ℕ, zero, suc, ◌+◌, ◌<◌, ◌≤◌, ◌^◌, Bool, true, false, Some, List, [], ◌∷◌, take, refl, ap, ◌∙◌, arith}
use Rattle.std.specs.Prelude.{slice_get}
use Rattle.l4_model.specs.Words.{GlobalId}
use Rattle.l4_model.specs.Rules.{bit}
use Rattle.l4_model.specs.Steps.{Step}
use Rattle.l4_model.proofs.Chains.{some_is}
use Rattle.l4_counts.specs.declared.counts.Counts.{Counts}
use Rattle.l4_counts.specs.Counts.{how_many, counts_of, with_step, is_turn, is_begun, is_delivered, is_received, is_send_timeout, is_receive_timeout, is_send_nobody, is_receive_nobody, is_send_cancel, is_receive_cancel}
use Rattle.l4_counts.specs.Inner.Few.{AreFew}

bit_least : (b : Bool) → bit b ≤ 1
bit_least true = omega arith
bit_least false = omega arith

many_within : (test : Step → Bool) (steps : List Step) (n : ℕ) → how_many test (take n steps) ≤ n
many_within test [] zero = omega arith
many_within test (step ∷ steps) zero = omega arith
many_within test [] (suc n) = omega arith
many_within test (step ∷ steps) (suc n) = omega (arith, bit_least (test step), many_within test steps n)

pub few : (id : GlobalId) (steps : List Step) (n : ℕ) → n < 2 ^ 63 → AreFew (counts_of id (take n steps))
few id steps n lt =
    record {
      turns = below (is_turn id);
      sends = below (is_begun id);
      delivered = below (is_delivered id);
      received = below (is_received id);
      send_timeouts = below (is_send_timeout id);
      receive_timeouts = below (is_receive_timeout id);
      sends_to_nobody = below (is_send_nobody id);
      receives_from_nobody = below (is_receive_nobody id);
      sends_cancelled = below (is_send_cancel id);
      receives_cancelled = below (is_receive_cancel id);
    }
  where
    below : (test : Step → Bool) → how_many test (take n steps) < 2 ^ 63
    below test = omega (arith, many_within test steps n, lt)

none_taken : (test : Step → Bool) (steps : List Step) → how_many test (take 0 steps) ≡ 0
none_taken test [] = refl
none_taken test (step ∷ steps) = refl

first_more : (x y rest : ℕ) → x ≡ y → rest ≡ 0 → 0 + y ≡ x + rest
first_more x y rest e none = omega (arith, e, none)

many_more : (test : Step → Bool) (steps : List Step) (n : ℕ) (step : Step) → slice_get steps n ≡ Some step → how_many test (take n steps) + bit (test step) ≡ how_many test (take (suc n) steps)
many_more test [] n step at = cc
many_more test (x ∷ steps) zero step at = first_more (bit (test x)) (bit (test step)) (how_many test (take 0 steps)) (ap (λ s. bit (test s)) (some_is x step at)) (none_taken test steps)
many_more test (x ∷ steps) (suc n) step at = omega (arith, many_more test steps n step at)

pub counts_more : (id : GlobalId) (steps : List Step) (n : ℕ) (step : Step) → slice_get steps n ≡ Some step → with_step id step (counts_of id (take n steps)) ≡ counts_of id (take (n + 1) steps)
counts_more id steps n step at =
    rw (
      more (is_turn id),
      more (is_begun id),
      more (is_delivered id),
      more (is_received id),
      more (is_send_timeout id),
      more (is_receive_timeout id),
      more (is_send_nobody id),
      more (is_receive_nobody id),
      more (is_send_cancel id),
      more (is_receive_cancel id),
    ) refl
  where
    more : (test : Step → Bool) → how_many test (take n steps) + bit (test step) ≡ how_many test (take (n + 1) steps)
    more test = let e : suc n ≡ n + 1 = omega arith in many_more test steps n step at ∙ ap (λ k. how_many test (take k steps)) e

pub counts_begun : (id : GlobalId) (steps : List Step) (c : Counts) → c ≡ counts_of id [] → c ≡ counts_of id (take 0 steps)
counts_begun id [] c is = is
counts_begun id (step ∷ steps) c is = is
