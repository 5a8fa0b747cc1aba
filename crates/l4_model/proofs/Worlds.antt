-- What is true of every world that a history reaches.
use Rattle.std.proofs.Common.{subst, ◌≡◌, ℕ, Option, Some, None, List, [], ◌∷◌, sym, ◌∙◌}
use Rattle.std.proofs.lemmas.Option.{slice_get-map}
use Rattle.std.specs.Prelude.{slice_get, IsSomeAnd}
use Rattle.std.specs.Option.{option_map}
use Rattle.l4_model.specs.Machine.{Machine}
use Rattle.l4_model.specs.World.{World, Thread, Send, opening}
use Rattle.l4_model.specs.Steps.{Step, next}
use Rattle.l4_model.specs.History.{run, reached}
use Rattle.l4_model.specs.Reached.{WorldFacts, SendsTo, place_to, IsOwedAmong, IsOwedApart}
use Rattle.std.specs.List.{AllByRecursion}
use Rattle.l4_model.proofs.Owed.{step_among, step_apart, owed_once}
use Rattle.l4_model.proofs.Chains.{bind_then, some_is}
use Rattle.l4_model.proofs.Sends.{lasting, Status, status, statuses}
use Rattle.l4_model.proofs.Sound.{AreSound, opening_sound, step_sound}
use Rattle.l4_model.proofs.Sizes.{Sized, opening_sized, step_sized}
use Rattle.l4_model.proofs.Lists.{GoesTo, Listed, opening_listed, step_listed}

pub record Standing (m : Machine) (w : World) : Type 0 where
  pub sized : Sized m w
  pub sound : AreSound m w
  pub listed : Listed m w
  pub among : AllByRecursion (IsOwedAmong m) w.owed
  pub apart : AllByRecursion (IsOwedApart m w.waiting) w.owed

run_standing : (m : Machine) (h : List Step) (w v : World) → run m w h ≡ Some v → Standing m w → Standing m v
run_standing m [] w v r s = subst (Standing m) (some_is w v r) s
run_standing m (step ∷ h) w v r s =
    bind_then (next m w step) (λ u. run m u h) v r λ u is rest.
    run_standing m h u v rest (record { sized = step_sized m w u step is s.sized; sound = step_sound m w u step is s.sound; listed = step_listed m w u step is s.sound s.listed; among = step_among m w u step is s.sound s.among; apart = step_apart m w u step is s.sound s.listed s.apart })

pub standing : (m : Machine) (h : List Step) (w : World) → reached m h ≡ Some w → Standing m w
standing m h w r = run_standing m h (opening m) w r (record { sized = opening_sized m; sound = opening_sound m; listed = opening_listed m; among = tt; apart = tt })

-- a sender in two lists is in one
one_goal : (m : Machine) (i j : ℕ) (o : Option Status) → GoesTo m i o → GoesTo m j o → i ≡ j
one_goal m i j None a b = absurd a
one_goal m i j (Some x) a b = of x.send a b
  where
    of : (send : Option Send) → IsSomeAnd send (λ s. place_to m s.to ≡ Some i) → IsSomeAnd send (λ s. place_to m s.to ≡ Some j) → i ≡ j
    of None a b = absurd a
    of (Some send) a b = some_is i j (sym a ∙ b)

goes_sends : (m : Machine) (j : ℕ) (o : Option Thread) → GoesTo m j (option_map status o) → IsSomeAnd o (λ t. SendsTo m j t.send)
goes_sends m j None a = a
goes_sends m j (Some t) a = of t.send a
  where
    of : (o : Option Send) → IsSomeAnd (option_map lasting o) (λ s. place_to m s.to ≡ Some j) → SendsTo m j o
    of None a = a
    of (Some send) a = a

pub reached_facts : (m : Machine) (h : List Step) (w : World) → reached m h ≡ Some w → WorldFacts m w
reached_facts m h w r =
    let s = standing m h w r in
    record {
      threads_counted = s.sized.threads;
      lists_counted = s.sized.lists;
      clocks_counted = s.sized.clocks;
      clocks_low = s.sized.low;
      each_thread = s.sound;
      listed_sends = λ receiver sender stands. goes_sends m receiver (slice_get w.threads sender) (subst (GoesTo m receiver) (slice_get-map status w.threads sender) (s.listed.goes_to receiver sender stands));
      one_list = λ i j sender a b. one_goal m i j (slice_get (statuses w) sender) (s.listed.goes_to i sender a) (s.listed.goes_to j sender b);
      listed_once = s.listed.once;
      owed_among = s.among;
      owed_once = owed_once m h w r;
      owed_apart = s.apart;
    }
