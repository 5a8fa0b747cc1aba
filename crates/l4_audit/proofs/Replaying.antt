-- A trace is replayed, step by step.
use Rattle.std.proofs.Common.{◌≡◌, ℕ, ◌+◌, Some, None, List, [], ◌∷◌, ◌++◌, length, take, drop, refl, ap, sym, ◌∙◌, subst}
use Rattle.std.specs.Prelude.{slice_get, filter_map}
use Rattle.std.specs.Option.{option_to_list}
use Rattle.std.proofs.lemmas.List.{take_more, drop_more}
use Rattle.std.proofs.lemmas.Option.{slice_get_within, get_or_from_slice_get}
use Rattle.l4_model.specs.Machine.{Machine}
use Rattle.l4_model.specs.World.{opening}
use Rattle.l4_model.specs.Steps.{Step, next}
use Rattle.l4_model.specs.Conditions.{◌>>=◌}
use Rattle.l4_model.specs.History.{reached, begun_name, refused_from, refused_place, place_or_rest, IsFirstFault}
use Rattle.l4_model.proofs.Faults.{tells_first_fault}
use Rattle.l4_core_model.proofs.Changed.{run-last}
use Rattle.l4_audit.specs.declared.reasons.StepFault.{StepFault}
use Rattle.l4_audit.specs.declared.reasons.StepFault.TheVariants.{NoMemory, Refused}
use Rattle.l4_audit.specs.Inner.Auditing.{Auditing, IsPassed, begins}
use Rattle.l4_audit.specs.Audits.{Blames, fault_at}
use Rattle.l4_audit.specs.Inner.Taking.{Explains}
use Rattle.l4_audit.proofs.Auditing.{begun_more}
use Rattle.l4_audit.proofs.Reasoning.{is_impossible}

-- So many steps of a trace were passed.
pub record Replayed (m : Machine) (steps : List Step) (n : ℕ) (a : Auditing) : Type 0 where
  pub machine : a.at.machine ≡ m
  pub before : reached m (take n steps) ≡ Some a.at.world
  pub begun : a.begun ≡ filter_map begun_name (take n steps)
  pub faults : refused_from m a.at.world (n + 1) (drop n steps) ≡ refused_place m steps

pub opened : (m : Machine) (steps : List Step) (a : Auditing) → a ≡ begins m → Replayed m steps 0 a
opened m steps a e = subst (Replayed m steps 0) (sym e) (record { machine = refl; before = refl; begun = refl; faults = refl })

-- The next step is at hand.

took : (xs : List Step) (n : ℕ) (x : Step) → slice_get xs n ≡ Some x → take (n + 1) xs ≡ take n xs ++ x ∷ []
took xs n x at =
    let lt = slice_get_within xs n x at in
    take_more xs n x lt ∙ ap (λ y. take n xs ++ y ∷ []) (get_or_from_slice_get xs n x x at)

rest_is : (xs : List Step) (n : ℕ) (x : Step) → slice_get xs n ≡ Some x → drop n xs ≡ x ∷ drop (n + 1) xs
rest_is xs n x at =
    let lt = slice_get_within xs n x at in
    drop_more xs n x lt ∙ ap (λ y. y ∷ drop (n + 1) xs) (get_or_from_slice_get xs n x x at)

pub one_more : (m : Machine) (steps : List Step) (n : ℕ) (a b : Auditing) (x : Step) → Replayed m steps n a → slice_get steps n ≡ Some x → IsPassed a x b → Replayed m steps (n + 1) b
one_more m steps n a b x r at passed =
    let possible : next m a.at.world x ≡ Some b.at.world = ap (λ y. next y a.at.world x) (sym r.machine) ∙ passed.taken.possible in
    record {
      machine = passed.taken.machine ∙ r.machine;
      before = ap (reached m) (took steps n x at) ∙ run-last m (opening m) (take n steps) x ∙ ap (λ o. o >>= λ v. next m v x) r.before ∙ possible;
      begun = passed.begun ∙ ap (λ xs. xs ++ option_to_list (begun_name x)) r.begun ∙ sym (ap (filter_map begun_name) (took steps n x at) ∙ begun_more (take n steps) x);
      faults =
          sym (ap (refused_from m a.at.world (n + 1)) (rest_is steps n x at) ∙ ap (λ o. place_or_rest o (n + 1) (λ v. refused_from m v (n + 1 + 1) (drop (n + 1) steps))) possible)
          ∙ r.faults;
    }

refused_here : (m : Machine) (steps : List Step) (n : ℕ) (a : Auditing) (x : Step) → Replayed m steps n a → slice_get steps n ≡ Some x → next m a.at.world x ≡ None → IsFirstFault m steps (n + 1)
refused_here m steps n a x r at impossible =
    let told : refused_place m steps ≡ Some (n + 1) =
    sym r.faults ∙ ap (refused_from m a.at.world (n + 1)) (rest_is steps n x at)
    ∙ ap (λ o. place_or_rest o (n + 1) (λ v. refused_from m v (n + 1 + 1) (drop (n + 1) steps))) impossible in
    ((tells_first_fault m steps).fault (n + 1)).0 told

-- A step that is refused there is the first fault.
pub blames_here : (m : Machine) (steps : List Step) (n : ℕ) (a : Auditing) (x : Step) (fault : StepFault) → Replayed m steps n a → slice_get steps n ≡ Some x → Explains a.at x fault → Blames m steps (fault_at n fault)
blames_here m steps n a x NoMemory r at why = tt
blames_here m steps n a x (Refused reason) r at why =
    refused_here m steps n a x r at (ap (λ y. next y a.at.world x) (sym r.machine) ∙ is_impossible a.at.machine a.at.world x reason why)

whole : {A : Type 0} (xs : List A) → take (length xs) xs ≡ xs
whole [] = refl
whole (x ∷ xs) = ap (λ ys. x ∷ ys) (whole xs)

pub take_whole : {A : Type 0} (xs : List A) (n : ℕ) → n ≡ length xs → take n xs ≡ xs
take_whole xs n e = ap (λ k. take k xs) e ∙ whole xs
