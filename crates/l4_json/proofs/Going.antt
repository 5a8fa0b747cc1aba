-- A history goes on by one step.
use Rattle.std.proofs.Common.{◌≡◌, ℕ, ◌+◌, true, Option, Some, List, [], ◌∷◌, ◌++◌, append_assoc, codes, decimal, drop, is_some, take, refl, sym, ap, ◌∙◌}
use Rattle.std.specs.Prelude.{filter_map, option_map, slice_get, unwrap_or}
use Rattle.std.specs.List.{join_with_byte, list_all}
use Rattle.std.proofs.lemmas.Bool.{and_from}
use Rattle.std.proofs.lemmas.List.Folds.{list_all-append}
use Rattle.std.proofs.lemmas.List.{drop_more, take_more}
use Rattle.std.proofs.lemmas.Option.{get_or_from_slice_get, slice_get_within}
use Rattle.l4_model.specs.Conditions.{◌>>=◌}
use Rattle.l4_model.specs.History.{begun_name, reached, run}
use Rattle.l4_model.specs.Machine.{Machine}
use Rattle.l4_model.specs.Steps.{Step, next}
use Rattle.l4_model.specs.Words.{Id}
use Rattle.l4_model.specs.World.{World, opening}
use Rattle.l4_model.proofs.Chains.{bind_then}
use Rattle.l4_core_model.proofs.Changed.{run-last}
use Rattle.l4_audit.specs.Inner.Audited.{Audited, IsPlaced}
use Rattle.l4_audit.proofs.Auditing.{are_placed}
use Rattle.l4_trace.specs.Lines.{has_line, words_of}
use Rattle.l4_words.specs.Threads.{id_word}
use Rattle.l4_json.specs.Lines.{text_of}
use Rattle.l4_json.specs.Steps.{behind, step_destination, step_line, step_text, steps_text, told_under}

pub step_told : (a b : Audited) (lines : List (List ℕ)) (step : Step) (line : List ℕ) (to : Option Id) (number : Option ℕ) (out new : List ℕ) →
    b ≡ record a { world = behind a.machine a.world step } → number ≡ step_line a.machine lines a.world step → to ≡ step_destination b.machine b.world step →
    line ≡ join_with_byte 32 (words_of step) →
    new ≡ out ++ text_of line (told_under (codes "to") (option_map id_word to) ++ told_under (codes "line") (option_map decimal number)) ++ codes "\n" →
    new ≡ out ++ step_text a.machine lines a.world (behind a.machine a.world step) step
step_told a b lines step line to number out new world number_is to_is line_is told =
    let w = behind a.machine a.world step in
    let there : to ≡ step_destination a.machine w step = to_is ∙ ap (λ (x : Audited). step_destination x.machine x.world step) world in
    let members = λ (t : Option Id) (n : Option ℕ). told_under (codes "to") (option_map id_word t) ++ told_under (codes "line") (option_map decimal n) in
    told ∙ append_assoc out (text_of line (members to number)) (codes "\n")
    ∙ ap (λ l. out ++ (text_of l (members to number) ++ codes "\n")) line_is
    ∙ ap (λ t. out ++ (text_of (join_with_byte 32 (words_of step)) (members t number) ++ codes "\n")) there
    ∙ ap (λ n. out ++ (text_of (join_with_byte 32 (words_of step)) (members (step_destination a.machine w step) n) ++ codes "\n")) number_is

pub still_placed : (a : Audited) (m : Machine) (h : List Step) → a.machine ≡ m → reached m h ≡ Some a.world → IsPlaced a
still_placed a m h same way = are_placed a (filter_map begun_name h) (record {
  steps = h;
  reached_by = ap (λ x. reached x h) same ∙ way;
  begun_by = refl;
})

-- The step at a place.

step_here : (steps : List Step) (i : ℕ) (step : Step) → slice_get steps i ≡ Some step → drop i steps ≡ step ∷ drop (i + 1) steps
step_here steps i step at = drop_more steps i step (slice_get_within steps i step at) ∙ ap (λ s. s ∷ drop (i + 1) steps) (get_or_from_slice_get steps i step step at)

taken_here : (steps : List Step) (i : ℕ) (step : Step) → slice_get steps i ≡ Some step → take (i + 1) steps ≡ take i steps ++ step ∷ []
taken_here steps i step at = take_more steps i step (slice_get_within steps i step at) ∙ ap (λ s. take i steps ++ s ∷ []) (get_or_from_slice_get steps i step step at)

pub is_possible : (a : Audited) (m : Machine) (steps : List Step) (i : ℕ) (step : Step) (last : World) → a.machine ≡ m → run m a.world (drop i steps) ≡ Some last →
    slice_get steps i ≡ Some step → is_some (next a.machine a.world step) ≡ true
is_possible a m steps i step last same way at =
    bind_then (next m a.world step) (λ u. run m u (drop (i + 1) steps)) last (ap (run m a.world) (sym (step_here steps i step at)) ∙ way) λ u is rest.
    ap (λ x. is_some (next x a.world step)) same ∙ ap is_some is

-- Its line is one of its own, as those of the steps before it are.
pub spelled_here : (steps : List Step) (i : ℕ) (step : Step) → list_all has_line (take i steps) ≡ true → slice_get steps i ≡ Some step → has_line step ≡ true →
    list_all has_line (take (i + 1) steps) ≡ true
spelled_here steps i step before at spelled =
    ap (list_all has_line) (taken_here steps i step at) ∙ list_all-append has_line (take i steps) (step ∷ []) ∙ and_from _ _ before (and_from _ _ spelled refl)

record Gone (m : Machine) (lines : List (List ℕ)) (steps : List Step) (i : ℕ) (w : World) (out all : List ℕ) : Type 0 where
  way : reached m (take i steps) ≡ Some w
  rest : (last : World) × (run m w (drop i steps) ≡ Some last)
  told : out ++ steps_text m lines w (drop i steps) ≡ all

goes_on : (m : Machine) (lines : List (List ℕ)) (steps : List Step) (i : ℕ) (step : Step) (w : World) (out all : List ℕ) → Gone m lines steps i w out all → slice_get steps i ≡ Some step →
    Gone m lines steps (i + 1) (behind m w step) (out ++ step_text m lines w (behind m w step) step) all
goes_on m lines steps i step w out all gone at =
    let u = behind m w step in
    let rest = drop (i + 1) steps in
    let here = step_here steps i step at in
    bind_then (next m w step) (λ v. run m v rest) gone.rest.0 (ap (run m w) (sym here) ∙ gone.rest.1) λ v is on.
    let same : v ≡ u = sym (ap (λ o. unwrap_or o w) is) in
    record {
      way = ap (reached m) (taken_here steps i step at) ∙ run-last m (opening m) (take i steps) step ∙ ap (λ o. o >>= λ x. next m x step) gone.way ∙ is ∙ ap (λ x. Some x) same;
      rest = (gone.rest.0, ap (λ x. run m x rest) (sym same) ∙ on);
      told = append_assoc out (step_text m lines w u step) (steps_text m lines u rest) ∙ ap (λ h. out ++ steps_text m lines w h) (sym here) ∙ gone.told;
    }

pub one_more : (m : Machine) (lines : List (List ℕ)) (steps : List Step) (i : ℕ) (step : Step) (a b : Audited) (out new all : List ℕ) → a.machine ≡ m →
    reached m (take i steps) ≡ Some a.world → (last : World) × (run m a.world (drop i steps) ≡ Some last) → out ++ steps_text m lines a.world (drop i steps) ≡ all →
    slice_get steps i ≡ Some step → b ≡ record a { world = behind a.machine a.world step } →
    new ≡ out ++ step_text a.machine lines a.world (behind a.machine a.world step) step → list_all has_line (take (i + 1) steps) ≡ true →
    (b.machine ≡ m) × (reached m (take (i + 1) steps) ≡ Some b.world) × ((last : World) × (run m b.world (drop (i + 1) steps) ≡ Some last))
    × (new ++ steps_text m lines b.world (drop (i + 1) steps) ≡ all) × (list_all has_line (take (i + 1) steps) ≡ true)
one_more m lines steps i step a b out new all same way rest told at taken appended spelled =
    let gone = goes_on m lines steps i step a.world out all (record { way = way; rest = rest; told = told }) at in
    let world : behind m a.world step ≡ b.world = ap (λ x. behind x a.world step) (sym same) ∙ ap (λ (x : Audited). x.world) (sym taken) in
    let text : new ≡ out ++ step_text m lines a.world (behind m a.world step) step =
    appended ∙ ap (λ x. out ++ step_text x lines a.world (behind x a.world step) step) same in (
      ap (λ (x : Audited). x.machine) taken ∙ same,
      gone.way ∙ ap (λ w. Some w) world,
      (gone.rest.0, ap (λ w. run m w (drop (i + 1) steps)) (sym world) ∙ gone.rest.1),
      ap (λ w. new ++ steps_text m lines w (drop (i + 1) steps)) (sym world) ∙ ap (λ t. t ++ steps_text m lines (behind m a.world step) (drop (i + 1) steps)) text ∙ gone.told,
      spelled,
    )
