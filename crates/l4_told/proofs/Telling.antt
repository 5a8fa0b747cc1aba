-- What is kept of a history, some of which was told.
use Rattle.std.proofs.Common.{◌≡◌, ◌≤◌, true, false, Some, List, [], ◌++◌, length, refl, ap, ap₂, sym, ◌∙◌, subst, arith}
use Rattle.std.proofs.Common.{append-nil, append_assoc, length-append}
use Rattle.std.specs.Prelude.{Err, Ok, OnOk, Result, drop}
use Rattle.std.proofs.Math.Seq.{drop-append_seam}
use Rattle.std.proofs.lemmas.List.Elements.{filter_map-append}
use Rattle.l4_model.specs.Words.{Id}
use Rattle.l4_model.specs.Machine.{Machine}
use Rattle.l4_model.specs.Steps.{Step}
use Rattle.l4_model.specs.World.{Name, World}
use Rattle.l4_model.specs.History.{reached, waiting, waiting_name}
use Rattle.l4_model.specs.Laws.{begins_of}
use Rattle.l4_core.specs.EventBuffers.{EventBuffer, IsOpen}
use Rattle.l4_told.specs.Inner.Kept.{IsKept, IsToldTo, begins, steps_in}
use Rattle.l4_told.specs.declared.kept_steps.KeptSteps.{KeptSteps}
use Rattle.l4_told.specs.declared.kept_steps.Marks.{Marks}
use Rattle.l4_told.proofs.Kept.{begun_once, keeps, keeps_none, kept_goes_on}

pub both : {T E : Type 0} (A B : Type 0) (r : Result T E) → OnOk r A → OnOk r B → OnOk r (A × B)
both A B (Ok x) a b = (a, b)
both A B (Err e) a b = tt

pub none_told : (m : Machine) (k : KeptSteps) → k.marks.untold ≡ 0 → steps_in k ≡ [] → IsToldTo m [] [] k
none_told m k untold none = record {
  kept = [];
  left = [];
  is_kept = record { keeps = keeps_none m; once = λ more s. omega arith };
  parts = none;
  untold = untold;
  told_are = refl;
  whole = λ all. refl;
}

-- The same steps stand in other parts.
pub same_told : (m : Machine) (h before : List Step) (old new : KeptSteps) → new.marks ≡ old.marks →
    steps_in new ≡ steps_in old → IsToldTo m h before old → IsToldTo m h before new
same_told m h before old new marks steps t = record {
  kept = t.kept;
  left = t.left;
  is_kept = t.is_kept;
  parts = steps ∙ t.parts;
  untold = ap (λ (x : Marks). x.untold) marks ∙ t.untold;
  told_are = t.told_are;
  whole = λ all. t.whole (ap (λ (x : Marks). x.has_all) (sym marks) ∙ all);
}

-- Steps more are kept.
pub more_told : (m : Machine) (h after before more : List Step) (old new : KeptSteps) → new.marks ≡ old.marks →
    steps_in new ≡ steps_in old ++ more → after ≡ h ++ more → IsToldTo m h before old → IsToldTo m after before new
more_told m h after before more old new marks steps is t = record {
  kept = t.kept;
  left = t.left ++ more;
  is_kept = t.is_kept;
  parts = steps ∙ ap (λ xs. xs ++ more) t.parts ∙ append_assoc t.kept t.left more;
  untold = ap (λ (x : Marks). x.untold) marks ∙ t.untold;
  told_are = is ∙ ap (λ xs. xs ++ more) t.told_are ∙ append_assoc before t.left more;
  whole = λ all. t.whole (ap (λ (x : Marks). x.has_all) (sym marks) ∙ all);
}

-- An event begins behind the steps that a buffer has, and its own steps come last.
pub event_steps : (old new : EventBuffer) → IsOpen old → new.before ≡ old.before →
    new.before ++ new.steps ≡ (old.before ++ old.steps) ++ new.steps
event_steps old new fresh kept =
    ap (λ xs. xs ++ new.steps)
    (kept ∙ sym (ap (λ xs. old.before ++ xs) fresh.steps ∙ append-nil old.before))

-- All are told, and what begins the undecided sends is kept.
pub begins_kept : (m : Machine) (h before : List Step) (old new : KeptSteps) (sends : List (Name × Id)) (w : World)
    (t : IsToldTo m h before old) → reached m h ≡ Some w → sends ≡ waiting m w h → steps_in new ≡ begins sends →
    new.marks.untold ≡ length (begins sends) → new.marks.has_all ≡ false → IsToldTo m h (before ++ t.left) new
begins_kept m h before old new sends w t at same steps untold some =
    let kept = waiting m w h in
    record {
      kept = begins kept;
      left = [];
      is_kept = subst (IsKept m (begins kept)) t.told_are (record {
        keeps = keeps m h w at;
        once = λ more s. begun_once m h more w s at;
      });
      parts = steps ∙ ap begins same ∙ sym (append-nil (begins kept));
      untold = untold ∙ ap (λ sends. length (begins sends)) same;
      told_are = t.told_are ∙ sym (append-nil (before ++ t.left));
      whole = λ all. absurd (let wrong : true ≡ false = sym all ∙ some in cc);
    }

-- Steps that are kept may be kept with those behind them.
kept_with : (m : Machine) (kept told steps : List Step) → IsKept m kept told → IsKept m (kept ++ steps) (told ++ steps)
kept_with m kept told steps is = record {
  keeps = λ more w at.
      filter_map-append (waiting_name m w) kept steps
      ∙ ap (λ (xs : List (Name × Id)). xs ++ waiting m w steps)
      (is.keeps (steps ++ more) w (ap (reached m) (sym (append_assoc told steps more)) ∙ at))
      ∙ sym (filter_map-append (waiting_name m w) told steps);
  once = λ more s.
      let fewer = is.once (steps ++ more) s in
      let one : begins_of s ((kept ++ steps) ++ more) ≡ begins_of s (kept ++ (steps ++ more)) =
      ap (begins_of s) (append_assoc kept steps more) in
      let two : begins_of s ((told ++ steps) ++ more) ≡ begins_of s (told ++ (steps ++ more)) =
      ap (begins_of s) (append_assoc told steps more) in
      omega (arith, fewer, one, two);
}

-- All are told and kept.
pub all_kept : (m : Machine) (h before : List Step) (old new : KeptSteps) (t : IsToldTo m h before old) →
    new.buffer ≡ old.buffer → new.marks.untold ≡ length (steps_in old) → new.marks.has_all ≡ old.marks.has_all →
    IsToldTo m h (before ++ t.left) new
all_kept m h before old new t buffer untold all = record {
  kept = t.kept ++ t.left;
  left = [];
  is_kept = kept_with m t.kept before t.left t.is_kept;
  parts = ap (λ b. b.before ++ b.steps) buffer ∙ t.parts ∙ sym (append-nil (t.kept ++ t.left));
  untold = untold ∙ ap length t.parts;
  told_are = t.told_are ∙ sym (append-nil (before ++ t.left));
  whole = λ has. ap (λ xs. xs ++ t.left) (t.whole (sym all ∙ has));
}

-- What is left to tell
pub left_is : (m : Machine) (h before : List Step) (k : KeptSteps) (t : IsToldTo m h before k) →
    drop k.marks.untold (steps_in k) ≡ t.left
left_is m h before k t =
    ap₂ (λ n steps. drop n steps) t.untold t.parts ∙ drop-append_seam t.kept t.left

pub untold_within : (m : Machine) (h before : List Step) (k : KeptSteps) → IsToldTo m h before k →
    k.marks.untold ≤ length (steps_in k)
untold_within m h before k t =
    let count = ap length t.parts ∙ length-append t.kept t.left in
    let untold = t.untold in
    omega (arith, count, untold)

-- No send is begun twice in what is kept.
pub once : (m : Machine) (h before : List Step) (k : KeptSteps) (s : Name) → IsToldTo m h before k →
    begins_of s h ≤ 1 → begins_of s (steps_in k) ≤ 1
once m h before k s t one =
    let kept : begins_of s (steps_in k) ≡ begins_of s (t.kept ++ t.left) = ap (begins_of s) t.parts in
    let all : begins_of s h ≡ begins_of s (before ++ t.left) = ap (begins_of s) t.told_are in
    let fewer = t.is_kept.once t.left s in
    omega (arith, kept, all, fewer, one)

-- The undecided sends of the history are those of what is kept.
pub waiting_kept : (m : Machine) (h before : List Step) (k : KeptSteps) (w : World) → IsToldTo m h before k →
    reached m h ≡ Some w → waiting m w (steps_in k) ≡ waiting m w h
waiting_kept m h before k w t at =
    ap (waiting m w) t.parts
    ∙ kept_goes_on m t.kept before t.left w t.is_kept.keeps (ap (reached m) (sym t.told_are) ∙ at)
    ∙ ap (waiting m w) (sym t.told_are)

-- Where all steps are kept, they are the history.
pub all_are : (m : Machine) (h before : List Step) (k : KeptSteps) → IsToldTo m h before k → k.marks.has_all ≡ true →
    steps_in k ≡ h
all_are m h before k t all = t.parts ∙ ap (λ xs. xs ++ t.left) (t.whole all) ∙ sym t.told_are
