-- What is told behind the steps of a history.
use Rattle.std.proofs.Common.{◌≡◌, ℕ, Some, List, ◌++◌, Result, Ok, Err, ap, sym, ◌∙◌}
use Rattle.std.specs.Prelude.{OnOk}
use Rattle.l4_model.specs.Machine.{Machine}
use Rattle.l4_model.specs.World.{World}
use Rattle.l4_model.specs.Steps.{Step}
use Rattle.l4_model.specs.History.{reached}
use Rattle.l4_model.proofs.Chains.{some_is}
use Rattle.l4_audit.specs.Inner.Auditing.{Auditing}
use Rattle.l4_audit.specs.Audits.{IsReached}
use Rattle.l4_waits.specs.Lines.{circles_text, waits_text}

pub on_ok : {A E : Type 0} {P Q : Type 0} (r : Result A E) → (P → Q) → OnOk r P → OnOk r Q
on_ok (Ok x) to h = to h
on_ok (Err e) to h = tt

-- The world that the auditor has come to is the one that the steps reach.
pub text_after : (m : Machine) (h : List Step) (a : Auditing) (before now : List ℕ) → IsReached m h a → now ≡ before ++ waits_text a.at.machine a.at.world →
    (w : World) → reached m h ≡ Some w → now ≡ before ++ waits_text m w
text_after m h a before now r is w reaches =
    let world : a.at.world ≡ w = some_is a.at.world w (sym r.reached_by ∙ reaches) in
    is ∙ ap (λ x. before ++ waits_text x a.at.world) r.machine ∙ ap (λ x. before ++ waits_text m x) world

-- So are the circles there.
pub circles_are : (m : Machine) (h : List Step) (a : Auditing) (lines : List ℕ) → a.at.machine ≡ m → reached m h ≡ Some a.at.world → lines ≡ circles_text a.at.machine a.at.world →
    (w : World) → reached m h ≡ Some w → lines ≡ circles_text m w
circles_are m h a lines machine there is w reaches =
    let world : a.at.world ≡ w = some_is a.at.world w (sym there ∙ reaches) in
    is ∙ ap (λ x. circles_text x a.at.world) machine ∙ ap (λ x. circles_text m x) world
