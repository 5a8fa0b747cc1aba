-- A letter brings an order to its target.
use Rattle.l4_refines.proofs.Orders.Asked.{send_asked}
use Rattle.l4_model.proofs.Lists.{or_right}
use Rattle.std.proofs.Common.{◌≡◌, ℕ, ◌<◌, true, false, Option, Some, None, List, [], ◌∷◌, ◌++◌, length, refl, ap, sym, ◌∙◌, subst, arith}
use Rattle.std.specs.Prelude.{IfSome}
use Rattle.l4_model.specs.Words.{GlobalId}
use Rattle.l4_model.specs.Machine.{Machine, OrderKind, CancelSend, CancelReceive, CancelBoth, Delete}
use Rattle.l4_model.specs.World.{Thread, World, Send, Phase, Ready, Sending, Receiving, Ordering, Ended, Deleted, change, is_deleted}
use Rattle.l4_model.specs.Effects.{asked}
use Rattle.l4_model.proofs.Chains.{cond_both, cond_keeps, some_is}
use Rattle.l4_model.specs.Steps.{Obey}
use Rattle.l4_model.specs.Reached.{Suits}
use Rattle.l4_core_model.specs.Letters.{Cause, ByCancel, ByDeletion, cause_of}
use Rattle.l4_core_model.specs.Local.{thread}
use Rattle.l4_core_model.specs.Acts.{Work, ◌▷◌, tells, does, asks, withdraws_for, obeys}
use Rattle.l4_core_model.proofs.Fit.{NotIn, IsGood}
use Rattle.l4_refines.proofs.Relation.Views.{Scene, Kept, View, kept, view, amid}
use Rattle.l4_refines.proofs.Relation.Rows.{IsCause, Matches}
use Rattle.l4_refines.proofs.Relation.Relates.{RelatesExcept}
use Rattle.l4_refines.proofs.Frames.Places.{leaves_out}
use Rattle.l4_refines.proofs.Frames.Moves.{at_home}
use Rattle.l4_refines.proofs.Frames.Going.{IsHere, home_is, sized_here}
use Rattle.l4_refines.proofs.Letters.Noticing.{withdraws_relates, withdraws_steps}
use Rattle.l4_refines.proofs.Orders.Asking.{asked_thread, asks_here, asks_relates}

-- Why the send of a living thread that was asked is withdrawn is true.
wished : (p : Phase) (t : Thread) (o : Option Send) → t.phase ≡ p → t.send ≡ o → is_deleted p ≡ false → Suits p o t.order → (what : OrderKind) (cause : Cause) →
    cause_of what ≡ Some cause → (clock : ℕ) → IfSome o (IsCause cause clock (asked what t))
wished p t None is has alive suits what cause why clock = tt
wished Ready t (Some send) is has alive suits what cause why clock = cc
wished (Receiving receive since) t (Some send) is has alive suits what cause why clock = cc
wished Ordering t (Some send) is has alive suits what cause why clock = cc
wished Ended t (Some send) is has alive suits what cause why clock = cc
wished Deleted t (Some send) is has alive suits what cause why clock = cc
wished Sending t (Some send) is has alive suits CancelSend cause why clock =
    subst (λ c. IsCause c clock (asked CancelSend t) send) (some_is ByCancel cause why) (rw is (or_right t.cancel_send true refl))
wished Sending t (Some send) is has alive suits CancelReceive cause why clock = cc
wished Sending t (Some send) is has alive suits CancelBoth cause why clock =
    subst (λ c. IsCause c clock (asked CancelBoth t) send) (some_is ByCancel cause why) (rw is (or_right t.cancel_send true refl))
wished Sending t (Some send) is has alive suits Delete cause why clock = subst (λ c. IsCause c clock (asked Delete t) send) (some_is ByDeletion cause why) refl

withdraws_for_relates : (m : Machine) (cpu j : ℕ) (what : OrderKind) (o : Option Cause) (except : List ℕ) (s : Scene) (w : World) (y : Work) → cause_of what ≡ o →
    IsHere m cpu j → RelatesExcept m (Matches m) except (amid cpu s y) w → NotIn j except →
    ((cause : Cause) → cause_of what ≡ Some cause → IfSome (thread y.local j).send (IsCause cause y.local.clock (thread y.local j))) →
    RelatesExcept m (Matches m) except (amid cpu s (withdraws_for m cpu j o y)) w
withdraws_for_relates m cpu j what None except s w y is here rel out just = rel
withdraws_for_relates m cpu j what (Some cause) except s w y is here rel out just = withdraws_relates m cpu j cause except s w y here rel out (just cause is)

-- The target of an order obeys.
pub obeys_relates : (m : Machine) (cpu j : ℕ) (caller : GlobalId) (what : OrderKind) (except : List ℕ) (s : Scene) (w : World) (x : Work) → IsHere m cpu j →
    NotIn j except → RelatesExcept m (Matches m) except (amid cpu s x) w →
    RelatesExcept m (Matches m) except (amid cpu s (obeys m cpu caller what j x)) (change w j (asked what))
obeys_relates m cpu j caller what except s w x here out rel =
    let z : Work = x ▷ tells (Obey caller) in
    let y : Work = z ▷ does (asks what j) in
    let u : World = change w j (asked what) in
    let matches = rel.places j here.within out in
    let v : View = view m (amid cpu s x) w j in
    let asked_now : RelatesExcept m (Matches m) except (amid cpu s y) u =
    asks_relates m cpu j what except s w z here matches (leaves_out m j except (amid cpu s x) w rel) in
    let sized = sized_here m cpu j except s w x here rel in
    let size : j < length x.local.threads = omega (arith, sized.threads, here.within) in
    let was : at_home m j v ≡ kept x.local j = home_is m cpu j s x w here.home in
    let good = subst (λ (k : Kept). IsGood k.clock k.thread) was matches.known.kept.at_home.good in
    let now : (thread y.local j) ≡ asked what (thread x.local j) =
    ap (λ (k : Kept). k.thread) (asks_here what x.local j size) ∙ asked_thread what j (kept x.local j) in
    cond_keeps (λ a. RelatesExcept m (Matches m) except (amid cpu s a) u) (is_deleted (thread x.local j).phase) y (withdraws_for m cpu j (cause_of what) y)
    (λ gone. asked_now)
    (λ alive. withdraws_for_relates m cpu j what (cause_of what) except s u y refl here asked_now out (λ cause why.
    subst (λ (t : Thread). IfSome t.send (IsCause cause y.local.clock t)) (sym now)
    (subst (λ o. IfSome o (IsCause cause y.local.clock (asked what (thread x.local j)))) (sym (send_asked what (thread x.local j)))
    (wished (thread x.local j).phase (thread x.local j) (thread x.local j).send refl refl alive good.suits what cause why y.local.clock))))

pub obeys_steps : (m : Machine) (cpu j : ℕ) (caller : GlobalId) (what : OrderKind) (x : Work) → (obeys m cpu caller what j x).steps ≡ x.steps ++ Obey caller ∷ []
obeys_steps m cpu j caller what x =
    let y : Work = x ▷ tells (Obey caller) ▷ does (asks what j) in
    cond_both (λ (a : Work). a.steps) (x.steps ++ Obey caller ∷ []) (is_deleted (thread x.local j).phase) y (withdraws_for m cpu j (cause_of what) y) refl
    (for (cause_of what) y)
  where
    for : (o : Option Cause) (y : Work) → (withdraws_for m cpu j o y).steps ≡ y.steps
    for None y = refl
    for (Some cause) y = withdraws_steps m cause j _ y
