-- What is promised is kept by what a letter brings about.
use Rattle.l4_refines.proofs.Promises.Retargets.{retargets_keeps}
use Rattle.l4_refines.proofs.Lists.{all_true}
use Rattle.l4_refines.proofs.Promises.Withdrawn.{withdraw_keeps}
use Rattle.l4_model.proofs.Rows.Writing.{id, send}
use Rattle.l4_refines.proofs.Promises.Taking.{same_place, silent_spent, taken_keeps}
use Rattle.std.proofs.Common.{◌≡◌, ℕ, ◌<◌, true, Some, None, [], length, refl, ap, sym, ◌∙◌, subst, inl, inr, ◌⊎◌, arith}
use Rattle.std.specs.Prelude.{◌==◌, ◌||◌, is_some, is_none, slice_get}
use Rattle.l4_model.specs.Words.{same_id}
use Rattle.l4_model.specs.Machine.{Machine, is_declared}
use Rattle.l4_model.specs.World.{Name, World, Send, Thread, Phase, Ready, Sending, Receiving, Ordering, Ended, Deleted, is_deleted}
use Rattle.l4_model.proofs.Chains.{bind_then, guard_then, some_is}
use Rattle.l4_core_model.specs.Letters.{Content, SendLetter, DoneLetter, WithdrawLetter, GoneLetter, OrderLetter, OrderDoneLetter, Letter, RetargetLetter}
use Rattle.l4_core_model.specs.Local.{declared, thread, changes, comes_to, stands_in, stand_in, is_gone_now, after_decision}
use Rattle.l4_core_model.specs.Acts.{Work, ◌▷◌, does, split_place, obeys}
use Rattle.l4_core_model.specs.Mail.{own_place, foreign_place, is_ordering, handled}
use Rattle.l4_core_model.specs.Runs.{Posted, letters}
use Rattle.l4_refines.proofs.Relation.Views.{Kept, Scene, kept, home, amid}
use Rattle.l4_refines.proofs.Frames.Locals.{comes_here, changes_here}
use Rattle.l4_refines.proofs.Frames.Going.{put_home}
use Rattle.l4_refines.proofs.Letters.Receiving.{without, IsLetter, at_work, own_place_is, foreign_place_is}
use Rattle.l4_refines.proofs.Promises.Promised.{MayFollow, IsAnswerIn, IsGoneIn, kept_at, phases, Promised}
use Rattle.l4_refines.proofs.Promises.Frames.{posts_keeps}
use Rattle.l4_refines.proofs.Promises.Locals.{here_local, size_now, changes_away, comes_on}
use Rattle.l4_refines.proofs.Promises.Phases.{ended_afresh, ended_none}
use Rattle.l4_refines.proofs.Promises.Acts.{StaysPromised, arrives_keeps}
use Rattle.l4_refines.proofs.Promises.Orders.{obeys_keeps}
use Rattle.l4_refines.proofs.Promises.Giving.{obeyed_keeps}
use Rattle.l4_refines.proofs.Promises.Turns.{opened_keeps}

has_asked : (p : Phase) → (is_deleted p || is_ordering p) ≡ true → (p ≡ Ordering) ⊎ (p ≡ Deleted)
has_asked Ready h = cc
has_asked Sending h = cc
has_asked (Receiving receive since) h = cc
has_asked Ordering h = inl refl
has_asked Ended h = cc
has_asked Deleted h = inr refl

-- Any letter.
pub letter_keeps : (m : Machine) (from cpu : ℕ) (letter : Letter) (s : Scene) (w : World) (x : Work) (c : Content) → IsLetter m from cpu letter s w →
    slice_get (letters s.mail from cpu) 0 ≡ Some letter → letter.content ≡ c → Promised m [] s → handled m cpu c (at_work cpu letter s) ≡ Some x →
    StaysPromised m cpu (without from cpu s) x
letter_keeps m from cpu letter s w x (SendLetter name receiver message zero_timeout) h first content promised is =
    let y : Work = at_work cpu letter s in
    bind_then (own_place m cpu receiver) _ x is λ r own rest.
    bind_then (foreign_place m cpu name.thread) _ x rest λ i foreign rest.
    guard_then (is_none (thread y.local i).send) _ x rest λ none rest.
    guard_then (same_id message.actual name.thread) _ x rest λ actual rest.
    guard_then (is_declared m message.shown) _ x rest λ shown rest.
    let p = opened_keeps m cpu letter.stamp [] s h.processor promised in
    taken_keeps m from cpu letter s x h.first (silent_spent m from cpu letter s x _ content ((λ s a b p h. h), (λ id to p h. h)))
    (subst (StaysPromised m cpu s) (some_is _ x rest) (arrives_keeps m cpu r i s
    (y ▷ does (changes i (stands_in name.k (stand_in receiver message zero_timeout)))) h.processor (own_place_is m cpu receiver r own).1
    (changes_away m cpu i [] s y (stands_in name.k (stand_in receiver message zero_timeout)) h.processor (foreign_place_is m cpu name.thread i foreign).1
    (λ h. h) p)))
letter_keeps m from cpu letter s w x (DoneLetter name result) h first content promised is =
    let y : Work = at_work cpu letter s in
    bind_then (own_place m cpu name.thread) _ x is λ i own rest.
    guard_then (is_some (split_place m cpu y.local i)) _ x rest λ split rest.
    guard_then ((thread y.local i).context.begun == name.k) _ x rest λ number rest.
    let at = own_place_is m cpu name.thread i own in
    let p = opened_keeps m cpu letter.stamp [] s h.processor promised in
    let f : Thread → Thread = after_decision result y.local.clock in
    subst (StaysPromised m cpu (without from cpu s)) (some_is _ x rest) (taken_keeps m from cpu letter s (y ▷ does (comes_to i f)) h.first (record {
      gone = λ j to lt g. absurd (subst (IsGoneIn (declared m j).id to (record { from = from; to = cpu; letter = letter })) content g);
      answer = λ j r send lt has to away answer.
          let same = subst (IsAnswerIn _ (home m j) (home m r) (record { from = from; to = cpu; letter = letter })) content answer in
          let size = size_now m cpu [] s y h.processor p in
          let is_j : i ≡ j = same_place m i j name.thread at.0 h.machine lt (ap (λ (n : Name). n.thread) same) in
          let here : home m j ≡ cpu = sym (ap (home m) is_j) ∙ at.1 in
          let now : kept_at (amid cpu s (y ▷ does (comes_to i f))) (home m j) j ≡ kept (comes_to i f y.local) j =
          ap (λ l. kept l j) (put_home m cpu j s (comes_to i f y.local) here) in
          let none : (kept (comes_to i f y.local) j).thread.send ≡ None =
          subst (λ j. j < length m.threads → (kept (comes_to i f y.local) j).thread.send ≡ None) is_j
          (λ lt. ap (λ (k : Kept). k.thread.send) (comes_here y.local i f (omega arith)) ∙ ended_none result y.local.clock (thread y.local i)) lt in
          some_none send (sym has ∙ ap (λ (k : Kept). k.thread.send) now ∙ none);
    }) (comes_on m cpu i s y f h.processor at.1 (ended_afresh result y.local.clock (thread y.local i)) p))
  where
    some_none : {P : Type 0} (send : Send) → Some send ≡ None → P
    some_none send e = cc
letter_keeps m from cpu letter s w x (WithdrawLetter name receiver cause) h first content promised is =
    withdraw_keeps m from cpu letter s w x name receiver cause h first content promised is
letter_keeps m from cpu letter s w x (GoneLetter id) h first content promised is =
    let y : Work = at_work cpu letter s in
    bind_then (foreign_place m cpu id) _ x is λ i foreign rest.
    let at = foreign_place_is m cpu id i foreign in
    let p = opened_keeps m cpu letter.stamp [] s h.processor promised in
    subst (StaysPromised m cpu (without from cpu s)) (some_is _ x rest) (taken_keeps m from cpu letter s (y ▷ does (changes i is_gone_now)) h.first (record {
      gone = λ j to lt g.
          let same = subst (IsGoneIn (declared m j).id to (record { from = from; to = cpu; letter = letter })) content g in
          let size = size_now m cpu [] s y h.processor p in
          let is_j : i ≡ j = same_place m i j id at.0 h.machine lt same.0 in
          subst (λ c. phases (amid cpu s (y ▷ does (changes i is_gone_now))) j c ≡ Deleted) same.1
          (ap (λ l. (thread l j).phase) (here_local cpu s (changes i is_gone_now y.local))
          ∙ subst (λ j. j < length m.threads → (thread (changes i is_gone_now y.local) j).phase ≡ Deleted) is_j
          (λ lt. ap (λ (k : Kept). k.thread.phase) (changes_here y.local i is_gone_now (omega arith))) lt);
      answer = λ j r send lt has to away answer.
          absurd (subst (IsAnswerIn _ (home m j) (home m r) (record { from = from; to = cpu; letter = letter })) content answer);
    }) (changes_away m cpu i [] s y is_gone_now h.processor at.1 (λ h. refl) p))
letter_keeps m from cpu letter s w x (OrderLetter caller target what) h first content promised is =
    let y : Work = at_work cpu letter s in
    bind_then (own_place m cpu target) _ x is λ j own rest.
    bind_then (foreign_place m cpu caller) _ x rest λ i foreign rest.
    let p = opened_keeps m cpu letter.stamp [] s h.processor promised in
    let z : Work = y ▷ obeys m cpu caller what j in
    taken_keeps m from cpu letter s x h.first (silent_spent m from cpu letter s x _ content ((λ s a b p h. h), (λ id to p h. h)))
    (subst (StaysPromised m cpu s) (some_is _ x rest) (posts_keeps m cpu (declared m i).cpu (OrderDoneLetter caller) [] s z
    (all_true (λ (q : Posted). MayFollow (OrderDoneLetter caller) q.letter.content) (λ q. tt) (amid cpu s z).mail)
    (obeys_keeps m cpu j caller what s y h.processor (own_place_is m cpu target j own).1 p)))
letter_keeps m from cpu letter s w x (OrderDoneLetter caller) h first content promised is =
    let y : Work = at_work cpu letter s in
    bind_then (own_place m cpu caller) _ x is λ i own rest.
    guard_then (is_deleted (thread y.local i).phase || is_ordering (thread y.local i).phase) _ x rest λ asked rest.
    let p = opened_keeps m cpu letter.stamp [] s h.processor promised in
    taken_keeps m from cpu letter s x h.first (silent_spent m from cpu letter s x _ content ((λ s a b p h. h), (λ id to p h. h)))
    (subst (StaysPromised m cpu s) (some_is _ x rest)
    (obeyed_keeps m cpu i s y h.processor (own_place_is m cpu caller i own).1 (has_asked (thread y.local i).phase asked) p))
letter_keeps m from cpu letter s w x (RetargetLetter o) h first content promised is =
    let y : Work = at_work cpu letter s in
    guard_then m.retargeting _ x is λ profile rest.
    bind_then (own_place m cpu o.originator) _ x rest λ j own rest.
    guard_then (is_declared m o.old_partner) _ x rest λ old rest.
    guard_then (is_some (foreign_place m cpu o.new_partner)) _ x rest λ foreign rest.
    let p = opened_keeps m cpu letter.stamp [] s h.processor promised in
    taken_keeps m from cpu letter s x h.first (silent_spent m from cpu letter s x _ content ((λ s a b p h. h), (λ id to p h. h)))
    (subst (StaysPromised m cpu s) (some_is _ x rest) (retargets_keeps m cpu o j s y h.processor p))
