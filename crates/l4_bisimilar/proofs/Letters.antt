-- Letters that name the sends that they mean, each in its state, are handled alike.
use Rattle.std.proofs.Common.{◌≡◌, ℕ, Some, refl, ap}
use Rattle.std.specs.Prelude.{is_some, ◌==◌, ◌||◌, is_none}
use Rattle.l4_model.specs.Machine.{Machine, is_declared}
use Rattle.l4_model.specs.Words.{same_id}
use Rattle.l4_model.specs.World.{Name, is_deleted}
use Rattle.l4_model.specs.Effects.{obeyed}
use Rattle.l4_core_model.specs.Letters.{Content, DoneLetter, GoneLetter, OrderDoneLetter, OrderLetter, RetargetLetter, SendLetter, WithdrawLetter, refusal_of}
use Rattle.l4_core_model.specs.Local.{Local, declared, is_gone_now, stand_in, thread}
use Rattle.l4_core_model.specs.Acts.{Work, split_place}
use Rattle.l4_core_model.specs.Turns.{opened}
use Rattle.l4_core_model.specs.Mail.{foreign_place, handled, is_ordering, own_place, waits_here}
use Rattle.l4_bisimilar.proofs.Ways.{Way}
use Rattle.l4_bisimilar.proofs.Threads.{both, decision_both, obeyed_same, same_send, stands_both}
use Rattle.l4_bisimilar.proofs.Works.{AreLike, AreWorks, IsLike, bind_like, cond_like, does_changes, does_comes, guard_like, opened_like, phase_like, posts_like, split_like, thread_like}
use Rattle.l4_bisimilar.proofs.Acts.{arrives_like, obeys_like, refuses_like, retargets_like}

-- Letters that differ in numbers alone: the second is the first with another number.

abbrev pub numbered : ℕ → Name → Name
numbered n s = record s { k = n }

abbrev pub with_number : ℕ → Content → Content
with_number n (SendLetter s receiver message zero_timeout) = SendLetter (numbered n s) receiver message zero_timeout
with_number n (DoneLetter s result) = DoneLetter (numbered n s) result
with_number n (WithdrawLetter s receiver cause) = WithdrawLetter (numbered n s) receiver cause
with_number n (GoneLetter id) = GoneLetter id
with_number n (OrderLetter caller target what) = OrderLetter caller target what
with_number n (OrderDoneLetter caller) = OrderDoneLetter caller
with_number n (RetargetLetter o) = RetargetLetter (record o { send = numbered n o.send })

abbrev pub number_in : Content → ℕ
number_in (SendLetter s receiver message zero_timeout) = s.k
number_in (DoneLetter s result) = s.k
number_in (WithdrawLetter s receiver cause) = s.k
number_in (GoneLetter id) = 0
number_in (OrderLetter caller target what) = 0
number_in (OrderDoneLetter caller) = 0
number_in (RetargetLetter o) = o.send.k

-- It means in the one state what the other, with its number, means in the other state.
abbrev pub MeanAlike : Machine → (cpu : ℕ) → (l k : Local) → ℕ → Content → Type 0
MeanAlike m cpu l k n (DoneLetter s result) =
    (i : ℕ) → own_place m cpu s.thread ≡ Some i →
    ((thread l i).context.begun == s.k) ≡ ((thread k i).context.begun == n)
MeanAlike m cpu l k n (WithdrawLetter s receiver cause) =
    (i : ℕ) → foreign_place m cpu s.thread ≡ Some i → waits_here l i s.k ≡ waits_here k i n
MeanAlike m cpu l k n _ = Unit {0}

module _ (w : Way) (m : Machine) (cpu : ℕ) (l k : Local) (like : IsLike w l k) (stamp other : ℕ) where
  abbrev x : Work
  x = opened stamp l

  abbrev y : Work
  y = opened other k

  h : AreLike w x y
  h = opened_like w stamp other l k like

  pub handled_like : (c : Content) (n : ℕ) → w.count (number_in c) ≡ w.count n → MeanAlike m cpu l k n c →
      AreWorks w (handled m cpu c x) (handled m cpu (with_number n c) y)
  handled_like (SendLetter s receiver message zero_timeout) n count means =
      let send = stand_in receiver message zero_timeout in
      bind_like w (own_place m cpu receiver) _ _ λ r own.
      bind_like w (foreign_place m cpu s.thread) _ _ λ i foreign.
      guard_like w (is_none (thread l i).send) (is_none (thread k i).send) _ _
      (same_send w is_none (λ o. refl) (thread l i) (thread k i) (thread_like w l k i like))
      (guard_like w (same_id message.actual s.thread) _ _ _ refl
      (guard_like w (is_declared m message.shown) _ _ _ refl
      (arrives_like w m cpu r i _ _ (does_changes w i _ _ (stands_both w s.k n send count) x y h))))
  handled_like (DoneLetter s result) n count means =
      bind_like w (own_place m cpu s.thread) _ _ λ i own.
      guard_like w (is_some (split_place m cpu l i)) (is_some (split_place m cpu k i)) _ _
      (ap is_some (split_like w m cpu l k i like))
      (guard_like w ((thread l i).context.begun == s.k) ((thread k i).context.begun == n) _ _ (means i own)
      (does_comes w i _ _ (decision_both w result l.clock k.clock like.clock) x y h))
  handled_like (WithdrawLetter s receiver cause) n count means =
      bind_like w (own_place m cpu receiver) _ _ λ r own.
      bind_like w (foreign_place m cpu s.thread) _ _ λ i foreign.
      cond_like w (waits_here l i s.k) (waits_here k i n) _ _ _ _ (means i foreign)
      (refuses_like w m cpu (refusal_of cause) i x y h) h
  handled_like (GoneLetter id) n count means =
      bind_like w (foreign_place m cpu id) _ _ λ i foreign.
      does_changes w i is_gone_now is_gone_now (both w is_gone_now (λ t. refl)) x y h
  handled_like (OrderLetter caller target what) n count means =
      bind_like w (own_place m cpu target) _ _ λ j own.
      bind_like w (foreign_place m cpu caller) _ _ λ i foreign.
      posts_like w (declared m i).cpu (OrderDoneLetter caller) (OrderDoneLetter caller) refl _ _
      (obeys_like w m cpu caller what j x y h)
  handled_like (OrderDoneLetter caller) n count means =
      bind_like w (own_place m cpu caller) _ _ λ i own.
      guard_like w (is_deleted (thread l i).phase || is_ordering (thread l i).phase)
      (is_deleted (thread k i).phase || is_ordering (thread k i).phase) _ _
      (phase_like w (λ p. is_deleted p || is_ordering p) (λ r a b. refl) l k i like)
      (does_comes w i obeyed obeyed (both w obeyed (obeyed_same w)) x y h)
  handled_like (RetargetLetter o) n count means =
      guard_like w m.retargeting _ _ _ refl
      (bind_like w (own_place m cpu o.originator) _ _ λ j own.
      guard_like w (is_declared m o.old_partner) _ _ _ refl
      (guard_like w (is_some (foreign_place m cpu o.new_partner)) _ _ _ refl
      (retargets_like w m cpu o (record o { send = numbered n o.send })
      (λ j. record o { send = record o.send { k = count j } }) (Some j) x y h)))
