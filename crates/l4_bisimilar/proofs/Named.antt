-- A letter that names the last send of its thread, where that is asked for, is handled alike
-- whatever the number is.
use Rattle.std.proofs.Common.{◌≡◌, ℕ, Bool, true, false, Some, refl, subst, sym, ap, ◌∙◌}
use Rattle.std.specs.Prelude.{◌==◌, ◌&&◌}
use Rattle.l4_model.specs.Machine.{Machine}
use Rattle.l4_core_model.specs.Plain as plain
use Rattle.l4_core_model.specs.Letters.{Content, SendLetter, DoneLetter, WithdrawLetter, GoneLetter, OrderLetter, OrderDoneLetter, RetargetLetter, Letter}
use Rattle.l4_core_model.specs.Local.{Local, thread}
use Rattle.l4_core_model.specs.Turns.{opened}
use Rattle.l4_core_model.specs.Mail.{own_place, foreign_place, waits_here, handled, handle}
use Rattle.l4_core_model.proofs.Changed.{same_nat}
use Rattle.l4_bisimilar.proofs.Ways.{Way}
use Rattle.l4_bisimilar.proofs.Works.{AreWorks, IsLike, queued_like}
use Rattle.l4_bisimilar.proofs.Letters.{MeanAlike, handled_like, number_in, with_number}
use Rattle.l4_bisimilar.specs.Similar.{numberless_content, numberless_name, numberless_owed}

-- The last send is meant where a letter tells how a send was decided, and where it withdraws a send
-- that waits here.
abbrev pub FitsNumber : Machine → (cpu : ℕ) → Local → Content → Type 0
FitsNumber m cpu l (DoneLetter s result) =
    (i : ℕ) → own_place m cpu s.thread ≡ Some i → (thread l i).context.begun ≡ s.k
FitsNumber m cpu l (WithdrawLetter s receiver cause) =
    (i : ℕ) → foreign_place m cpu s.thread ≡ Some i → plain.is_queued l.lists i ≡ true →
    (thread l i).context.begun ≡ s.k
FitsNumber m cpu l _ = Unit {0}

-- Of two letters that differ in numbers alone the second is the first with another number.
renumbered : (c d : Content) → numberless_content c ≡ numberless_content d → with_number (number_in d) c ≡ d
renumbered (SendLetter s receiver message timeout) (SendLetter t receiver' message' timeout') e =
    let name : numberless_name s ≡ numberless_name t = cc in
    let to : receiver ≡ receiver' = cc in
    let words : message ≡ message' = cc in
    let zero_timeout : timeout ≡ timeout' = cc in
    λ j. SendLetter (record t { thread = (name j).thread }) (to j) (words j) (zero_timeout j)
renumbered (DoneLetter s result) (DoneLetter t result') e =
    let name : numberless_name s ≡ numberless_name t = cc in
    let how : result ≡ result' = cc in
    λ j. DoneLetter (record t { thread = (name j).thread }) (how j)
renumbered (WithdrawLetter s receiver cause) (WithdrawLetter t receiver' cause') e =
    let name : numberless_name s ≡ numberless_name t = cc in
    let to : receiver ≡ receiver' = cc in
    let why : cause ≡ cause' = cc in
    λ j. WithdrawLetter (record t { thread = (name j).thread }) (to j) (why j)
renumbered (GoneLetter id) (GoneLetter id') e = e
renumbered (OrderLetter caller target what) (OrderLetter caller' target' what') e = e
renumbered (OrderDoneLetter caller) (OrderDoneLetter caller') e = e
renumbered (RetargetLetter o) (RetargetLetter p) e =
    let owed : numberless_owed o ≡ numberless_owed p = cc in
    λ j. RetargetLetter (record (owed j) { send = record p.send { thread = (owed j).send.thread } })
renumbered c d e = cc

module _ (w : Way) (m : Machine) (cpu : ℕ) (l k : Local) (like : IsLike w l k) where
  -- A send that waits is the one that is withdrawn, on both sides.
  waits : (i a b : ℕ) → (plain.is_queued l.lists i ≡ true → (thread l i).context.begun ≡ a) →
      (plain.is_queued k.lists i ≡ true → (thread k i).context.begun ≡ b) → waits_here l i a ≡ waits_here k i b
  waits i a b fit_l fit_k =
      by (plain.is_queued l.lists i) (plain.is_queued k.lists i) refl refl (queued_like w l k i like)
    where
      by : (c d : Bool) → plain.is_queued l.lists i ≡ c → plain.is_queued k.lists i ≡ d → c ≡ d →
          (c && (thread l i).context.begun == a) ≡ (d && (thread k i).context.begun == b)
      by true true p q e =
          ap (λ n. n == a) (fit_l p) ∙ same_nat a ∙ sym (same_nat b) ∙ ap (λ n. n == b) (sym (fit_k q))
      by false false p q e = refl
      by true false p q e = cc
      by false true p q e = cc

  means : (c : Content) (n : ℕ) → FitsNumber m cpu l c → FitsNumber m cpu k (with_number n c) →
      MeanAlike m cpu l k n c
  means (SendLetter s receiver message zero_timeout) n f g = tt
  means (DoneLetter s result) n f g = λ i own.
      ap (λ b. b == s.k) (f i own) ∙ same_nat s.k ∙ sym (same_nat n) ∙ ap (λ b. b == n) (sym (g i own))
  means (WithdrawLetter s receiver cause) n f g = λ i foreign. waits i s.k n (f i foreign) (g i foreign)
  means (GoneLetter id) n f g = tt
  means (OrderLetter caller target what) n f g = tt
  means (OrderDoneLetter caller) n f g = tt
  means (RetargetLetter o) n f g = tt

  pub handle_numbered : (a b : Letter) → numberless_content a.content ≡ numberless_content b.content →
      ((i j : ℕ) → w.count i ≡ w.count j) → FitsNumber m cpu l a.content → FitsNumber m cpu k b.content →
      AreWorks w (handle m cpu l a) (handle m cpu k b)
  handle_numbered a b e count fit_l fit_k =
      let n = number_in b.content in
      let same : with_number n a.content ≡ b.content = renumbered a.content b.content e in
      subst (λ (c : Content).
      AreWorks w (handled m cpu a.content (opened a.stamp l)) (handled m cpu c (opened b.stamp k))) same
      (handled_like w m cpu l k like a.stamp b.stamp a.content n (count (number_in a.content) n)
      (means a.content n fit_l (subst (FitsNumber m cpu k) (sym same) fit_k)))
