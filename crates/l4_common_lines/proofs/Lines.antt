-- Reports of worlds that have what is told in common have the same lines that may be asked for.
use Rattle.std.proofs.Common.{◌≡◌, ◌⊎◌, inl, inr, ℕ, suc, ◌<◌, Bool, true, false, None, List, [], ◌∷◌, ◌++◌, length, map, refl, ap, ap₂, sym, ◌∙◌, append_assoc, arith}
use Rattle.std.specs.Prelude.{◌||◌, codes, decimal, flat_map, slice_index_or, zip}
use Rattle.std.specs.List.{list_any}
use Rattle.l4_model.specs.Words.{GlobalId, Id}
use Rattle.l4_model.specs.Machine.{Declaration, Machine}
use Rattle.l4_model.specs.World.{Deleted, Name, Phase, Thread, World, opening_thread}
use Rattle.l4_model.specs.History.{Report, report_of, state_of, view, waiting}
use Rattle.l4_model.proofs.Worlds.{reached_facts}
use Rattle.l4_bisimilar.specs.InCommon.{AreDeleted, AreToldAlike, HaveInCommon}
use Rattle.l4_words.specs.Names.{name_word}
use Rattle.l4_words.specs.Numbers.{hexadecimal}
use Rattle.l4_words.specs.Threads.{id_word, thread_word}
use Rattle.l4_words.specs.Words.{words_in}
use Rattle.l4_lines.specs.Lines.{fault_of_words, fits, has_line}
use Rattle.l4_types.specs.declared.reports.Ending.{Ending}
use Rattle.l4_reports.specs.ReportLines.{ending_line, report_text, shown_registers, state_word, thread_line, waiting_line}
use Rattle.l4_common_lines.specs.CommonLines.{ReportsHaveLinesInCommon}
use Rattle.l4_common_lines.proofs.Begun.{Has}
use Rattle.l4_common_lines.proofs.Fits.{deleted_fit, waiting_fit}
use Rattle.l4_common_lines.proofs.Sends.{HasLike, IsLike, common_back, waits_too}
use Rattle.l4_common_lines.proofs.Spelled.{thread_words, thread_words_whole, waiting_words, waiting_words_whole}
use Rattle.l4_common_lines.proofs.Texts.{lines_behind}

-- Threads

module _ (asked : List (List ℕ)) (none : fault_of_words asked ≡ None) where
  abbrev tail_of : Thread → List (List ℕ)
  tail_of t =
      decimal t.context.error ∷ id_word t.context.from ∷ id_word t.context.actual
      ∷ map hexadecimal (shown_registers t.context.words)

  as_deleted : (id : GlobalId) (t : Thread) → t.phase ≡ Deleted →
      fits asked (thread_words (report_of id t))
      ≡ fits asked (codes "thread" ∷ thread_word id ∷ codes "deleted" ∷ tail_of t)
  as_deleted id t is =
      ap (λ (p : Phase).
      fits asked (codes "thread" ∷ thread_word id ∷ state_word (state_of p) ∷ tail_of t)) is

  thread_fit : (id : GlobalId) (t u : Thread) → AreToldAlike t u →
      fits asked (thread_words (report_of id t)) ≡ fits asked (thread_words (report_of id u))
  thread_fit id t u alike = by alike.report
    where
      by : ((id : GlobalId) → report_of id t ≡ report_of id u) ⊎ AreDeleted t u →
          fits asked (thread_words (report_of id t)) ≡ fits asked (thread_words (report_of id u))
      by (inl same) = ap (λ (r : Report). fits asked (thread_words r)) (same id)
      by (inr deleted) =
          as_deleted id t deleted.0
          ∙ deleted_fit asked (thread_word id) (tail_of t) (tail_of u) none
          ∙ sym (as_deleted id u deleted.1)

  threads_fit : (ds : List Declaration) (ts us : List Thread) → length ts ≡ length ds →
      length us ≡ length ds →
      ((i : ℕ) → i < length ds →
      AreToldAlike (slice_index_or ts i opening_thread) (slice_index_or us i opening_thread)) →
      list_any (λ r. fits asked (thread_words r))
      (map (λ p. report_of p.0 p.1) (zip (map (λ d. d.id) ds) ts))
      ≡ list_any (λ r. fits asked (thread_words r))
      (map (λ p. report_of p.0 p.1) (zip (map (λ d. d.id) ds) us))
  threads_fit [] ts us one other alike = refl
  threads_fit (d ∷ ds) [] us one other alike = absurd (omega (arith, one))
  threads_fit (d ∷ ds) (t ∷ ts) [] one other alike = absurd (omega (arith, other))
  threads_fit (d ∷ ds) (t ∷ ts) (u ∷ us) one other alike =
      ap₂ (λ (a b : Bool). a || b) (thread_fit d.id t u (alike 0 (omega arith)))
      (threads_fit ds ts us (omega (arith, one)) (omega (arith, other))
      (λ i inside. alike (suc i) (omega (arith, inside))))

  -- Sends

  send_fit : (x y : Name × Id) → IsLike x y →
      fits asked (waiting_words x) ≡ fits asked (waiting_words y)
  send_fit x y like =
      waiting_fit asked x.0 y.0 (id_word x.1) none (sym like.thread)
      ∙ ap (λ (to : Id). fits asked (codes "waiting" ∷ name_word y.0 ∷ id_word to ∷ []))
      (sym like.to)

-- Elements

record IsOneOf {A : Type 0} (p : A → Bool) (xs : List A) : Type 0 where
  it : A
  has : Has it xs
  is : p it ≡ true

one_of : {A : Type 0} (p : A → Bool) (xs : List A) → list_any p xs ≡ true → IsOneOf p xs
one_of p [] any = cc
one_of p (x ∷ xs) any = by (p x) refl any (one_of p xs)
  where
    by : (b : Bool) → p x ≡ b → (b || list_any p xs) ≡ true →
        (list_any p xs ≡ true → IsOneOf p xs) → IsOneOf p (x ∷ xs)
    by true is any rest = record { it = x; has = inl refl; is = is }
    by false is any rest =
        let o = rest any in record { it = o.it; has = inr o.has; is = o.is }

any_of : {A : Type 0} (p : A → Bool) (xs : List A) (x : A) → Has x xs → p x ≡ true →
    list_any p xs ≡ true
any_of p [] x has is = absurd has
any_of p (y ∷ ys) x (inl same) is = ap (λ (b : Bool). b || list_any p ys) (ap p same ∙ is)
any_of p (y ∷ ys) x (inr has) is = by (p y) (any_of p ys x has is)
  where
    by : (b : Bool) → list_any p ys ≡ true → (b || list_any p ys) ≡ true
    by true rest = refl
    by false rest = rest

both_ways : (a b : Bool) → (a ≡ true → b ≡ true) → (b ≡ true → a ≡ true) → a ≡ b
both_ways true b there back = sym (there refl)
both_ways false true there back = back refl
both_ways false false there back = refl

some_fit : (asked : List (List ℕ)) → fault_of_words asked ≡ None → (xs ys : List (Name × Id)) →
    ((x : Name × Id) → Has x xs → HasLike x ys) →
    list_any (λ p. fits asked (waiting_words p)) xs ≡ true →
    list_any (λ p. fits asked (waiting_words p)) ys ≡ true
some_fit asked none xs ys alike any =
    let x = one_of (λ p. fits asked (waiting_words p)) xs any in
    let y = alike x.it x.has in
    any_of (λ p. fits asked (waiting_words p)) ys y.y y.has
    (sym (send_fit asked none x.it y.y y.like) ∙ x.is)

-- Reports

report_lines : (line : List ℕ) (threads : List Report) (sends : List (Name × Id)) (ending : Ending) →
    has_line line (report_text threads sends ending)
    ≡ (list_any (λ r. fits (words_in line) (thread_words r)) threads
    || (list_any (λ p. fits (words_in line) (waiting_words p)) sends
    || has_line line (ending_line ending)))
report_lines line threads sends ending =
    ap (has_line line)
    (append_assoc (flat_map thread_line threads) (flat_map waiting_line sends) (ending_line ending))
    ∙ lines_behind line (codes "thread")
    (λ (r : Report). thread_word r.id ∷ state_word r.state ∷ decimal r.error ∷ id_word r.from
    ∷ id_word r.actual ∷ map hexadecimal (shown_registers r.words)) threads
    (flat_map waiting_line sends ++ ending_line ending) thread_words_whole
    ∙ ap (λ (b : Bool). list_any (λ r. fits (words_in line) (thread_words r)) threads || b)
    (lines_behind line (codes "waiting")
    (λ (p : Name × Id). name_word p.0 ∷ id_word p.1 ∷ []) sends (ending_line ending)
    waiting_words_whole)

pub lines_in_common : (m : Machine) (w v : World) → HaveInCommon m w v →
    ReportsHaveLinesInCommon m w v
lines_in_common m w v alike h k ending here there line none =
    report_lines line (view m w) (waiting m w h) ending
    ∙ ap₂ (λ (a b : Bool). a || b)
    (threads_fit asked none m.threads w.threads v.threads
    (reached_facts m h w here).threads_counted (reached_facts m k v there).threads_counted alike)
    (ap (λ (b : Bool). b || has_line line (ending_line ending))
    (both_ways _ _
    (some_fit asked none (waiting m w h) (waiting m v k) (waits_too m w v h k there alike))
    (some_fit asked none (waiting m v k) (waiting m w h)
    (waits_too m v w k h here (common_back m w v alike)))))
    ∙ sym (report_lines line (view m v) (waiting m v k) ending)
  where
    asked : List (List ℕ)
    asked = words_in line
