-- The sends that a world tells are those that the report of a history to it tells.
use Rattle.std.proofs.Common.{◌≡◌, inl, inr, ℕ, zero, suc, ◌<◌, Bool, true, false, Option, Some, None, List, [], ◌∷◌, ◌++◌, length, map, refl, ap, ap₂, sym, ◌∙◌, append_assoc, arith}
use Rattle.std.specs.Prelude.{◌||◌, codes, decimal, flat_map, slice_get, slice_index, zip}
use Rattle.std.specs.List.{list_any}
use Rattle.std.proofs.lemmas.Option.{slice_get-get_or}
use Rattle.l4_model.specs.Words.{GlobalId, Id}
use Rattle.l4_model.specs.Machine.{Declaration, Machine, place_of}
use Rattle.l4_model.specs.World.{Name, Send, Thread, World}
use Rattle.l4_model.specs.Steps.{Step}
use Rattle.l4_model.specs.Conditions.{Found, Pending, undecided}
use Rattle.l4_model.specs.History.{Report, reached, view, waiting}
use Rattle.l4_model.proofs.Chains.{some_is}
use Rattle.l4_model.proofs.Places.{eqb_same, id_of, known_send, sender_found}
use Rattle.l4_core_model.specs.Local.{declared}
use Rattle.l4_core_model.specs.Runs.{IsMachine}
use Rattle.l4_words.specs.Names.{name_word}
use Rattle.l4_words.specs.Numbers.{hexadecimal}
use Rattle.l4_words.specs.Threads.{id_word, thread_word}
use Rattle.l4_words.specs.Words.{words_in}
use Rattle.l4_lines.specs.Lines.{fits, has_line}
use Rattle.l4_types.specs.declared.reports.Ending.{Ending}
use Rattle.l4_reports.specs.ReportLines.{ending_line, report_text, shown_registers, state_word, thread_line, waiting_line}
use Rattle.l4_common_lines.proofs.Begun.{Has, IsPending, is_listed, is_pending}
use Rattle.l4_common_lines.proofs.Spelled.{thread_words, thread_words_whole, waiting_words, waiting_words_whole}
use Rattle.l4_common_lines.proofs.Texts.{lines_behind}
use Rattle.l4_condition_lines.specs.Conditions.{send_in, sends_in, TellsReport}
use Rattle.l4_condition_lines.proofs.Reading.{send_fits}
use Rattle.l4_condition_lines.proofs.Judging.{any_sends, told_by}

both_ways : (a b : Bool) → (a ≡ true → b ≡ true) → (b ≡ true → a ≡ true) → a ≡ b
both_ways true b there back = sym (there refl)
both_ways false true there back = back refl
both_ways false false there back = refl

-- Elements

record IsOneOf (f : GlobalId × Thread → Bool) (ds : List Declaration) (ts : List Thread) : Type 0 where
  place : ℕ
  d : Declaration
  t : Thread
  at_d : slice_get ds place ≡ Some d
  at_t : slice_get ts place ≡ Some t
  is : f (d.id, t) ≡ true

one_of : (f : GlobalId × Thread → Bool) (ds : List Declaration) (ts : List Thread) →
    list_any f (zip (map (λ d. d.id) ds) ts) ≡ true → IsOneOf f ds ts
one_of f [] ts any = cc
one_of f (d ∷ ds) [] any = cc
one_of f (d ∷ ds) (t ∷ ts) any = by (f (d.id, t)) refl any (one_of f ds ts)
  where
    by : (b : Bool) → f (d.id, t) ≡ b → (b || list_any f (zip (map (λ d. d.id) ds) ts)) ≡ true →
        (list_any f (zip (map (λ d. d.id) ds) ts) ≡ true → IsOneOf f ds ts) → IsOneOf f (d ∷ ds) (t ∷ ts)
    by true is any rest = record { place = 0; d = d; t = t; at_d = refl; at_t = refl; is = is }
    by false is any rest =
        let o = rest any in record { place = suc o.place; d = o.d; t = o.t; at_d = o.at_d; at_t = o.at_t; is = o.is }

or_right : (b c : Bool) → c ≡ true → (b || c) ≡ true
or_right true c is = refl
or_right false c is = is

any_at : (f : GlobalId × Thread → Bool) (ds : List Declaration) (ts : List Thread) (i : ℕ) (d : Declaration)
    (t : Thread) → slice_get ds i ≡ Some d → slice_get ts i ≡ Some t → f (d.id, t) ≡ true →
    list_any f (zip (map (λ d. d.id) ds) ts) ≡ true
any_at f [] ts i d t at_d at_t is = cc
any_at f (e ∷ ds) [] i d t at_d at_t is = cc
any_at f (e ∷ ds) (u ∷ ts) zero d t at_d at_t is =
    let same : f (e.id, u) ≡ f (d.id, t) =
    ap₂ (λ (x : Declaration) (y : Thread). f (x.id, y)) (some_is e d at_d) (some_is u t at_t) in
    ap (λ b. b || list_any f (zip (map (λ d. d.id) ds) ts)) (same ∙ is)
any_at f (e ∷ ds) (u ∷ ts) (suc i) d t at_d at_t is = or_right (f (e.id, u)) _ (any_at f ds ts i d t at_d at_t is)

record IsOneIn {A : Type 0} (p : A → Bool) (xs : List A) : Type 0 where
  it : A
  has : Has it xs
  is : p it ≡ true

one_in : {A : Type 0} (p : A → Bool) (xs : List A) → list_any p xs ≡ true → IsOneIn p xs
one_in p [] any = cc
one_in p (x ∷ xs) any = by (p x) refl any (one_in p xs)
  where
    by : (b : Bool) → p x ≡ b → (b || list_any p xs) ≡ true → (list_any p xs ≡ true → IsOneIn p xs) → IsOneIn p (x ∷ xs)
    by true is any rest = record { it = x; has = inl refl; is = is }
    by false is any rest = let o = rest any in record { it = o.it; has = inr o.has; is = o.is }

any_in : {A : Type 0} (p : A → Bool) (xs : List A) (x : A) → Has x xs → p x ≡ true → list_any p xs ≡ true
any_in p [] x has is = absurd has
any_in p (y ∷ ys) x (inl same) is = ap (λ (b : Bool). b || list_any p ys) (ap p same ∙ is)
any_in p (y ∷ ys) x (inr has) is = or_right (p y) (list_any p ys) (any_in p ys x has is)

inside : (ds : List Declaration) (i : ℕ) (d : Declaration) → slice_get ds i ≡ Some d → i < length ds
inside [] i d is = cc
inside (e ∷ ds) zero d is = omega arith
inside (e ∷ ds) (suc i) d is = omega (arith, inside ds i d is)

-- Both ways

module _ (m : Machine) (is_machine : IsMachine m) (h : List Step) (w : World) (there : reached m h ≡ Some w)
    (asked : List (List ℕ)) where
  told_too : list_any (λ x. fits asked (waiting_words x)) (waiting m w h) ≡ true →
      list_any (λ p. send_fits asked (send_in p)) (zip (map (λ d. d.id) m.threads) w.threads) ≡ true
  told_too any =
      let x = one_in (λ x. fits asked (waiting_words x)) (waiting m w h) any in
      by x.it (is_pending m w h x.it x.has) x.is
    where
      by : (x : Name × Id) → IsPending m w x → fits asked (waiting_words x) ≡ true →
          list_any (λ p. send_fits asked (send_in p)) (zip (map (λ d. d.id) m.threads) w.threads) ≡ true
      by x q is =
          let p = q.p in
          let k = known_send m w x.0 p q.undecided_is in
          let id : p.sender.declared.id ≡ x.0.thread =
          (id_of m w x.0.thread p.sender (sender_found m w x.0 p q.undecided_is)).0 in
          let same : send_in (p.sender.declared.id, p.sender.now) ≡ Some x =
          ap (λ (o : Option Send). send_in (p.sender.declared.id, record p.sender.now { send = o })) k.send
          ∙ ap (λ (i : GlobalId). Some (record { thread = i; k = p.sender.now.context.begun }, p.send.to)) id
          ∙ ap (λ (n : ℕ). Some (record { thread = x.0.thread; k = n }, p.send.to)) k.last
          ∙ ap (λ (i : Id). Some (x.0, i)) q.to in
          any_at (λ p. send_fits asked (send_in p)) m.threads w.threads p.sender.at p.sender.declared p.sender.now
          k.sender.declared k.sender.now
          (ap (send_fits asked) same ∙ is)

  waits_too : list_any (λ p. send_fits asked (send_in p)) (zip (map (λ d. d.id) m.threads) w.threads) ≡ true →
      list_any (λ x. fits asked (waiting_words x)) (waiting m w h) ≡ true
  waits_too any =
      let o = one_of (λ p. send_fits asked (send_in p)) m.threads w.threads any in
      by o.place o.d o.t o.t.send refl o.at_d o.at_t o.is
    where
      by : (i : ℕ) (d : Declaration) (t : Thread) (o : Option Send) → t.send ≡ o → slice_get m.threads i ≡ Some d →
          slice_get w.threads i ≡ Some t → send_fits asked (send_in (d.id, t)) ≡ true →
          list_any (λ x. fits asked (waiting_words x)) (waiting m w h) ≡ true
      by i d t None none at_d at_t is =
          let no : false ≡ true =
          sym (ap (λ (o : Option Send). send_fits asked (send_in (d.id, record t { send = o }))) none) ∙ is in
          cc
      by i d t (Some send) has at_d at_t is =
          let name : Name = record { thread = d.id; k = t.context.begun } in
          let known_d : declared m i ≡ d =
          some_is _ _ (sym (slice_get-get_or m.threads i _ (inside m.threads i d at_d)) ∙ at_d) in
          let place : place_of m d.id ≡ Some i =
          ap (λ (e : Declaration). place_of m e.id) (sym known_d) ∙ is_machine.placed i (inside m.threads i d at_d) in
          let sender : Found = record { at = i; declared = d; now = t; clock = slice_index w.clocks d.cpu } in
          let p : Pending = record { sender = sender; send = send } in
          let pending : undecided m w name ≡ Some p = rw (place, at_d, at_t, eqb_same t.context.begun, has) refl in
          any_in (λ x. fits asked (waiting_words x)) (waiting m w h) (name, send.to)
          (is_listed m w name p h there pending)
          (sym (ap (λ (o : Option Send). send_fits asked (send_in (d.id, record t { send = o }))) has) ∙ is)

  pub sends_same : list_any (λ x. fits asked (waiting_words x)) (sends_in m w)
      ≡ list_any (λ x. fits asked (waiting_words x)) (waiting m w h)
  sends_same = any_sends asked (zip (map (λ d. d.id) m.threads) w.threads) ∙ both_ways _ _ waits_too told_too

report_lines : (line : List ℕ) (threads : List Report) (sends : List (Name × Id)) (ending : Ending) →
    has_line line (report_text threads sends ending)
    ≡ (list_any (λ r. fits (words_in line) (thread_words r)) threads
    || (list_any (λ p. fits (words_in line) (waiting_words p)) sends || has_line line (ending_line ending)))
report_lines line threads sends ending =
    ap (has_line line) (append_assoc (flat_map thread_line threads) (flat_map waiting_line sends) (ending_line ending))
    ∙ lines_behind line (codes "thread")
    (λ (r : Report). thread_word r.id ∷ state_word r.state ∷ decimal r.error ∷ id_word r.from ∷ id_word r.actual
    ∷ map hexadecimal (shown_registers r.words))
    threads (flat_map waiting_line sends ++ ending_line ending) thread_words_whole
    ∙ ap (λ (b : Bool). list_any (λ r. fits (words_in line) (thread_words r)) threads || b)
    (lines_behind line (codes "waiting") (λ (p : Name × Id). name_word p.0 ∷ id_word p.1 ∷ []) sends
    (ending_line ending) waiting_words_whole)

or_false : (b : Bool) → b ≡ (b || false)
or_false true = refl
or_false false = refl

pub tells_report : (m : Machine) → IsMachine m → TellsReport m
tells_report m is_machine h w ending line there not_ending =
    told_by m w line
    ∙ ap (λ (b : Bool). list_any (λ r. fits (words_in line) (thread_words r)) (view m w) || b)
    (sends_same m is_machine h w there (words_in line)
    ∙ or_false (list_any (λ p. fits (words_in line) (waiting_words p)) (waiting m w h))
    ∙ ap (λ (b : Bool). list_any (λ p. fits (words_in line) (waiting_words p)) (waiting m w h) || b) (sym not_ending))
    ∙ sym (report_lines line (view m w) (waiting m w h) ending)
