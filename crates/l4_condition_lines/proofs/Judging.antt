-- A world tells the same lines as another where their threads do.
use Rattle.std.proofs.Common.{◌≡◌, ◌⊎◌, inl, inr, ℕ, zero, suc, ◌<◌, Bool, true, false, Option, Some, None, List, [], ◌∷◌, ◌++◌, length, map, refl, ap, ap₂, sym, subst, ◌∙◌, arith}
use Rattle.std.proofs.lemmas.Bool.{and_parts}
use Rattle.std.proofs.lemmas.List.{length-map}
use Rattle.std.specs.Prelude.{◌&&◌, ◌||◌, codes, decimal, filter_map, flat_map, is_none, slice_get, slice_index_or, zip}
use Rattle.std.specs.List.{cons_option, list_all, list_any}
use Rattle.std.specs.Option.{option_map}
use Rattle.l4_model.specs.Words.{GlobalId, Id}
use Rattle.l4_model.specs.Machine.{Declaration, Machine}
use Rattle.l4_model.specs.World.{Deleted, Name, Phase, Send, Thread, World, opening_thread}
use Rattle.l4_model.specs.History.{Report, report_of, state_of, view}
use Rattle.l4_model.proofs.Chains.{some_is}
use Rattle.l4_worlds.specs.Timeless.{timeless_thread}
use Rattle.l4_worlds.specs.Numberless.{numberless_thread}
use Rattle.l4_worlds.specs.Bare.{bare_thread, AreAsGood}
use Rattle.l4_bisimilar.specs.Shifted.{timeless_send}
use Rattle.l4_bisimilar.specs.InCommon.{AreDeleted, AreToldAlike}
use Rattle.l4_words.specs.Names.{name_word}
use Rattle.l4_words.specs.Numbers.{hexadecimal}
use Rattle.l4_words.specs.Threads.{id_word, thread_word}
use Rattle.l4_words.specs.Words.{words_in}
use Rattle.l4_lines.specs.Lines.{fault_of_words, fits, has_line, line_fault}
use Rattle.l4_lines.specs.declared.lines.LineFault.{LineFault}
use Rattle.l4_reports.specs.ReportLines.{shown_registers, state_word, waiting_line}
use Rattle.l4_common_lines.proofs.AsGood.{in_common}
use Rattle.l4_common_lines.proofs.Fits.{deleted_fit, waiting_fit}
use Rattle.l4_common_lines.proofs.Spelled.{thread_words, thread_words_whole, waiting_words, waiting_words_whole}
use Rattle.l4_common_lines.proofs.Texts.{lines_behind}
use Rattle.l4_invariants.specs.Inner.Reads.{Part, InSend, AreSameIn, AreReadAlike}
use Rattle.l4_condition_lines.specs.Conditions.{may_be_judged, meets, send_in, sends_in, world_text}
use Rattle.l4_condition_lines.specs.Inner.Reading.{line_reads, reads_of, send_read, thread_read}
use Rattle.l4_condition_lines.proofs.Reading.{send_fits, thread_same, send_same}

-- Lists of threads

any_map : {A B : Type 0} (g : B → Bool) (f : A → B) (xs : List A) → list_any g (map f xs) ≡ list_any (λ x. g (f x)) xs
any_map g f [] = refl
any_map g f (x ∷ xs) = ap (λ b. g (f x) || b) (any_map g f xs)

pub any_sends : (asked : List (List ℕ)) (xs : List (GlobalId × Thread)) →
    list_any (λ x. fits asked (waiting_words x)) (filter_map send_in xs)
    ≡ list_any (λ p. send_fits asked (send_in p)) xs
any_sends asked [] = refl
any_sends asked (p ∷ xs) = by (send_in p) (any_sends asked xs)
  where
    by : (o : Option (Name × Id)) →
        list_any (λ x. fits asked (waiting_words x)) (filter_map send_in xs)
        ≡ list_any (λ p. send_fits asked (send_in p)) xs →
        list_any (λ x. fits asked (waiting_words x)) (cons_option o (filter_map send_in xs)) ≡
        (send_fits asked o || list_any (λ p. send_fits asked (send_in p)) xs)
    by None rest = rest
    by (Some x) rest = ap (λ b. fits asked (waiting_words x) || b) rest

any_same : (f : GlobalId × Thread → Bool) (ds : List Declaration) (ts us : List Thread) → length ts ≡ length us →
    ((i : ℕ) (d : Declaration) (t u : Thread) → slice_get ds i ≡ Some d → slice_get ts i ≡ Some t →
    slice_get us i ≡ Some u → f (d.id, t) ≡ f (d.id, u)) →
    list_any f (zip (map (λ d. d.id) ds) ts) ≡ list_any f (zip (map (λ d. d.id) ds) us)
any_same f [] ts us counted same = refl
any_same f (d ∷ ds) [] [] counted same = refl
any_same f (d ∷ ds) [] (u ∷ us) counted same = absurd (omega (arith, counted))
any_same f (d ∷ ds) (t ∷ ts) [] counted same = absurd (omega (arith, counted))
any_same f (d ∷ ds) (t ∷ ts) (u ∷ us) counted same =
    ap₂ (λ (a b : Bool). a || b) (same 0 d t u refl refl refl)
    (any_same f ds ts us (omega (arith, counted)) (λ i e x y a b c. same (suc i) e x y a b c))

-- What a world tells, line by line

abbrev pairs : Machine → World → List (GlobalId × Thread)
pairs m w = zip (map (λ d. d.id) m.threads) w.threads

pub told_by : (m : Machine) (w : World) (line : List ℕ) →
    has_line line (world_text m w)
    ≡ (list_any (λ r. fits (words_in line) (thread_words r)) (view m w)
    || list_any (λ x. fits (words_in line) (waiting_words x)) (sends_in m w))
told_by m w line =
    lines_behind line (codes "thread")
    (λ (r : Report). thread_word r.id ∷ state_word r.state ∷ decimal r.error ∷ id_word r.from ∷ id_word r.actual
    ∷ map hexadecimal (shown_registers r.words))
    (view m w) (flat_map waiting_line (sends_in m w)) thread_words_whole
    ∙ ap (λ (b : Bool). list_any (λ r. fits (words_in line) (thread_words r)) (view m w) || b)
    (ap (has_line line) (sym (append_nil (flat_map waiting_line (sends_in m w))))
    ∙ lines_behind line (codes "waiting") (λ (p : Name × Id). name_word p.0 ∷ id_word p.1 ∷ []) (sends_in m w) []
    waiting_words_whole
    ∙ no_more (list_any (λ x. fits (words_in line) (waiting_words x)) (sends_in m w)))
  where
    append_nil : (xs : List ℕ) → xs ++ [] ≡ xs
    append_nil [] = refl
    append_nil (x ∷ xs) = ap (λ ys. x ∷ ys) (append_nil xs)

    no_more : (b : Bool) → (b || false) ≡ b
    no_more true = refl
    no_more false = refl

pub by_threads : (m : Machine) (w v : World) (line : List ℕ) → length w.threads ≡ length v.threads →
    ((i : ℕ) (d : Declaration) (t u : Thread) → slice_get m.threads i ≡ Some d → slice_get w.threads i ≡ Some t →
    slice_get v.threads i ≡ Some u →
    (fits (words_in line) (thread_words (report_of d.id t)) ≡ fits (words_in line) (thread_words (report_of d.id u)))
    × (send_fits (words_in line) (send_in (d.id, t)) ≡ send_fits (words_in line) (send_in (d.id, u)))) →
    has_line line (world_text m w) ≡ has_line line (world_text m v)
by_threads m w v line counted same =
    told_by m w line
    ∙ ap₂ (λ (a b : Bool). a || b)
    (any_map (λ r. fits asked (thread_words r)) (λ p. report_of p.0 p.1) (pairs m w)
    ∙ any_same (λ p. fits asked (thread_words (report_of p.0 p.1))) m.threads w.threads v.threads counted
    (λ i d t u a b c. (same i d t u a b c).0)
    ∙ sym (any_map (λ r. fits asked (thread_words r)) (λ p. report_of p.0 p.1) (pairs m v)))
    (any_sends asked (pairs m w)
    ∙ any_same (λ p. send_fits asked (send_in p)) m.threads w.threads v.threads counted
    (λ i d t u a b c. (same i d t u a b c).1)
    ∙ sym (any_sends asked (pairs m v)))
    ∙ sym (told_by m v line)
  where
    asked : List (List ℕ)
    asked = words_in line

all_same : (asked : List (List ℕ)) (f g : List ℕ → Bool) (P : List ℕ → Bool) → list_all P asked ≡ true →
    ((line : List ℕ) → P line ≡ true → f line ≡ g line) → list_all f asked ≡ list_all g asked
all_same [] f g P all same = refl
all_same (line ∷ asked) f g P all same =
    let both = and_parts (P line) (list_all P asked) all in
    ap₂ (λ (a b : Bool). a && b) (same line both.0) (all_same asked f g P both.1 same)

-- A condition of lines reads what its lines say.

or_left : (b c : Bool) → b ≡ true → (b || c) ≡ true
or_left true c is = refl
or_left false c is = cc

or_right : (b c : Bool) → c ≡ true → (b || c) ≡ true
or_right true c is = refl
or_right false c is = is

narrow : (r s : Part → Bool) (t u : Thread) → ((p : Part) → s p ≡ true → r p ≡ true) → AreSameIn r t u → AreSameIn s t u
narrow r s t u less same = record {
  state = λ is. same.state (less _ is);
  code = λ is. same.code (less _ is);
  from = λ is. same.from (less _ is);
  actual = λ is. same.actual (less _ is);
  registers = λ is. same.registers (less _ is);
  send = λ is. same.send (less _ is);
}

line_read : (m : Machine) (w v : World) (line : List ℕ) → AreReadAlike m (line_reads line) w v →
    has_line line (world_text m w) ≡ has_line line (world_text m v)
line_read m w v line alike =
    by_threads m w v line alike.counted λ i d t u at_d at_t at_u.
    let same = alike.each i d t u at_d at_t at_u in (
      thread_same (words_in line) d.id t u
          (narrow (line_reads line d.id) (thread_read (words_in line) d.id) t u
          (λ p is. or_left (thread_read (words_in line) d.id p) (send_read (words_in line) d.id p) is) same),
      send_same (words_in line) d.id t u
          (λ is.
          same.send (or_right (thread_read (words_in line) d.id InSend) (send_read (words_in line) d.id InSend) is)),
    )

pub lines_read : (m : Machine) (asked : List (List ℕ)) (w v : World) → AreReadAlike m (reads_of asked) w v →
    meets m asked w ≡ meets m asked v
lines_read m [] w v alike = refl
lines_read m (line ∷ asked) w v alike =
    ap₂ (λ (a b : Bool). a && b)
    (line_read m w v line (record {
      counted = alike.counted;
      each =
          λ i d t u a b c. narrow (reads_of (line ∷ asked) d.id) (line_reads line d.id) t u
          (λ p is. or_left (line_reads line d.id p) (reads_of asked d.id p) is) (alike.each i d t u a b c);
    }))
    (lines_read m asked w v (record {
      counted = alike.counted;
      each =
          λ i d t u a b c. narrow (reads_of (line ∷ asked) d.id) (reads_of asked d.id) t u
          (λ p is. or_right (line_reads line d.id p) (reads_of asked d.id p) is) (alike.each i d t u a b c);
    }))

-- Worlds as good as each other tell alike what may be asked for.

at_some : (xs : List Thread) (i : ℕ) (x : Thread) → slice_get xs i ≡ Some x → slice_index_or xs i opening_thread ≡ x
at_some [] i x is = cc
at_some (y ∷ xs) zero x is = some_is y x is
at_some (y ∷ xs) (suc i) x is = at_some xs i x is

inside : (ds : List Declaration) (i : ℕ) (d : Declaration) → slice_get ds i ≡ Some d → i < length ds
inside [] i d is = cc
inside (e ∷ ds) zero d is = omega arith
inside (e ∷ ds) (suc i) d is = omega (arith, inside ds i d is)

no_fault : (fault : Option LineFault) → is_none fault ≡ true → fault ≡ None
no_fault None is = refl
no_fault (Some fault) is = cc

module _ (asked : List (List ℕ)) (none : fault_of_words asked ≡ None) where
  abbrev tail_of : Thread → List (List ℕ)
  tail_of t =
      decimal t.context.error ∷ id_word t.context.from ∷ id_word t.context.actual
      ∷ map hexadecimal (shown_registers t.context.words)

  as_deleted : (id : GlobalId) (t : Thread) → t.phase ≡ Deleted →
      fits asked (thread_words (report_of id t)) ≡ fits asked
      (codes "thread" ∷ thread_word id ∷ codes "deleted" ∷ tail_of t)
  as_deleted id t is =
      ap (λ (p : Phase). fits asked (codes "thread" ∷ thread_word id ∷ state_word (state_of p) ∷ tail_of t)) is

  thread_fit : (id : GlobalId) (t u : Thread) → AreToldAlike t u →
      fits asked (thread_words (report_of id t)) ≡ fits asked (thread_words (report_of id u))
  thread_fit id t u alike = by alike.report
    where
      by : ((id : GlobalId) → report_of id t ≡ report_of id u) ⊎ AreDeleted t u →
          fits asked (thread_words (report_of id t)) ≡ fits asked (thread_words (report_of id u))
      by (inl same) = ap (λ (r : Report). fits asked (thread_words r)) (same id)
      by (inr deleted) =
          as_deleted id t deleted.0
          ∙ deleted_fit asked (thread_word id) (tail_of t) (tail_of u) none
          ∙ sym (as_deleted id u deleted.1)

  send_fit : (id : GlobalId) (t u : Thread) → option_map timeless_send t.send ≡ option_map timeless_send u.send →
      send_fits asked (send_in (id, t)) ≡ send_fits asked (send_in (id, u))
  send_fit id t u alike = by t.send u.send alike
    where
      by : (o p : Option Send) → option_map timeless_send o ≡ option_map timeless_send p →
          send_fits asked (send_in (id, record t { send = o })) ≡ send_fits asked (send_in (id, record u { send = p }))
      by None None e = refl
      by None (Some y) e = cc
      by (Some x) None e = cc
      by (Some x) (Some y) e =
          let to : x.to ≡ y.to = ap (λ (s : Send). s.to) (some_is (timeless_send x) (timeless_send y) e) in
          waiting_fit asked (record { thread = id; k = t.context.begun })
          (record { thread = id; k = u.context.begun }) (id_word x.to) none refl
          ∙ ap
          (λ (i : Id).
          fits asked (codes "waiting" ∷ name_word (record { thread = id; k = u.context.begun }) ∷ id_word i ∷ []))
          to

abbrev all_left : List Thread → List Thread
all_left ts = map numberless_thread (map bare_thread (map timeless_thread ts))

left_counted : (ts : List Thread) → length (all_left ts) ≡ length ts
left_counted ts =
    length-map (map bare_thread (map timeless_thread ts)) numberless_thread
    ∙ length-map (map timeless_thread ts) bare_thread
    ∙ length-map ts timeless_thread

pub lines_alike : (m : Machine) (asked : List (List ℕ)) (w v : World) → may_be_judged asked ≡ true → AreAsGood w v →
    meets m asked w ≡ meets m asked v
lines_alike m asked w v may good =
    all_same asked (λ line. has_line line (world_text m w)) (λ line. has_line line (world_text m v))
    (λ line. is_none (line_fault line)) may
    (λ line free. one line (no_fault (line_fault line) free))
  where
    counted : length w.threads ≡ length v.threads
    counted = sym (left_counted w.threads) ∙ ap (λ (x : World). length x.threads) good ∙ left_counted v.threads

    one : (line : List ℕ) → line_fault line ≡ None → has_line line (world_text m w) ≡ has_line line (world_text m v)
    one line none =
        by_threads m w v line counted λ i d t u at_d at_t at_u.
        let told = in_common m w v good i (inside m.threads i d at_d) in
        let alike : AreToldAlike t u =
        subst (λ (x : Thread). AreToldAlike x u) (at_some w.threads i t at_t)
        (subst (λ (x : Thread). AreToldAlike (slice_index_or w.threads i opening_thread) x)
        (at_some v.threads i u at_u) told)
        in
        (thread_fit (words_in line) none d.id t u alike, send_fit (words_in line) none d.id t u alike.send)
