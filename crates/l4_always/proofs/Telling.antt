-- The lines of a world, thread by thread.
use Rattle.std.proofs.Common.{◌≡◌, ℕ, zero, suc, ◌+◌, ◌≤◌, Option, Some, None, List, [], ◌∷◌, ◌++◌, length, drop, map, refl, ap, sym, ◌∙◌, arith, append_assoc, append-nil}
use Rattle.std.specs.Prelude.{filter_map, flat_map, slice_get, zip}
use Rattle.std.specs.List.{cons_option}
use Rattle.std.specs.Option.{option_to_list}
use Rattle.l4_model.specs.Words.{GlobalId, Id}
use Rattle.l4_model.specs.Machine.{Machine, Declaration}
use Rattle.l4_model.specs.World.{Name, Thread, World}
use Rattle.l4_model.specs.Conditions.{Found, found_at}
use Rattle.l4_model.specs.History.{report_of, view}
use Rattle.l4_model.proofs.Chains.{bind_then, some_is}
use Rattle.l4_reports.specs.ReportLines.{thread_line, waiting_line}
use Rattle.l4_condition_lines.specs.Conditions.{send_in, sends_in}
use Rattle.l4_always.specs.Inner.Told.{send_text}

-- The threads of a world with their ids, in order of declaration, and what each of them tells.

abbrev pub members : Machine → World → List (GlobalId × Thread)
members m w = zip (map (λ (d : Declaration). d.id) m.threads) w.threads

abbrev pub thread_told : GlobalId × Thread → List ℕ
thread_told p = thread_line (report_of p.0 p.1)

abbrev pub send_told : GlobalId × Thread → List ℕ
send_told p = send_text p.0 p.1

lines_of : (ps : List (GlobalId × Thread)) → flat_map thread_line (map (λ p. report_of p.0 p.1) ps) ≡ flat_map thread_told ps
lines_of [] = refl
lines_of (p ∷ ps) = ap (λ rest. thread_told p ++ rest) (lines_of ps)

pub threads_are : (m : Machine) (w : World) → flat_map thread_line (view m w) ≡ flat_map thread_told (members m w)
threads_are m w = lines_of (members m w)

one_or_none : (o : Option (Name × Id)) (rest : List (Name × Id)) → flat_map waiting_line (cons_option o rest) ≡ flat_map waiting_line (option_to_list o) ++ flat_map waiting_line rest
one_or_none None rest = refl
one_or_none (Some s) rest = ap (λ line. line ++ flat_map waiting_line rest) (sym (append-nil (waiting_line s)))

sends_of : (ps : List (GlobalId × Thread)) → flat_map waiting_line (filter_map send_in ps) ≡ flat_map send_told ps
sends_of [] = refl
sends_of (p ∷ ps) = one_or_none (send_in p) (filter_map send_in ps) ∙ ap (λ rest. send_told p ++ rest) (sends_of ps)

pub sends_are : (m : Machine) (w : World) → flat_map waiting_line (sends_in m w) ≡ flat_map send_told (members m w)
sends_are m w = sends_of (members m w)

-- Going over them

get_left : {A : Type 0} (xs : List A) (i : ℕ) (x : A) → slice_get xs i ≡ Some x → drop i xs ≡ x ∷ drop (suc i) xs
get_left [] i x at = cc
get_left (y ∷ xs) zero x at = ap (λ z. z ∷ xs) (some_is y x at)
get_left (y ∷ xs) (suc i) x at = get_left xs i x at

get_both : (ds : List Declaration) (ts : List Thread) (i : ℕ) (d : Declaration) (t : Thread) → slice_get ds i ≡ Some d → slice_get ts i ≡ Some t →
    slice_get (zip (map (λ (e : Declaration). e.id) ds) ts) i ≡ Some (d.id, t)
get_both [] ts i d t at there = cc
get_both (e ∷ ds) [] i d t at there = cc
get_both (e ∷ ds) (u ∷ ts) zero d t at there = ap (λ (x : Declaration). Some (x.id, u)) (some_is e d at) ∙ ap (λ x. Some (d.id, x)) (some_is u t there)
get_both (e ∷ ds) (u ∷ ts) (suc i) d t at there = get_both ds ts i d t at there

member_at : (m : Machine) (w : World) (i : ℕ) (t : Found) → found_at m w i ≡ Some t → slice_get (members m w) i ≡ Some (t.declared.id, t.now)
member_at m w i t is =
    bind_then (slice_get m.threads i) _ t is λ d at rest.
    bind_then (slice_get w.threads i) _ t rest λ now there rest.
    get_both m.threads w.threads i d now at there
    ∙ ap (λ (x : Found). Some (x.declared.id, x.now)) (some_is _ t rest)

pub one_left : (g : GlobalId × Thread → List ℕ) (m : Machine) (w : World) (i : ℕ) (t : Found) (before all : List ℕ) → found_at m w i ≡ Some t →
    before ++ flat_map g (drop i (members m w)) ≡ all → (before ++ g (t.declared.id, t.now)) ++ flat_map g (drop (i + 1) (members m w)) ≡ all
one_left g m w i t before all is told =
    let up : suc i ≡ i + 1 = omega arith in
    append_assoc before (g (t.declared.id, t.now)) (flat_map g (drop (i + 1) (members m w)))
    ∙ ap (λ rest. before ++ rest) (sym (ap (flat_map g) (get_left (members m w) i (t.declared.id, t.now) (member_at m w i t is) ∙ ap (λ k. (t.declared.id, t.now) ∷ drop k (members m w)) up)))
    ∙ told

none_left : (ids : List GlobalId) (ts : List Thread) (i : ℕ) → length ids ≤ i → drop i (zip ids ts) ≡ []
none_left [] ts zero over = refl
none_left [] ts (suc i) over = refl
none_left (x ∷ ids) ts zero over = absurd (omega (arith, over))
none_left (x ∷ ids) [] (suc i) over = refl
none_left (x ∷ ids) (t ∷ ts) (suc i) over = none_left ids ts i (omega (arith, over))

length-ids : (ds : List Declaration) → length (map (λ (d : Declaration). d.id) ds) ≡ length ds
length-ids [] = refl
length-ids (d ∷ ds) = ap suc (length-ids ds)

pub all_told : (g : GlobalId × Thread → List ℕ) (m : Machine) (w : World) (i : ℕ) (before all : List ℕ) → length m.threads ≤ i →
    before ++ flat_map g (drop i (members m w)) ≡ all → before ≡ all
all_told g m w i before all over told =
    sym (append-nil before)
    ∙ sym (ap (λ rest. before ++ flat_map g rest) (none_left (map (λ (d : Declaration). d.id) m.threads) w.threads i (omega (arith, over, length-ids m.threads))))
    ∙ told
