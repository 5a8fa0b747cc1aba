-- Similar states at rest are those of worlds that have their threads in common.
use Rattle.std.proofs.Common.{◌≡◌, ℕ, zero, suc, ◌<◌, true, List, [], ◌∷◌, length, map, filter, refl, ap, sym, subst, ◌∙◌, inl, inr}
use Rattle.std.specs.Prelude.{slice_index_or}
use Rattle.std.proofs.lemmas.Bool.{and_parts}
use Rattle.std.specs.Option.{option_map}
use Rattle.std.proofs.Math.ListN.{get_or-map}
use Rattle.l4_model.specs.Words.{GlobalId}
use Rattle.l4_model.specs.Machine.{Machine}
use Rattle.l4_model.specs.World.{World, Thread, Phase, Ready, Sending, Receiving, Ordering, Ended, Deleted, opening_thread}
use Rattle.l4_model.specs.History.{report_of, state_of}
use Rattle.l4_model.proofs.Chains.{some_is}
use Rattle.l4_core_model.specs.Local.{Local}
use Rattle.l4_core_model.specs.Runs.{IsMachine, Posted, System, is_empty, letters}
use Rattle.l4_core_model.proofs.Changed.{same_nat}
use Rattle.l4_bisimilar.specs.Similar.{numberless_content}
use Rattle.l4_bisimilar.proofs.Numbers.{pared_contents}
use Rattle.l4_bisimilar.specs.Shifted.{IsShifted, relative_thread, timeless_phase, timeless_send}
use Rattle.l4_bisimilar.proofs.Times.{are_bare, bare_local}
use Rattle.l4_refines.proofs.Law.{RunFacts, run_facts}
use Rattle.l4_refines.proofs.Relation.Rows.{Agrees, AgreesIn, AgreesByPhase, learned}
use Rattle.l4_refines.proofs.Relation.Relates.{Relates}
use Rattle.l4_refines.proofs.Relation.Views.{home, is_about, kept, locators, nowhere, scene}
use Rattle.l4_bisimilar.specs.InCommon.{AreToldAlike, EndingsHaveInCommon, thread_at}

-- A report does not tell when something began.

state_timeless : (p : Phase) → state_of (timeless_phase p) ≡ state_of p
state_timeless Ready = refl
state_timeless Sending = refl
state_timeless (Receiving receive since) = refl
state_timeless Ordering = refl
state_timeless Ended = refl
state_timeless Deleted = refl

report_timeless : (id : GlobalId) (t : Thread) →
    report_of id (relative_thread t) ≡ report_of id t
report_timeless id t = λ i. record {
  id = id;
  state = state_timeless t.phase i;
  error = t.context.error;
  from = t.context.from;
  actual = t.context.actual;
  words = t.context.words;
}

-- Two threads that agree with threads at home that differ in numbers of sends, and in when something
-- began

module _ (a b t u : Thread) (at_homes : relative_thread t ≡ relative_thread u) where
  told : (id : GlobalId) → report_of id t ≡ report_of id u
  told id =
      sym (report_timeless id t) ∙ ap (report_of id) at_homes ∙ report_timeless id u

  sends : option_map timeless_send t.send ≡ option_map timeless_send u.send
  sends = ap (λ (v : Thread). v.send) at_homes

  same : a ≡ t → b ≡ u → AreToldAlike a b
  same one other = record {
    report = inl (λ id. ap (report_of id) one ∙ told id ∙ sym (ap (report_of id) other));
    send =
        ap (λ (v : Thread). option_map timeless_send v.send) one ∙ sends
        ∙ sym (ap (λ (v : Thread). option_map timeless_send v.send) other);
  }

  by_phase : (p q : Phase) → timeless_phase p ≡ timeless_phase q → AgreesIn p a t →
      AgreesIn q b u → AreToldAlike a b
  by_phase Ready Ready e one other = same one other
  by_phase Sending Sending e one other = same one other
  by_phase (Receiving receive since) (Receiving specifier then) e one other =
      let phases : receive ≡ specifier = cc in
      record {
        report = inl (λ id.
            ap (report_of id) one.same
            ∙ (λ i. report_of id (record (at_homes i) { phase = Receiving (phases i) 0 }))
            ∙ sym (ap (report_of id) other.same));
        send =
            ap (λ (v : Thread). option_map timeless_send v.send) one.same ∙ sends
            ∙ sym (ap (λ (v : Thread). option_map timeless_send v.send) other.same);
      }
  by_phase Ordering Ordering e one other = same one other
  by_phase Ended Ended e one other = same one other
  by_phase Deleted Deleted e one other = record {
    report = inr (one.deleted, other.deleted);
    send =
        ap (option_map timeless_send) one.send ∙ sends
        ∙ sym (ap (option_map timeless_send) other.send);
  }
  by_phase p q e one other = absurd cc

  told_alike : AgreesByPhase a t → AgreesByPhase b u → AreToldAlike a b
  told_alike one other =
      by_phase t.phase u.phase (ap (λ (v : Thread). v.phase) at_homes) one other

-- Where no letter is under way each thread of the world agrees with the one at home.

abbrev at_home : Machine → System → (place : ℕ) → Thread
at_home m g place = (kept ((scene g).locals (home m place)) place).thread

agrees_at_home : (m : Machine) (g : System) (w : World) (place : ℕ) → place < length m.threads →
    g.mail ≡ [] → Relates m g w → AgreesByPhase (thread_at w place) (at_home m g place)
agrees_at_home m g w place inside none relates =
    let agrees = (relates.places place inside tt).known.agrees in
    let plain : Agrees m (thread_at w place) (at_home m g place)
    = subst (λ mail. Agrees m (thread_at w place)
    (learned (locators (filter (is_about m place) mail))
    (kept ((scene g).locals (home m place)) place).clock (at_home m g place)))
    none agrees in
    plain.by_phase

-- At rest there is none, and in a similar state neither.

no_mail : (mail : List Posted) → is_empty mail ≡ true → mail ≡ []
no_mail [] is = refl
no_mail (p ∷ ps) is = cc

none_similar : (g h : System) → g.mail ≡ [] → IsShifted g h → h.mail ≡ []
none_similar g h none similar = by h.mail refl
  where
    by : (mail : List Posted) → h.mail ≡ mail → h.mail ≡ []
    by [] is = is
    by (p ∷ ps) is =
        let here : pared_contents (letters g.mail p.from p.to) ≡ []
        = ap (λ mail. pared_contents (letters mail p.from p.to)) none in
        let there : pared_contents (letters (p ∷ ps) p.from p.to)
        ≡ numberless_content p.letter.content ∷ pared_contents (letters ps p.from p.to)
        = rw (same_nat p.from, same_nat p.to) refl in
        let both = sym here ∙ (are_bare g h similar).mail p.from p.to
        ∙ ap (λ mail. pared_contents (letters mail p.from p.to)) is ∙ there in
        cc

-- Similar states have one thread at home, but for how many sends it began, and when.

pared_at : (ls ks : List Local) (cpu : ℕ) → map bare_local ls ≡ map bare_local ks →
    map relative_thread (slice_index_or ls cpu nowhere).threads
    ≡ map relative_thread (slice_index_or ks cpu nowhere).threads
pared_at [] [] cpu is = refl
pared_at [] (k ∷ ks) cpu is = cc
pared_at (l ∷ ls) [] cpu is = cc
pared_at (l ∷ ls) (k ∷ ks) zero is =
    let one : bare_local l ≡ bare_local k = cc in ap (λ (x : Local). x.threads) one
pared_at (l ∷ ls) (k ∷ ks) (suc cpu) is =
    let others : map bare_local ls ≡ map bare_local ks = cc in pared_at ls ks cpu others

same_at_home : (m : Machine) (g h : System) (place : ℕ) → IsShifted g h →
    relative_thread (at_home m g place) ≡ relative_thread (at_home m h place)
same_at_home m g h place similar =
    sym (get_or-map relative_thread (threads_of g) place opening_thread)
    ∙ ap (λ (ts : List Thread). slice_index_or ts place opening_thread)
    (pared_at g.locals h.locals (home m place) (are_bare g h similar).locals)
    ∙ get_or-map relative_thread (threads_of h) place opening_thread
  where
    threads_of : System → List Thread
    threads_of k = (slice_index_or k.locals (home m place) nowhere).threads

pub in_common : (m : Machine) → IsMachine m → EndingsHaveInCommon m
in_common m machine r s w v run other rest similar at there = λ place inside.
    let f : RunFacts m r = run_facts m r machine run in
    let k : RunFacts m s = run_facts m s machine other in
    let none : r.system.mail ≡ [] = no_mail r.system.mail (and_parts _ _ rest).1 in
    let one = agrees_at_home m r.system f.world place inside none f.relates in
    let two = agrees_at_home m s.system k.world place inside
    (none_similar r.system s.system none similar) k.relates in
    let first : f.world ≡ w = some_is f.world w (sym f.reaches ∙ at) in
    let second : k.world ≡ v = some_is k.world v (sym k.reaches ∙ there) in
    subst (λ x. AreToldAlike (thread_at x place) (thread_at v place)) first
    (subst (λ y. AreToldAlike (thread_at f.world place) (thread_at y place)) second
    (told_alike (thread_at f.world place) (thread_at k.world place) (at_home m r.system place)
    (at_home m s.system place) (same_at_home m r.system s.system place similar) one two))
