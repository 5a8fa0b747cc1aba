-- Core runs that come to rest in similar states are stuck alike.
use Rattle.std.proofs.Common.{◌≡◌, ℕ, zero, suc, ◌<◌, Bool, true, Option, Some, None, List, [], ◌∷◌, filter, length, map, refl, ap, ap₂, sym, subst, ◌∙◌, arith}
use Rattle.std.specs.Prelude.{◌||◌, is_some, slice_index_or}
use Rattle.std.specs.Option.{option_map}
use Rattle.std.proofs.lemmas.Bool.{and_parts}
use Rattle.std.proofs.Math.ListN.{get_or-map}
use Rattle.l4_model.specs.Machine.{Machine}
use Rattle.l4_model.specs.World.{Phase, Ready, Sending, Receiving, Ordering, Ended, Deleted, Send, Thread, World, opening_thread, receive_now}
use Rattle.l4_model.specs.History.{reached}
use Rattle.l4_model.proofs.Chains.{some_is}
use Rattle.l4_model.proofs.Worlds.{reached_facts}
use Rattle.l4_core_model.specs.Laws.{IsCoreRun}
use Rattle.l4_core_model.specs.Local.{Local}
use Rattle.l4_core_model.specs.Runs.{IsMachine, Posted, Run, System, at_rest, is_empty, told}
use Rattle.l4_bisimilar.specs.Shifted.{IsShifted, relative_thread, timeless_phase, timeless_send}
use Rattle.l4_bisimilar.proofs.Times.{are_bare, bare_local}
use Rattle.l4_refines.proofs.Law.{RunFacts, run_facts}
use Rattle.l4_refines.proofs.Relation.Rows.{Agrees, AgreesIn, learned}
use Rattle.l4_refines.proofs.Relation.Views.{home, is_about, kept, locators, nowhere}
use Rattle.l4_bisimilar.specs.InCommon.{thread_at}
use Rattle.l4_futures.specs.Stuck.{is_closed, is_stuck_thread}
use Rattle.l4_questions.specs.Resting.{stuck_in}
use Rattle.l4_questions.proofs.SameStuck.{stuck_by_marks}

-- A thread of the world is stuck as the one at home with which it agrees.
agrees : (a t : Thread) (p : Phase) → t.phase ≡ p → AgreesIn p a t →
    is_stuck_thread a ≡ is_stuck_thread t
agrees a t Ready is one = ap is_stuck_thread one
agrees a t Sending is one = ap is_stuck_thread one
agrees a t (Receiving receive since) is one =
    ap is_stuck_thread one.same
    ∙ ap (λ (p : Phase). is_some t.send || is_closed (receive_now p)) (sym is)
agrees a t Ordering is one = ap is_stuck_thread one
agrees a t Ended is one = ap is_stuck_thread one
agrees a t Deleted is one =
    ap₂ (λ (o : Option Send) (p : Phase). is_some o || is_closed (receive_now p)) one.send
    (one.deleted ∙ sym is)

-- When it began to wait does not count.

closed_timeless : (p : Phase) → is_closed (receive_now (timeless_phase p)) ≡ is_closed (receive_now p)
closed_timeless Ready = refl
closed_timeless Sending = refl
closed_timeless (Receiving receive since) = refl
closed_timeless Ordering = refl
closed_timeless Ended = refl
closed_timeless Deleted = refl

sends_timeless : (o : Option Send) → is_some (option_map timeless_send o) ≡ is_some o
sends_timeless None = refl
sends_timeless (Some send) = refl

stuck_timeless : (t : Thread) → is_stuck_thread (relative_thread t) ≡ is_stuck_thread t
stuck_timeless t = ap₂ (λ (b c : Bool). b || c) (sends_timeless t.send) (closed_timeless t.phase)

-- At rest each thread of the world agrees with the one at home.

abbrev at_home : Machine → System → (place : ℕ) → Thread
at_home m g place = (kept (slice_index_or g.locals (home m place) nowhere) place).thread

no_mail : (mail : List Posted) → is_empty mail ≡ true → mail ≡ []
no_mail [] is = refl
no_mail (p ∷ ps) is = cc

stuck_at_home : (m : Machine) (r : Run) (f : RunFacts m r) → at_rest m r.system ≡ true →
    (place : ℕ) → place < length m.threads →
    is_stuck_thread (thread_at f.world place) ≡ is_stuck_thread (at_home m r.system place)
stuck_at_home m r f rest place inside =
    let t = at_home m r.system place in
    let plain : Agrees m (thread_at f.world place) t
    = subst (λ mail. Agrees m (thread_at f.world place)
    (learned (locators (filter (is_about m place) mail))
    (kept (slice_index_or r.system.locals (home m place) nowhere) place).clock t))
    (no_mail r.system.mail (and_parts _ _ rest).1) (f.relates.places place inside tt).known.agrees in
    agrees (thread_at f.world place) t t.phase refl plain.by_phase

-- Similar states have one thread at home, but for how many sends it began, and when.

home_like : (ls ks : List Local) (cpu : ℕ) → map bare_local ls ≡ map bare_local ks →
    map relative_thread (slice_index_or ls cpu nowhere).threads
    ≡ map relative_thread (slice_index_or ks cpu nowhere).threads
home_like [] [] cpu e = refl
home_like [] (k ∷ ks) cpu e = cc
home_like (l ∷ ls) [] cpu e = cc
home_like (l ∷ ls) (k ∷ ks) zero e =
    let one : bare_local l ≡ bare_local k = cc in ap (λ (x : Local). x.threads) one
home_like (l ∷ ls) (k ∷ ks) (suc cpu) e =
    let others : map bare_local ls ≡ map bare_local ks = cc in home_like ls ks cpu others

same_at_home : (m : Machine) (g h : System) (place : ℕ) → IsShifted g h →
    is_stuck_thread (at_home m g place) ≡ is_stuck_thread (at_home m h place)
same_at_home m g h place similar =
    let at : System → List Thread
    = λ k. (slice_index_or k.locals (home m place) nowhere).threads in
    sym (stuck_timeless (at_home m g place))
    ∙ ap is_stuck_thread
    (sym (get_or-map relative_thread (at g) place opening_thread)
    ∙ ap (λ (ts : List Thread). slice_index_or ts place opening_thread)
    (home_like g.locals h.locals (home m place) (are_bare g h similar).locals)
    ∙ get_or-map relative_thread (at h) place opening_thread)
    ∙ stuck_timeless (at_home m h place)

marks_alike : (ts us : List Thread) → length ts ≡ length us → ((i : ℕ) → i < length ts →
    is_stuck_thread (slice_index_or ts i opening_thread)
    ≡ is_stuck_thread (slice_index_or us i opening_thread)) →
    map is_stuck_thread ts ≡ map is_stuck_thread us
marks_alike [] [] same each = refl
marks_alike [] (u ∷ us) same each = cc
marks_alike (t ∷ ts) [] same each = cc
marks_alike (t ∷ ts) (u ∷ us) same each =
    ap₂ (λ (b : Bool) (rest : List Bool). b ∷ rest) (each 0 (omega arith))
    (marks_alike ts us (omega (arith, same)) (λ i inside. each (suc i) (omega (arith, inside))))

pub stuck_alike : (m : Machine) → IsMachine m → (r s : Run) → IsCoreRun m r → IsCoreRun m s →
    at_rest m r.system ≡ true → at_rest m s.system ≡ true → IsShifted r.system s.system →
    (w v : World) → reached m (told r.events) ≡ Some w → reached m (told s.events) ≡ Some v →
    stuck_in m w ≡ stuck_in m v
stuck_alike m machine r s run other rests stays similar w v here there =
    let f = run_facts m r machine run in
    let g = run_facts m s machine other in
    let one = (reached_facts m (told r.events) f.world f.reaches).threads_counted in
    let two = (reached_facts m (told s.events) g.world g.reaches).threads_counted in
    ap (stuck_in m) (some_is w f.world (sym here ∙ f.reaches))
    ∙ stuck_by_marks m f.world g.world
    (marks_alike f.world.threads g.world.threads (one ∙ sym two) (λ i inside.
    let among : i < length m.threads = omega (arith, inside, one) in
    stuck_at_home m r f rests i among ∙ same_at_home m r.system s.system i similar
    ∙ sym (stuck_at_home m s g stays i among)))
    ∙ ap (stuck_in m) (some_is g.world v (sym g.reaches ∙ there))
