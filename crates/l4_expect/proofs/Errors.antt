-- Which ErrorCodes the threads of a history have, and what its report tells of each of them.
use Rattle.std.proofs.Common.{◌≡◌, ℕ, zero, suc, ◌<◌, ◌^◌, Bool, true, Option, Some, None, List, [], ◌∷◌, map, refl, subst, arith}
use Rattle.std.specs.Prelude.{slice_get, zip}
use Rattle.std.specs.List.{list_all}
use Rattle.std.proofs.lemmas.Bool.{and_parts, and_from, ltb-true, lt-ltb}
use Rattle.l4_model.specs.Words.{Format, W64, W32, is_word_in}
use Rattle.l4_model.specs.Machine.{Declaration, Instr, Run, Ipc, Ask, End, Machine, OrderKind, CancelSend, CancelReceive, CancelBoth, Delete}
use Rattle.l4_model.specs.World.{Context, Owed, Phase, Ready, Sending, Receiving, Ordering, Ended, Deleted, Receive, Send, Thread, World, changed, is_alive, opening, opening_thread}
use Rattle.l4_model.specs.Rules.{ran}
use Rattle.l4_model.specs.Conditions.{instruction}
use Rattle.l4_model.specs.Effects.{asked, begins, decided, delivered, fails, goes_on, obeyed, orders, receives, refused, runs, turns, turns_in, waits}
use Rattle.l4_model.specs.Steps.{Step, Local, Begin, Queue, Deliver, Wait, SendTimeout, ReceiveTimeout, SendNobody, ReceiveNobody, SendCancel, ReceiveCancel, Drop, Order, Obey, Tick, Retarget, next}
use Rattle.l4_model.specs.History.{reached, report_of, run, view}
use Rattle.l4_model.proofs.Chains.{bind_then, cond_keeps, some_is}
use Rattle.l4_model.proofs.InFormat.{stays_in}
use Rattle.l4_model.proofs.Inversions.{local_taken, begin_taken, queue_taken, deliver_taken, wait_taken, send_timeout_taken, send_nobody_taken, send_cancel_taken, drop_taken, receive_timeout_taken, receive_nobody_taken, receive_cancel_taken, order_taken, obey_taken, tick_taken, retarget_taken}
use Rattle.l4_model.proofs.Worlds.{reached_facts}
use Rattle.l4_words.specs.Numbers.{is_word}
use Rattle.l4_script.specs.Second.Canonical.{HasSecondText}
use Rattle.l4_script.proofs.OwnWords.{writes_its_words}
use Rattle.l4_expect.proofs.Reached.{element, reached_keeps}
use Rattle.l4_expect.proofs.Reported.{IsTold, is_error}
use Rattle.l4_expect.proofs.Told.{Every}

abbrev has_error : Thread → Bool
has_error t = is_error t.context.error

abbrev have_errors : World → Type 0
have_errors w = list_all has_error w.threads ≡ true

-- A change of one thread keeps to lawful codes.
abbrev KeepsTo : (Thread → Thread) → Type 0
KeepsTo f = (t : Thread) → has_error t ≡ true → has_error (f t) ≡ true

all_changed : (f : Thread → Thread) → KeepsTo f → (ts : List Thread) (i : ℕ) → list_all has_error ts ≡ true → list_all has_error (changed f ts i) ≡ true
all_changed f keeps [] i h = refl
all_changed f keeps (t ∷ ts) zero h =
    let parts = and_parts (has_error t) (list_all has_error ts) h in
    and_from (has_error (f t)) (list_all has_error ts) (keeps t parts.0) parts.1
all_changed f keeps (t ∷ ts) (suc i) h =
    let parts = and_parts (has_error t) (list_all has_error ts) h in
    and_from (has_error t) (list_all has_error (changed f ts i)) parts.0 (all_changed f keeps ts i parts.1)

ran_error : (i : Instr) (c : Context) → is_error c.error ≡ true → is_error (ran i c).error ≡ true
ran_error (Run own) c h = h
ran_error (Ipc to from send receive) c h = refl
ran_error (Ask target what) c h = refl
ran_error End c h = h

fails_error : (code : ℕ) → is_error code ≡ true → KeepsTo (fails code)
fails_error code is t h = cond_keeps (λ (x : Thread). has_error x ≡ true) (is_alive t.phase) _ t (λ alive. is) (λ gone. h)

goes_on_error : (receive : Option Receive) (now : ℕ) → KeepsTo (goes_on receive now)
goes_on_error None now t h = refl
goes_on_error (Some receive) now t h = h

delivered_error : (send : Send) (now : ℕ) → KeepsTo (delivered send now)
delivered_error send now t h = cond_keeps (λ (x : Thread). has_error x ≡ true) (is_alive t.phase) _ (decided t) (λ alive. goes_on_error send.receive now t h) (λ gone. h)

asked_error : (what : OrderKind) → KeepsTo (asked what)
asked_error CancelSend t h = h
asked_error CancelReceive t h = h
asked_error CancelBoth t h = h
asked_error Delete t h = h

obeyed_error : KeepsTo obeyed
obeyed_error t h = cond_keeps (λ (x : Thread). has_error x ≡ true) (is_alive t.phase) _ _ (λ alive. refl) (λ gone. h)

turns_error : (o : Owed) → KeepsTo (turns o)
turns_error o t h = by t.phase
  where
    by : (p : Phase) → has_error (turns_in p o t) ≡ true
    by Ready = h
    by Sending = h
    by (Receiving receive since) = h
    by Ordering = h
    by Ended = h
    by Deleted = h

step_errors : (m : Machine) (w v : World) (step : Step) → next m w step ≡ Some v → have_errors w → have_errors v
step_errors m w v (Local id) h all =
    let k = local_taken m w v id h in
    subst have_errors k.leads_to (all_changed (runs (instruction k.t)) (λ t e. ran_error (instruction k.t) t.context e) w.threads k.t.at all)
step_errors m w v (Begin s) h all = let k = begin_taken m w v s h in subst have_errors k.leads_to (all_changed (begins k.send) (λ t e. e) w.threads k.t.at all)
step_errors m w v (Queue s) h all = let k = queue_taken m w v s h in subst have_errors k.leads_to all
step_errors m w v (Deliver s receiver shown actual tag words) h all =
    let k = deliver_taken m w v s receiver shown actual tag words h in
    let g : Thread → Thread = receives k.p.send.message tag in
    subst have_errors k.leads_to
    (all_changed (delivered k.p.send k.p.sender.clock) (delivered_error k.p.send k.p.sender.clock) (changed g w.threads k.r.at) k.p.sender.at
    (all_changed g (λ t e. refl) w.threads k.r.at all))
step_errors m w v (Wait id) h all = let k = wait_taken m w v id h in subst have_errors k.leads_to (all_changed (waits k.receive k.t.clock) (λ t e. e) w.threads k.t.at all)
step_errors m w v (SendTimeout s) h all =
    let k = send_timeout_taken m w v s h in subst have_errors k.leads_to (all_changed (refused 2) (λ t e. fails_error 2 refl (decided t) e) w.threads k.p.sender.at all)
step_errors m w v (SendNobody s) h all =
    let k = send_nobody_taken m w v s h in subst have_errors k.leads_to (all_changed (refused 4) (λ t e. fails_error 4 refl (decided t) e) w.threads k.p.sender.at all)
step_errors m w v (SendCancel s) h all =
    let k = send_cancel_taken m w v s h in subst have_errors k.leads_to (all_changed (refused 6) (λ t e. fails_error 6 refl (decided t) e) w.threads k.p.sender.at all)
step_errors m w v (Drop s) h all = let k = drop_taken m w v s h in subst have_errors k.leads_to (all_changed decided (λ t e. e) w.threads k.p.sender.at all)
step_errors m w v (ReceiveTimeout id) h all = let k = receive_timeout_taken m w v id h in subst have_errors k.leads_to (all_changed (fails 3) (fails_error 3 refl) w.threads k.t.at all)
step_errors m w v (ReceiveNobody id) h all = let k = receive_nobody_taken m w v id h in subst have_errors k.leads_to (all_changed (fails 5) (fails_error 5 refl) w.threads k.t.at all)
step_errors m w v (ReceiveCancel id) h all = let k = receive_cancel_taken m w v id h in subst have_errors k.leads_to (all_changed (fails 7) (fails_error 7 refl) w.threads k.t.at all)
step_errors m w v (Order caller target what) h all =
    let k = order_taken m w v caller target what h in subst have_errors k.leads_to (all_changed (orders k.order) (λ t e. e) w.threads k.t.at all)
step_errors m w v (Obey caller) h all =
    let k = obey_taken m w v caller h in
    let g : Thread → Thread = asked k.order.what in
    subst have_errors k.leads_to (all_changed obeyed obeyed_error (changed g w.threads k.target) k.t.at (all_changed g (asked_error k.order.what) w.threads k.target all))
step_errors m w v (Tick cpu clock) h all = let k = tick_taken m w v cpu clock h in subst have_errors k.leads_to all
step_errors m w v (Retarget s) h all = let k = retarget_taken m w v s h in subst have_errors k.leads_to (all_changed (turns k.o) (turns_error k.o) w.threads k.t.at all)

run_errors : (m : Machine) (h : List Step) (w v : World) → run m w h ≡ Some v → have_errors w → have_errors v
run_errors m [] w v r all = subst have_errors (some_is w v r) all
run_errors m (step ∷ h) w v r all = bind_then (next m w step) (λ u. run m u h) v r λ u is rest. run_errors m h u v rest (step_errors m w u step is all)

opening_errors : (ds : List Declaration) → list_all has_error (map (λ d. opening_thread) ds) ≡ true
opening_errors [] = refl
opening_errors (d ∷ ds) = opening_errors ds

-- Words

all_small : (f : Format) (words : List ℕ) → list_all (is_word_in f) words ≡ true → list_all is_word words ≡ true
all_small W64 words h = h
all_small W32 [] h = refl
all_small W32 (word ∷ words) h =
    let parts = and_parts (is_word_in W32 word) (list_all (is_word_in W32) words) h in
    let small : word < 2 ^ 32 = ltb-true word (2 ^ 32) parts.0 in
    and_from _ _ (lt-ltb word (2 ^ 64) (omega (arith, small))) (all_small W32 words parts.1)

-- Reports

told_at : (f : Format) (m : Machine) (h : List Step) (w : World) → HasSecondText f m → reached m h ≡ Some w → (i : ℕ) (d : Declaration) (t : Thread) →
    slice_get m.threads i ≡ Some d → slice_get w.threads i ≡ Some t → IsTold (report_of d.id t)
told_at f m h w has r i d t declared now =
    let keeps = reached_keeps f m h w has r i d t declared now in
    let facts = (reached_facts m h w r).each_thread i d t declared now in
    let words = (stays_in f m h w (writes_its_words f m has) r).registers i d t declared now in
    record {
      id = keeps.id;
      error = element has_error w.threads i t (run_errors m h (opening m) w r (opening_errors m.threads)) now;
      from = keeps.context.from;
      actual = keeps.context.actual;
      tag = keeps.context.tag;
      size = facts.registers;
      words = all_small f t.context.words words;
    }

every_view : (ds : List Declaration) (ts : List Thread) → ((i : ℕ) (d : Declaration) (t : Thread) → slice_get ds i ≡ Some d → slice_get ts i ≡ Some t → IsTold (report_of d.id t)) →
    Every IsTold (map (λ p. report_of p.0 p.1) (zip (map (λ d. d.id) ds) ts))
every_view [] ts told = tt
every_view (d ∷ ds) [] told = tt
every_view (d ∷ ds) (t ∷ ts) told = (told 0 d t refl refl, every_view ds ts (λ i x y declared now. told (suc i) x y declared now))

pub all_told : (f : Format) (m : Machine) (h : List Step) (w : World) → HasSecondText f m → reached m h ≡ Some w → Every IsTold (view m w)
all_told f m h w has r = every_view m.threads w.threads (told_at f m h w has r)
