-- What an audit tells of the world that a trace comes to.
use Rattle.std.proofs.Common.{◌≡◌, ℕ, ◌≤◌, Bool, true, false, cond, Option, Some, None, List, [], ◌∷◌, ◌++◌, length, refl, ap, ap₂, sym, ◌∙◌, arith, subst}
use Rattle.std.specs.Prelude.{◌||◌, is_some, filter_map, option_map, zip}
use Rattle.std.specs.List.{cons_option}
use Rattle.std.proofs.lemmas.List.{take_all}
use Rattle.l4_model.specs.Words.{GlobalId, Id}
use Rattle.l4_model.specs.Conditions.{found_by}
use Rattle.l4_model.specs.Machine.{Machine}
use Rattle.l4_model.specs.World.{Receive, Send, Thread, World, receive_now}
use Rattle.l4_model.specs.Steps.{Step}
use Rattle.l4_model.specs.History.{IsFirstFault, IsHistory, view}
use Rattle.l4_audit.specs.Inner.Auditing.{Auditing, waiting_send}
use Rattle.l4_audit.specs.Audits.{IsReached}
use Rattle.l4_audit.specs.Waits.{is_expected, send_wait, wait_in, waiting_thread, waits_in}
use Rattle.l4_audit.specs.declared.waits.Wait.{Wait}
use Rattle.l4_audit.proofs.Auditing.{waiting_begun}
use Rattle.l4_futures.specs.Stuck.{is_closed}
use Rattle.l4_reports.specs.ReportLines.{report_text}
use Rattle.l4_types.specs.declared.reports.Ending.TheVariants.{Quiet}
use Rattle.l4_waits.specs.Lines.{waits_text}
use Rattle.l4_questions.specs.Answers.{ending_after, report_in}
use Rattle.l4_questions.specs.Inner.Found.{is_stuck_wait, report_by, stuck_among}
use Rattle.l4_questions.specs.Resting.{ids_in, stuck_in}
use Rattle.l4_questions.proofs.SameStuck.{stuck_of_all}

-- A thread that waits for ever is one of those that wait.

abbrev stuck_if : Option Wait → Bool
stuck_if None = false
stuck_if (Some wait) = is_stuck_wait wait

one_wait : (id : GlobalId) (o : Option Wait) (rest : List (GlobalId × Wait)) →
    stuck_among (cons_option (option_map (λ wait. (id, wait)) o) rest)
    ≡ cond (stuck_if o) (id ∷ []) [] ++ stuck_among rest
one_wait id None rest = refl
one_wait id (Some wait) rest = refl

sends : (expected : Bool) (to : Id) → is_stuck_wait (send_wait expected to) ≡ true
sends true to = refl
sends false to = refl

waits_alike : (m : Machine) (w : World) (o : Option Send) (r : Option Receive) →
    stuck_if (wait_in m w o r) ≡ (is_some o || is_closed r)
waits_alike m w (Some send) r = sends (is_expected m send.message.shown (found_by m w send.to)) send.to
waits_alike m w None (Some receive) = refl
waits_alike m w None None = refl

each_thread : (m : Machine) (w : World) (ids : List GlobalId) (ts : List Thread) →
    stuck_among (filter_map (λ p. waiting_thread m w p.0 p.1) (zip ids ts)) ≡ stuck_of_all ids ts
each_thread m w [] ts = refl
each_thread m w (id ∷ ids) [] = refl
each_thread m w (id ∷ ids) (t ∷ ts) =
    one_wait id (wait_in m w t.send (receive_now t.phase))
    (filter_map (λ p. waiting_thread m w p.0 p.1) (zip ids ts))
    ∙ ap₂ (λ (one : Bool) (more : List GlobalId). cond one (id ∷ []) [] ++ more)
    (waits_alike m w t.send (receive_now t.phase)) (each_thread m w ids ts)

all_stuck : (m : Machine) (w : World) → stuck_among (waits_in m w) ≡ stuck_in m w
all_stuck m w = each_thread m w (ids_in m) w.threads

-- No step of a history is refused.
pub never_refused : (m : Machine) (h : List Step) (place : ℕ) → IsHistory m h →
    IsFirstFault m h place → ⊥
never_refused m h place is first =
    let whole : length h ≤ length h = omega arith in
    let all = subst (IsHistory m) (sym (take_all (length h) h whole)) is in
    omega (arith, first.within, first.is_longest (length h) whole all)

-- What is told of the world that an audit has come to is what is told of its trace.
pub found_is : (m : Machine) (h : List Step) (a : Auditing) (head report : List ℕ) (stuck : List GlobalId)
    (waits : List (GlobalId × Wait)) → IsReached m h a → report ≡ report_by a →
    waits ≡ waits_in a.at.machine a.at.world → stuck ≡ stuck_among waits →
    record {
      head = head;
      report = report;
      waits = waits_text a.at.machine a.at.world;
      machine = m;
      trace = h;
      stuck = stuck;
    } ≡ record (ending_after m h) { head = head }
found_is m h a head report stuck waits is told found any =
    let w = a.at.world in
    let reports : report ≡ report_in m h w
    = told
    ∙ ap (λ x. report_text (view x w) (filter_map (waiting_send x w) a.begun) Quiet) is.machine
    ∙ ap (λ s. report_text (view m w) s Quiet)
    (ap (filter_map (waiting_send m w)) is.begun ∙ waiting_begun m w h) in
    let stucks : stuck ≡ stuck_in m w
    = any ∙ ap stuck_among (found ∙ ap (λ x. waits_in x w) is.machine) ∙ all_stuck m w in
    let texts : waits_text a.at.machine w ≡ waits_text m w = ap (λ x. waits_text x w) is.machine in
    rw (reports, stucks, texts, is.reached_by) refl
