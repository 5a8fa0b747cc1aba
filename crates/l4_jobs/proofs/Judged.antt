-- From what an audit tells of steps to what it shows of a trace.
use Rattle.std.proofs.Common.{◌≡◌, ℕ, Bool, true, Option, Some, None, List, [], ◌++◌, length, sym, ap, subst, ◌∙◌}
use Rattle.std.specs.Prelude.{◌↔◌, filter_map, if◌then◌else◌}
use Rattle.l4_model.specs.History.{reached, refused_place, view, waiting}
use Rattle.l4_model.specs.Machine.{Machine}
use Rattle.l4_model.specs.Steps.{Step}
use Rattle.l4_model.specs.Still.{IsStill}
use Rattle.l4_model.specs.World.{World}
use Rattle.l4_model.proofs.Faults.{tells_first_fault}
use Rattle.l4_audit.specs.Inner.Auditing.{Auditing, waiting_send}
use Rattle.l4_audit.specs.Audits.{IsReached, is_quiet}
use Rattle.l4_audit.proofs.Auditing.{waiting_begun}
use Rattle.l4_explain.specs.Inner.Accounts.{IsAccount, IsStopped, IsToldBy, reported}
use Rattle.l4_explain.specs.Reasons.{cause}
use Rattle.l4_explain.specs.Worlds.{Ends, explanation, world_report}
use Rattle.l4_explain.specs.declared.accounts.Account.{Account}
use Rattle.l4_explain.specs.declared.accounts.Refusal.{Refusal}
use Rattle.l4_explain.specs.declared.accounts.Shown.{Shown}
use Rattle.l4_explain.specs.declared.reasons.Cause.{Cause}
use Rattle.l4_reports.specs.ReportLines.{report_text}
use Rattle.l4_trace.specs.Lines.{IsTraceOf}
use Rattle.l4_types.specs.declared.reports.Ending.{Ending}
use Rattle.l4_commands.specs.declared.job.Judged.{Judged}
use Rattle.l4_jobs.specs.Audits.{IsPassed, IsRefused, passed_line, report_where, tells_refusals}
use Rattle.l4_jobs.specs.Extras.{behind}

abbrev shown_of : Judged → Shown
shown_of judged = record { explain = judged.explain; report = judged.report }

-- The report of the audit is that of the world that the steps lead to.
report_is : (m : Machine) (h : List Step) (a : Auditing) (ending : Ending) → IsReached m h a →
    world_report a ending ≡ report_text (view m a.at.world) (waiting m a.at.world h) ending
report_is m h a ending r =
    ap (λ x. report_text (view x a.at.world) (filter_map (waiting_send x a.at.world) a.begun) ending) r.machine
    ∙ ap (λ names. report_text (view m a.at.world) (filter_map (waiting_send m a.at.world) names) ending) r.begun
    ∙ ap (λ sends. report_text (view m a.at.world) sends ending) (waiting_begun m a.at.world h)

reported_is : (asked : Bool) (m : Machine) (h : List Step) (a : Auditing) (ending : Ending) → IsReached m h a →
    reported asked a ending ≡ report_where asked m a.at.world h ending
reported_is asked m h a ending r = ap (λ text. if asked then text else []) (report_is m h a ending r)

still_is : (m : Machine) (a : Auditing) (ending : Ending) → a.at.machine ≡ m → Ends a ending → (is_quiet ending ≡ true) ↔ IsStill m a.at.world
still_is m a ending is ends = subst (λ x. (is_quiet ending ≡ true) ↔ IsStill x a.at.world) is ends

-- The first step that is not possible.

none_refused : (m : Machine) (h : List Step) (a : Auditing) → IsReached m h a → refused_place m h ≡ None
none_refused m h a r = (tells_first_fault m h).history.1 (a.at.world, r.reached_by)

place_by : (shown : Shown) (m : Machine) (h : List Step) (account : Account) (a : Auditing) (refusal : Option Refusal) →
    IsStopped m h a refusal → IsToldBy shown a refusal account → account.refused ≡ refused_place m h
place_by shown m h account a None stopped told = told.refused ∙ sym (none_refused m h a stopped)
place_by shown m h account a (Some r) stopped told = told.refused ∙ sym stopped.first

pub place_is : (shown : Shown) (m : Machine) (h : List Step) (account : Account) → IsAccount shown m h account → account.refused ≡ refused_place m h
place_is shown m h account is = place_by shown m h account is.at is.refusal is.stopped is.told

-- All steps are possible.

passed_by : (judged : Judged) (m : Machine) (h : List Step) (trace lines : List ℕ) (account : Account) (a : Auditing) (refusal : Option Refusal) →
    IsStopped m h a refusal → IsToldBy (shown_of judged) a refusal account → account.refused ≡ None → IsTraceOf trace h →
    ((w : World) → reached m h ≡ Some w → lines ≡ passed_line (length h) account.ending ++ account.lines.items ++ behind judged.extras m w h) →
    IsPassed judged m trace lines
passed_by judged m h trace lines account a None stopped told none reads are =
    let report = told.lines_are ∙ reported_is judged.report m h a account.ending stopped in
    record {
      steps = h;
      reads = reads;
      world = a.at.world;
      reaches = stopped.reached_by;
      ending = account.ending;
      quiet = still_is m a account.ending stopped.machine told.ends;
      lines_are =
          are a.at.world stopped.reached_by ∙ ap (λ text. passed_line (length h) account.ending ++ text ++ behind judged.extras m a.at.world h) report;
    }
passed_by judged m h trace lines account a (Some r) stopped told none reads are =
    absurd (let bad : Some r.number ≡ None = sym told.refused ∙ none in cc)

pub passed_told : (judged : Judged) (m : Machine) (h : List Step) (trace lines : List ℕ) (account : Account) → IsAccount (shown_of judged) m h account →
    account.refused ≡ None → IsTraceOf trace h →
    ((w : World) → reached m h ≡ Some w → lines ≡ passed_line (length h) account.ending ++ account.lines.items ++ behind judged.extras m w h) →
    IsPassed judged m trace lines
passed_told judged m h trace lines account is none reads are = passed_by judged m h trace lines account is.at is.refusal is.stopped is.told none reads are

-- A step is not.

refused_by : (judged : Judged) (m : Machine) (h : List Step) (trace lines : List ℕ) (account : Account) (number : ℕ) (a : Auditing) (refusal : Option Refusal) →
    IsStopped m h a refusal → IsToldBy (shown_of judged) a refusal account → account.refused ≡ Some number → tells_refusals judged ≡ true →
    IsTraceOf trace h → lines ≡ account.lines.items → IsRefused judged m trace lines
refused_by judged m h trace lines account number a None stopped told some asked reads are =
    absurd (let bad : None ≡ Some number = sym told.refused ∙ some in cc)
refused_by judged m h trace lines account number a (Some r) stopped told some asked reads are =
    let c : Cause = cause m stopped.step stopped.because in
    let explained : (if judged.explain then explanation a.at.machine a.at.world r.cause else []) ≡ (if judged.explain then explanation m a.at.world c else []) =
    ap (λ x. if judged.explain then explanation x a.at.world r.cause else []) stopped.reached.machine
    ∙ ap (λ x. if judged.explain then explanation m a.at.world x else []) stopped.cause_is in
    record {
      asked = asked;
      steps = h;
      reads = reads;
      taken = stopped.taken;
      first = stopped.first ∙ ap Some stopped.number;
      world = a.at.world;
      reaches = stopped.reached.reached_by;
      step = stopped.step;
      stands = stopped.stands;
      because = stopped.because;
      why = stopped.why;
      ending = account.ending;
      quiet = still_is m a account.ending stopped.reached.machine told.ends;
      lines_are =
          are ∙ told.lines_are ∙ ap (λ text. text ++ reported judged.report a account.ending) explained
          ∙ ap (λ text. (if judged.explain then explanation m a.at.world c else []) ++ text) (reported_is judged.report m _ a account.ending stopped.reached);
    }

pub refused_told : (judged : Judged) (m : Machine) (h : List Step) (trace lines : List ℕ) (account : Account) (number : ℕ) → IsAccount (shown_of judged) m h account →
    account.refused ≡ Some number → tells_refusals judged ≡ true → IsTraceOf trace h → lines ≡ account.lines.items → IsRefused judged m trace lines
refused_told judged m h trace lines account number is some asked reads are =
    refused_by judged m h trace lines account number is.at is.refusal is.stopped is.told some asked reads are
