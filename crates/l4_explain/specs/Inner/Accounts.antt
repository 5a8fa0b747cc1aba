-- What an audit tells of the steps of a trace.
use Rattle.std.specs.Prelude.{ℕ, ◌≡◌, ◌+◌, Bool, if◌then◌else◌, Option, Some, None, List, [], ◌++◌, option_map, slice_get, take}
use Rattle.l4_model.specs.Machine.{Machine}
use Rattle.l4_model.specs.Steps.{Step}
use Rattle.l4_model.specs.History.{refused_place}
use Rattle.l4_types.specs.declared.reports.Ending.{Ending}
use Rattle.l4_audit.specs.Inner.Auditing.{Auditing}
use Rattle.l4_audit.specs.Audits.{IsReached}
use Rattle.l4_audit.specs.Reasons.{reason}
use Rattle.l4_audit.specs.declared.reasons.Reason.{Reason}
use Rattle.l4_explain.specs.Reasons.{cause}
use Rattle.l4_explain.specs.Worlds.{Ends, explanation, world_report}
use Rattle.l4_explain.specs.declared.accounts.Account.{Account}
use Rattle.l4_explain.specs.declared.accounts.Refusal.{Refusal}
use Rattle.l4_explain.specs.declared.accounts.Shown.{Shown}

-- The steps before the refused step lead to this audit. There the refused step is not possible, for
-- this reason, so it is the first such step. Its cause goes by the reason.
pub record IsRefused (m : Machine) (h : List Step) (a : Auditing) (r : Refusal) : Type 0 where
  pub taken : ℕ
  pub number : r.number ≡ taken + 1
  pub reached : IsReached m (take taken h) a
  pub step : Step
  pub stands : slice_get h taken ≡ Some step
  pub because : Reason
  pub why : reason m a.at.world step ≡ Some because
  pub cause_is : r.cause ≡ cause m step because
  pub first : refused_place m h ≡ Some r.number

-- The audit has taken the steps as far as they are possible.
abbrev pub IsStopped : Machine → List Step → Auditing → Option Refusal → Type 0
IsStopped m h a None = IsReached m h a
IsStopped m h a (Some r) = IsRefused m h a r

-- The explanation of a refused step, and the report of the world, if they are asked for.

abbrev pub explained : (asked : Bool) → Auditing → Option Refusal → List ℕ
explained asked a None = []
explained asked a (Some r) = if asked then explanation a.at.machine a.at.world r.cause else []

abbrev pub reported : (asked : Bool) → Auditing → Ending → List ℕ
reported asked a ending = if asked then world_report a ending else []

-- The account is what an audit tells that has stopped.
pub record IsToldBy (shown : Shown) (a : Auditing) (refusal : Option Refusal) (account : Account)
    : Type 0 where
  pub refused : account.refused ≡ option_map (λ r. r.number) refusal
  pub ends : Ends a account.ending
  pub lines_are : account.lines.items ≡
      explained shown.explain a refusal ++ reported shown.report a account.ending

-- The account is what is told of the steps of a trace.
pub record IsAccount (shown : Shown) (m : Machine) (h : List Step) (account : Account)
    : Type 0 where
  pub at : Auditing
  pub refusal : Option Refusal
  pub stopped : IsStopped m h at refusal
  pub told : IsToldBy shown at refusal account
