use Rattle.std.proofs.Common.{◌≡◌, true, false, Bool, map, refl, sym, subst}
use Rattle.std.specs.Prelude.{Result, Ok, Err, IsErrOf}
use Rattle.l4_mail.specs.declared.rests.RestFault.{RestFault}
use Rattle.l4_mail.specs.declared.rests.RestFault.TheVariants as rest_fault
use Rattle.l4_machine.specs.Outcomes.{compact_findings_of}
use Rattle.l4_mail.specs.Rests.{are_all}
use Rattle.l4_proc.specs.declared.processor.Processor.{Processor}
use Rattle.l4_machine.specs.Gathers.{AreOfOne, HaveNumbers}
use Rattle.l4_machine.specs.Gathered.{IsGathered}
use Rattle.l4_machine.proofs.InOneHand.{all_there, all_same, numbers_same, gathered_same}
use Rattle.l4_machine.proofs.gathering.gathered.Goals as goal

-- Where it answers Ok, the fault is not that of strangers.
are_all_then : (b found : Bool) (r : Result Bool RestFault) → r ≡ Ok found → (b ≡ false → IsErrOf r rest_fault.Numbers) → b ≡ true
are_all_then true found r is none = refl
are_all_then false found r is none = let h : Ok found ≡ Err rest_fault.Numbers = subst (λ r. IsErrOf r rest_fault.Numbers) is (none refl) in absurd cc

pub rested_outcome-requires-clause-one : goal.rested_outcome-requires-clause-one
rested_outcome-requires-clause-one c =
    let m = c.args.machine.now in
    subst (AreOfOne m) (sym c.as_slice.ensures.value)
    (all_same m c.args.processors.now.items c.rest.new.processors.items c.rest.ensures.same c.requires c.rest.ensures.one)

pub rested_outcome-requires-clause-numbers : goal.rested_outcome-requires-clause-numbers
rested_outcome-requires-clause-numbers c =
    let m = c.args.machine.now in
    let olds = c.args.processors.now.items in
    let there = all_there m olds c.requires (are_all_then (are_all (map (λ (p : Processor). p.port) olds)) c.in_ok-all_handled.all_handled c.rest.result c.in_ok-all_handled.was c.rest.ensures.numbers.1) in
    subst (HaveNumbers m.cpus) (sym c.as_slice.ensures.value) (numbers_same m.cpus olds c.rest.new.processors.items c.rest.ensures.same there.numbers)

pub returns-clause-all : goal.returns-clause-all
returns-clause-all c =
    are_all_then (are_all (map (λ (p : Processor). p.port) c.args.processors.now.items)) c.in_ok-all_handled.all_handled c.rest.result c.in_ok-all_handled.was c.rest.ensures.numbers.1

pub returns-clause-ok : goal.returns-clause-ok
returns-clause-ok c =
    let m = c.args.machine.now in
    let olds = c.args.processors.now.items in
    let o = compact_findings_of c.in_ok-outcome.outcome in
    subst (IsGathered m olds) (sym c.in_ok-into_outcome.ensures)
    (gathered_same m olds c.rest.new.processors.items o c.rest.ensures.same
    (subst (λ ps. IsGathered m ps o) c.as_slice.ensures.value c.in_ok-outcome.ensures))
