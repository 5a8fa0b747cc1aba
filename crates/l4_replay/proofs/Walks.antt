-- A core run under way, as its reader has it.
use Rattle.std.proofs.Common.{◌≡◌, ℕ, ◌<◌, Bool, true, false, Some, List, length, refl, ap, sym, ◌∙◌, subst, arith}
use Rattle.std.specs.Prelude.{slice_get}
use Rattle.l4_model.specs.Machine.{Machine}
use Rattle.l4_core_model.specs.Letters.{Letter}
use Rattle.l4_core_model.specs.Runs.{Run, letters, at_rest}
use Rattle.l4_core.specs.Processor.{Processor}
use Rattle.l4_replay.specs.Stations.{Station, letters_from}
use Rattle.l4_replay.specs.UnderWay.{UnderWay, AreResting, HasRun, IsProcessorOf, IsRun}
use Rattle.l4_replay.proofs.Endings.{rests, are_resting}
use Rattle.l4_replay.proofs.Action.{letters_here, local_at}

pub processor_here : (m : Machine) (r : Run) (u : UnderWay) (cpu : ℕ) (s : Station) (p : Processor) →
    IsRun m r u → slice_get u.stations cpu ≡ Some s → p ≡ s.core → IsProcessorOf m r.system cpu p
processor_here m r u cpu s p is at same =
    let it = is.system.each cpu s at in
    subst (IsProcessorOf m r.system cpu) (sym same)
    (record {
      machine = it.machine;
      cpu_is = it.cpu_is;
      local = local_at m r.system u.stations cpu s is.system at;
    })

pub inbox_here : (u : UnderWay) (cpu from : ℕ) (s : Station) → HasRun u →
    slice_get u.stations cpu ≡ Some s → from < u.machine.cpus → from < length s.inbox
inbox_here u cpu from s run at lt =
    let m = run.0 in
    let is = run.1.1 in
    let it = is.system.each cpu s at in
    omega (arith, it.inbox, ap (λ (m : Machine). m.cpus) is.machine, lt)

pub mail_here : (m : Machine) (r : Run) (u : UnderWay) (cpu from : ℕ) (s : Station) (ls : List Letter) →
    IsRun m r u → slice_get u.stations cpu ≡ Some s → ls ≡ letters_from from s →
    ls ≡ letters r.system.mail from cpu
mail_here m r u cpu from s ls is at same =
    same ∙ sym (letters_here m r.system u.stations from cpu s is.system at)

-- A run is at rest where its stations are.
pub rest_here : (m : Machine) (r : Run) (u : UnderWay) (b : Bool) → IsRun m r u →
    (AreResting u.stations → b ≡ true) → (b ≡ true → AreResting u.stations) → b ≡ at_rest m r.system
rest_here m r u b is then from = by b (at_rest m r.system) then_rest from_rest
  where
    then_rest : at_rest m r.system ≡ true → b ≡ true
    then_rest e = then (are_resting m r.system u.stations is.system e)

    from_rest : b ≡ true → at_rest m r.system ≡ true
    from_rest e = rests m r.system u.stations is.system (from e)

    by : (b c : Bool) → (c ≡ true → b ≡ true) → (b ≡ true → c ≡ true) → b ≡ c
    by true c h k = sym (k refl)
    by false true h k = h refl
    by false false h k = refl
