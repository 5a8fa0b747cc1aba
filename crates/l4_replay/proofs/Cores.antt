-- The cores of a run under way, and the threads on them.
use Rattle.std.proofs.Common.{◌≡◌, ℕ, Option, Some, None, List, [], ◌∷◌, map, refl, ap, ap₂, sym, ◌∙◌}
use Rattle.std.specs.Prelude.{slice_get}
use Rattle.std.specs.Option.{option_map}
use Rattle.std.proofs.lemmas.List.{length-map}
use Rattle.std.proofs.lemmas.Option.{slice_get-map}
use Rattle.l4_model.specs.Machine.{Machine}
use Rattle.l4_model.specs.World.{Thread}
use Rattle.l4_model.specs.History.{Report, report_of}
use Rattle.l4_model.proofs.Chains.{some_is}
use Rattle.l4_core_model.specs.Local.{Local, declared, thread}
use Rattle.l4_core_model.specs.Runs.{System}
use Rattle.l4_core.specs.Processor.{Processor as Core}
use Rattle.l4_refines.specs.Laws.{home_report, home_thread, thread_of}
use Rattle.l4_replay.specs.Stations.{Station}
use Rattle.l4_replay.specs.UnderWay.{IsSystem}
use Rattle.l4_replay.specs.declared.homes.LastSend.{LastSend}
use Rattle.l4_replay.specs.Inner.Homes.{last_send, locals_of, AreAllOf}

-- Of stations

pub stations_there : (m : Machine) (g : System) (ss : List Station) → IsSystem m g ss → AreAllOf m (map (λ (s : Station). s.core) ss)
stations_there m g ss i = record {
  count = length-map ss (λ (s : Station). s.core) ∙ i.for_each;
  each = λ cpu c at. by cpu c (slice_get ss cpu) refl (sym (slice_get-map (λ (s : Station). s.core) ss cpu) ∙ at);
}
  where
    by : (cpu : ℕ) (c : Core) (o : Option Station) → slice_get ss cpu ≡ o → option_map (λ (s : Station). s.core) o ≡ Some c → c.machine ≡ m
    by cpu c None at is = cc
    by cpu c (Some s) at is = ap (λ (c : Core). c.machine) (sym (some_is s.core c is)) ∙ (i.each cpu s at).machine

locals_mapped : (ss : List Station) → locals_of (map (λ (s : Station). s.core) ss) ≡ map (λ (s : Station). s.core.local) ss
locals_mapped [] = refl
locals_mapped (s ∷ ss) = ap (λ (ls : List Local). s.core.local ∷ ls) (locals_mapped ss)

pub station_locals : (m : Machine) (g : System) (ss : List Station) → IsSystem m g ss → locals_of (map (λ (s : Station). s.core) ss) ≡ g.locals
station_locals m g ss i = locals_mapped ss ∙ sym i.locals

-- A thread on its own processor

pub home_there : (m : Machine) (cores : List Core) (i : ℕ) (c : Core) → slice_get cores (declared m i).cpu ≡ Some c → home_thread m (locals_of cores) i ≡ thread c.local i
home_there m cores i c at =
    ap (thread_of i) (slice_get-map (λ (c : Core). c.local) cores (declared m i).cpu ∙ ap (option_map (λ (c : Core). c.local)) at)

pub report_there : (m : Machine) (cores : List Core) (i : ℕ) (c : Core) (report : Report) → slice_get cores (declared m i).cpu ≡ Some c → c.machine ≡ m →
    report ≡ report_of (declared c.machine i).id (thread c.local i) → report ≡ home_report m (locals_of cores) i
report_there m cores i c report at machine is =
    is ∙ ap₂ (λ (m : Machine) (t : Thread). report_of (declared m i).id t) machine (sym (home_there m cores i c at))

pub send_there : (m : Machine) (cores : List Core) (i : ℕ) (c : Core) (send : LastSend) →
    slice_get cores (declared m i).cpu ≡ Some c →
    send ≡ last_send (thread c.local i) → send ≡ last_send (home_thread m (locals_of cores) i)
send_there m cores i c send at is = is ∙ ap last_send (sym (home_there m cores i c at))
