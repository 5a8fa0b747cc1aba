use Rattle.std.proofs.Common.{◌≡◌, ◌∙◌, Bor, List, ap, map, subst, sym}
use Rattle.l4_model.specs.Machine.{Machine}
use Rattle.l4_core_model.specs.Local.{Local}
use Rattle.l4_core_model.specs.Runs.{Run}
use Rattle.l4_core.specs.Processor.{Processor as Core}
use Rattle.l4_refines.specs.Laws.{home_thread}
use Rattle.l4_replay.specs.Stations.{Station}
use Rattle.l4_replay.specs.Inner.Heard.{AreStations, HasPlaces, hears_all_mail}
use Rattle.l4_replay.specs.Inner.Homes.{AreAllOf, AreThreads, IsAtHome, locals_of}
use Rattle.l4_replay.specs.declared.homes.OwnerView.{OwnerView}
use Rattle.l4_replay.proofs.Cores.{station_locals, stations_there}
use Rattle.l4_replay.proofs.Hearing.{places_there}
use Rattle.l4_replay.specs.Inner.Nodes.{station_of}
use Rattle.l4_replay.specs.Inner.Processors.{stations_of, under_way}
use Rattle.l4_replay.specs.UnderWay.{IsRun}
use Rattle.l4_replay.specs.declared.node.Node.{Node}
use Rattle.l4_replay.specs.declared.processors.Processors.{Processors}
use Rattle.l4_replay.proofs.Going.{cores_mapped}
use Rattle.l4_replay.proofs.processors.Processors.in_world.Goals as goal

pub new-requires : goal.new-requires
new-requires c =
    let run = c.requires in
    let ss = stations_of c.args.self.now in
    let same : map (λ (x : Bor Core). x.now) c.as_slice-2.result.now ≡ map (λ (s : Station). s.core) ss =
    ap (map (λ (x : Bor Core). x.now)) c.as_slice-2.ensures.value ∙ c.in_ok-cores.ensures
    ∙ ap (map (λ (n : Node). n.core)) c.as_slice.ensures.value ∙ cores_mapped c.args.self.now.nodes.items in
    subst (λ (m : Machine). AreAllOf m (map (λ (x : Bor Core). x.now) c.as_slice-2.result.now)) (sym run.1.1.machine)
    (subst (AreAllOf run.0) (sym same) (stations_there run.0 run.1.0.system ss run.1.1.system))

pub hear_all-requires-clause-each : goal.hear_all-requires-clause-each
hear_all-requires-clause-each c =
    let run = c.requires in
    subst (λ (m : Machine). AreStations m (map station_of c.as_slice-3.result.now)) (sym run.1.1.machine)
    (subst (λ (ns : List Node). AreStations run.0 (map station_of ns)) (sym c.as_slice-3.ensures.value)
    run.1.1.system.each)

-- The threads as their own processors have them
at_home : (m : Machine) (r : Run) (p : Processors) (cores : List Core) (a : OwnerView) →
    IsRun m r (under_way p) → cores ≡ map (λ (s : Station). s.core) (stations_of p) →
    IsAtHome p.machine.now (locals_of cores) a → IsAtHome m r.system.locals a
at_home m r p cores a come same is =
    subst (λ (n : Machine). IsAtHome n r.system.locals a) come.machine
    (subst (λ (ls : List Local). IsAtHome p.machine.now ls a)
    (ap locals_of same ∙ station_locals m r.system (stations_of p) come.system) is)

pub hear_all-requires-clause-places : goal.hear_all-requires-clause-places
hear_all-requires-clause-places c =
    let run = c.requires in
    let same : map (λ (x : Bor Core). x.now) c.as_slice-2.result.now
    ≡ map (λ (s : Station). s.core) (stations_of c.args.self.now) =
    ap (map (λ (x : Bor Core). x.now)) c.as_slice-2.ensures.value ∙ c.in_ok-cores.ensures
    ∙ ap (map (λ (n : Node). n.core)) c.as_slice.ensures.value ∙ cores_mapped c.args.self.now.nodes.items in
    subst (λ (m : Machine). HasPlaces m c.in_ok-threads.threads) (sym run.1.1.machine)
    (places_there run.0 (home_thread run.0 run.1.0.system.locals) c.in_ok-threads.threads
    (at_home run.0 run.1.0 c.args.self.now _ c.in_ok-threads.threads run.1.1 same c.in_ok-threads.ensures))

pub returns : goal.returns
returns c = λ m r come.
    let p = c.args.self.now in
    let same : map (λ (x : Bor Core). x.now) c.as_slice-2.result.now ≡ map (λ (s : Station). s.core) (stations_of p) =
    ap (map (λ (x : Bor Core). x.now)) c.as_slice-2.ensures.value ∙ c.in_ok-cores.ensures
    ∙ ap (map (λ (n : Node). n.core)) c.as_slice.ensures.value ∙ cores_mapped p.nodes.items in
    let home : AreThreads m (home_thread m r.system.locals) c.in_ok-threads.threads =
    at_home m r p _ c.in_ok-threads.threads come same c.in_ok-threads.ensures in
    let here : AreThreads p.machine.now (home_thread m r.system.locals) c.in_ok-threads.threads =
    subst (λ (n : Machine). AreThreads n (home_thread m r.system.locals) c.in_ok-threads.threads) (sym come.machine)
    home in
    let heard = c.hear_all.ensures (home_thread m r.system.locals) here in
    subst (λ (ns : List Node). AreThreads m
    (hears_all_mail (map station_of ns) (home_thread m r.system.locals)) c.hear_all.new.threads)
    c.as_slice-3.ensures.value
    (subst (λ (n : Machine). AreThreads n
    (hears_all_mail (map station_of c.as_slice-3.result.now) (home_thread m r.system.locals)) c.hear_all.new.threads)
    come.machine heard)
