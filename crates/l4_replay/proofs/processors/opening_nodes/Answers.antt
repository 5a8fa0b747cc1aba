use Rattle.std.proofs.Common.{◌≡◌, map, ap, ◌∙◌, arith}
use Rattle.std.specs.List.{range_with_len}
use Rattle.std.proofs.lemmas.List.{map-append}
use Rattle.l4_replay.proofs.Opening.{opening_station, opened_more, opened_system}
use Rattle.l4_replay.specs.Inner.Nodes.{station_of}
use Rattle.l4_replay.proofs.processors.opening_nodes.Goals as goal

pub loop-cpu-preserved : goal.loop-cpu-preserved
loop-cpu-preserved c =
    ap (map station_of) c.in_ok-push.ensures.items ∙ map-append station_of c.loop-cpu.nodes.items _
    ∙ opened_more c.args.machine.now c.loop-cpu.cpu (map station_of c.loop-cpu.nodes.items) _ c.loop-cpu.invariant
    c.in_ok-new.ensures

pub returns : goal.returns
returns c =
    let m = c.args.machine.now in
    let all : c.loop-cpu.cpu ≡ m.cpus = omega arith in
    opened_system m (map station_of c.loop-cpu.nodes.items)
    (c.loop-cpu.invariant ∙ ap (λ n. map (opening_station m) (range_with_len 0 n)) all)
