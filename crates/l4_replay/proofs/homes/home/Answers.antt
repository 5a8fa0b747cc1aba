use Rattle.std.proofs.Common.{◌≡◌, ◌<◌, Some, List, length, map, refl, ap, sym, ◌∙◌, subst, arith, Bor}
use Rattle.std.specs.Prelude.{slice_get}
use Rattle.std.specs.Option.{option_map}
use Rattle.std.proofs.lemmas.List.{length-map}
use Rattle.std.proofs.lemmas.Option.{get_or_from_slice_get, slice_get-map, slice_get_read}
use Rattle.l4_model.specs.Machine.{Declaration}
use Rattle.l4_core_model.specs.Local.{declared, undeclared}
use Rattle.l4_core.specs.Processor.{Processor as Core}
use Rattle.l4_replay.proofs.homes.home.Goals as goal

pub returns-clause-machine : goal.returns-clause-machine
returns-clause-machine c =
    let m = c.args.machine.now in
    let cores = c.args.cores.now in
    let now = λ (x : Bor Core). x.now in
    let cpu = (declared m c.args.place).cpu in
    let thread = c.index-threads-place.result in
    let few = c.threads.ensures.value in
    let inside : c.args.place < length c.threads.result.now = subst (λ (ds : List Declaration). c.args.place < length ds) (sym few) c.requires.place in
    let read : slice_get m.threads c.args.place ≡ Some thread =
    subst (λ (ds : List Declaration). slice_get ds c.args.place ≡ Some thread) few
    (slice_get_read c.threads.result.now (length c.threads.result.now) c.args.place thread refl inside c.index-threads-place.is) in
    let same : c.from.result ≡ cpu =
    c.from.ensures ∙ c.cpu-cpu.ensures ∙ ap (λ (d : Declaration). d.cpu) (sym (get_or_from_slice_get m.threads c.args.place thread undeclared read)) in
    let homed : cpu < m.cpus = c.threads.ensures.lawful.homed c.args.place c.requires.place in
    let within : c.from.result < length cores = let size = length-map cores now in let count = c.requires.cores.count in omega arith in
    let there = slice_get_read cores (length cores) c.from.result c.index-cores-from.result refl within c.index-cores-from.is in
    c.requires.cores.each cpu c.index-cores-from.result.now
    (ap (slice_get (map now cores)) (sym same) ∙ slice_get-map now cores c.from.result ∙ ap (option_map now) there)
