use Rattle.std.proofs.Common.{◌≡◌, ℕ, ◌<◌, Some, [], ◌∷◌, ◌++◌, map, length, refl, ap, ap₂, sym, ◌∙◌, arith, Bor}
use Rattle.std.specs.Prelude.{Option, is_some, slice_get}
use Rattle.std.specs.Option.{option_map}
use Rattle.std.proofs.lemmas.List.{map-append}
use Rattle.std.proofs.lemmas.List.FromFn.{map-range_with_len_more}
use Rattle.std.proofs.lemmas.Option.{slice_get_read}
use Rattle.l4_core.specs.Processor.{Processor as Core}
use Rattle.l4_machine.specs.Gathers.{core_of, with_number}
use Rattle.l4_machine.proofs.Cores.{within_some}
use Rattle.l4_machine.proofs.gathering.cores_of.Goals as goal

pub loop-cpu-preserved : goal.loop-cpu-preserved
loop-cpu-preserved c =
    let ps = c.args.processors.now in
    let cpu = c.loop-cpu.cpu in
    let place = c.place_of.result in
    let item = c.index-processors-place_of.result in
    let numbered : ℕ → Option Core = λ cpu. option_map core_of (with_number cpu ps) in
    let lt : cpu < c.args.cpus = c.loop-cpu-test.true in
    let within : place < length ps = within_some ps place (ap is_some c.place_of.ensures ∙ c.requires cpu lt) in
    let there : slice_get ps place ≡ Some item = slice_get_read ps (length ps) place item refl within c.index-processors-place_of.is in
    let one : Some c.core.result.now ≡ numbered cpu =
    ap Some c.core.ensures ∙ ap (option_map core_of) (sym there ∙ c.place_of.ensures) in
    ap (map (λ (x : Bor Core). Some x.now)) c.in_ok-push.ensures.items
    ∙ map-append (λ (x : Bor Core). Some x.now) c.loop-cpu.cores.items (c.core.result ∷ [])
    ∙ ap₂ (λ xs x. xs ++ x ∷ []) c.loop-cpu.invariant one
    ∙ sym (map-range_with_len_more numbered 0 cpu cpu (omega arith))
