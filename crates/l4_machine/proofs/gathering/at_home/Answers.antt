use Rattle.std.proofs.Common.{◌≡◌, ℕ, Some, List, map, ap, sym, ◌∙◌, subst, Bor}
use Rattle.std.specs.Prelude.{Option}
use Rattle.std.specs.List.{range_with_len}
use Rattle.std.specs.Option.{option_map}
use Rattle.std.proofs.lemmas.Result.{IfOk-weaker}
use Rattle.l4_core_model.specs.Local.{Local}
use Rattle.l4_core_model.specs.Runs.{processors}
use Rattle.l4_core.specs.Processor.{Processor as Core}
use Rattle.l4_machine.specs.Gathers.{core_of, with_number}
use Rattle.l4_replay.specs.Inner.Homes.{IsAtHome}
use Rattle.l4_machine.proofs.Cores.{all_there, locals_there, some_each}
use Rattle.l4_machine.proofs.gathering.at_home.Goals as goal

pub new-requires : goal.new-requires
new-requires c =
    let m = c.args.machine.now in
    let ps = c.args.processors.now in
    let now = λ (x : Bor Core). x.now in
    let numbered : ℕ → Option Core = λ cpu. option_map core_of (with_number cpu ps) in
    let items : map Some (map now c.as_slice.result.now) ≡ map numbered (processors m) =
    ap (λ xs. map Some (map now xs)) c.as_slice.ensures.value ∙ sym (some_each now c.in_ok-cores.cores.items) ∙ c.in_ok-cores.ensures
    ∙ ap (λ (n : ℕ). map numbered (range_with_len 0 n)) c.cpus.ensures.value in
    all_there m ps (map now c.as_slice.result.now) c.requires.one items

pub returns : goal.returns
returns c =
    let m = c.args.machine.now in
    let ps = c.args.processors.now in
    let now = λ (x : Bor Core). x.now in
    let numbered : ℕ → Option Core = λ cpu. option_map core_of (with_number cpu ps) in
    let items : map Some (map now c.as_slice.result.now) ≡ map numbered (processors m) =
    ap (λ xs. map Some (map now xs)) c.as_slice.ensures.value ∙ sym (some_each now c.in_ok-cores.cores.items) ∙ c.in_ok-cores.ensures
    ∙ ap (λ (n : ℕ). map numbered (range_with_len 0 n)) c.cpus.ensures.value in
    IfOk-weaker c.new.result _ _
    (λ a is. subst (λ (ls : List Local). IsAtHome m ls a) (locals_there m ps (map now c.as_slice.result.now) c.requires.one items) is)
    c.new.ensures
