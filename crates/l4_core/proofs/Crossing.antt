-- A message crosses processors exactly where its sender is of another one than its receiver.
use Rattle.std.proofs.Common.{◌≡◌, ℕ, zero, suc, ◌<◌, Bool, true, false, cond, not, Some, None, List, [], ◌∷◌, length, refl, ap, ◌∙◌, arith}
use Rattle.std.specs.Prelude.{slice_get, slice_index_or, ◌==◌}
use Rattle.std.specs.List.{position_or_len}
use Rattle.std.proofs.lemmas.Bool.{eqb-true}
use Rattle.std.proofs.lemmas.List.Folds.{find_at}
use Rattle.l4_model.specs.Words.{same_id}
use Rattle.l4_model.specs.Machine.{Declaration, Machine, declaration_of, agree, same_cpu}
use Rattle.l4_model.specs.World.{Message}
use Rattle.l4_model.specs.Rules.{is_cross}
use Rattle.l4_core_model.specs.Local.{declared, undeclared, is_own}
use Rattle.l4_core_model.specs.Runs.{IsMachine}
use Rattle.l4_core.specs.Inner.Settled.{IsOwn}

get_some : (ds : List Declaration) (i : ℕ) → i < length ds → slice_get ds i ≡ Some (slice_index_or ds i undeclared)
get_some [] i lt = absurd (omega arith)
get_some (d ∷ ds) zero lt = refl
get_some (d ∷ ds) (suc i) lt = get_some ds i (omega arith)

first_is : (n first i : ℕ) (b : Bool) → cond b (Some first) None ≡ Some i → first ≡ i
first_is n first i true e = cc
first_is n first i false e = cc

-- A thread is found by its id.
found_declared : (m : Machine) (i : ℕ) → IsMachine m → i < length m.threads → declaration_of m (declared m i).id ≡ Some (declared m i)
found_declared m i machine lt =
    let test : Declaration → Bool = λ d. same_id d.id (declared m i).id in
    let first : position_or_len test m.threads ≡ i = first_is 0 _ i _ (machine.placed i lt) in
    find_at test m.threads ∙ ap (slice_get m.threads) first ∙ get_some m.threads i lt

pub crosses : (m : Machine) (cpu r i : ℕ) (message : Message) → IsMachine m → IsOwn m cpu r → i < length m.threads → message.actual ≡ (declared m i).id → is_cross m (declared m r).id message ≡ not (is_own m cpu i)
crosses m cpu r i message machine own lt from =
    let a = found_declared m i machine lt in
    let b = found_declared m r machine own.within in
    let home : (declared m r).cpu ≡ cpu = eqb-true (declared m r).cpu cpu own.own in
    ap (λ g. not (same_cpu m g (declared m r).id)) from ∙ ap (λ o. not (agree (λ d. d.cpu) o (declaration_of m (declared m r).id))) a ∙ ap (λ o. not (agree (λ d. d.cpu) (Some (declared m i)) o)) b
    ∙ ap (λ n. not ((declared m i).cpu == n)) home
