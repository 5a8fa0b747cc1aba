use Rattle.std.proofs.Common.{◌≡◌, ◌++◌, ◌∷◌, [], length, sym, ap, ◌∙◌}
use Rattle.l4_explore.proofs.Chains.{chains_kept}
use Rattle.l4_explore.proofs.row_table.RowTable.push.Goals.{then-place-len+in_ok-grow, else-place-len}
use Rattle.l4_explore.proofs.row_table.RowTable.push.Goals as goal

-- More buckets leave the codes as they were.
codes_stay : (c : goal.After-deref_mut-2) → c.self-2.inside.codes ≡ c.args.self.now
codes_stay c = c.self-2.view_is ∙ elim c.if-place-len.branch [
  | then-place-len+in_ok-grow w ↦ w.self-is ∙ w.grow.ensures
  | else-place-len w ↦ w.self-is
]

pub chain-requires-clause-chains : goal.chain-requires-clause-chains
chain-requires-clause-chains c =
    rw c.deref_mut.ensures.value (
    rw c.deref_mut-2.ensures.value (
    rw (c.push_reserved.ensures.items ∙ ap (λ befores. befores ++ 0 ∷ []) c.reserve.ensures.items) (
    rw c.in_ok-push.ensures.ok (
    rw (c.len-place.ensures.value ∙ ap length (sym (codes_stay c))) (
    chains_kept c.self-2.inside.codes c.args.code.now c.self-2.inside.lasts.items
    c.self-2.inside.befores.items c.self-2.invariant.each c.self-2.invariant.chains)))))
