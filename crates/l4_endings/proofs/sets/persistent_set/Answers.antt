use Rattle.std.proofs.Common.{◌≡◌, ℕ, ◌+◌, ◌<◌, true, [], ◌∷◌, length, ap, subst, sym, ◌∙◌, arith}
use Rattle.std.specs.Prelude.{slice_index_or}
use Rattle.std.proofs.lemmas.List.{length-append}
use Rattle.l4_sets.specs.Inner.Sets.{has, IsClosedUnder}
use Rattle.l4_sets.proofs.Gathering.{each_more}
use Rattle.l4_endings.specs.Inner.Posted.{may_post_in}
use Rattle.l4_endings.proofs.Posting.{closed_in}
use Rattle.l4_endings.proofs.sets.persistent_set.Goals as goal

pub loop-cpu-preserved : goal.loop-cpu-preserved
loop-cpu-preserved c =
    let inv = c.loop-cpu.invariant in
    let old = c.loop-cpu.all_posters.items in
    let parts = c.args.parts.now in
    let row = c.args.row.now in
    let cpus = c.args.cpus in
    record {
      long = ap length c.in_ok-push.ensures.items ∙ length-append old (c.posters.result ∷ [])
          ∙ ap (λ n. n + 1) inv.long;
      each = ap length c.in_ok-push-2.ensures.items
          ∙ length-append c.loop-cpu.all_moves.items (c.moves.result ∷ [])
          ∙ ap (λ n. n + 1) inv.each;
      known = λ to inside.
          subst (λ ps. (from : ℕ) → from < cpus → may_post_in parts row cpus from to ≡ true →
          has (slice_index_or ps to 0) from ≡ true) (sym c.in_ok-push.ensures.items)
          (each_more (λ to p. (from : ℕ) → from < cpus → may_post_in parts row cpus from to ≡ true →
          has p from ≡ true) 0 old c.posters.result
          (λ i l. inv.known i (omega (arith, l, inv.long)))
          (subst (λ k. (from : ℕ) → from < cpus → may_post_in parts row cpus from k ≡ true →
          has c.posters.result from ≡ true) (sym inv.long) c.posters.ensures) to
          (omega (arith, inside, inv.long)));
    }

pub smallest_closed-requires-clause-few : goal.smallest_closed-requires-clause-few
smallest_closed-requires-clause-few c =
    omega (
      arith,
      ap length c.deref.ensures.value,
      c.loop-cpu.invariant.long,
      c.loop-cpu.auto.cpu-end,
      c.requires.most,
    )

pub smallest_closed-requires-clause-each : goal.smallest_closed-requires-clause-each
smallest_closed-requires-clause-each c =
    ap length c.deref-2.ensures.value ∙ c.loop-cpu.invariant.each ∙ sym c.loop-cpu.invariant.long
    ∙ sym (ap length c.deref.ensures.value)

pub returns : goal.returns
returns c =
    let inv = c.loop-cpu.invariant in
    closed_in c.args.parts.now c.args.row.now c.loop-cpu.all_posters.items c.args.cpus
    c.smallest_closed.result c.requires.most
    (omega (arith, inv.long, c.loop-cpu-test.false, c.loop-cpu.auto.cpu-end))
    (λ to from lt lf may. inv.known to (omega (arith, lt, c.loop-cpu-test.false)) from lf may)
    (subst (λ ps. IsClosedUnder ps c.smallest_closed.result) c.deref.ensures.value
    c.smallest_closed.ensures)
