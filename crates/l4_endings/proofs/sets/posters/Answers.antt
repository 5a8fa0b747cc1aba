use Rattle.std.proofs.Common.{ℕ, ap, sym, ◌∙◌}
use Rattle.l4_sets.specs.Inner.Sets.{has}
use Rattle.l4_endings.specs.Inner.Posted.{may_post_in}
use Rattle.l4_endings.proofs.Posting.{with_poster, without_poster}
use Rattle.l4_endings.proofs.sets.posters.Goals.{then-may_post, else-may_post}
use Rattle.l4_endings.proofs.sets.posters.Goals as goal

pub loop-from-preserved : goal.loop-from-preserved
loop-from-preserved c =
    let may = λ (from : ℕ). may_post_in c.args.parts.now c.args.row.now c.args.cpus from c.args.to in
    let old = c.loop-from.posters in
    elim c.if-may_post.branch [
      | then-may_post w ↦ λ from inside h.
          ap (λ n. has n from) w.posters-is
          ∙ with_poster may old w.one.result w.union-posters.result c.loop-from.from
          w.union-posters.ensures w.one.ensures c.loop-from.invariant from inside h
      | else-may_post w ↦ λ from inside h.
          ap (λ n. has n from) w.posters-is
          ∙ without_poster may old c.loop-from.from (sym c.may_post.ensures ∙ w.if-may_post.false)
          c.loop-from.invariant from inside h
    ]
