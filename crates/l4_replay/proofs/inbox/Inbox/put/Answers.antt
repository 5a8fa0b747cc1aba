use Rattle.std.proofs.Common.{◌≡◌, ◌<◌, ◌≤◌, ◌*◌, ◌^◌, ◌%◌, ◌++◌, ◌∷◌, [], bit_or, length, set, ap, sym, subst, ◌∙◌, arith}
use Rattle.std.proofs.lemmas.List.{length-set, set-get_or}
use Rattle.l4_model.specs.World.{changed}
use Rattle.l4_replay.specs.Inner.Posters.{MarksPosters}
use Rattle.l4_replay.proofs.Inboxes.{marks_come, queue_written}
use Rattle.l4_replay.proofs.inbox.Inbox.put.Goals as goal

pub invariant_of-self : goal.invariant_of-self
invariant_of-self c =
    let old = c.args.self.now in
    let qs = old.queues.items in
    let i = c.from.result in
    let new = c.push.new.self in
    let few : length qs ≤ 16 = old.few in
    let is : set qs i new ≡ qs = ap (set qs i) (c.in_err-push.ensures.err ∙ c.index_mut.ensures.value) ∙ set-get_or qs i c.index_mut.result.now in
    record {
      few = omega (arith, few, length-set qs i new);
      marks = subst (MarksPosters old.posters) (sym is) old.marks;
    }

pub invariant_of-self-2 : goal.invariant_of-self-2
invariant_of-self-2 c =
    let old = c.args.self.now in
    let qs = old.queues.items in
    let i = c.from.result in
    let new = c.push.new.self in
    let same : i ≡ c.args.from = c.from.ensures in
    let lt = c.requires in
    let within : i < length qs = omega arith in
    let few : length qs ≤ 16 = old.few in
    let is = queue_written (λ ls. ls ++ c.args.letter.now ∷ []) qs i c.index_mut.result.now new within c.index_mut.ensures.value c.in_ok-push.ensures.ok in
    record {
      few = omega (arith, few, length-set qs i new);
      marks = subst (λ n. MarksPosters (bit_or old.posters (1 * 2 ^ n % 18446744073709551616)) (set qs i new)) same
          (subst (MarksPosters (bit_or old.posters (1 * 2 ^ i % 18446744073709551616))) (sym is)
          (marks_come qs old.posters i c.args.letter.now within (omega (arith, within, few)) old.marks));
    }

pub returns-clause-ok : goal.returns-clause-ok
returns-clause-ok c =
    let old = c.args.self.now in
    let qs = old.queues.items in
    let i = c.from.result in
    let new = c.push.new.self in
    let same : i ≡ c.args.from = c.from.ensures in
    let lt = c.requires in
    let within : i < length qs = omega arith in
    subst (λ n. set qs i new ≡ changed (λ ls. ls ++ c.args.letter.now ∷ []) qs n) same
    (queue_written (λ ls. ls ++ c.args.letter.now ∷ []) qs i c.index_mut.result.now new within c.index_mut.ensures.value c.in_ok-push.ensures.ok)
