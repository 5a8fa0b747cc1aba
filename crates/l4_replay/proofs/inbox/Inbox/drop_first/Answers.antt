use Rattle.std.proofs.Common.{◌≡◌, ◌<◌, ◌≤◌, ◌-◌, ◌*◌, ◌^◌, ◌%◌, bit_and, drop, length, set, subst, arith}
use Rattle.std.proofs.lemmas.List.{length-set}
use Rattle.l4_model.specs.World.{changed}
use Rattle.l4_replay.specs.Inner.Posters.{MarksPosters}
use Rattle.l4_replay.proofs.Inboxes.{last_dropped, one_dropped, queue_written}
use Rattle.l4_replay.proofs.inbox.Inbox.drop_first.Goals as goal

pub invariant_of-self : goal.invariant_of-self
invariant_of-self c =
    let old = c.args.self.now in
    let qs = old.queues.items in
    let i = c.from.result in
    let new = c.drop_first.new.self in
    let same : i ≡ c.args.from = c.from.ensures in
    let lt = c.requires in
    let within : i < length qs = omega arith in
    let few : length qs ≤ 16 = old.few in
    record {
      few = omega (arith, few, length-set qs i new);
      marks = subst (λ n. MarksPosters (bit_and old.posters (18446744073709551615 - 1 * 2 ^ n % 18446744073709551616)) (set qs i new)) same
          (last_dropped qs old.posters i c.index_mut-letters.result.now new c.is_empty.result within c.index_mut-letters.ensures.value
          c.drop_first.ensures c.is_empty.ensures old.marks (omega (arith, within, few)) c.if-is_empty.true);
    }

pub invariant_of-self-else-is_empty : goal.invariant_of-self-else-is_empty
invariant_of-self-else-is_empty c =
    let old = c.args.self.now in
    let qs = old.queues.items in
    let i = c.from.result in
    let new = c.drop_first.new.self in
    let same : i ≡ c.args.from = c.from.ensures in
    let lt = c.requires in
    let within : i < length qs = omega arith in
    let few : length qs ≤ 16 = old.few in
    record {
      few = omega (arith, few, length-set qs i new);
      marks = one_dropped qs old.posters i c.index_mut-letters.result.now new c.is_empty.result within c.index_mut-letters.ensures.value
          c.drop_first.ensures c.is_empty.ensures old.marks c.if-is_empty.false;
    }

pub returns-then-is_empty : goal.returns-then-is_empty
returns-then-is_empty c =
    let old = c.args.self.now in
    let qs = old.queues.items in
    let i = c.from.result in
    let new = c.drop_first.new.self in
    let same : i ≡ c.args.from = c.from.ensures in
    let lt = c.requires in
    let within : i < length qs = omega arith in
    subst (λ n. set qs i new ≡ changed (drop 1) qs n) same
    (queue_written (drop 1) qs i c.index_mut-letters.result.now new within c.index_mut-letters.ensures.value c.drop_first.ensures)

pub returns-else-is_empty : goal.returns-else-is_empty
returns-else-is_empty c =
    let old = c.args.self.now in
    let qs = old.queues.items in
    let i = c.from.result in
    let new = c.drop_first.new.self in
    let same : i ≡ c.args.from = c.from.ensures in
    let lt = c.requires in
    let within : i < length qs = omega arith in
    subst (λ n. set qs i new ≡ changed (drop 1) qs n) same
    (queue_written (drop 1) qs i c.index_mut-letters.result.now new within c.index_mut-letters.ensures.value c.drop_first.ensures)
