use Rattle.std.proofs.Common.{◌≡◌, arith, ap, subst, ◌++◌, [], ◌∷◌, length, ◌-◌, List}
use Rattle.std.proofs.lemmas.Grind.{common_steps}
use Rattle.l4_model.specs.Steps as steps
use Rattle.l4_types.specs.declared.steps.Step.{Step}
use Rattle.l4_types.specs.declared.steps.Step.TheVariants.{Deliver}
use Rattle.l4_history.specs.declared.records.WideHead.{WideHead}
use Rattle.l4_history.specs.Inner.Rows.{Told}
use Rattle.l4_history.proofs.Pushed.{wide-delivery-told, wide-rows}
use Rattle.l4_history.proofs.history.History.push_wide_delivery.Goals as goal

wrote : (c : goal.After-self-1) → c.append.new.words.items ≡ c.self.inside.words.items ++ c.args.delivery.now.message.words
wrote c = grind (arith, common_steps)

place : (c : goal.After-self-1) → c.len.result ≡ length c.self.inside.wide.items
place c = grind (arith, common_steps)

start : (c : goal.After-self-1) → c.len-2.result ≡ length c.self.inside.words.items
start c = grind (arith, common_steps)

stored : (c : goal.After-self-1) → c.push_reserved-2.new.self.items ≡ c.self.inside.wide.items ++ Deliver c.wide_head.ensures.0 ∷ []
stored c = subst (λ (s : Step WideHead). c.push_reserved-2.new.self.items ≡ c.self.inside.wide.items ++ s ∷ []) c.wide_head.ensures.1 c.push_reserved-2.ensures.items

pub invariant_of-self : goal.invariant_of-self
invariant_of-self c =
    let w = c.wide_head.ensures.0 in (
      wide-rows c.self.inside.threads.slots.items c.self.inside.records.items _ c.self.inside.heads.items c.self.inside.wide.items _ c.self.inside.words.items _ _ c.len.result _ w c.args.delivery.now c.self.invariant.0 c.wide_head.ensures.2 c.at.ensures (place c) (start c)
          c.push_reserved.ensures.items (stored c) (wrote c),
      grind (arith, common_steps),
      grind (arith, common_steps),
      grind (arith, common_steps),
      grind (arith, common_steps),
      grind (arith, common_steps),
    )

pub returns : goal.returns
returns c =
    let w = c.wide_head.ensures.0 in
    rw (← c.self.view_is)
    (ap {B = Told} (λ (told : List steps.Step). record { steps = told; room = c.self.inside.room - 1 })
    (wide-delivery-told c.self.inside.threads.slots.items c.self.inside.records.items _ c.self.inside.heads.items c.self.inside.wide.items _ c.self.inside.words.items _ _ c.len.result _ w c.args.delivery.now c.self.invariant.0 c.wide_head.ensures.2 c.at.ensures (place c) (start c)
    c.push_reserved.ensures.items (stored c) (wrote c)))
