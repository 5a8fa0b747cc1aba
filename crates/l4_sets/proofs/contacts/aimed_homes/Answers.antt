use Rattle.std.proofs.Common.{ℕ, ◌⊎◌, ◌≡◌, true, inl, inr, ap, sym, ◌∙◌}
use Rattle.l4_model.specs.Words.{Id}
use Rattle.l4_model.specs.Machine.{Machine}
use Rattle.l4_persistent.specs.Inner.Posts.{names}
use Rattle.l4_sets.specs.Inner.Sets.{has}
use Rattle.l4_sets.proofs.Gathering.{aimed_there, or_left, or_right}
use Rattle.l4_sets.proofs.contacts.aimed_homes.Goals as goal

pub returns-then-aimed : goal.returns-then-aimed
returns-then-aimed c = λ cpu below h. by cpu
    (aimed_there c.args.aims.now cpu c.args.place c.next_place.result c.args.block.now.thread
    c.from-aimed.result c.next_place.ensures c.from-aimed.ensures.known c.from-aimed.ensures.short
    below h)
  where
    by : (cpu : ℕ) → ((has c.from-aimed.result.at cpu ≡ true) ⊎ ((c.from-aimed.result.at_last ≡ true)
        × (names c.args.aims.now cpu c.args.block.now.thread.context.from ≡ true))) →
        has c.union.result cpu ≡ true
    by cpu (inl there) =
        c.union.ensures cpu ∙ or_left (has c.from-aimed.result.at cpu) (has c.named_home.result cpu) there
    by cpu (inr named) =
        c.union.ensures cpu ∙ or_right (has c.from-aimed.result.at cpu) (has c.named_home.result cpu)
        (c.named_home.ensures cpu
        ∙ ap (λ (m : Machine). names m cpu c.regs.result.now.from) c.machine.ensures
        ∙ ap (λ (id : Id). names c.args.aims.now cpu id)
        (ap (λ r. r.from) c.regs.ensures ∙ ap (λ t. t.context.from) c.thread.ensures) ∙ named.1)

pub returns-else-aimed : goal.returns-else-aimed
returns-else-aimed c = λ cpu below h. by cpu
    (aimed_there c.args.aims.now cpu c.args.place c.next_place.result c.args.block.now.thread
    c.from-aimed.result c.next_place.ensures c.from-aimed.ensures.known c.from-aimed.ensures.short
    below h)
  where
    by : (cpu : ℕ) → ((has c.from-aimed.result.at cpu ≡ true) ⊎ ((c.from-aimed.result.at_last ≡ true)
        × (names c.args.aims.now cpu c.args.block.now.thread.context.from ≡ true))) →
        has c.from-aimed.result.at cpu ≡ true
    by cpu (inl there) = there
    by cpu (inr named) = let no = sym named.0 ∙ c.if-aimed.false in cc
