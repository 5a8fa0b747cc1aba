use Rattle.std.proofs.Common.{◌≡◌, ◌++◌, ◌∷◌, ◌-◌, [], List, drop, ap, ◌∙◌}
use Rattle.l4_core_model.specs.Letters.{Letter}
use Rattle.l4_types.specs.Inner.LetterHeads.{letters_in}
use Rattle.l4_replay.proofs.LetterQueues.{queued-more, words-more}
use Rattle.l4_replay.proofs.letter_queue.LetterQueue.push.Goals as goal

heads : (c : goal.After-push_back_reserved) → c.push_back_reserved.new.self.items ≡ c.self.inside.heads.items ++ c.parts.result.0.now ∷ []
heads c = c.push_back_reserved.ensures.items ∙ ap (λ (ls : List _). ls ++ c.parts.result.0.now ∷ []) c.in_ok-reserve.ensures.items

words : (c : goal.After-push_back_reserved) → c.append.new.words.items ≡ c.self.inside.words.items ++ c.parts.result.1.now
words c = c.in_ok-append.ensures.ok

pub invariant_of-self-2 : goal.invariant_of-self-2
invariant_of-self-2 c =
    let o = c.self.inside in
    rw (heads c, words c) (words-more o.heads.items o.words.items c.parts.result.1.now o.gone c.parts.result.0.now c.self.invariant c.parts.ensures.count)

pub returns-clause-ok : goal.returns-clause-ok
returns-clause-ok c =
    let o = c.self.inside in
    rw (← c.self.view_is, heads c, words c)
    (queued-more o.heads.items o.words.items c.parts.result.1.now o.gone c.parts.result.0.now c.self.invariant c.parts.ensures.count
    ∙ ap (λ (l : Letter). letters_in o.heads.items (drop o.gone o.words.items) ++ l ∷ []) c.parts.ensures.value)
