use Rattle.std.proofs.Common.{ℕ, List, ◌∷◌, ◌++◌, ◌∙◌, ap, sym}
use Rattle.std.specs.Prelude.{codes}
use Rattle.l4_trace.specs.Lines.{name_word, thread_word}
use Rattle.l4_trace.proofs.InFront.{delivery_line}
use Rattle.l4_trace.proofs.frequent.Front.delivery_line.Goals as goal

pub returns : goal.returns
returns c =
    delivery_line _ _ _ _ _ _ c.in_ok-line.line.now c.in_ok-line.rest.now c.self.inside.rest.now _ _
    c.in_ok-name.ensures.name c.in_ok-receiver.ensures.global c.in_ok-shown.ensures.global c.in_ok-actual.ensures.global
    c.in_ok-line.ensures.parts (rw c.of-operands.ensures at c.in_ok-tag.ensures) c.in_ok-read_words.ensures
    (rw (← c.as_slice.ensures.value) (sym c.is_tag_of.ensures ∙ c.if-not-is_tag_of.false))
    (c.in_ok-bytes.ensures ∙ ap (λ (r : List ℕ). codes "deliver " ++ r)
    (c.in_ok-name.ensures.word ∙ ap (λ (r : List ℕ). name_word c.in_ok-name.name ++ r)
    (c.in_ok-receiver.ensures.word ∙ ap (λ (r : List ℕ). 32 ∷ (thread_word c.in_ok-receiver.receiver ++ r))
    (c.in_ok-shown.ensures.word ∙ ap (λ (r : List ℕ). 32 ∷ (thread_word c.in_ok-shown.shown ++ r))
    (c.in_ok-actual.ensures.word ∙ ap (λ (r : List ℕ). 32 ∷ (thread_word c.in_ok-actual.actual ++ r))
    (c.in_ok-byte.ensures ∙ ap (λ (r : List ℕ). 32 ∷ r) (sym c.self.view_is)))))))
