use Rattle.std.proofs.Common.{◌≡◌, ◌∙◌, ◌∷◌, List, ℕ, Option, All, ap, subst, sym}
use Rattle.std.specs.Prelude.{IfSome}
use Rattle.std.proofs.lemmas.List.Elements.{All-append, All-replicate, All-set, All-take}
use Rattle.l4_model.specs.Words.{GlobalId, global_id}
use Rattle.l4_trace.specs.Lines.{thread_word}
use Rattle.l4_trace.specs.Inner.Texts.{IsThreadText}
use Rattle.l4_trace.specs.declared.texts.ThreadText.{ThreadText}
use Rattle.l4_trace.proofs.Kept.{least_word, other_word}
use Rattle.l4_trace.proofs.texts.Texts.open.Goals as goal

pub new-requires-clause-word : goal.new-requires-clause-word
new-requires-clause-word c = sym (ap (λ (t : GlobalId). 32 ∷ thread_word t) c.default-least.ensures ∙ ap (λ (xs : List ℕ). 32 ∷ xs) least_word)

pub new-requires-3-clause-word : goal.new-requires-3-clause-word
new-requires-3-clause-word c =
    let made : c.unwrap-other.result ≡ global_id 1 1 = subst (λ (o : Option GlobalId). IfSome o (λ t. t ≡ global_id 1 1)) c.unwrap-other.ensures c.new-2.ensures.some in
    sym (ap (λ (t : GlobalId). 32 ∷ thread_word t) made ∙ ap (λ (xs : List ℕ). 32 ∷ xs) other_word)

pub invariant_of-self-2-clause-threads_are : goal.invariant_of-self-2-clause-threads_are
invariant_of-self-2-clause-threads_are c =
    let resized : All IsThreadText c.resize.new.self.items =
    subst (λ (xs : List ThreadText). All IsThreadText xs) (sym c.in_ok-resize.ensures.items)
    (All-append IsThreadText _ _ (All-take IsThreadText 1024 c.args.self.now.threads.items c.args.self.now.threads_are) (All-replicate IsThreadText _ c.new.result c.new.ensures.text)) in
    All-set IsThreadText c.resize.new.self.items 0 c.new-3.result c.new-3.ensures.text resized
