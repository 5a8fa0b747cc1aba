use Rattle.std.proofs.Common.{◌≡◌, ◌∙◌, ◌∷◌, ◌++◌, ℕ, List, drop, ap, append_assoc, refl, sym, arith}
use Rattle.std.specs.Prelude.{codes, decimal}
use Rattle.l4_model.specs.Words.{GlobalId}
use Rattle.l4_trace.specs.Lines.{name_word, thread_word}
use Rattle.l4_trace.proofs.Kept.{in_two, word_before}
use Rattle.l4_trace.proofs.texts.Texts.spell_name.Goals as goal

pub of-self-requires-clause-text : goal.of-self-requires-clause-text
of-self-requires-clause-text c =
    let rest : List ℕ = drop c.args.end c.args.line.now in
    let back : drop c.write_send_number-hash.result c.write_send_number-hash.new.line ≡ (codes "#" ++ decimal c.args.name.k) ++ rest =
    c.write_send_number-hash.ensures.written ∙ ap (λ (k : ℕ). (codes "#" ++ decimal k) ++ rest) c.k.ensures.value in
    let front : drop c.write_thread-start.result c.write_thread-start.new.line ≡ (codes " " ++ thread_word c.args.name.thread) ++ drop c.write_send_number-hash.result c.write_send_number-hash.new.line =
    c.write_thread-start.ensures.written ∙ ap (λ (t : GlobalId). (codes " " ++ thread_word t) ++ drop c.write_send_number-hash.result c.write_send_number-hash.new.line) c.thread.ensures in
    let whole : drop c.write_thread-start.result c.write_thread-start.new.line ≡ (32 ∷ name_word c.args.name) ++ rest =
    in_two c.write_thread-start.new.line c.write_send_number-hash.new.line (codes " " ++ thread_word c.args.name.thread) (codes "#" ++ decimal c.args.name.k) rest c.write_thread-start.result c.write_send_number-hash.result front back
    ∙ ap (λ (xs : List ℕ). (32 ∷ xs) ++ rest) (sym (append_assoc (thread_word c.args.name.thread) (codes "#") (decimal c.args.name.k))) in
    word_before c.write_thread-start.new.line c.args.line.now rest (32 ∷ name_word c.args.name) c.write_thread-start.result c.args.end whole refl
    (omega (arith, c.write_thread-start.auto.line, c.write_send_number-hash.auto.line))
    (omega (arith, c.write_thread-start.ensures.within, c.write_send_number-hash.ensures.within))
    (omega (arith, c.requires.within, c.write_thread-start.auto.line, c.write_send_number-hash.auto.line))
