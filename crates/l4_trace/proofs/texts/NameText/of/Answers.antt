use Rattle.std.proofs.Common.{◌≡◌, ◌∙◌, ◌-◌, ℕ, take, drop, ap, arith}
use Rattle.l4_trace.specs.Lines.{name_word}
use Rattle.l4_trace.proofs.Kept.{last_bytes}
use Rattle.l4_trace.proofs.texts.NameText.of.Goals as goal

pub returns : goal.returns
returns c =
    let count : c.args.end - (c.args.end - 32) ≡ 32 = omega (arith, c.requires.room) in
    let bytes : c.copy_from_slice.new.self ≡ take 32 (drop (c.args.end - 32) c.args.line.now) =
    c.copy_from_slice.ensures.after ∙ ap (λ (n : ℕ). take n (drop (c.args.end - 32) c.args.line.now)) count in
    record {
      text = last_bytes c.args.line.now c.copy_from_slice.new.self (name_word c.args.name) c.args.start c.args.end 32 c.requires.room c.requires.within c.requires.before c.requires.short c.requires.text bytes;
      spelled = c.requires.spelled;
    }
