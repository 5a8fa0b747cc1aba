-- The way to a place of a script, and the tag that comes behind it.
use Rattle.std.proofs.Common.{◌≡◌, ℕ, zero, suc, ◌+◌, ◌-◌, ◌<◌, Bool, true, false, Option, List, drop, length, map, take, ap, sym, ◌∙◌, arith}
use Rattle.std.proofs.lemmas.List.{drop-map, take_rest}
use Rattle.std.specs.Prelude.{not, ◌&&◌}
use Rattle.l4_model.specs.Words.{GlobalId}
use Rattle.l4_model.specs.Machine.{Instr, instruction_at}
use Rattle.l4_script.specs.Inner.Scripts.{instr_of}
use Rattle.l4_script.specs.declared.instructions.Instr.{Instr as Coded}
use Rattle.l4_lint.specs.Scripts.{is_cut, is_led_to, is_mute, is_shorter, is_unheard, next_tag}

module _ (own : GlobalId) (script : List Instr) where
  -- What is so at a place by the one before it.
  one_back : (at : ℕ) → 0 < at →
      is_unheard own script at ≡ (not (is_led_to script at) && is_mute own (instruction_at script (at - 1)) (is_unheard own script (at - 1)))
  one_back zero some = absurd (omega (arith, some))
  one_back (suc before) some =
      let same : before ≡ suc before - 1 = omega arith in
      ap (λ (n : ℕ). not (is_led_to script (suc before)) && is_mute own (instruction_at script n) (is_unheard own script n)) same

  pub led_there : (at : ℕ) → 0 < at → is_led_to script at ≡ true → is_unheard own script at ≡ false
  led_there at some led =
      one_back at some
      ∙ ap (λ (b : Bool). not b && is_mute own (instruction_at script (at - 1)) (is_unheard own script (at - 1))) led

  pub by_before : (at : ℕ) → 0 < at → is_led_to script at ≡ false →
      is_unheard own script at ≡ is_mute own (instruction_at script (at - 1)) (is_unheard own script (at - 1))
  by_before at some led =
      one_back at some
      ∙ ap (λ (b : Bool). not b && is_mute own (instruction_at script (at - 1)) (is_unheard own script (at - 1))) led

-- The tag that comes next is the first one of what follows.
pub cut_by : (register : ℕ) (script : List Coded) (place : ℕ) (tag : Option ℕ) →
    tag ≡ next_tag (map instr_of (take (length script - (place + 1)) (drop (place + 1) script))) →
    is_shorter register tag ≡ is_cut register (map instr_of script) place
cut_by register script place tag is =
    ap (is_shorter register)
    (is
    ∙ ap (λ (rest : List Coded). next_tag (map instr_of rest)) (take_rest script (place + 1))
    ∙ ap next_tag (sym (drop-map instr_of (place + 1) script)))
