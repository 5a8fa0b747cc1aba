-- An instruction of a script goes on at another place.
use Rattle.std.proofs.Common.{◌≡◌, ℕ, ◌<◌, List, length, get_or, set, map, Option, Some, refl, ap, sym, ◌∙◌}
use Rattle.std.specs.Prelude.{unwrap_or}
use Rattle.std.specs.Option.{option_map}
use Rattle.std.proofs.lemmas.List.{map-set}
use Rattle.std.proofs.lemmas.Option.{slice_get-map, slice_get_read}
use Rattle.l4_model.specs.Machine as model
use Rattle.l4_script.specs.Inner.Scripts.{instr_of}
use Rattle.l4_script.specs.declared.instructions.Instr.{Instr}
use Rattle.l4_script.specs.Second.Statements.{with_place}
use Rattle.l4_script.specs.Second.Texts.{placed_at}

pub placed_item : (items : List Instr) (at place : ℕ) (before after : Instr) → at < length items → before ≡ get_or items at before → instr_of after ≡ with_place place (instr_of before)
    → map instr_of (set items at after) ≡ placed_at at (Some place) (map instr_of items)
placed_item items at place before after within read is =
    let found = slice_get_read items (length items) at before refl within read in
    let there = ap (λ (o : Option model.Instr). unwrap_or o model.End) (slice_get-map instr_of items at ∙ ap (option_map instr_of) found) in
    map-set instr_of items at after ∙ ap (set (map instr_of items) at) (is ∙ ap (with_place place) (sym there))
