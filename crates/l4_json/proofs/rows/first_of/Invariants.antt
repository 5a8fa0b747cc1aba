use Rattle.std.proofs.Common.{◌≡◌, drop, map}
use Rattle.std.specs.Prelude.{find}
use Rattle.l4_words.specs.Words.{words_in}
use Rattle.l4_json.specs.Rows.{fits}
use Rattle.l4_json.specs.Inner.Views.{row_view}
use Rattle.l4_json.proofs.rows.first_of.Given as goal

abbrev pub invariant-loop-row : goal.invariant-loop-row
invariant-loop-row l =
    find (λ row. fits row.parts (words_in l.line)) (map row_view (drop l.row-index l.rows)) ≡ find (λ row. fits row.parts (words_in l.line)) (map row_view l.rows)
