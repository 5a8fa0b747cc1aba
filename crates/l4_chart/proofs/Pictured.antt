-- A picture, piece by piece.
use Rattle.std.proofs.Common.{◌≡◌, ℕ, List, ◌∷◌, ◌++◌, ap, append_assoc, length, map, sym, ◌∙◌}
use Rattle.std.proofs.lemmas.List.{length-map}
use Rattle.l4_chart.specs.Charts.{row_of}
use Rattle.l4_chart.specs.Pictures.{circle_picture, circles_picture}
use Rattle.l4_chart.specs.Scenes.{next}
use Rattle.l4_chart.specs.declared.chart.Row.{Row}
use Rattle.l4_chart.specs.declared.scene.Scene.{Scene}

-- One more circle stands there, and the others are to come.
pub one_circle : (s : Scene) (row : ℕ) (line : List ℕ) (left lines : List (List ℕ)) (old new all : List ℕ) → left ≡ line ∷ lines → new ≡ old ++ circle_picture s row line →
    old ++ circles_picture s row left ≡ all → new ++ circles_picture s (next row) lines ≡ all
one_circle s row line left lines old new all is one so_far =
    let rest = circles_picture s (next row) lines in
    ap (λ l. l ++ rest) one ∙ append_assoc old (circle_picture s row line) rest
    ∙ ap (λ ls. old ++ circles_picture s row ls) (sym is) ∙ so_far

pub as_many_rows : (rows : List Row) → length (map row_of rows) ≡ length rows
as_many_rows rows = length-map rows row_of
