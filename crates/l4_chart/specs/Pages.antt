-- A chart as a page, an HTML file.
use Rattle.std.specs.Prelude.{ℕ, ◌-◌, Bool, true, false, List, ◌++◌, codes, count_by, decimal, flat_map, length}
use Rattle.l4_chart.specs.Charts.{Drawn}
use Rattle.l4_chart.specs.Marks.{mark_of}
use Rattle.l4_chart.specs.Pictures.{columns_picture, rows_picture}
use Rattle.l4_chart.specs.Scenes.{height_of, scene_in, sum, width_of}
use Rattle.l4_chart.specs.Shapes.{class_of, meaning_of, outline_of}
use Rattle.l4_chart.specs.Told.{Told}
use Rattle.l4_chart.specs.declared.html.TheConstants.{PAGE_STYLE}
use Rattle.l4_chart.specs.declared.marks.Kind.{Kind}
use Rattle.l4_chart.specs.declared.marks.Mark.{Mark}
use Rattle.l4_chart.specs.declared.marks.Mark.TheVariants.{Arrow}
use Rattle.l4_chart.specs.declared.scene.Scene.{Scene}
use Rattle.l4_chart.specs.declared.shapes.TheConstants.{KINDS}
use Rattle.l4_chart.specs.declared.svg.TheConstants.{STYLE}

-- What each mark means.

unfoldable pub legend_of : (class outline meaning : List ℕ) → List ℕ
legend_of class outline meaning =
    codes "<li><svg width=\"18\" height=\"18\" viewBox=\"-9 -9 18 18\"><path class=\""
    ++ class ++ codes "\" d=\"M0 0" ++ outline ++ codes "\"/></svg>"
    ++ meaning ++ codes "</li>\n"

abbrev pub legend : Kind → List ℕ
legend kind = legend_of (class_of kind) (outline_of kind) (meaning_of kind)

unfoldable pub arrow_legend : List ℕ
arrow_legend =
    codes "<ul>\n<li><svg width=\"36\" height=\"18\" viewBox=\"0 -9 36 18\">"
    ++ codes "<path class=\"arrow\" d=\"M2 0H34M26-5L34 0L26 5\"/></svg>a delivery</li>\n"

unfoldable pub open_legend : List ℕ
open_legend =
    codes "<li><svg width=\"36\" height=\"18\" viewBox=\"0 -9 36 18\">"
    ++ codes "<path class=\"open\" d=\"M2 0H22\"/><path class=\"lost\" d=\"M22-5L32 0L22 5z\"/>"
    ++ codes "</svg>a send that has not arrived</li>\n"

unfoldable pub wait_legend : List ℕ
wait_legend =
    codes "<li><svg width=\"18\" height=\"18\" viewBox=\"-9 -9 18 18\">"
    ++ codes "<path class=\"thread\" d=\"M0-9V9\"/><path class=\"waits\" d=\"M0-9V9\"/></svg>"
    ++ codes "a thread waits</li>\n"

unfoldable pub clock_legend : List ℕ
clock_legend =
    codes "<li><svg width=\"36\" height=\"18\" viewBox=\"0 -9 36 18\">"
    ++ codes "<path class=\"clock\" d=\"M2 0H34\"/></svg>a clock advances, in microseconds</li>\n"
    ++ codes "</ul>\n"

unfoldable pub kinds_legend : List ℕ
kinds_legend = flat_map legend KINDS

abbrev pub legends : List ℕ
legends = arrow_legend ++ kinds_legend ++ open_legend ++ wait_legend ++ clock_legend

-- How many deliveries a chart shows.

abbrev pub is_arrow : Mark → Bool
is_arrow (Arrow sender receiver) = true
is_arrow _ = false

abbrev pub deliveries_in : List Told → ℕ
deliveries_in rows = count_by (λ (row : Told). is_arrow (mark_of row.step)) rows

unfoldable pub page_begin : (steps deliveries : ℕ) → List ℕ
page_begin steps deliveries =
    codes "<!DOCTYPE html>\n<html lang=\"en\">\n<head>\n<meta charset=\"utf-8\">\n"
    ++ codes "<meta name=\"viewport\" content=\"width=device-width,initial-scale=1\">\n"
    ++ codes "<title>l4run chart</title>\n<style>\n" ++ PAGE_STYLE.now ++ STYLE.now
    ++ codes "</style>\n</head>\n<body>\n<h1>Chart of a trace</h1>\n<p>Steps: " ++ decimal steps
    ++ codes ". Deliveries: " ++ decimal deliveries ++ codes ".</p>\n"

-- The heading of the picture stays in sight, so it is a picture of its own.

unfoldable pub heading_begin : (width : ℕ) → List ℕ
heading_begin width =
    codes "<svg class=\"heading\" width=\"" ++ decimal width
    ++ codes "\" height=\"56\" viewBox=\"0 0 " ++ decimal width
    ++ codes " 56\">\n<rect class=\"paper\" width=\"" ++ decimal width
    ++ codes "\" height=\"56\"/>\n"

abbrev pub heading_picture : Scene → Drawn → List ℕ
heading_picture s chart =
    heading_begin (width_of s) ++ columns_picture s chart.columns ++ codes "</svg>\n"

unfoldable pub body_begin : (width height : ℕ) → List ℕ
body_begin width height =
    codes "<svg class=\"rows\" width=\"" ++ decimal width
    ++ codes "\" height=\"" ++ decimal height
    ++ codes "\" viewBox=\"0 56 " ++ decimal width ++ codes " " ++ decimal height
    ++ codes "\">\n<rect class=\"paper\" y=\"56\" width=\"" ++ decimal width
    ++ codes "\" height=\"" ++ decimal height ++ codes "\"/>\n"

abbrev pub body_picture : Scene → Drawn → List ℕ
body_picture s chart =
    body_begin (width_of s) (sum (height_of s - 56) 8) ++ columns_picture s chart.columns
    ++ rows_picture s chart ++ codes "</svg>\n"

abbrev pub page_in : Scene → Drawn → List ℕ
page_in s chart =
    page_begin (length chart.rows) (deliveries_in chart.rows) ++ legends
    ++ codes "<div class=\"chart\">\n" ++ heading_picture s chart ++ body_picture s chart
    ++ codes "</div>\n</body>\n</html>\n"

abbrev pub page_of : Drawn → List ℕ
page_of chart = page_in (scene_in chart) chart
