-- What is drawn of a chart in each form.
use Rattle.std.specs.Prelude.{◌≡◌, ℕ, List}
use Rattle.l4_chart.specs.Charts.{Drawn}
use Rattle.l4_chart.specs.Diagrams.{diagram_of}
use Rattle.l4_chart.specs.Pages.{page_of}
use Rattle.l4_chart.specs.Pictures.{picture_of}
use Rattle.l4_chart.specs.Texts.{text_of}
use Rattle.l4_chart.specs.declared.drawing.Form.{Form}
use Rattle.l4_chart.specs.declared.drawing.Form.TheVariants.{Lines, Ascii, Svg, Html, Mermaid}
use Rattle.l4_chart.specs.declared.glyphs.TheConstants.{LINES, ASCII}

-- Each drawing is said byte for byte.
abbrev pub drawing_of : Form → (width : ℕ) → Drawn → List ℕ
drawing_of Lines width chart = text_of LINES width chart
drawing_of Ascii width chart = text_of ASCII width chart
drawing_of Svg width chart = picture_of chart
drawing_of Html width chart = page_of chart
drawing_of Mermaid width chart = diagram_of chart

abbrev pub IsDrawing : Form → (width : ℕ) → Drawn → (drawing : List ℕ) → Type 0
IsDrawing form width chart drawing = drawing ≡ drawing_of form width chart
