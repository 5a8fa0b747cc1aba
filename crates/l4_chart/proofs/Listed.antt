-- The lines of a text, one by one; and the chart of all of a history.
use Rattle.std.proofs.Common.{◌≡◌, ℕ, ◌<◌, false, None, List, [], ◌∷◌, length, refl, ap, ◌∙◌, arith}
use Rattle.std.specs.Prelude.{◌==◌}
use Rattle.std.proofs.lemmas.List.Splits.{length-slice_split}
use Rattle.l4_model.specs.Machine.{Machine}
use Rattle.l4_model.specs.Steps.{Step}
use Rattle.l4_words.specs.Lines.{parts_of}
use Rattle.l4_json.specs.Lines.{all_but_last}
use Rattle.l4_chart.specs.Charts.{Drawn, chart_of}
use Rattle.l4_chart.specs.Listings.{Listing}
use Rattle.l4_chart.specs.Texts.{text_of}
use Rattle.l4_chart.specs.Whole.{glyphs_of, whole_text}
use Rattle.l4_chart.specs.Windows.{Part}
use Rattle.l4_chart.specs.declared.glyphs.Glyphs.{Glyphs}
use Rattle.l4_chart.specs.declared.whole.TextForm.{TextForm}

but_first : (part : List ℕ) (parts : List (List ℕ)) → 0 < length parts → all_but_last (part ∷ parts) ≡ part ∷ all_but_last parts
but_first part [] some = absurd (omega arith)
but_first part (next ∷ parts) some = refl

pub but_first_line : (text line rest : List ℕ) → parts_of text ≡ line ∷ parts_of rest → all_but_last (parts_of text) ≡ line ∷ all_but_last (parts_of rest)
but_first_line text line rest e =
    ap all_but_last e ∙ but_first line (parts_of rest) (omega (arith, length-slice_split (λ byte. byte == 10) rest))

pub whole_is : (m : Machine) (listing : Listing) (h : List Step) (form : TextForm) (g : Glyphs) (drawn : Drawn) (part : Part) (n : ℕ) (text : List ℕ) → n ≡ length h →
    part ≡ record { first = 1; last = n; threads = None; registers = form.has_registers; folds = false } → g ≡ glyphs_of form → drawn ≡ chart_of m listing part h → text ≡ text_of g form.width drawn →
    text ≡ whole_text m listing h form
whole_is m listing h form g drawn part n text count window glyphs chart is =
    is ∙ ap (λ x. text_of x form.width drawn) glyphs
    ∙ ap (text_of (glyphs_of form) form.width)
    (chart ∙ ap (λ (p : Part). chart_of m listing p h) (window ∙ ap (λ (k : ℕ). record { first = 1; last = k; threads = None; registers = form.has_registers; folds = false }) count))
