use Rattle.std.proofs.Common.{◌∷◌, ◌++◌, [], ap, codes, map, sym, ◌∙◌}
use Rattle.std.specs.Prelude.{flat_map}
use Rattle.std.proofs.lemmas.Grind.{flat_map-append}
use Rattle.json.specs.Print.{quoted}
use Rattle.l4_words.specs.Words.{words_in}
use Rattle.l4_json.specs.Lines.{kind_of}
use Rattle.l4_json.specs.Objects.{One, member_text}
use Rattle.l4_json.specs.Rows.{row_of, told}
use Rattle.l4_json.specs.Inner.Views.{more_of}
use Rattle.l4_json.proofs.Texts.{assembled}
use Rattle.l4_json.proofs.lines.push_line.Goals as goal

pub returns : goal.returns
returns c =
    let out = c.args.out.now.items in
    let line = c.args.line.now in
    let words = words_in line in
    let kind = quoted (kind_of line) in
    let members = told (row_of words).parts words in
    let more = map (λ m. (m.0, One m.1)) (map more_of c.args.more.now) in
    let front = (quoted (codes "kind") ++ 58 ∷ []) ++ kind in
    assembled out _ _ _ _ _ _ _ (quoted (codes "kind")) kind (flat_map member_text members) (flat_map member_text more) c.in_ok-push.ensures.items c.in_ok-push_quoted.ensures
    c.in_ok-push-2.ensures.items
    (c.in_ok-push_quoted-2.ensures ∙ ap (λ k. c.push-2.new.self.items ++ quoted k) (c.as_bytes.ensures.value ∙ ap (λ r. r.kind) c.row_of-row.ensures))
    (c.in_ok-push_told.ensures ∙ ap (λ r. c.push_quoted-2.new.out.items ++ flat_map member_text (told r.parts words)) c.row_of-row.ensures)
    c.in_ok-push_more.ensures c.in_ok-extend_from_slice.ensures.items
    ∙ ap (λ all. (out ++ 123 ∷ ((front ++ all) ++ 125 ∷ [])) ++ 10 ∷ []) (sym (flat_map-append member_text members more))
