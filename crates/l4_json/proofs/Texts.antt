-- The text of an object by its pieces, and the objects of a text.
use Rattle.std.proofs.Common.{◌≡◌, ℕ, ◌<◌, List, [], ◌∷◌, ◌++◌, length, refl, sym, ap, ◌∙◌, append_assoc, arith}
use Rattle.std.specs.Prelude.{◌==◌, codes, flat_map}
use Rattle.std.proofs.lemmas.List.Splits.{length-slice_split}
use Rattle.l4_words.specs.Lines.{parts_of}
use Rattle.l4_json.specs.Lines.{all_but_last, json_text, text_of}

pub assembled : (out first key colon kind told more last q k t m : List ℕ) → first ≡ out ++ 123 ∷ [] → key ≡ first ++ q → colon ≡ key ++ 58 ∷ [] → kind ≡ colon ++ k →
    told ≡ kind ++ t → more ≡ told ++ m → last ≡ more ++ 125 ∷ 10 ∷ [] → last ≡ (out ++ 123 ∷ ((((q ++ 58 ∷ []) ++ k) ++ (t ++ m)) ++ 125 ∷ [])) ++ 10 ∷ []
assembled out first key colon kind told more last q k t m e1 e2 e3 e4 e5 e6 e7 =
    let front = (q ++ 58 ∷ []) ++ k in
    let all = front ++ (t ++ m) in
    let to_key = e2 ∙ ap (λ x. x ++ q) e1 ∙ append_assoc out (123 ∷ []) q in
    let to_colon = e3 ∙ ap (λ x. x ++ 58 ∷ []) to_key ∙ append_assoc out (123 ∷ q) (58 ∷ []) in
    let to_kind = e4 ∙ ap (λ x. x ++ k) to_colon ∙ append_assoc out (123 ∷ (q ++ 58 ∷ [])) k in
    let to_more = e6 ∙ ap (λ x. x ++ m) (e5 ∙ ap (λ x. x ++ t) to_kind) ∙ append_assoc (out ++ 123 ∷ front) t m ∙ append_assoc out (123 ∷ front) (t ++ m) in
    e7 ∙ ap (λ x. x ++ 125 ∷ 10 ∷ []) to_more
    ∙ sym (append_assoc (out ++ 123 ∷ all) (125 ∷ []) (10 ∷ []))
    ∙ ap (λ x. x ++ 10 ∷ []) (append_assoc out (123 ∷ all) (125 ∷ []))

but_first : (part : List ℕ) (parts : List (List ℕ)) → 0 < length parts → all_but_last (part ∷ parts) ≡ part ∷ all_but_last parts
but_first part [] some = absurd (omega arith)
but_first part (next ∷ parts) some = refl

pub but_first_line : (text line rest : List ℕ) → parts_of text ≡ line ∷ parts_of rest → all_but_last (parts_of text) ≡ line ∷ all_but_last (parts_of rest)
but_first_line text line rest e =
    ap all_but_last e ∙ but_first line (parts_of rest) (omega (arith, length-slice_split (λ byte. byte == 10) rest))

first_line : (text line rest : List ℕ) → parts_of text ≡ line ∷ parts_of rest → json_text text ≡ (text_of line [] ++ codes "\n") ++ json_text rest
first_line text line rest e = ap (flat_map (λ l. text_of l [] ++ codes "\n")) (but_first_line text line rest e)

pub next_line : (out new text line rest all : List ℕ) → new ≡ out ++ text_of line [] ++ codes "\n" → parts_of text ≡ line ∷ parts_of rest → out ++ json_text text ≡ all →
    new ++ json_text rest ≡ all
next_line out new text line rest all step parts before =
    ap (λ x. x ++ json_text rest) (step ∙ append_assoc out (text_of line []) (codes "\n"))
    ∙ append_assoc out (text_of line [] ++ codes "\n") (json_text rest)
    ∙ ap (λ x. out ++ x) (sym (first_line text line rest parts))
    ∙ before
