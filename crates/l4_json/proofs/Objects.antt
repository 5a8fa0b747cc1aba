-- The text of an object is what JSON's own printer gives, and is read back.
use Rattle.std.proofs.Common.{◌≡◌, ◌⊎◌, ℕ, suc, ◌≤◌, true, false, List, [], ◌∷◌, ◌++◌, Some, inl, inr, refl, sym, ap, subst, ◌∙◌, lit≤, append_assoc}
use Rattle.std.specs.Prelude.{codes, flat_map, max}
use Rattle.json.specs.Token.{Token}
use Rattle.json.specs.Json.{document}
use Rattle.json.specs.Print.{print, print_from, quoted}
use Rattle.json.specs.Tree.{json_tokens, items_tokens, members_tokens, depth, items_depth, members_depth, HasNumbers, ItemsHaveNumbers, MembersHaveNumbers}
use Rattle.json.proofs.Printed.Trees.{document-print}
use Rattle.l4_json.specs.Objects.{Value, One, Many, behind_text, value_text, member_text, object_text, items_of, json_of_value, members_of, json_of}

print_items : (texts : List (List ℕ)) (rest : List Token) →
    print_from true (items_tokens (items_of texts) ++ rest) ≡ behind_text texts ++ 93 ∷ print_from true rest
unfolding print_from
print_items [] rest = refl
print_items (text ∷ others) rest =
    ap (λ r. 44 ∷ (quoted text ++ r)) (print_items others rest)
    ∙ ap (λ r. 44 ∷ r) (sym (append_assoc (quoted text) (behind_text others) (93 ∷ print_from true rest)))

print_value : (v : Value) (rest : List Token) → print_from false (json_tokens (json_of_value v) ++ rest) ≡ value_text v ++ print_from true rest
unfolding print_from
print_value (One text) rest = refl
print_value (Many []) rest = refl
print_value (Many (text ∷ others)) rest =
    let behind = behind_text others in
    ap (λ r. 91 ∷ (quoted text ++ r)) (print_items others rest)
    ∙ ap (λ r. 91 ∷ r)
    (sym (append_assoc (quoted text) behind (93 ∷ print_from true rest)) ∙ sym (append_assoc (quoted text ++ behind) (93 ∷ []) (print_from true rest)))

print_members : (ms : List (List ℕ × Value)) → print_from true (members_tokens (members_of ms)) ≡ flat_map member_text ms ++ 125 ∷ []
unfolding print_from
print_members [] = refl
print_members (m ∷ others) =
    let key = quoted m.0 ++ 58 ∷ [] in
    let value = value_text m.1 in
    let behind = flat_map member_text others in
    ap (λ r. 44 ∷ (key ++ r)) (print_value m.1 (members_tokens (members_of others)) ∙ ap (λ r. value ++ r) (print_members others))
    ∙ ap (λ r. 44 ∷ r) (sym (append_assoc key value (behind ++ 125 ∷ [])) ∙ sym (append_assoc (key ++ value) behind (125 ∷ [])))

print_object : (kind : List ℕ) (ms : List (List ℕ × Value)) → print (json_tokens (json_of kind ms)) ≡ object_text kind ms
unfolding print_from
print_object kind ms =
    let key = quoted (codes "kind") ++ 58 ∷ [] in
    let behind = flat_map member_text ms in
    ap (λ r. 123 ∷ (key ++ (quoted kind ++ r))) (print_members ms)
    ∙ ap (λ r. 123 ∷ r) (sym (append_assoc key (quoted kind) (behind ++ 125 ∷ [])) ∙ sym (append_assoc (key ++ quoted kind) behind (125 ∷ [])))

items_numbers : (texts : List (List ℕ)) → ItemsHaveNumbers (items_of texts)
items_numbers [] = tt
items_numbers (text ∷ others) = (tt, items_numbers others)

value_numbers : (v : Value) → HasNumbers (json_of_value v)
value_numbers (One text) = tt
value_numbers (Many texts) = items_numbers texts

members_numbers : (ms : List (List ℕ × Value)) → MembersHaveNumbers (members_of ms)
members_numbers [] = tt
members_numbers (m ∷ others) = (value_numbers m.1, members_numbers others)

items_shallow : (texts : List (List ℕ)) → items_depth (items_of texts) ≡ 0
items_shallow [] = refl
items_shallow (text ∷ others) = ap (max 0) (items_shallow others)

abbrev IsLow : ℕ → Type 0
IsLow n = (n ≡ 0) ⊎ (n ≡ 1)

one_low : (v : Value) (n : ℕ) → IsLow n → IsLow (max (depth (json_of_value v)) n)
one_low (One text) n (inl e) = inl (ap (max 0) e)
one_low (One text) n (inr e) = inr (ap (max 0) e)
one_low (Many texts) n (inl e) = inr (ap (λ k. max (suc k) n) (items_shallow texts) ∙ ap (max 1) e)
one_low (Many texts) n (inr e) = inr (ap (λ k. max (suc k) n) (items_shallow texts) ∙ ap (max 1) e)

members_low : (ms : List (List ℕ × Value)) → IsLow (members_depth (members_of ms))
members_low [] = inl refl
members_low (m ∷ others) = one_low m.1 (members_depth (members_of others)) (members_low others)

low_enough : (n : ℕ) → IsLow n → suc (max 0 n) ≤ 128
low_enough n (inl e) = subst (λ k. suc (max 0 k) ≤ 128) (sym e) (lit≤ tt)
low_enough n (inr e) = subst (λ k. suc (max 0 k) ≤ 128) (sym e) (lit≤ tt)

pub object_read : (kind : List ℕ) (ms : List (List ℕ × Value)) → document (object_text kind ms) ≡ Some (json_of kind ms)
object_read kind ms =
    ap document (sym (print_object kind ms)) ∙ document-print (json_of kind ms) (tt, members_numbers ms) (low_enough _ (members_low ms))
