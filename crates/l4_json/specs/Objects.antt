-- Objects of texts and of rows of texts, as JSON has them.
use Rattle.std.specs.Prelude.{ℕ, List, [], ◌∷◌, ◌++◌, codes, flat_map}
use Rattle.json.specs.Json.{Json, string, array, object, Items, no_items, item, Members, no_members, member}
use Rattle.json.specs.Print.{quoted}

-- What stands under a key: a text, or a row of texts.
pub data Value : Type 0 where
  One : List ℕ → Value
  Many : List (List ℕ) → Value

-- Texts behind another one in a row.
abbrev pub behind_text : List (List ℕ) → List ℕ
behind_text texts = flat_map (λ text. codes "," ++ quoted text) texts

abbrev pub row_text : List (List ℕ) → List ℕ
row_text [] = codes "[]"
row_text (text ∷ others) = codes "[" ++ quoted text ++ behind_text others ++ codes "]"

abbrev pub value_text : Value → List ℕ
value_text (One text) = quoted text
value_text (Many texts) = row_text texts

-- A key and its value, behind another.
abbrev pub member_text : List ℕ × Value → List ℕ
member_text m = codes "," ++ quoted m.0 ++ codes ":" ++ value_text m.1

-- The text of an object. Its first member tells of which kind it is.
abbrev pub object_text : (kind : List ℕ) → List (List ℕ × Value) → List ℕ
object_text kind members =
    codes "{" ++ quoted (codes "kind") ++ codes ":" ++ quoted kind ++ flat_map member_text members
    ++ codes "}"

-- What such a text says, by the grammar of JSON.

abbrev pub items_of : List (List ℕ) → Items
items_of [] = no_items
items_of (text ∷ others) = item (string text) (items_of others)

abbrev pub json_of_value : Value → Json
json_of_value (One text) = string text
json_of_value (Many texts) = array (items_of texts)

abbrev pub members_of : List (List ℕ × Value) → Members
members_of [] = no_members
members_of (m ∷ others) = member m.0 (json_of_value m.1) (members_of others)

abbrev pub json_of : (kind : List ℕ) → List (List ℕ × Value) → Json
json_of kind members = object (member (codes "kind") (string kind) (members_of members))
