-- What the words of a line are told as.
use Rattle.std.specs.Prelude.{ℕ, ◌-◌, ◌==◌, ◌&&◌, Bool, true, false, nat_lt, Option, Some, None, unwrap_or, find, List, [], ◌∷◌, ◌++◌, codes, length, slice_index, take}
use Rattle.std.specs.List.{join_with_byte}
use Rattle.std.specs.Str.{bytes_eq}
use Rattle.json.specs.Json.{Json, string, array, object, Items, no_items, item, Members, member}
use Rattle.l4_json.specs.Objects.{Value, One, Many}

-- A part of a line: a very word, which is not told; a word that is told under a key; a word that a
-- colon ends, told without that; all words that follow, told as a row; all that follows, told as
-- one text.
pub data Part : Type 0 where
  Label : (word : List ℕ) → Part
  Word : (key : List ℕ) → Part
  Ended : (key : List ℕ) → Part
  Words : (key : List ℕ) → Part
  Text : (key : List ℕ) → Part

-- A kind of lines: its name, and the parts of such a line.
pub record Row : Type 0 where
  pub kind : List ℕ
  pub parts : List Part

abbrev pub row : (kind : List ℕ) → List Part → Row
row kind parts = record { kind = kind; parts = parts }

-- The kinds of lines that are known. Of two that a line fits, the first is its kind.
abbrev pub rows : List Row
rows =
    row (codes "local") (Label (codes "local") ∷ Word (codes "thread") ∷ [])
    ∷ row (codes "begin") (Label (codes "begin") ∷ Word (codes "send") ∷ [])
    ∷ row (codes "queue") (Label (codes "queue") ∷ Word (codes "send") ∷ [])
    ∷ row (codes "deliver") (Label (codes "deliver") ∷ Word (codes "send") ∷ Word (codes "receiver") ∷ Word (codes "shown") ∷ Word (codes "actual") ∷ Word (codes "tag") ∷ Words (codes "words") ∷ [])
    ∷ row (codes "wait") (Label (codes "wait") ∷ Word (codes "thread") ∷ [])
    ∷ row (codes "stimeout") (Label (codes "stimeout") ∷ Word (codes "send") ∷ [])
    ∷ row (codes "rtimeout") (Label (codes "rtimeout") ∷ Word (codes "thread") ∷ [])
    ∷ row (codes "snobody") (Label (codes "snobody") ∷ Word (codes "send") ∷ [])
    ∷ row (codes "rnobody") (Label (codes "rnobody") ∷ Word (codes "thread") ∷ [])
    ∷ row (codes "scancel") (Label (codes "scancel") ∷ Word (codes "send") ∷ [])
    ∷ row (codes "rcancel") (Label (codes "rcancel") ∷ Word (codes "thread") ∷ [])
    ∷ row (codes "drop") (Label (codes "drop") ∷ Word (codes "send") ∷ [])
    ∷ row (codes "order") (Label (codes "order") ∷ Word (codes "caller") ∷ Word (codes "target") ∷ Word (codes "what") ∷ [])
    ∷ row (codes "obey") (Label (codes "obey") ∷ Word (codes "thread") ∷ [])
    ∷ row (codes "tick") (Label (codes "tick") ∷ Word (codes "cpu") ∷ Word (codes "clock") ∷ [])
    ∷ row (codes "retarget") (Label (codes "retarget") ∷ Word (codes "send") ∷ [])
    ∷ row (codes "thread") (Label (codes "thread") ∷ Word (codes "thread") ∷ Word (codes "state") ∷ Word (codes "code") ∷ Word (codes "from") ∷ Word (codes "actual") ∷ Words (codes "registers") ∷ [])
    ∷ row (codes "waiting") (Label (codes "waiting") ∷ Word (codes "send") ∷ Word (codes "to") ∷ [])
    ∷ row (codes "quiet") (Label (codes "ending") ∷ Label (codes "quiet") ∷ [])
    ∷ row (codes "spent") (Label (codes "ending") ∷ Label (codes "spent") ∷ [])
    ∷ row (codes "waits") (Label (codes "waits") ∷ Word (codes "thread") ∷ Word (codes "for") ∷ Word (codes "phase") ∷ [])
    ∷ row (codes "circle") (Label (codes "circle") ∷ Words (codes "threads") ∷ [])
    ∷ row (codes "deadlock") (Label (codes "deadlock") ∷ Words (codes "threads") ∷ [])
    ∷ row (codes "held") (Label (codes "held") ∷ Word (codes "send") ∷ [])
    ∷ row (codes "counts") (Label (codes "counts") ∷ Word (codes "thread") ∷ Label (codes "turns") ∷ Word (codes "turns") ∷ Label (codes "sends") ∷ Word (codes "sends") ∷ Label (codes "delivered") ∷ Word (codes "delivered") ∷ Label (codes "received") ∷ Word (codes "received") ∷ Label (codes "refused") ∷ Words (codes "refused") ∷ [])
    ∷ row (codes "passed") (Label (codes "passed") ∷ Word (codes "steps") ∷ Word (codes "ending") ∷ [])
    ∷ row (codes "because") (Label (codes "because") ∷ Text (codes "cause") ∷ [])
    ∷ row (codes "possible") (Label (codes "possible") ∷ Text (codes "step") ∷ [])
    ∷ row (codes "ending") (Label (codes "ending") ∷ Word (codes "ending") ∷ Label (codes "steps") ∷ Word (codes "steps") ∷ [])
    ∷ row (codes "placed") (Label (codes "ending") ∷ Word (codes "ending") ∷ Words (codes "schedule") ∷ [])
    ∷ row (codes "worlds") (Label (codes "worlds") ∷ Word (codes "worlds") ∷ Label (codes "steps") ∷ Word (codes "steps") ∷ Word (codes "search") ∷ [])
    ∷ row (codes "states") (Label (codes "states") ∷ Word (codes "states") ∷ Label (codes "depth") ∷ Word (codes "depth") ∷ Text (codes "search") ∷ [])
    ∷ row (codes "endless") (Label (codes "no") ∷ Label (codes "ending:") ∷ Label (codes "it") ∷ Label (codes "goes") ∷ Label (codes "on") ∷ Label (codes "for") ∷ Label (codes "ever") ∷ [])
    ∷ row (codes "walked") (Label (codes "found") ∷ Label (codes "by") ∷ Label (codes "a") ∷ Label (codes "walk,") ∷ Label (codes "perhaps") ∷ Label (codes "not") ∷ Label (codes "the") ∷ Label (codes "shortest;") ∷ Label (codes "no") ∷ Label (codes "others") ∷ Label (codes "were") ∷ Label (codes "looked") ∷ Label (codes "for") ∷ [])
    ∷ row (codes "met") (Label (codes "met,") ∷ Label (codes "steps") ∷ Word (codes "steps") ∷ [])
    ∷ row (codes "met_or_fewer") (Label (codes "met,") ∷ Label (codes "steps") ∷ Word (codes "steps") ∷ Label (codes "or") ∷ Label (codes "fewer") ∷ [])
    ∷ row (codes "never_met") (Label (codes "never") ∷ Label (codes "met") ∷ [])
    ∷ row (codes "not_met") (Label (codes "not") ∷ Label (codes "met:") ∷ Label (codes "cut") ∷ [])
    ∷ row (codes "stuck") (Label (codes "stuck") ∷ Word (codes "thread") ∷ Label (codes "for") ∷ Label (codes "ever,") ∷ Label (codes "steps") ∷ Word (codes "steps") ∷ [])
    ∷ row (codes "cut") (Label (codes "stuck") ∷ Label (codes "for") ∷ Label (codes "ever:") ∷ Label (codes "cut") ∷ [])
    ∷ row (codes "next") (Label (codes "next") ∷ Word (codes "item") ∷ [])
    ∷ row (codes "item") (Label (codes "schedule") ∷ Label (codes "item") ∷ Ended (codes "item") ∷ Text (codes "text") ∷ [])
    ∷ row (codes "lint") (Label (codes "line") ∷ Word (codes "line") ∷ Label (codes "column") ∷ Ended (codes "column") ∷ Text (codes "text") ∷ [])
    ∷ []

-- A line of no such kind is told whole.
abbrev pub plain_row : Row
plain_row = row (codes "text") (Text (codes "text") ∷ [])

-- A word that a colon ends, byte 58.
abbrev pub is_ended : List ℕ → Bool
is_ended word = nat_lt 0 (length word) && slice_index word (length word - 1) == 58

abbrev pub without_end : List ℕ → List ℕ
without_end word = take (length word - 1) word

-- Whether the words of a line are these parts.
abbrev pub fits : List Part → (words : List (List ℕ)) → Bool
fits [] [] = true
fits [] (word ∷ words) = false
fits (Label label ∷ parts) [] = false
fits (Label label ∷ parts) (word ∷ words) = bytes_eq word label && fits parts words
fits (Word key ∷ parts) [] = false
fits (Word key ∷ parts) (word ∷ words) = fits parts words
fits (Ended key ∷ parts) [] = false
fits (Ended key ∷ parts) (word ∷ words) = is_ended word && fits parts words
fits (Words key ∷ parts) words = true
fits (Text key ∷ parts) [] = false
fits (Text key ∷ parts) (word ∷ words) = true

-- What words are told as, by their parts.
abbrev pub told : List Part → (words : List (List ℕ)) → List (List ℕ × Value)
told [] words = []
told (Label label ∷ parts) [] = []
told (Label label ∷ parts) (word ∷ words) = told parts words
told (Word key ∷ parts) [] = []
told (Word key ∷ parts) (word ∷ words) = (key, One word) ∷ told parts words
told (Ended key ∷ parts) [] = []
told (Ended key ∷ parts) (word ∷ words) = (key, One (without_end word)) ∷ told parts words
told (Words key ∷ parts) words = (key, Many words) ∷ []
told (Text key ∷ parts) [] = []
told (Text key ∷ parts) (word ∷ words) = (key, One (join_with_byte 32 (word ∷ words))) ∷ []

-- The first row that the words of a line fit, or else one of the whole line.
abbrev pub row_of : (words : List (List ℕ)) → Row
row_of words = unwrap_or (find (λ row. fits row.parts words) rows) plain_row

-- What is told, read back

abbrev pub texts_in : Items → List (List ℕ)
texts_in no_items = []
texts_in (item (string text) others) = text ∷ texts_in others
texts_in (item other others) = texts_in others

-- The words that members tell, by their parts.
abbrev pub said : List Part → Members → List (List ℕ)
said [] rest = []
said (Label label ∷ parts) rest = label ∷ said parts rest
said (Word key ∷ parts) (member _ (string word) rest) = word ∷ said parts rest
said (Word key ∷ parts) rest = []
said (Ended key ∷ parts) (member _ (string word) rest) =
    (word ++ 58 ∷ []) ∷ said parts rest
said (Ended key ∷ parts) rest = []
said (Words key ∷ parts) (member _ (array texts) rest) = texts_in texts
said (Words key ∷ parts) rest = []
said (Text key ∷ parts) (member _ (string text) rest) = text ∷ []
said (Text key ∷ parts) rest = []

-- The row of this kind.
abbrev pub row_named : (kind : List ℕ) → Option Row
row_named kind = find (λ row. bytes_eq row.kind kind) (plain_row ∷ rows)

abbrev pub said_by : Option Row → Members → Option (List ℕ)
said_by None rest = None
said_by (Some row) rest = Some (join_with_byte 32 (said row.parts rest))

-- The line that an object tells.
abbrev pub line_in : Json → Option (List ℕ)
line_in (object (member _ (string kind) rest)) = said_by (row_named kind) rest
line_in _ = None
