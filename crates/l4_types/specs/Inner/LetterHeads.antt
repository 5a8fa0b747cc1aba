-- A letter of the program as one of the core run. Its words may lie elsewhere.
use Rattle.std.specs.Prelude.{ℕ, ◌+◌, ◌%◌, ◌==◌, List, [], ◌∷◌, take, drop}
use Rattle.l4_model.specs.World.{Message}
use Rattle.l4_core_model.specs.Letters as letters
use Rattle.l4_types.specs.declared.letters.Content.{Content}
use Rattle.l4_types.specs.declared.letters.Content.TheVariants.{Send, Done, Withdraw, Gone, Order, OrderDone, Retarget}
use Rattle.l4_types.specs.declared.letters.LetterHead.{LetterHead}
use Rattle.l4_types.specs.declared.message_ref.MessageHead.{MessageHead}
use Rattle.l4_types.specs.Inner.LetterView.{cause_of_withdrawal, decision_of}
use Rattle.l4_types.specs.Inner.OwedView.{owed_of}
use Rattle.l4_types.specs.StepView.{order_kind_of}

-- The message of a head that has these words.
abbrev pub message_with : List ℕ → MessageHead → Message
message_with words h = record {
  label = h.tag.label;
  words = words;
  propagated = h.tag.flags % 2 == 1;
  shown = h.shown;
  actual = h.actual;
}

abbrev pub content_with : List ℕ → Content → letters.Content
content_with words (Send name receiver message zero_timeout) =
    letters.SendLetter name receiver (message_with words message) zero_timeout
content_with words (Done name decision) = letters.DoneLetter name (decision_of decision)
content_with words (Withdraw name receiver cause) = letters.WithdrawLetter name receiver
    (cause_of_withdrawal cause)
content_with words (Gone id) = letters.GoneLetter id
content_with words (Order caller target what) = letters.OrderLetter caller target
    (order_kind_of what)
content_with words (OrderDone caller) = letters.OrderDoneLetter caller
content_with words (Retarget o) = letters.RetargetLetter (owed_of o)

abbrev pub letter_with : List ℕ → LetterHead → letters.Letter
letter_with words h = record { stamp = h.stamp; content = content_with words h.content }

-- How many words belong to a head: those of its message, if it has one.
abbrev pub word_count : Content → ℕ
word_count (Send name receiver message zero_timeout) = message.tag.untyped
word_count _ = 0

-- Letters whose words stand one behind another in a row, where it is known which part of an
-- element is the head, and what is made of it and its letter.
abbrev pub letters_by : {A B : Type 0} → (A → LetterHead) → (A → letters.Letter → B) →
    List A → (row : List ℕ) → List B
letters_by head seen [] row = []
letters_by head seen (a ∷ more) row =
    seen a (letter_with (take (word_count (head a).content) row) (head a)) ∷
    letters_by head seen more (drop (word_count (head a).content) row)

-- How many words they have.
abbrev pub words_by : {A : Type 0} → (A → LetterHead) → List A → ℕ
words_by head [] = 0
words_by head (a ∷ more) = word_count (head a).content + words_by head more

-- Letters alone.
abbrev pub letters_in : List LetterHead → (row : List ℕ) → List letters.Letter
letters_in ls row = letters_by (λ l. l) (λ l letter. letter) ls row

-- Letters with the processors that they go to.
abbrev pub posted_in : List (ℕ × LetterHead) → (row : List ℕ) → List (ℕ × letters.Letter)
posted_in ps row = letters_by (λ p. p.1) (λ p letter. (p.0, letter)) ps row
