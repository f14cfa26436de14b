-- The list of turns that a text stands for.
--
--   is_gap     a byte between items: space, tab, newline, carriage return
--   words_of   the words of a text, which are what stands between gaps, also where that is nothing
--   reading    the turns of all words, one after another; or the offset of the first word that
--              isn't empty and is no item
use Rattle.std.specs.Prelude.{ℕ, ◌+◌, ◌==◌, ◌||◌, Bool, true, false, List, [], ◌∷◌, ◌++◌, length, Option, Some, None, Result, Ok, Err}
use Rattle.grid_order.specs.declared.order.Item.{Item}
use Rattle.grid_order.specs.Item.{item_of, turns_of}

-- ---- words
abbrev pub is_gap : ℕ → Bool
is_gap byte = byte == 32 || byte == 9 || byte == 10 || byte == 13

-- a word, and the offset at which it begins
pub record Word : Type 0 where
  pub from : ℕ
  pub bytes : List ℕ

-- the word that goes on behind a byte: behind a gap another one begins
abbrev pub grown : Bool → Word → ℕ → Word
grown true word byte = record { from = word.from + length word.bytes + 1; bytes = [] }
grown false word byte = record word { bytes = word.bytes ++ byte ∷ [] }

-- the word that ends before a byte: only a gap ends one
abbrev pub ended : Bool → Word → List Word
ended true word = word ∷ []
ended false word = []

-- the words of a text, of which the first one has begun before the text
abbrev pub words_after : Word → List ℕ → List Word
words_after word [] = word ∷ []
words_after word (byte ∷ text) = ended (is_gap byte) word ++ words_after (grown (is_gap byte) word byte) text

abbrev pub words_of : List ℕ → List Word
words_of text = words_after (record { from = 0; bytes = [] }) text

-- ---- turns
-- the turns of what was read at an offset, if it was an item
abbrev pub turns_at : ℕ → Option Item → Result (List ℕ) ℕ
turns_at from (Some item) = Ok (turns_of item)
turns_at from None = Err from

-- the turns of a word at an offset; an empty one has none
abbrev pub read_word : ℕ → ℕ → List ℕ → Result (List ℕ) ℕ
read_word count from [] = Ok []
read_word count from (byte ∷ bytes) = turns_at from (item_of count (byte ∷ bytes))

-- turns and then more of them; of two wrong places the first
abbrev pub followed_by : Result (List ℕ) ℕ → Result (List ℕ) ℕ → Result (List ℕ) ℕ
followed_by (Ok turns) (Ok more) = Ok (turns ++ more)
followed_by (Ok turns) (Err at) = Err at
followed_by (Err at) rest = Err at

abbrev pub read_words : ℕ → List Word → Result (List ℕ) ℕ
read_words count [] = Ok []
read_words count (word ∷ words) = followed_by (read_word count word.from word.bytes) (read_words count words)

-- what a text stands for, where there are so many processors
abbrev pub reading : ℕ → List ℕ → Result (List ℕ) ℕ
reading count text = read_words count (words_of text)
