-- What the turns of a text are, and how many.
use Rattle.std.proofs.Common.{◌≡◌, ℕ, suc, ◌+◌, ◌*◌, ◌<◌, ◌≤◌, Bool, true, false, ◌&&◌, List, [], ◌∷◌, ◌++◌, length, take, drop, Option, Some, None, Result, Ok, Err, nat_lt, All, subst, refl, arith}
use Rattle.std.specs.Char.{is_ascii_digit}
use Rattle.std.specs.List.{list_all, position}
use Rattle.std.specs.Option.{IfSome, option_map, option_and_then}
use Rattle.std.specs.Result.{IfOk}
use Rattle.std.specs.Prelude.{if◌then◌else◌, ◌==◌}
use Rattle.std.proofs.lemmas.List.{length-append, length-replicate}
use Rattle.std.proofs.lemmas.List.Elements.{All-append, All-replicate}
use Rattle.std.proofs.lemmas.Bool.{ltb-true}
use Rattle.grid_order.specs.declared.order.Item.{Item}
use Rattle.grid_order.specs.Item.{decimal, number_below, times_limit, once, repeated, item_at, item_of}
use Rattle.grid_order.specs.Reading.{Word, is_gap, grown, ended, words_after, turns_at, read_word, read_words, followed_by, reading}

-- ---- numbers and items
chosen : (limit n : ℕ) (a b : Bool) → IfSome (if a && b && nat_lt n limit then Some n else None) (λ number. number < limit)
chosen limit n false b = tt
chosen limit n true false = tt
chosen limit n true true = last (nat_lt n limit) refl where
  last : (b : Bool) → nat_lt n limit ≡ b → IfSome (if b then Some n else None) (λ number. number < limit)
  last true e = ltb-true n limit e
  last false e = tt

below : (limit : ℕ) (word : List ℕ) → IfSome (number_below limit word) (λ number. number < limit)
unfolding number_below
below limit word = chosen limit (decimal word) (nat_lt 0 (length word)) (list_all is_ascii_digit word)

-- an item of so many processors
record IsItem (count : ℕ) (item : Item) : Type 0 where
  pub there : item.processor < count
  pub few : item.times < times_limit

once_is : (count : ℕ) (p : Option ℕ) → IfSome p (λ number. number < count) → IfSome (option_map once p) (IsItem count)
once_is count None h = tt
once_is count (Some p) h = record { there = h; few = omega arith }

repeated_is : (count : ℕ) (p k : Option ℕ) → IfSome p (λ number. number < count) → IfSome k (λ number. number < times_limit)
    → IfSome (option_and_then (λ processor. option_map (repeated processor) k) p) (IsItem count)
repeated_is count None k h g = tt
repeated_is count (Some p) None h g = tt
repeated_is count (Some p) (Some k) h g = record { there = h; few = g }

item_at-is : (count : ℕ) (word : List ℕ) (x : Option ℕ) → IfSome (item_at count word x) (IsItem count)
item_at-is count word None = once_is count (number_below count word) (below count word)
item_at-is count word (Some x) =
    repeated_is count (number_below count (take x word)) (number_below times_limit (drop (x + 1) word))
    (below count (take x word)) (below times_limit (drop (x + 1) word))

item_of-is : (count : ℕ) (word : List ℕ) → IfSome (item_of count word) (IsItem count)
unfolding item_of
item_of-is count word = item_at-is count word (position (λ byte. byte == 120) word)

-- ---- turns of processors, at most a million for each byte
record AreFew (count bytes : ℕ) (turns : List ℕ) : Type 0 where
  pub below : All (λ p. p < count) turns
  pub few : length turns ≤ 1000000 * bytes

turns_at-few : (count from more : ℕ) (item : Option Item) → IfSome item (IsItem count) → IfOk (turns_at from item) (AreFew count (suc more))
turns_at-few count from more None h = tt
turns_at-few count from more (Some item) h = record {
  below = All-replicate (λ p. p < count) item.times item.processor h.there;
  few = omega (arith, length-replicate item.times item.processor, h.few);
}

nothing_few : (count bytes : ℕ) → AreFew count bytes []
nothing_few count bytes = record { below = λ k d h. absurd (omega arith); few = omega arith }

word_few : (count from : ℕ) (bytes : List ℕ) → IfOk (read_word count from bytes) (AreFew count (length bytes))
word_few count from [] = nothing_few count 0
word_few count from (byte ∷ bytes) =
    turns_at-few count from (length bytes) (item_of count (byte ∷ bytes)) (item_of-is count (byte ∷ bytes))

joined_few : (count m n : ℕ) (a b : Result (List ℕ) ℕ) → IfOk a (AreFew count m) → IfOk b (AreFew count n)
    → IfOk (followed_by a b) (AreFew count (m + n))
joined_few count m n (Err at) b h g = tt
joined_few count m n (Ok xs) (Err at) h g = tt
joined_few count m n (Ok xs) (Ok ys) h g = record {
  below = All-append (λ p. p < count) xs ys h.below g.below;
  few = omega (arith, length-append xs ys, h.few, g.few);
}

-- how many bytes the words have
abbrev bytes_of : List Word → ℕ
bytes_of [] = 0
bytes_of (word ∷ words) = length word.bytes + bytes_of words

words_few : (count : ℕ) (words : List Word) → IfOk (read_words count words) (AreFew count (bytes_of words))
words_few count [] = nothing_few count 0
words_few count (word ∷ words) =
    joined_few count (length word.bytes) (bytes_of words)
    (read_word count word.from word.bytes) (read_words count words) (word_few count word.from word.bytes) (words_few count words)

-- the words of a text have no more bytes than it has
words_step : (b : Bool) (word : Word) (byte : ℕ) (text : List ℕ)
    → ((one : Word) → bytes_of (words_after one text) ≤ length one.bytes + length text)
    → bytes_of (ended b word ++ words_after (grown b word byte) text) ≤ length word.bytes + suc (length text)
words_step true word byte text more =
    let next : Word = record { from = word.from + length word.bytes + 1; bytes = [] } in
    let rest : bytes_of (words_after next text) ≤ 0 + length text = more next in
    omega (arith, rest)
words_step false word byte text more =
    let next : Word = record word { bytes = word.bytes ++ byte ∷ [] } in
    let rest : bytes_of (words_after next text) ≤ length (word.bytes ++ byte ∷ []) + length text = more next in
    omega (arith, rest, length-append word.bytes (byte ∷ []))

words_within : (word : Word) (text : List ℕ) → bytes_of (words_after word text) ≤ length word.bytes + length text
words_within word [] = omega arith
words_within word (byte ∷ text) = words_step (is_gap byte) word byte text (λ one. words_within one text)

more_room : (count m n : ℕ) (a : Result (List ℕ) ℕ) → m ≤ n → IfOk a (AreFew count m) → IfOk a (AreFew count n)
more_room count m n (Err at) le h = tt
more_room count m n (Ok xs) le h = record { below = h.below; few = omega (arith, h.few) }

reading_few : (count : ℕ) (text : List ℕ) → IfOk (reading count text) (AreFew count (length text))
reading_few count text =
    let start : Word = record { from = 0; bytes = [] } in
    more_room count (bytes_of (words_after start text)) (length text) (reading count text)
    (omega (arith, words_within start text)) (words_few count (words_after start text))

pub order_below : (count : ℕ) (text order : List ℕ) → reading count text ≡ Ok order → All (λ p. p < count) order
order_below count text order e = (subst (λ turns. IfOk turns (AreFew count (length text))) e (reading_few count text)).below

pub order_few : (count : ℕ) (text order : List ℕ) → reading count text ≡ Ok order → length order ≤ 1000000 * length text
order_few count text order e = (subst (λ turns. IfOk turns (AreFew count (length text))) e (reading_few count text)).few
