-- What words set, computed from the words.
use Rattle.std.specs.Prelude.{ℕ, nat_eq, if◌then◌else◌, List, [], ◌∷◌, codes, take, drop, flat_map, Option, Some, None}
use Rattle.std.specs.List.{prefix_len, starts_with}
use Rattle.zpl_text.specs.Bytes.{is_word_byte}
use Rattle.zpl_claims.specs.of_zpl_binding.Settings.{Setting}

-- what stands before `:=` and behind it, where the rest begins so
abbrev pub set_by : List ℕ → List ℕ → Option Setting
set_by name rest =
    if starts_with nat_eq rest (codes ":=") then Some (record { name = name; value = drop 2 rest })
    else None

-- the setting that a word is: its letters, `_` and digits at the front, and what is behind `:=`
abbrev pub setting_in : List ℕ → Option Setting
setting_in word =
    let at = prefix_len is_word_byte word in
    set_by (take at word) (drop at word)

abbrev pub one_or_none : Option Setting → List Setting
one_or_none None = []
one_or_none (Some setting) = setting ∷ []

-- the settings among words, in their order
abbrev pub settings_among : List (List ℕ) → List Setting
settings_among words = flat_map (λ word. one_or_none (setting_in word)) words
