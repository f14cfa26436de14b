-- Tables in which each different text stands once.
use Rattle.std.specs.Prelude.{ℕ, suc, List, [], ◌∷◌, ◌++◌, Option, Some, None, fold, is_some, map}
use Rattle.std.specs.Prelude.{slice_get, unwrap_or, if◌then◌else◌}
use Rattle.std.specs.Option.{option_and_then, option_map}
use Rattle.std.specs.Str.{bytes_eq}
use Rattle.flat_form.specs.of_node_form.declared.instructions.Instr.{Instr}
use Rattle.flat_form.specs.of_node_form.declared.instructions.Instr.TheVariants as instr
use Rattle.flat_form.specs.of_node_form.declared.tables.Tables.{Tables}

-- the number of the first text that is equal, if there is one
abbrev pub number_of : List (List ℕ) → List ℕ → Option ℕ
number_of [] text = None
number_of (one ∷ texts) text =
    if bytes_eq one text then Some 0 else option_map suc (number_of texts text)

-- with one more text, unless it is there already
abbrev pub with_text : List (List ℕ) → List ℕ → List (List ℕ)
with_text texts text = if is_some (number_of texts text) then texts else texts ++ text ∷ []

-- the different ones of texts, in the order in which each first stands there
abbrev pub different : List (List ℕ) → List (List ℕ)
different texts = fold with_text [] texts

-- The number that a text has among the different ones. A number of no text stays as it is: it is
-- none of theirs.
abbrev pub number_among : List (List ℕ) → ℕ → ℕ
number_among texts number =
    unwrap_or (option_and_then (number_of (different texts)) (slice_get texts number)) number

-- a row that prints a text does so by its new number
abbrev pub row_shared : List (List ℕ) → Instr → Instr
row_shared texts (instr.Print text) = instr.Print (number_among texts text)
row_shared texts row = row

abbrev pub texts_shared : Tables → Tables
texts_shared tables = record tables {
  texts = different tables.texts;
  code = map (row_shared tables.texts) tables.code;
}
