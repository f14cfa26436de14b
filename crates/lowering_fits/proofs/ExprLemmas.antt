-- What all expressions of rows have, where it is known of words that fit.
use Rattle.std.proofs.Common.{ℕ, List, [], ◌∷◌, ◌++◌}
use Rattle.std.specs.Prelude.{All, Option, Some, None, flat_map}
use Rattle.std.proofs.lemmas.List.Elements.{All-append, All-cons, All-nil}
use Rattle.stored_shifts.specs.of_node_form.declared.tables.Tables.{Tables}
use Rattle.lower_numbers.specs.of_flat_form.Row as row
use Rattle.lower_numbers.specs.of_flat_form.Row.{Words, Member, Part, Row, mask_words, member_words, part_words}
use Rattle.lower_numbers.specs.of_flat_form.Row.{row_words}
use Rattle.lowering_fits.specs.Inline.{AllDims, AllInside, FitRows, FitsDim, FitsInside, FitsMask}
use Rattle.lowering_fits.specs.Inline.{FitsRow, FitsScalar, FitsWords}

-- ---- the expressions of rows that fit
module _ (base : Tables) (Q : Words → Type 0)
    (has : (rank : ℕ) (words : Words) → FitsWords base rank words → Q words) where
  abbrev AllHave : List Words → Type 0
  AllHave exprs = All Q exprs

  none_have : AllHave []
  none_have = All-nil Q

  then_have : (words : Words) (exprs : List Words) → Q words →
      AllHave exprs → AllHave (words ∷ exprs)
  then_have words exprs = All-cons Q words exprs

  both_have : (front back : List Words) → AllHave front → AllHave back →
      AllHave (front ++ back)
  both_have front back = All-append Q front back

  one_have : (words : Words) → FitsScalar base words → AllHave (words ∷ [])
  one_have words fits = then_have words [] (has 1 words fits.stands) none_have

  mask_have : (rank : ℕ) (mask : Option Words) → FitsMask base rank mask →
      AllHave (mask_words mask)
  mask_have rank None fits = none_have
  mask_have rank (Some words) fits = then_have words [] (has rank words fits) none_have

  member_have : (rank : ℕ) (one : Member) → FitsInside base rank one →
      AllHave (member_words one)
  member_have rank (row.Put array expr mask line) fits =
      then_have expr (mask_words mask) (has rank expr fits.1) (mask_have rank mask fits.2)
  member_have rank (row.Cell cell expr mask line) fits =
      then_have expr (mask_words mask) (has rank expr fits.1) (mask_have rank mask fits.2)
  member_have rank (row.Acc scalar operator expr mask line) fits =
      then_have expr (mask_words mask) (has rank expr fits.1) (mask_have rank mask fits.2)
  member_have rank (row.OpenIf expr mask line) fits =
      then_have expr (mask_words mask) (has rank expr fits.0) (mask_have rank mask fits.1)
  member_have rank row.Otherwise fits = none_have
  member_have rank row.CloseIf fits = none_have
  member_have rank (row.OpenWhile expr mask line) fits =
      then_have expr (mask_words mask) (has rank expr fits.0) (mask_have rank mask fits.1)
  member_have rank row.CloseWhile fits = none_have
  member_have rank (row.OpenRepeat mask line) fits = mask_have rank mask fits
  member_have rank (row.Until expr) fits = then_have expr [] (has rank expr fits) none_have

  members_have : (rank : ℕ) (group : List Member) → AllInside base rank group →
      AllHave (flat_map member_words group)
  members_have rank [] fits = none_have
  members_have rank (one ∷ group) fits =
      both_have (member_words one) (flat_map member_words group) (member_have rank one fits.0)
      (members_have rank group fits.1)

  part_have : (rank : ℕ) (one : Part) → FitsDim base rank one → AllHave (part_words one)
  part_have rank (row.Span low high) fits =
      then_have low (high ∷ []) (has 1 low fits.0.stands) (one_have high fits.1)
  part_have rank row.Star fits = none_have
  part_have rank (row.Copied slot) fits = none_have

  parts_have : (rank : ℕ) (parts : List Part) → AllDims base rank parts →
      AllHave (flat_map part_words parts)
  parts_have rank [] fits = none_have
  parts_have rank (one ∷ parts) fits =
      both_have (part_words one) (flat_map part_words parts) (part_have rank one fits.0)
      (parts_have rank parts fits.1)

  row_have : (count : ℕ) (one : Row) → FitsRow base count one → AllHave (row_words one)
  row_have count (row.Set scalar expr line) fits = one_have expr fits.1
  row_have count (row.Dims slot parts line) fits = parts_have fits.rank parts fits.fit
  row_have count (row.Loop slot group) fits = members_have fits.rank group fits.fit
  row_have count (row.Print text) fits = none_have
  row_have count (row.Number expr) fits = one_have expr fits
  row_have count (row.Truth expr) fits = one_have expr fits
  row_have count (row.Unless expr goal line) fits = one_have expr fits.0
  row_have count (row.Plain one) fits = none_have

  pub rows_have : (count : ℕ) (rows : List Row) → FitRows base count rows →
      AllHave (flat_map row_words rows)
  rows_have count [] fits = none_have
  rows_have count (one ∷ rows) fits =
      both_have (row_words one) (flat_map row_words rows) (row_have count one fits.0)
      (rows_have count rows fits.1)
