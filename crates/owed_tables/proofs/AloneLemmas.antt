-- A group of lowered tables that reads with a shift what it puts has one member.
use Rattle.std.proofs.Common.{◌≡◌, inl, inr, ℕ, ◌+◌, true, false, List, [], ◌∷◌, ◌++◌, length, refl, sym, ap, ◌∙◌, subst, append_assoc}
use Rattle.std.specs.Prelude.{All, Some, None, flat_map}
use Rattle.std.specs.List.{AllByRecursion}
use Rattle.std.proofs.lemmas.Grind.{flat_map-append}
use Rattle.std.proofs.lemmas.List.Elements.{All-append, All-cons, All-nil}
use Rattle.std.proofs.lemmas.List.{length-append}
use Rattle.node_form.specs.declared.members.Member as number
use Rattle.node_form.specs.declared.tables.Tables.{Tables}
use Rattle.node_form.specs.Fits.{IsTemporary}
use Rattle.code_parts.specs.Uses as uses
use Rattle.code_parts.specs.Uses.{as_list, exprs_of, put_by, share, shifted_in, words_of}
use Rattle.flat_form.specs.Row as row
use Rattle.flat_form.specs.Row.{Member, Row, Words, group_coded, mask_words, member_coded}
use Rattle.flat_form.specs.Row.{member_words, numbered, row_groups, row_words, with_row, with_rows}
use Rattle.stored_shifts.specs.Stored.{ShiftsAreStored}
use Rattle.temp_norm.specs.Normalised.{PutsAlone, ReadThemselvesAlone, reads_itself, shifted_by}
use Rattle.temp_norm.specs.Normalised.PutsAlone.{puts_alone}
use Rattle.zpl_lowering.specs.Lowered.{Lowered}
use Rattle.zpl_lowering.specs.Tables.{empty_tables, rows_of, tables_of}
use Rattle.lowered_flat.specs.of_lowering_fits.Inline.{FitRows, FitsRow, PutsKept, PutsOne, ReadsApart}
use Rattle.lowered_flat.specs.of_lowering_fits.Lowerings.{FitsLowered}
use Rattle.lowered_flat.proofs.of_lowering_fits.PieceLemmas.{all_rows_fit}
use Rattle.lowered_flat.proofs.of_lowering_fits.ReadLemmas.{exprs_are, arrays_are}
use Rattle.owed_tables.proofs.ShareLemmas.{all_still, group_stored, kept_apart, none_shared, numbers_from, words_by_number, words_stored}

-- ---- groups as they stand in tables
coded_exprs : (n : ℕ) (one : Member) →
    exprs_of (member_coded n one) ≡ numbers_from n (member_words one)
coded_exprs n (row.Put array expr None line) = refl
coded_exprs n (row.Put array expr (Some mask) line) = refl
coded_exprs n (row.Cell cell expr None line) = refl
coded_exprs n (row.Cell cell expr (Some mask) line) = refl
coded_exprs n (row.Acc scalar operator expr None line) = refl
coded_exprs n (row.Acc scalar operator expr (Some mask) line) = refl
coded_exprs n (row.OpenIf expr None line) = refl
coded_exprs n (row.OpenIf expr (Some mask) line) = refl
coded_exprs n row.Otherwise = refl
coded_exprs n row.CloseIf = refl
coded_exprs n (row.OpenWhile expr None line) = refl
coded_exprs n (row.OpenWhile expr (Some mask) line) = refl
coded_exprs n row.CloseWhile = refl
coded_exprs n (row.OpenRepeat None line) = refl
coded_exprs n (row.OpenRepeat (Some mask) line) = refl
coded_exprs n (row.Until expr) = refl

kept_numbers : (tables : Tables) (group : List Member) (n : ℕ) → PutsKept tables group →
    AllByRecursion (IsTemporary tables) (flat_map put_by (group_coded n group))
kept_numbers tables [] n kept = tt
kept_numbers tables (row.Put array expr mask line ∷ group) n kept =
    (kept.0, kept_numbers tables group _ kept.1)
kept_numbers tables (row.Cell cell expr mask line ∷ group) n kept =
    kept_numbers tables group _ kept
kept_numbers tables (row.Acc scalar operator expr mask line ∷ group) n kept =
    kept_numbers tables group _ kept
kept_numbers tables (row.OpenIf expr mask line ∷ group) n kept = kept_numbers tables group _ kept
kept_numbers tables (row.Otherwise ∷ group) n kept = kept_numbers tables group _ kept
kept_numbers tables (row.CloseIf ∷ group) n kept = kept_numbers tables group _ kept
kept_numbers tables (row.OpenWhile expr mask line ∷ group) n kept =
    kept_numbers tables group _ kept
kept_numbers tables (row.CloseWhile ∷ group) n kept = kept_numbers tables group _ kept
kept_numbers tables (row.OpenRepeat mask line ∷ group) n kept = kept_numbers tables group _ kept
kept_numbers tables (row.Until expr ∷ group) n kept = kept_numbers tables group _ kept

module _ (tables : Tables) where
  -- the words of a group's expressions, where these stand behind others
  group_words : (front : List Words) (group : List Member) (rest : List Words) →
      tables.exprs ≡ front ++ (flat_map member_words group ++ rest) →
      flat_map (uses.member_words tables) (group_coded (length front) group)
      ≡ flat_map (λ words. words) (flat_map member_words group)
  group_words front [] rest same = refl
  group_words front (one ∷ group) rest same =
      let own : List Words = member_words one in
      let others : List Words = flat_map member_words group in
      let here : tables.exprs ≡ front ++ (own ++ (others ++ rest)) =
      same ∙ ap (λ xs. front ++ xs) (append_assoc own others rest) in
      let later : tables.exprs ≡ (front ++ own) ++ (others ++ rest) =
      here ∙ sym (append_assoc front own (others ++ rest)) in
      let first : uses.member_words tables (member_coded (length front) one)
      ≡ flat_map (λ words. words) own =
      ap (flat_map (words_of tables)) (coded_exprs (length front) one)
      ∙ words_by_number tables front own (others ++ rest) here in
      let after : flat_map (uses.member_words tables)
      (group_coded (length front + length own) group) ≡ flat_map (λ words. words) others =
      ap (λ n. flat_map (uses.member_words tables) (group_coded n group))
      (sym (length-append front own)) ∙ group_words (front ++ own) group rest later in
      ap (λ xs. xs ++ flat_map (uses.member_words tables)
      (group_coded (length front + length own) group)) first
      ∙ (ap (λ xs. flat_map (λ words. words) own ++ xs) after
      ∙ sym (flat_map-append (λ words. words) own others))

  abbrev IsAlone : List number.Member → Type 0
  IsAlone group = reads_itself tables group ≡ true → PutsAlone tables group

  not_itself : (group : List number.Member) → reads_itself tables group ≡ false → IsAlone group
  not_itself group none itself =
      let no : false ≡ true = sym none ∙ itself in
      let bottom : ⊥ = cc in absurd bottom

  one_alone : (front : List Words) (group : List Member) (rest : List Words) →
      tables.exprs ≡ front ++ (flat_map member_words group ++ rest) → PutsOne group →
      PutsAlone tables (group_coded (length front) group)
  one_alone front [] rest same one = absurd one
  one_alone front (row.Put array expr None line ∷ []) rest same one =
      puts_alone array (length front) None line refl
  one_alone front (row.Put array expr (Some mask) line ∷ []) rest same one =
      puts_alone array (length front) (Some (length front + 1)) line
      (ap (share (array ∷ [])) none ∙ none_shared (array ∷ []))
    where
      behind : tables.exprs ≡ (front ++ expr ∷ []) ++ ((mask ∷ []) ++ rest)
      behind = same ∙ sym (append_assoc front (expr ∷ []) (mask ∷ rest))

      none : shifted_by tables ((length front + 1) ∷ []) ≡ []
      none =
          ap (λ n. shifted_by tables (n ∷ [])) (sym (length-append front (expr ∷ [])))
          ∙ (ap (flat_map shifted_in)
          (words_by_number tables (front ++ expr ∷ []) (mask ∷ []) rest behind)
          ∙ all_still (mask ∷ []) one)
  one_alone front (row.Put array expr mask line ∷ second ∷ group) rest same one = absurd one
  one_alone front (row.Cell cell expr mask line ∷ group) rest same one = absurd one
  one_alone front (row.Acc scalar operator expr mask line ∷ group) rest same one = absurd one
  one_alone front (row.OpenIf expr mask line ∷ group) rest same one = absurd one
  one_alone front (row.Otherwise ∷ group) rest same one = absurd one
  one_alone front (row.CloseIf ∷ group) rest same one = absurd one
  one_alone front (row.OpenWhile expr mask line ∷ group) rest same one = absurd one
  one_alone front (row.CloseWhile ∷ group) rest same one = absurd one
  one_alone front (row.OpenRepeat mask line ∷ group) rest same one = absurd one
  one_alone front (row.Until expr ∷ group) rest same one = absurd one

  module _ (stored : ShiftsAreStored tables) where
    group_alone : (front : List Words) (group : List Member) (rest : List Words) →
        tables.exprs ≡ front ++ (flat_map member_words group ++ rest) →
        ReadsApart tables group → IsAlone (group_coded (length front) group)
    group_alone front group rest same (inl kept) =
        let coded : List number.Member = group_coded (length front) group in
        not_itself coded
        (kept_apart tables (flat_map put_by coded)
        (flat_map shifted_in (flat_map (uses.member_words tables) coded))
        (kept_numbers tables group (length front) kept)
        (words_stored tables (flat_map (uses.member_words tables) coded)
        (group_stored tables exprs_of stored coded)))
    group_alone front group rest same (inr (inl still)) =
        let coded : List number.Member = group_coded (length front) group in
        not_itself coded
        (ap (share (flat_map put_by coded))
        (ap (flat_map shifted_in) (group_words front group rest same)
        ∙ all_still (flat_map member_words group) still)
        ∙ none_shared (flat_map put_by coded))
    group_alone front group rest same (inr (inr one)) =
        λ itself. one_alone front group rest same one

    -- ---- the groups of rows
    module _ (base : Tables) (arrays : tables.arrays ≡ base.arrays) (count : ℕ) where
      kept_here : (group : List Member) → PutsKept base group → PutsKept tables group
      kept_here group kept =
          subst (λ arrays. PutsKept (record base { arrays = arrays }) group) (sym arrays) kept

      apart_here : (group : List Member) → ReadsApart base group → ReadsApart tables group
      apart_here group (inl kept) = inl (kept_here group kept)
      apart_here group (inr other) = inr other

      row_alone : (front : List Words) (one : Row) (rest : List Words) →
          tables.exprs ≡ front ++ (row_words one ++ rest) → FitsRow base count one →
          All IsAlone (row_groups (length front) one)
      row_alone front (row.Loop slot group) rest same fits =
          All-cons IsAlone (group_coded (length front) group) []
          (group_alone front group rest same (apart_here group fits.apart)) (All-nil IsAlone)
      row_alone front (row.Set scalar expr line) rest same fits = All-nil IsAlone
      row_alone front (row.Dims slot parts line) rest same fits = All-nil IsAlone
      row_alone front (row.Print text) rest same fits = All-nil IsAlone
      row_alone front (row.Number expr) rest same fits = All-nil IsAlone
      row_alone front (row.Truth expr) rest same fits = All-nil IsAlone
      row_alone front (row.Unless expr goal line) rest same fits = All-nil IsAlone
      row_alone front (row.Plain one) rest same fits = All-nil IsAlone

      rows_alone : (now : Tables) (rows : List Row) →
          tables.exprs ≡ now.exprs ++ flat_map row_words rows → FitRows base count rows →
          All IsAlone now.groups → All IsAlone (with_rows now rows).groups
      rows_alone now [] same fits all = all
      rows_alone now (one ∷ rows) same fits all =
          rows_alone (with_row now one) rows
          (same ∙ sym (append_assoc now.exprs (row_words one) (flat_map row_words rows))) fits.1
          (All-append IsAlone now.groups (row_groups (length now.exprs) one) all
          (row_alone now.exprs one (flat_map row_words rows) same fits.0))

pub whole_alone : (grid : List ℕ) (lowered : Lowered) → ShiftsAreStored (tables_of grid lowered) →
    FitsLowered (empty_tables grid lowered) lowered →
    ReadThemselvesAlone (tables_of grid lowered)
whole_alone grid lowered stored fits =
    let base : Tables = empty_tables grid lowered in
    let rows : List Row = rows_of lowered in
    rows_alone (with_rows base rows) stored base (arrays_are base rows) (length rows) base rows
    (exprs_are base rows) (all_rows_fit grid lowered fits.code_fits)
    (All-nil (IsAlone (with_rows base rows)))
