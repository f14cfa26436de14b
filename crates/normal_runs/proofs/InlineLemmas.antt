-- Rows with their groups inline, seen with their words: in tables that have more arrays and
-- expressions, and in tables that have each loop's group.
use Rattle.std.proofs.Common.{◌≡◌, refl, sym, ◌∙◌, ap, ℕ, zero, suc, ◌+◌, List, []}
use Rattle.std.proofs.Common.{◌∷◌, ◌++◌, length, map, All, Option, Some, None}
use Rattle.std.proofs.Common.{append_assoc, length-append}
use Rattle.std.specs.Prelude.{slice_get, slice_index_or}
use Rattle.std.specs.Option.{IfSome, IsSomeAnd, option_map}
use Rattle.std.specs.List.{AllByRecursion}
use Rattle.std.proofs.lemmas.List.Elements.{All-head, All-tail}
use Rattle.temp_norm.specs.of_node_form.declared.arrays.ArrayRow.{ArrayRow}
use Rattle.temp_norm.specs.of_node_form.declared.instructions.DimRow.{DimRow}
use Rattle.temp_norm.specs.of_node_form.declared.instructions.DimRow.TheVariants as part
use Rattle.temp_norm.specs.of_node_form.declared.instructions.Instr.{Instr}
use Rattle.temp_norm.specs.of_node_form.declared.instructions.Instr.TheVariants as instr
use Rattle.temp_norm.specs.of_node_form.declared.members.Member as number
use Rattle.temp_norm.specs.of_node_form.declared.members.Member.TheVariants as member
use Rattle.temp_norm.specs.of_node_form.declared.tables.Tables.{Tables}
use Rattle.temp_norm.specs.of_node_form.Fits.{FitsAt, FitsMember, FitsPart, HasExpr}
use Rattle.temp_norm.specs.of_code_parts.Uses.{rows_or_none}
use Rattle.temp_norm.specs.of_flat_form.Row.{Acc, Cell, Dims, Loop, Number, OpenIf, OpenRepeat, OpenWhile}
use Rattle.temp_norm.specs.of_flat_form.Row.{Put, Row, Set, Span, Truth, Unless, Until, Words, inlined}
use Rattle.temp_norm.specs.of_flat_form.Row.{member_inlined, part_inlined, words_at}
use Rattle.temp_norm.specs.of_flat_passes.Grouped as grouped
use Rattle.temp_norm.specs.of_flat_passes.Grouped.{Grouped, Runs, all_numbered, group_of, groups_of, numbered}

-- ---- tables with more arrays and expressions
pub index_append : {X : Type 0} (P : X → Type 0) (xs ys : List X) (k : ℕ) (d : X)
    → IsSomeAnd (slice_get xs k) P → slice_index_or (xs ++ ys) k d ≡ slice_index_or xs k d
index_append P [] ys k d is = absurd is
index_append P (x ∷ xs) ys zero d is = refl
index_append P (x ∷ xs) ys (suc k) d is = index_append P xs ys k d is

module _ (tables : Tables) (arrays : List ArrayRow) (exprs : List Words) where
  abbrev pub grown : Tables
  grown = record tables { arrays = arrays; exprs = tables.exprs ++ exprs }

  same_words : (P : Words → Type 0) (expr : ℕ) → IsSomeAnd (slice_get tables.exprs expr) P
      → words_at grown expr ≡ words_at tables expr
  same_words P expr is = index_append P tables.exprs exprs expr [] is

  same_mask : (rank : ℕ) (mask : Option ℕ) → IfSome mask (HasExpr tables rank)
      → option_map (words_at grown) mask ≡ option_map (words_at tables) mask
  same_mask rank None is = refl
  same_mask rank (Some mask) is = ap Some (same_words _ mask is)

  pub same_member : (rank : ℕ) (one : number.Member) → FitsMember tables rank one
      → member_inlined grown one ≡ member_inlined tables one
  same_member rank (member.Put array expr mask line) is =
      ap (λ w. Put array w (option_map (words_at grown) mask) line) (same_words _ expr is.1)
      ∙ ap (λ m. Put array (words_at tables expr) m line) (same_mask rank mask is.2)
  same_member rank (member.Cell cell expr mask line) is =
      ap (λ w. Cell cell w (option_map (words_at grown) mask) line) (same_words _ expr is.1)
      ∙ ap (λ m. Cell cell (words_at tables expr) m line) (same_mask rank mask is.2)
  same_member rank (member.Acc scalar operator expr mask line) is =
      ap (λ w. Acc scalar operator w (option_map (words_at grown) mask) line)
      (same_words _ expr is.1)
      ∙ ap (λ m. Acc scalar operator (words_at tables expr) m line) (same_mask rank mask is.2)
  same_member rank (member.OpenIf expr mask line) is =
      ap (λ w. OpenIf w (option_map (words_at grown) mask) line) (same_words _ expr is.0)
      ∙ ap (λ m. OpenIf (words_at tables expr) m line) (same_mask rank mask is.1)
  same_member rank member.Otherwise is = refl
  same_member rank member.CloseIf is = refl
  same_member rank (member.OpenWhile expr mask line) is =
      ap (λ w. OpenWhile w (option_map (words_at grown) mask) line) (same_words _ expr is.0)
      ∙ ap (λ m. OpenWhile (words_at tables expr) m line) (same_mask rank mask is.1)
  same_member rank member.CloseWhile is = refl
  same_member rank (member.OpenRepeat mask line) is =
      ap (λ m. OpenRepeat m line) (same_mask rank mask is)
  same_member rank (member.Until expr) is = ap Until (same_words _ expr is)

  same_members : (rank : ℕ) (ms : List number.Member) → All (FitsMember tables rank) ms
      → map (member_inlined grown) ms ≡ map (member_inlined tables) ms
  same_members rank [] all = refl
  same_members rank (one ∷ ms) all =
      ap (λ x. x ∷ map (member_inlined grown) ms)
      (same_member rank one (All-head (FitsMember tables rank) one ms all))
      ∙ ap (λ xs. member_inlined tables one ∷ xs)
      (same_members rank ms (All-tail (FitsMember tables rank) one ms all))

  same_group : (rank : ℕ) (groups : List (List number.Member)) (k : ℕ)
      → IsSomeAnd (slice_get groups k) (All (FitsMember tables rank))
      → map (member_inlined grown) (slice_index_or groups k [])
      ≡ map (member_inlined tables) (slice_index_or groups k [])
  same_group rank [] k is = absurd is
  same_group rank (group ∷ groups) zero is = same_members rank group is
  same_group rank (group ∷ groups) (suc k) is = same_group rank groups k is

  same_part : (rank : ℕ) (p : DimRow) → FitsPart tables rank p → part_inlined grown p
      ≡ part_inlined tables p
  same_part rank (part.Span low high) is =
      ap (λ l. Span l (words_at grown high)) (same_words _ low is.0)
      ∙ ap (λ h. Span (words_at tables low) h) (same_words _ high is.1)
  same_part rank part.Star is = refl
  same_part rank (part.Copied slot) is = refl

  same_parts : (rank : ℕ) (parts : List DimRow) → All (FitsPart tables rank) parts
      → map (part_inlined grown) parts ≡ map (part_inlined tables) parts
  same_parts rank [] all = refl
  same_parts rank (p ∷ parts) all =
      ap (λ x. x ∷ map (part_inlined grown) parts)
      (same_part rank p (All-head (FitsPart tables rank) p parts all))
      ∙ ap (λ xs. part_inlined tables p ∷ xs)
      (same_parts rank parts (All-tail (FitsPart tables rank) p parts all))

  -- rows that fit are the same inline
  pub same_row : (rank : ℕ) (row : Instr) → FitsAt tables rank row
      → inlined grown row ≡ inlined tables row
  same_row rank (instr.Set scalar expr line) is =
      ap (λ w. Set scalar w line) (same_words _ expr is.1)
  same_row rank (instr.Dims slot parts line) is =
      ap (λ ps. Dims slot ps line) (same_parts rank parts is.1.0)
  same_row rank (instr.Loop slot group) is =
      ap (λ g. Loop slot g) (same_group rank tables.groups group is.1)
  same_row rank (instr.Number expr) is = ap Number (same_words _ expr is)
  same_row rank (instr.Truth expr) is = ap Truth (same_words _ expr is)
  same_row rank (instr.Unless expr goal line) is =
      ap (λ w. Unless w goal line) (same_words _ expr is.0)
  same_row rank row is = refl

-- ---- rows with their groups inline
module _ (tables : Tables) where
  abbrev pub seen : Grouped → Row
  seen (Runs slot group) = Loop slot (map (member_inlined tables) group)
  seen (grouped.Plain row) = inlined tables row

  found_rows : {X : Type 0} (xs : List (List X)) (k : ℕ)
      → rows_or_none (slice_get xs k) ≡ slice_index_or xs k []
  found_rows [] k = refl
  found_rows (x ∷ xs) zero = refl
  found_rows (x ∷ xs) (suc k) = found_rows xs k

  pub seen_grouped : (row : Instr) → seen (grouped.grouped tables row) ≡ inlined tables row
  seen_grouped (instr.Loop slot group) =
      ap (λ g. Loop slot (map (member_inlined tables) g)) (found_rows tables.groups group)
  seen_grouped row = refl

-- such a row isn't a loop by its number
abbrev pub IsLaid : Grouped → Type 0
IsLaid (Runs slot group) = Unit {0}
IsLaid (grouped.Plain (instr.Loop slot group)) = ⊥
IsLaid (grouped.Plain row) = Unit {0}

index_behind : {X : Type 0} (before : List X) (x : X) (after : List X) (d : X)
    → slice_index_or (before ++ x ∷ after) (length before) d ≡ x
index_behind [] x after d = refl
index_behind (y ∷ before) x after d = index_behind before x after d

module _ (tables : Tables) (code : List Instr) where
  abbrev with_groups : List (List number.Member) → Tables
  with_groups groups = record tables { groups = groups; code = code }

  -- a row that is laid out behind some groups, with others behind its own
  row_read : (before after : List (List number.Member)) (row : Grouped) → IsLaid row
      → inlined (with_groups (before ++ (group_of row ++ after))) (numbered (length before) row)
      ≡ seen tables row
  row_read before after (Runs slot group) laid =
      ap (λ g. Loop slot (map (member_inlined tables) g)) (index_behind before group after [])
  row_read before after (grouped.Plain (instr.Loop slot group)) laid = absurd laid
  row_read before after (grouped.Plain row) laid = refl

  rows_read : (before : List (List number.Member)) (rows : List Grouped)
      → AllByRecursion IsLaid rows
      → map (inlined (with_groups (before ++ groups_of rows)))
      (all_numbered (length before) rows)
      ≡ map (seen tables) rows
  rows_read before [] laid = refl
  rows_read before (row ∷ rows) laid =
      ap (λ r. r ∷ map (inlined (with_groups (before ++ groups_of (row ∷ rows))))
      (all_numbered (length before + length (group_of row)) rows))
      (row_read before (groups_of rows) row laid.0)
      ∙ ap (λ rest. seen tables row ∷ rest)
      (ap (λ groups. map (inlined (with_groups groups))
      (all_numbered (length before + length (group_of row)) rows))
      (sym (append_assoc before (group_of row) (groups_of rows)))
      ∙ (ap (λ n. map (inlined (with_groups ((before ++ group_of row) ++ groups_of rows)))
      (all_numbered n rows)) (sym (length-append before (group_of row)))
      ∙ rows_read (before ++ group_of row) rows laid.1))

  -- all rows of tables that are made of such rows
  pub laid_read : (rows : List Grouped) → AllByRecursion IsLaid rows
      → map (inlined (with_groups (groups_of rows))) (all_numbered 0 rows)
      ≡ map (seen tables) rows
  laid_read rows laid = rows_read [] rows laid
