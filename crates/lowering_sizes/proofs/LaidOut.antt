-- The size of tables is the weight of what is laid out.
use Rattle.std.proofs.Common.{◌≡◌, ℕ, suc, ◌+◌, List, [], ◌∷◌, ◌++◌, map, length, Some, None, refl, ◌∙◌, ap, arith, length-append}
use Rattle.std.proofs.lemmas.List.{length-map}
use Rattle.std.specs.Prelude.{sum_by, flat_map}
use Rattle.std.proofs.lemmas.List.Sums.{sum_by-append}
use Rattle.zpl_region.specs.declared.regions.Region.{Region}
use Rattle.row_runs.specs.Structured.{flattened}
use Rattle.node_form.specs.declared.instructions.Instr.{Instr}
use Rattle.node_form.specs.declared.instructions.Instr.TheVariants as instr
use Rattle.node_form.specs.declared.members.Member as number
use Rattle.node_form.specs.declared.tables.Tables.{Tables}
use Rattle.flat_form.specs.Row as row
use Rattle.flat_form.specs.Row.{Row, Member, Part, Words, with_row, with_rows, all_coded, member_words, member_coded, part_words, row_words, row_groups, row_texts, coded, group_coded}
use Rattle.zpl_lowering.specs.Check.{flat_row}
use Rattle.zpl_lowering.specs.Hoist.{Shifted}
use Rattle.zpl_lowering.specs.Lowered.{Lowered}
use Rattle.zpl_lowering.specs.Tables.{rows_of, empty_tables, tables_of, stored_rows, temp_row}
use Rattle.lowering_sizes.proofs.Weights.{member_weight, members_weight, part_weight, parts_weight, row_weight, rows_weight, rows_both, piece_weight, flat_rows, laid_out}

-- ---- one row

member_size : (member : Member) → 1 + sum_by length (member_words member) ≡ member_weight member
member_size (row.Put array expr (Some mask) line) = omega arith
member_size (row.Put array expr None line) = omega arith
member_size (row.Cell cell expr (Some mask) line) = omega arith
member_size (row.Cell cell expr None line) = omega arith
member_size (row.Acc scalar operator expr (Some mask) line) = omega arith
member_size (row.Acc scalar operator expr None line) = omega arith
member_size (row.OpenIf expr (Some mask) line) = omega arith
member_size (row.OpenIf expr None line) = omega arith
member_size row.Otherwise = refl
member_size row.CloseIf = refl
member_size (row.OpenWhile expr (Some mask) line) = omega arith
member_size (row.OpenWhile expr None line) = omega arith
member_size row.CloseWhile = refl
member_size (row.OpenRepeat (Some mask) line) = omega arith
member_size (row.OpenRepeat None line) = omega arith
member_size (row.Until expr) = omega arith

group_size : (n : ℕ) (group : List Member) →
    length (group_coded n group) + sum_by length (flat_map member_words group)
    ≡ members_weight group
group_size n [] = refl
group_size n (one ∷ group) =
    omega (
      arith,
      member_size one,
      group_size (n + length (member_words one)) group,
      sum_by-append length (member_words one) (flat_map member_words group),
    )

part_size : (part : Part) → sum_by length (part_words part) ≡ part_weight part
part_size (row.Span low high) = omega arith
part_size row.Star = refl
part_size (row.Copied slot) = refl

parts_size : (parts : List Part) →
    sum_by length (flat_map part_words parts) ≡ parts_weight parts
parts_size [] = refl
parts_size (one ∷ parts) =
    omega (
      arith,
      part_size one,
      parts_size parts,
      sum_by-append length (part_words one) (flat_map part_words parts),
    )

-- the size of tables, where a text weighs so much
abbrev pub sized : (List ℕ → ℕ) → Tables → ℕ
sized text code =
    code.scalars + length code.slots + code.cells
    + length code.arrays + length code.exchanges + length code.code
    + sum_by length code.groups + sum_by length code.exprs + sum_by text code.texts

grown : (text : List ℕ → ℕ) (tables : Tables) (exprs : List Words) (groups : List (List number.Member))
    (texts : List (List ℕ)) (one : Instr) →
    sized text (record tables {
      exprs = tables.exprs ++ exprs;
      groups = tables.groups ++ groups;
      texts = tables.texts ++ texts;
      code = tables.code ++ one ∷ [];
    })
    ≡ sized text tables
    + (1 + (sum_by length exprs + (sum_by length groups + sum_by text texts)))
grown text tables exprs groups texts one =
    omega (
      arith,
      sum_by-append length tables.exprs exprs,
      sum_by-append length tables.groups groups,
      sum_by-append text tables.texts texts,
      length-append tables.code (one ∷ []),
    )

row_size : (text : List ℕ → ℕ) (tables : Tables) (one : Row) →
    sized text (with_row tables one) ≡ sized text tables + row_weight text one
row_size text tables (row.Set scalar expr line) =
    grown text tables (expr ∷ []) [] [] (coded tables (row.Set scalar expr line)) ∙ omega arith
row_size text tables (row.Dims slot parts line) =
    grown text tables (flat_map part_words parts) [] [] (coded tables (row.Dims slot parts line))
    ∙ omega (arith, parts_size parts)
row_size text tables (row.Loop slot group) =
    grown text tables (flat_map member_words group) (group_coded (length tables.exprs) group ∷ []) []
    (coded tables (row.Loop slot group))
    ∙ omega (arith, group_size (length tables.exprs) group)
row_size text tables (row.Print bytes) =
    grown text tables [] [] (bytes ∷ []) (coded tables (row.Print bytes)) ∙ omega arith
row_size text tables (row.Number expr) =
    grown text tables (expr ∷ []) [] [] (coded tables (row.Number expr)) ∙ omega arith
row_size text tables (row.Truth expr) =
    grown text tables (expr ∷ []) [] [] (coded tables (row.Truth expr)) ∙ omega arith
row_size text tables (row.Unless expr goal line) =
    grown text tables (expr ∷ []) [] [] (coded tables (row.Unless expr goal line)) ∙ omega arith
row_size text tables (row.Plain one) =
    grown text tables [] [] [] one ∙ omega arith

rows_size : (text : List ℕ → ℕ) (tables : Tables) (rows : List Row) →
    sized text (with_rows tables rows) ≡ sized text tables + rows_weight text rows
rows_size text tables [] = omega arith
rows_size text tables (one ∷ rows) =
    rows_size text (with_row tables one) rows ∙ omega (arith, row_size text tables one)

-- ---- the whole code

-- what code has of its own
abbrev pub own_weight : Lowered → ℕ
own_weight lowered =
    lowered.scalars + (length lowered.slots + (length lowered.arrays
    + (length lowered.copies + (length lowered.later + length lowered.temps))))

abbrev pub weight : (List ℕ → ℕ) → Lowered → ℕ
weight text lowered = piece_weight text lowered.code + own_weight lowered

stored_length : (k : ℕ) (shifts : List Shifted) (storages : List Region) →
    length (stored_rows k shifts storages) ≡ length storages
stored_length k shifts [] = refl
stored_length k shifts (one ∷ rest) = ap suc (stored_length (suc k) shifts rest)

pub tables_size : (text : List ℕ → ℕ) (grid : List ℕ) (lowered : Lowered) →
    sized text (tables_of grid lowered) ≡ weight text lowered + 1
tables_size text grid lowered =
    let storages = lowered.arrays ++ (lowered.copies ++ lowered.later) in
    let code = map flat_row (flattened 0 lowered.code) in
    rows_size text (empty_tables grid lowered) (rows_of lowered)
    ∙ omega (
      arith,
      rows_both text code (row.Plain instr.End ∷ []),
      flat_rows text (flattened 0 lowered.code),
      laid_out text 0 lowered.code,
      length-append (stored_rows 0 lowered.shifts storages) (map temp_row lowered.temps),
      stored_length 0 lowered.shifts storages,
      length-map lowered.temps temp_row,
      length-append lowered.arrays (lowered.copies ++ lowered.later),
      length-append lowered.copies lowered.later,
    )
