-- The loops of a program's tables that read with a shift what they put are those of its lowered rows.
use Rattle.std.proofs.Common.{◌≡◌, refl, sym, ap, ap₂, ◌∙◌, arith, ℕ}
use Rattle.std.proofs.Common.{List, [], ◌∷◌, ◌++◌, map}
use Rattle.std.specs.Prelude.{cond, count_by, flat_map, slice_index_or}
use Rattle.std.proofs.lemmas.List.Sums.{sum_by-cons}
use Rattle.std.proofs.lemmas.Grind.{flat_map-append}
use Rattle.node_form.specs.declared.members.Member as number
use Rattle.node_form.specs.declared.members.Member.TheVariants as member
use Rattle.node_form.specs.declared.instructions.Instr.{Instr}
use Rattle.node_form.specs.declared.instructions.Instr.TheVariants as instr
use Rattle.node_form.specs.declared.tables.Tables.{Tables}
use Rattle.code_parts.specs.Uses.{exprs_of, member_words, put_by, share, shifted_in, words_of}
use Rattle.flat_form.specs.Flat.{IsFlat}
use Rattle.flat_form.specs.Row as row
use Rattle.flat_form.specs.Row.{Row, inlined, member_inlined, words_at}
use Rattle.flat_passes.specs.Grouped.{grouped}
use Rattle.temp_norm.specs.Normalised.{loops_on_itself, loops_on_themselves, reads_itself}
use Rattle.zpl_tree.specs.Syntax.{Program}
use Rattle.zpl_binding.specs.Settings.{Setting}
use Rattle.zpl_lowering.specs.Program.{lowered_program}
use Rattle.zpl_lowering.specs.Tables.{flat_tables, rows_of}
use Rattle.lowering_sizes.specs.Themselves.{group_reads_itself, is_on_itself, put_in, rows_on_themselves, shifted_by}
use Rattle.compiled_sizes.proofs.BaseLemmas.{found, read, words_same}

module _ (tables : Tables) where
  puts_same : (group : List number.Member) →
      flat_map put_by group ≡ flat_map put_in (map (member_inlined tables) group)
  puts_same [] = refl
  puts_same (member.Put array expr mask line ∷ group) = ap (λ all. array ∷ all) (puts_same group)
  puts_same (member.Cell cell expr mask line ∷ group) = puts_same group
  puts_same (member.Acc scalar operator expr mask line ∷ group) = puts_same group
  puts_same (member.OpenIf expr mask line ∷ group) = puts_same group
  puts_same (member.Otherwise ∷ group) = puts_same group
  puts_same (member.CloseIf ∷ group) = puts_same group
  puts_same (member.OpenWhile expr mask line ∷ group) = puts_same group
  puts_same (member.CloseWhile ∷ group) = puts_same group
  puts_same (member.OpenRepeat mask line ∷ group) = puts_same group
  puts_same (member.Until expr ∷ group) = puts_same group

  -- what expressions read with a shift, by their numbers
  exprs_same : (exprs : List ℕ) →
      flat_map shifted_in (flat_map (words_of tables) exprs)
      ≡ shifted_by (map (words_at tables) exprs)
  exprs_same [] = refl
  exprs_same (expr ∷ exprs) =
      flat_map-append shifted_in (words_of tables expr) (flat_map (words_of tables) exprs)
      ∙ ap₂ (λ first rest. flat_map shifted_in first ++ rest) (found tables.exprs expr)
      (exprs_same exprs)

  member_same : (one : number.Member) →
      flat_map shifted_in (member_words tables one)
      ≡ shifted_by (row.member_words (member_inlined tables one))
  member_same one =
      exprs_same (exprs_of one) ∙ ap (λ all. shifted_by all) (sym (words_same tables one))

  shifts_same : (group : List number.Member) →
      flat_map shifted_in (flat_map (member_words tables) group)
      ≡ shifted_by (flat_map row.member_words (map (member_inlined tables) group))
  shifts_same [] = refl
  shifts_same (one ∷ group) =
      flat_map-append shifted_in (member_words tables one) (flat_map (member_words tables) group)
      ∙ ap₂ (λ first rest. first ++ rest) (member_same one) (shifts_same group)
      ∙ sym (flat_map-append (λ words. flat_map shifted_in words)
      (row.member_words (member_inlined tables one))
      (flat_map row.member_words (map (member_inlined tables) group)))

  group_same : (group : List number.Member) →
      reads_itself tables group ≡ group_reads_itself (map (member_inlined tables) group)
  group_same group = ap₂ share (puts_same group) (shifts_same group)

  row_same : (one : Instr) →
      loops_on_itself tables (grouped tables one) ≡ is_on_itself (inlined tables one)
  row_same (instr.Loop slot group) =
      ap (reads_itself tables) (found tables.groups group)
      ∙ group_same (slice_index_or tables.groups group [])
  row_same one = refl

  rows_same : (code : List Instr) →
      count_by (λ one. loops_on_itself tables (grouped tables one)) code
      ≡ rows_on_themselves (map (inlined tables) code)
  rows_same [] = refl
  rows_same (one ∷ code) =
      omega (
        arith,
        rows_same code,
        ap (λ b. cond {A = ℕ} b 1 0) (row_same one),
        sum_by-cons (λ one. cond {A = ℕ} (loops_on_itself tables (grouped tables one)) 1 0) one code,
      )

pub themselves_read : (program : Program) (settings : List Setting) →
    IsFlat (flat_tables program settings) →
    loops_on_themselves (flat_tables program settings)
    ≡ rows_on_themselves (rows_of (lowered_program program settings))
themselves_read program settings flat =
    let flats = flat_tables program settings in
    rows_same flats flats.code ∙ ap rows_on_themselves (read program settings flat)
