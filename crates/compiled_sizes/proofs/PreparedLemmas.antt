-- The tables of a program have as many rows that prepare for loops as loops that read with a shift
-- what they put; so its code is at most twice as large where these go through temporaries.
use Rattle.std.proofs.Common.{◌≡◌, refl, ap, arith, ℕ, ◌*◌, ◌≤◌, Bool, true, false}
use Rattle.std.proofs.Common.{List, [], ◌∷◌, map}
use Rattle.std.specs.Prelude.{cond, count_by, flat_map, slice_index_or}
use Rattle.std.proofs.lemmas.List.Sums.{sum_by-cons}
use Rattle.node_form.specs.declared.members.Member as number
use Rattle.node_form.specs.declared.members.Member.TheVariants as member
use Rattle.node_form.specs.declared.instructions.Instr.{Instr}
use Rattle.node_form.specs.declared.instructions.Instr.TheVariants as instr
use Rattle.node_form.specs.declared.tables.Tables.{Tables}
use Rattle.code_parts.specs.Counts.{code_size, count_of}
use Rattle.code_parts.specs.Uses.{member_words, put_by, share, shifted_in}
use Rattle.flat_form.specs.Flat.{IsFlat}
use Rattle.flat_form.specs.Row.{inlined, member_inlined}
use Rattle.flat_passes.specs.Grouped.{grouped}
use Rattle.temp_norm.specs.Normalised.{loops_on_itself, loops_on_themselves, normalised, reads_itself}
use Rattle.lowering_checks.specs.of_pass_sizes.Sizes.{is_preparing}
use Rattle.lowering_checks.proofs.of_pass_sizes.FactorLemmas.{normal_factor}
use Rattle.zpl_tree.specs.Syntax.{Program}
use Rattle.zpl_binding.specs.Settings.{Setting}
use Rattle.zpl_lowering.specs.Tables.{flat_tables}
use Rattle.zpl_lowering.specs.Statement.{has_put}
use Rattle.lowering_checks.specs.Prepared.{prepared_in, putting_in}
use Rattle.lowering_checks.proofs.PreparedLemmas.{rows_prepared}
use Rattle.compiled_sizes.proofs.BaseLemmas.{found, members_once, read, shifts_once}

module _ (tables : Tables) where
  no_puts : (group : List number.Member) → has_put (map (member_inlined tables) group) ≡ false →
      flat_map put_by group ≡ []
  no_puts [] none = refl
  no_puts (member.Put array expr mask line ∷ group) none =
      let absent : ⊥ = cc in absurd absent
  no_puts (member.Cell cell expr mask line ∷ group) none = no_puts group none
  no_puts (member.Acc scalar operator expr mask line ∷ group) none = no_puts group none
  no_puts (member.OpenIf expr mask line ∷ group) none = no_puts group none
  no_puts (member.Otherwise ∷ group) none = no_puts group none
  no_puts (member.CloseIf ∷ group) none = no_puts group none
  no_puts (member.OpenWhile expr mask line ∷ group) none = no_puts group none
  no_puts (member.CloseWhile ∷ group) none = no_puts group none
  no_puts (member.OpenRepeat mask line ∷ group) none = no_puts group none
  no_puts (member.Until expr ∷ group) none = no_puts group none

  group_puts : (group : List number.Member) →
      cond {A = ℕ} (reads_itself tables group) 1 0
      ≤ cond (has_put (map (member_inlined tables) group)) 1 0
  group_puts group = by (has_put (map (member_inlined tables) group)) (no_puts group)
    where
      shifted : List ℕ
      shifted = flat_map shifted_in (flat_map (member_words tables) group)

      one : (b : Bool) → cond {A = ℕ} b 1 0 ≤ 1
      one true = omega arith
      one false = omega arith

      by : (b : Bool) → (b ≡ false → flat_map put_by group ≡ []) →
          cond {A = ℕ} (reads_itself tables group) 1 0 ≤ cond b 1 0
      by true none = one (reads_itself tables group)
      by false none =
          omega (
            arith,
            ap (λ puts. cond {A = ℕ} (share puts shifted) 1 0) (none refl),
          )

  row_puts : (one : Instr) →
      cond {A = ℕ} (loops_on_itself tables (grouped tables one)) 1 0
      ≤ putting_in (inlined tables one ∷ [])
  row_puts (instr.Loop slot group) =
      omega (
        arith,
        group_puts (slice_index_or tables.groups group []),
        ap (λ all. cond {A = ℕ} (reads_itself tables all) 1 0) (found tables.groups group),
      )
  row_puts one = omega arith

  row_prepares : (one : Instr) →
      prepared_in (inlined tables one ∷ []) ≤ cond {A = ℕ} (is_preparing one) 1 0
  row_prepares (instr.Need slot array shift line) = omega arith
  row_prepares (instr.Room array slot) = omega arith
  row_prepares (instr.Fix slot region) = omega arith
  row_prepares one = omega arith

  code_puts : (code : List Instr) →
      count_by (λ row. loops_on_itself tables (grouped tables row)) code
      ≤ putting_in (map (inlined tables) code)
  code_puts [] = omega arith
  code_puts (one ∷ code) =
      omega (
        arith,
        code_puts code,
        row_puts one,
        sum_by-cons (λ row. cond {A = ℕ} (loops_on_itself tables (grouped tables row)) 1 0) one code,
      )

  code_prepares : (code : List Instr) →
      prepared_in (map (inlined tables) code) ≤ count_by is_preparing code
  code_prepares [] = omega arith
  code_prepares (one ∷ code) =
      omega (
        arith,
        code_prepares code,
        row_prepares one,
        sum_by-cons (λ row. cond {A = ℕ} (is_preparing row) 1 0) one code,
      )

pub few_themselves : (program : Program) (settings : List Setting) →
    IsFlat (flat_tables program settings) →
    loops_on_themselves (flat_tables program settings)
    ≤ count_of is_preparing (flat_tables program settings)
few_themselves program settings flat =
    let flats = flat_tables program settings in
    let same = read program settings flat in
    omega (
      arith,
      code_puts flats flats.code,
      code_prepares flats flats.code,
      ap putting_in same,
      ap prepared_in same,
      rows_prepared program settings,
    )

pub normal_twice : (program : Program) (settings : List Setting) →
    IsFlat (flat_tables program settings) →
    code_size (normalised (flat_tables program settings))
    ≤ 2 * code_size (flat_tables program settings)
normal_twice program settings flat =
    normal_factor (flat_tables program settings) (members_once program settings flat)
    (shifts_once program settings flat) (few_themselves program settings flat)
