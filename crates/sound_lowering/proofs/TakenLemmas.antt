-- What rows that are seen inline say of loops and folds in tables.
use Rattle.std.proofs.Common.{◌≡◌, ℕ, zero, suc, List, [], ◌∷◌, map, refl, sym, ap, ◌∙◌, subst}
use Rattle.std.specs.Prelude.{Option, Some, None, flat_map, slice_get, slice_index_or}
use Rattle.std.specs.Option.{option_map}
use Rattle.std.proofs.lemmas.Option.{slice_get-map}
use Rattle.zpl_lowering.specs.of_node_form.declared.members.Member as number
use Rattle.zpl_lowering.specs.of_node_form.declared.members.Member.TheVariants as member
use Rattle.zpl_lowering.specs.of_node_form.declared.instructions.Instr.{Instr}
use Rattle.zpl_lowering.specs.of_node_form.declared.instructions.Instr.TheVariants as instr
use Rattle.zpl_lowering.specs.of_node_form.declared.tables.Tables.{Tables}
use Rattle.code_parts.specs.Uses.{accumulated, accumulated_by, members_of}
use Rattle.zpl_lowering.specs.of_flat_form.Row as row
use Rattle.zpl_lowering.specs.of_flat_form.Row.{Row, all_inlined, inlined, member_inlined}
use Rattle.sound_lowering.specs.Uniform.{AreFolded, AreTaken, Folds, RowFolds, RowsTake, Takes, awaited_by, row_totals, totals}
use Rattle.sound_lowering.proofs.LoopLemmas.{found}

group_totals : (code : Tables) (group : List number.Member)
    → totals (map (member_inlined code) group) ≡ flat_map accumulated_by group
group_totals code [] = refl
group_totals code (member.Acc scalar operator expr mask line ∷ group) =
    ap (λ rest. scalar ∷ rest) (group_totals code group)
group_totals code (member.Put array expr mask line ∷ group) = group_totals code group
group_totals code (member.Cell cell expr mask line ∷ group) = group_totals code group
group_totals code (member.OpenIf expr mask line ∷ group) = group_totals code group
group_totals code (member.Otherwise ∷ group) = group_totals code group
group_totals code (member.CloseIf ∷ group) = group_totals code group
group_totals code (member.OpenWhile expr mask line ∷ group) = group_totals code group
group_totals code (member.CloseWhile ∷ group) = group_totals code group
group_totals code (member.OpenRepeat mask line ∷ group) = group_totals code group
group_totals code (member.Until expr ∷ group) = group_totals code group

awaited_is : (code : Tables) (one : Instr) → row_totals (inlined code one) ≡ awaited_by code one
awaited_is code (instr.Loop slot group) =
    group_totals code (slice_index_or code.groups group [])
    ∙ ap (flat_map accumulated_by) (sym (found code.groups group))
awaited_is code (instr.Set scalar expr line) = refl
awaited_is code (instr.Dims slot parts line) = refl
awaited_is code (instr.Print text) = refl
awaited_is code (instr.Number expr) = refl
awaited_is code (instr.Truth expr) = refl
awaited_is code (instr.Unless expr goal line) = refl
awaited_is code one = refl

folds_is : (code : Tables) (scalar : ℕ) (one : Instr) → RowFolds scalar (inlined code one)
    → Folds scalar one
folds_is code scalar (instr.Loop slot group) folds = absurd folds
folds_is code scalar (instr.Set other expr line) folds = absurd folds
folds_is code scalar (instr.Dims slot parts line) folds = absurd folds
folds_is code scalar (instr.Print text) folds = absurd folds
folds_is code scalar (instr.Number expr) folds = absurd folds
folds_is code scalar (instr.Truth expr) folds = absurd folds
folds_is code scalar (instr.Unless expr goal line) folds = absurd folds
folds_is code scalar one folds = folds

takes_is : (code : Tables) (scalars : List ℕ) (rows : List Instr)
    → RowsTake scalars (map (inlined code) rows) → Takes scalars (slice_get rows 0)
takes_is code [] rows takes = tt
takes_is code (scalar ∷ []) [] takes = absurd takes
takes_is code (scalar ∷ []) (one ∷ rows) takes = folds_is code scalar one takes
takes_is code (scalar ∷ other ∷ scalars) rows takes = absurd takes

taken_along : (code : Tables) (rows : List Instr) → AreFolded (map (inlined code) rows)
    → (at : ℕ) (one : Instr) → slice_get rows at ≡ Some one
    → Takes (awaited_by code one) (slice_get rows (suc at))
taken_along code [] folded at one there = absurd (none there)
  where
    none : None ≡ Some one → ⊥
    none e = cc
taken_along code (first ∷ rows) folded zero one there =
    let same : first ≡ one = cc in
    subst (λ one. Takes (awaited_by code one) (slice_get rows 0)) same
    (subst (λ scalars. Takes scalars (slice_get rows 0)) (awaited_is code first)
    (takes_is code (row_totals (inlined code first)) rows folded.0))
taken_along code (first ∷ rows) folded (suc at) one there =
    taken_along code rows folded.1 at one there

pub taken_in : (code : Tables) (rows : List Row) → all_inlined code ≡ rows → AreFolded rows
    → AreTaken code
taken_in code rows same folded at one there =
    taken_along code code.code (subst AreFolded (sym same) folded) at one there
