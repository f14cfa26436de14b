-- There is a record of each row in which processors work together.
use Rattle.std.proofs.Common.{◌≡◌, ℕ, zero, suc, ◌<◌, List, [], ◌∷◌, length, refl, subst, arith}
use Rattle.std.specs.Prelude.{Option, Some, None, slice_get}
use Rattle.std.specs.List.{filter_map}
use Rattle.std.specs.Option.{IfSome, IsSomeAnd, option_map}
use Rattle.node_form.specs.declared.instructions.Instr.{Instr}
use Rattle.node_form.specs.declared.instructions.Instr.TheVariants as instr
use Rattle.node_form.specs.declared.tables.Tables.{Tables}
use Rattle.node_form.specs.Fits.{FitsInstr}
use Rattle.grid_meaning.specs.Collective.{Collective, folded, star, tree, voted}
use Rattle.grid_meaning.specs.Delivery.{edged, flooded, parted}
use Rattle.grid_meaning.specs.Exchange.{finished, started}
use Rattle.grid_meaning.specs.Gather.{gathered}
use Rattle.grid_meaning.specs.Remap.{remapped}
use Rattle.grid_meaning.specs.Rows.{collective}
use Rattle.grid_meaning.specs.Scan.{scanned_row}
use Rattle.row_turn.specs.Together.{IsTogether, OfRow}

-- there is the row's record
pub record IsRow (code : Tables) (p : ℕ) (row : Instr) : Type 0 where
  pub together : Collective
  pub is : collective code p row ≡ Some together

mapped_row : {X : Type 0} (list : List X) (i : ℕ) (row : X → Collective) → i < length list
    → (c : Collective) × (option_map row (slice_get list i) ≡ Some c)
mapped_row [] i row below = absurd (omega arith)
mapped_row (x ∷ list) zero row below = (row x, refl)
mapped_row (x ∷ list) (suc i) row below = mapped_row list i row (omega arith)

some_row : {X : Type 0} (found : Option X) (P : X → Type 0) (row : X → Collective) → IsSomeAnd found P
    → (c : Collective) × (option_map row found ≡ Some c)
some_row None P row some = absurd some
some_row (Some x) P row some = (row x, refl)

pub is_row : (code : Tables) (p : ℕ) (row : Instr) → IsTogether row → FitsInstr code row → IsRow code p row
is_row code p (instr.Start exchange) is fits =
    let there = mapped_row code.exchanges exchange (started code p exchange) fits.fit in record { together = there.0; is = there.1 }
is_row code p (instr.Finish exchange) is fits =
    let there = mapped_row code.exchanges exchange (finished code p exchange) fits.fit in record { together = there.0; is = there.1 }
is_row code p (instr.Edge kind array slot shift) is fits = record { together = edged code p kind array slot shift; is = refl }
is_row code p (instr.Flood array target from source) is fits = record { together = flooded code p array target from source; is = refl }
is_row code p (instr.Part array target f from source) is fits = record { together = parted code p array target f from source; is = refl }
is_row code p (instr.Scan array slot f along from mask) is fits =
    record { together = scanned_row code p f along from mask array slot; is = refl }
is_row code p (instr.Gather truth array slot) is fits = record { together = gathered code p truth array slot; is = refl }
is_row code p (instr.Remap array slot from parts) is fits =
    let there = some_row (slice_get code.arrays from) _ (remapped code p array slot from (filter_map (λ part. part) parts)) fits.fit.3 in
    record { together = there.0; is = there.1 }
is_row code p (instr.Vote group) is fits = record { together = voted code (star code p) group; is = refl }
is_row code p (instr.TreeVote group) is fits = record { together = voted code (tree code p) group; is = refl }
is_row code p (instr.Fold scalar f) is fits = record { together = folded (star code p) scalar f; is = refl }
is_row code p (instr.TreeFold scalar f) is fits = record { together = folded (tree code p) scalar f; is = refl }
is_row code p row is fits = absurd is

-- what holds of the row's record
pub of_row : (code : Tables) (p : ℕ) (row : Instr) (holds : Collective → Type 0) (r : IsRow code p row) → OfRow code p row holds
    → holds r.together
of_row code p row holds r all = subst (λ o. IfSome o holds) r.is all
