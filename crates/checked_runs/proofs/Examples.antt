-- A small program that is checked: two exchanges are open at once in it.
use Rattle.std.proofs.Common.{◌≡◌, ◌≤◌, ℕ, zero, suc, true, true≢false, List, [], ◌∷◌, length, sym, subst, refl}
use Rattle.std.proofs.Common.{All, Contains, inr, pos, negsuc, ℤ, arith}
use Rattle.std.proofs.lemmas.Int.{ints}
use Rattle.std.proofs.lemmas.List.Elements.{All-from_recursion, All-nil}
use Rattle.zpl_region.specs.declared.dims.Dim.TheVariants as dim
use Rattle.zpl_region.specs.declared.regions.Region.{Region}
use Rattle.zpl_region.specs.Dim.{HasStep, IsDimWithinLimit, IsUpTo}
use Rattle.zpl_region.specs.Region.{padding}
use Rattle.node_form.specs.Fits.{Fits, FitsArray, FitsExchange, FitsExpr, FitsGroup, FitsInstr, FitsItem}
use Rattle.node_form.specs.Fits.{FitsRegion, HasFringe, IsRank, IsUnused, IsVector}
use Rattle.node_form.specs.declared.arrays.ArrayDim.{ArrayDim}
use Rattle.node_form.specs.declared.arrays.ArrayDim.TheVariants as axis
use Rattle.node_form.specs.declared.arrays.ArrayRow.{ArrayRow}
use Rattle.node_form.specs.declared.arrays.Item.{Item}
use Rattle.node_form.specs.declared.instructions.Instr.TheVariants as instr
use Rattle.node_form.specs.declared.tables.Tables.{Tables}
use Rattle.typed_tables.specs.Typed.{IsTypedArray, IsTypedItem, IsTypedRow, IsTypedWord}
use Rattle.counted_code.specs.of_node_check.Path.{Begins, Comes, Follows}
use Rattle.counted_code.specs.of_node_check.Sound.{IsChecked, IsLinksNeeded}
use Rattle.counted_code.proofs.of_node_check.StraightLemmas.{straight_sound, walked_are_open, walked_open}
use Rattle.checked_messages.specs.of_checked_rows.Faced.{AreTables}

abbrev no_range : ArrayDim
no_range = axis.Range (pos 0) (pos 0) (pos 0) (pos 0)

-- over the numbers from 1 to 4, with fringes
abbrev line : ArrayRow
line = record {
  rank = 1;
  stored = true;
  dims = axis.Range (pos 1) (pos 4) (pos 1) (pos 1) ∷ no_range ∷ no_range ∷ [];
}

abbrev middle : Region
middle =
    record { rank = 1; dims = dim.Range (pos 2) (pos 3) (pos 1) (pos 1) ∷ padding ∷ padding ∷ [] }

abbrev along : ℤ → List ℤ
along d = d ∷ pos 0 ∷ pos 0 ∷ []

abbrev item : ℤ → Item
item d = record { array = 0; slot = 0; shift = along d }

abbrev items : List Item
items = item (pos 1) ∷ item (negsuc 0) ∷ []

abbrev crossed : Tables
crossed = record {
  grid = 2 ∷ 0 ∷ 0 ∷ [];
  scalars = 0;
  cells = 0;
  slots = 1 ∷ [];
  arrays = line ∷ [];
  texts = [];
  exprs = [];
  groups = [];
  exchanges = items ∷ items ∷ [];
  code =
      instr.Fix 0 middle ∷ instr.Start 0 ∷ instr.Start 1 ∷ instr.Finish 0 ∷ instr.Finish 1
      ∷ instr.End ∷ [];
}

-- ---- its tables fit
is_rank : IsRank 1
is_rank = (omega arith, omega arith)

vector : (d : ℤ) → IsUpTo 31 d → IsVector 1 (along d)
vector d is = (
  All-from_recursion (IsUpTo 31) (along d) (
    is,
    (
      (omega (arith, ints), omega (arith, ints)),
      ((omega (arith, ints), omega (arith, ints)), tt),
    ),
  ),
  All-from_recursion (λ component. component ≡ pos 0) (pos 0 ∷ pos 0 ∷ []) (refl, (refl, tt)),
)

item_fits : (d : ℤ) → IsUpTo 31 d → FitsItem crossed (item d)
item_fits d is =
    record { rank = 1; slot = refl; array = refl; stored = refl; shift = vector d is }

items_fit : FitsExchange crossed items
unfolding FitsExchange
items_fit =
    All-from_recursion (FitsItem crossed) items (
      item_fits (pos 1) (omega (arith, ints), omega (arith, ints)),
      (item_fits (negsuc 0) (omega (arith, ints), omega (arith, ints)), tt),
    )

line_fits : FitsArray line
line_fits = record {
  rank = is_rank;
  padded =
      All-from_recursion IsUnused (no_range ∷ no_range ∷ [])
      ((refl, refl, refl, refl), ((refl, refl, refl, refl), tt));
  limit = λ stored. record {
    dims =
        All-from_recursion IsDimWithinLimit
        (dim.Range (pos 1) (pos 4) (pos 1) (pos 1) ∷ dim.Range (pos 0) (pos 0) (pos 1) (pos 0)
        ∷ dim.Range (pos 0) (pos 0) (pos 1) (pos 0) ∷ []) (
          (
            (omega (arith, ints), omega (arith, ints)),
            (omega (arith, ints), omega (arith, ints)),
            omega (arith, ints),
            (omega (arith, ints), omega (arith, ints)),
          ),
          (
            (
              (omega (arith, ints), omega (arith, ints)),
              (omega (arith, ints), omega (arith, ints)),
              omega (arith, ints),
              (omega (arith, ints), omega (arith, ints)),
            ),
            (
              (
                (omega (arith, ints), omega (arith, ints)),
                (omega (arith, ints), omega (arith, ints)),
                omega (arith, ints),
                (omega (arith, ints), omega (arith, ints)),
              ),
              tt,
            ),
          ),
        );
    points = omega arith;
  };
  fringes = λ stored.
      All-from_recursion HasFringe (axis.Range (pos 1) (pos 4) (pos 1) (pos 1) ∷ no_range ∷ no_range
      ∷ []) (
        ((omega (arith, ints), omega (arith, ints)), (omega (arith, ints), omega (arith, ints))),
        (
          ((omega (arith, ints), omega (arith, ints)), (omega (arith, ints), omega (arith, ints))),
          (
            (
              (omega (arith, ints), omega (arith, ints)),
              (omega (arith, ints), omega (arith, ints)),
            ),
            tt,
          ),
        ),
      );
  without_storage = λ stored. absurd (true≢false stored);
}

middle_fits : FitsRegion middle
middle_fits = record {
  rank = is_rank;
  steps =
      All-from_recursion HasStep
      (dim.Range (pos 2) (pos 3) (pos 1) (pos 1) ∷ padding ∷ padding ∷ [])
      (omega (arith, ints), (omega (arith, ints), (omega (arith, ints), tt)));
  padded = refl;
  limit = record {
    dims =
        All-from_recursion IsDimWithinLimit
        (dim.Range (pos 2) (pos 3) (pos 1) (pos 1) ∷ padding ∷ padding ∷ []) (
          (
            (omega (arith, ints), omega (arith, ints)),
            (omega (arith, ints), omega (arith, ints)),
            omega (arith, ints),
            (omega (arith, ints), omega (arith, ints)),
          ),
          (
            (
              (omega (arith, ints), omega (arith, ints)),
              (omega (arith, ints), omega (arith, ints)),
              omega (arith, ints),
              (omega (arith, ints), omega (arith, ints)),
            ),
            (
              (
                (omega (arith, ints), omega (arith, ints)),
                (omega (arith, ints), omega (arith, ints)),
                omega (arith, ints),
                (omega (arith, ints), omega (arith, ints)),
              ),
              tt,
            ),
          ),
        );
    points = omega arith;
  };
}

crossed_fits : Fits crossed
crossed_fits = record {
  grid = record {
    some = omega arith;
    absent = All-from_recursion (λ factor. factor ≡ 0) (0 ∷ 0 ∷ []) (refl, (refl, tt));
    few = omega arith;
  };
  slots = All-from_recursion IsRank (1 ∷ []) (is_rank, tt);
  arrays = All-from_recursion FitsArray (line ∷ []) (line_fits, tt);
  exprs = All-nil (FitsExpr crossed);
  groups = All-nil (FitsGroup crossed);
  exchanges =
      All-from_recursion (FitsExchange crossed) (items ∷ items ∷ []) (items_fit, (items_fit, tt));
  code =
      All-from_recursion (FitsInstr crossed) crossed.code (
        record { rank = 1; fit = (refl, middle_fits, refl) },
        (
          record { rank = 1; fit = omega arith },
          (
            record { rank = 1; fit = omega arith },
            (
              record { rank = 1; fit = omega arith },
              (record { rank = 1; fit = omega arith }, (record { rank = 1; fit = tt }, tt)),
            ),
          ),
        ),
      );
}

crossed_tables : AreTables crossed
crossed_tables = record {
  fits = crossed_fits;
  typed = record {
    arrays = All-from_recursion IsTypedArray (line ∷ []) (refl, tt);
    exprs = All-nil (All IsTypedWord);
    exchanges =
        All-from_recursion (All IsTypedItem) (items ∷ items ∷ []) (
          All-from_recursion IsTypedItem items (refl, (refl, tt)),
          (All-from_recursion IsTypedItem items (refl, (refl, tt)), tt),
        );
    code =
        All-from_recursion IsTypedRow crossed.code (refl, (tt, (tt, (tt, (tt, (tt, tt))))));
  };
}

-- ---- it needs links that hold two messages
few : (at : ℕ) → length (walked_open crossed at) ≤ 2
few zero = omega arith
few (suc zero) = omega arith
few (suc (suc zero)) = omega arith
few (suc (suc (suc zero))) = omega arith
few (suc (suc (suc (suc zero)))) = omega arith
few (suc (suc (suc (suc (suc zero))))) = omega arith
few (suc (suc (suc (suc (suc (suc zero)))))) = omega arith
few (suc (suc (suc (suc (suc (suc (suc at))))))) = few (suc (suc (suc (suc (suc (suc at))))))

first : (x : ℕ) → Contains (x ∷ []) x
first x = (0, omega arith, refl)

two_open : Comes crossed 3 (0 ∷ 1 ∷ [])
two_open =
    Follows {next = 3} (Follows {next = 2} (Follows {next = 1} Begins refl (first 1)) refl
    (first 2)) refl
    (first 3)

crossed_needs : IsLinksNeeded crossed 2
crossed_needs = record {
  positive = omega arith;
  enough = λ at opened comes.
      subst (λ opened. length opened ≤ 2) (sym (walked_are_open crossed refl at opened comes))
      (few at);
  least = inr (3, (0 ∷ 1 ∷ []), two_open, refl);
}

-- So no order of turns stops it, over links that hold two messages or more.
crossed_is_checked : IsChecked crossed 2
crossed_is_checked = record {
  small = λ large. omega (arith, large);
  sound = straight_sound crossed refl refl;
  needed = crossed_needs;
}
