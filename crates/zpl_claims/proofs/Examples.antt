-- The boxes of a program's arrays, computed; links that code is for; and code that isn't tidy.
use Rattle.std.proofs.Common.{◌≡◌, ◌≤◌, ◌+◌, ◌*◌, ℕ, true, List, [], ◌∷◌, length, ℤ, pos, Option}
use Rattle.std.proofs.Common.{Some, None, refl, sym, ap, ◌∙◌, subst, arith, true≢false}
use Rattle.std.specs.Prelude.{map}
use Rattle.zpl_region.specs.Region.{padding}
use Rattle.zpl_region.specs.Hull.{all_from}
use Rattle.zpl_meaning.specs.of_zpl_names.Expansion.{source_size}
use Rattle.zpl_meaning.specs.of_zpl_names.Reached.{longest_chain}
use Rattle.zpl_meaning.proofs.of_zpl_names.ExamplesExpansion.{calls}
use Rattle.zpl_meaning.specs.of_zpl_binding.Declarations.{known_of}
use Rattle.grid_meaning.specs.of_grid_layout.declared.boxes.ArrayBox.{ArrayBox}
use Rattle.grid_meaning.specs.of_grid_layout.Words.{words_of}
use Rattle.grid_meaning.specs.of_grid_layout.Layout.{Arrangement}
use Rattle.grid_meaning.specs.Stored.{box_of, stored}
use Rattle.grid_meaning.specs.of_node_form.declared.tables.Tables.{Tables}
use Rattle.code_parts.specs.Counts.{code_size}
use Rattle.zpl_claims.specs.Boxes.{boxes_of}
use Rattle.zpl_claims.specs.Build.{Build, IsBuiltFor, no_options, plain_build}
use Rattle.zpl_claims.specs.Origin.{Origin, origin_of}
use Rattle.zpl_claims.specs.Tidy.{IsTidy}

-- from 1 to a last index, read so far above an index
abbrev read_above : ℤ → ℤ → ArrayBox
read_above last far = record {
  shape = record { rank = 1; dims = all_from (pos 1) last ∷ padding ∷ padding ∷ [] };
  low = pos 0 ∷ pos 0 ∷ pos 0 ∷ [];
  high = far ∷ pos 0 ∷ pos 0 ∷ [];
}

-- A and B; in the call of u the copy of B that b is, and l, which is read with no shift; and the
-- copy for the read of A that wraps round. A is read with a shift under its own name and under a
-- parameter's.
abbrev boxes : List ArrayBox
boxes =
    read_above (pos 4) (pos 1) ∷ read_above (pos 4) (pos 1) ∷ read_above (pos 4) (pos 1)
    ∷ read_above (pos 4) (pos 0) ∷ read_above (pos 5) (pos 1) ∷ []

boxes_of_calls : boxes_of calls (known_of calls []) ≡ boxes
unfolding longest_chain
boxes_of_calls = refl

-- on two processors the first has the indices up to 2 and holds one more where they are read above
words_of_calls : words_of (record { grid = 2 ∷ 0 ∷ 0 ∷ []; boxes = boxes }) ≡ 25
words_of_calls = refl

-- ---- links
abbrev early_build : Option ℕ → Build
early_build links =
    record (plain_build links []) { options = record no_options { early = true } }

-- exchanges that start early want links that hold as many messages as the code was built for
for_more : IsBuiltFor (early_build (Some 4)) (Some 5)
for_more = (omega arith, λ asked. omega arith)

for_any_number : IsBuiltFor (early_build (Some 4)) None
for_any_number = (tt, λ asked. tt)

not_for_fewer : ¬ IsBuiltFor (early_build (Some 4)) (Some 3)
not_for_fewer built = absurd (omega (arith, built.1 refl))

unbounded_alone : ¬ IsBuiltFor (early_build None) (Some 9)
unbounded_alone built = built.1 refl

-- other code is for all
for_one : IsBuiltFor (plain_build (Some 4) []) (Some 1)
for_one = (omega arith, λ asked. absurd (true≢false (sym asked)))

-- ---- code of this program that isn't tidy
abbrev origin : Origin
origin = origin_of (plain_build None []) calls 160

size_limit : 512 * (source_size calls + 1) ≡ 58368
unfolding longest_chain
size_limit = refl

-- padded with a million slots, or scalars
million_slots : (code : Tables) → length code.slots ≡ 1000000 → ¬ IsTidy origin code
million_slots code many tidy =
    let small : code_size code ≤ 58368 = subst (λ n. code_size code ≤ n) size_limit tidy.lean.small in
    absurd (omega (arith, small, many))

million_scalars : (code : Tables) → code.scalars ≡ 1000000 → ¬ IsTidy origin code
million_scalars code many tidy =
    let small : code_size code ≤ 58368 = subst (λ n. code_size code ≤ n) size_limit tidy.lean.small in
    absurd (omega (arith, small, many))

-- with one array more, such as one far away for whose sake one processor owns all others
far_array : (code : Tables) (far : ArrayBox) → map box_of (stored code.arrays) ≡ far ∷ boxes
    → ¬ IsTidy origin code
far_array code far more tidy =
    let same : far ∷ boxes ≡ boxes =
    sym more ∙ tidy.boxes ∙ boxes_of_calls in
    let six : 6 ≡ 5 = ap length same in
    absurd (omega (arith, six))
