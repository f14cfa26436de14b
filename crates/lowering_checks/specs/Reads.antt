-- Scalars that loops accumulate, and scalars that they read, along rows that are seen inline.
--
--   totals_of   the scalars that the loops of rows accumulate
--   FreeMembers a group reads only scalars that are free
--   AreFree     where checks alone stand between two loops, the second one reads only scalars that
--               are free; or it stands directly behind the first one, and puts an array
--   is_free     a scalar is none of these
use Rattle.std.specs.Prelude.{◌≡◌, ◌⊎◌, ℕ, ◌==◌, Bool, true, not, List, [], ◌∷◌, ◌++◌, Option, Some, None}
use Rattle.std.specs.List.{list_any}
use Rattle.node_form.specs.declared.words.ExprOp.{ExprOp}
use Rattle.node_form.specs.declared.words.ExprOp.TheVariants as word
use Rattle.lowering_fits.specs.of_flat_form.Row as row
use Rattle.lowering_fits.specs.of_flat_form.Row.{Row, Member, Words, member_words}
use Rattle.lowering_fits.specs.of_zpl_lowering.Statement.{has_put}
use Rattle.lowering_checks.specs.Walked.{Since, behind_row}

-- ---- what is accumulated

abbrev pub total_of : Member → List ℕ
total_of (row.Acc scalar operator expr mask line) = scalar ∷ []
total_of one = []

abbrev pub totals_in : List Member → List ℕ
totals_in [] = []
totals_in (one ∷ group) = total_of one ++ totals_in group

abbrev pub totals_by : Row → List ℕ
totals_by (row.Loop slot group) = totals_in group
totals_by one = []

abbrev pub totals_of : List Row → List ℕ
totals_of [] = []
totals_of (one ∷ rows) = totals_by one ++ totals_of rows

abbrev pub is_free : List ℕ → ℕ → Bool
is_free totals scalar = not (list_any (λ total. scalar == total) totals)

-- ---- what is read

module _ (free : ℕ → Bool) where
  abbrev pub FreeWord : ExprOp → Type 0
  FreeWord (word.Scalar scalar) = free scalar ≡ true
  FreeWord one = Unit {0}

  abbrev pub FreeWords : Words → Type 0
  FreeWords [] = Unit {0}
  FreeWords (one ∷ words) = FreeWord one × FreeWords words

  abbrev pub FreeExprs : List Words → Type 0
  FreeExprs [] = Unit {0}
  FreeExprs (expr ∷ exprs) = FreeWords expr × FreeExprs exprs

  abbrev pub FreeMembers : List Member → Type 0
  FreeMembers [] = Unit {0}
  FreeMembers (one ∷ group) = FreeExprs (member_words one) × FreeMembers group

  abbrev pub MayRead : Option Since → List Member → Type 0
  MayRead None group = Unit {0}
  MayRead (Some since) group =
      FreeMembers group ⊎ ((since.known ≡ []) × (has_put group ≡ true))

  abbrev pub IsFree : Option Since → Row → Type 0
  IsFree last (row.Loop slot group) = MayRead last group
  IsFree last one = Unit {0}

  abbrev pub AreFree : Option Since → List Row → Type 0
  AreFree last [] = Unit {0}
  AreFree last (one ∷ rows) = IsFree last one × AreFree (behind_row last one) rows
