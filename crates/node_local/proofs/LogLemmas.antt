-- Changes that are logged give back what was there.
use Rattle.std.proofs.Common.{◌≡◌, ℕ, zero, suc, ◌<◌, List, [], ◌∷◌, ◌++◌, length, take, drop, get_or, replicate, set, refl, sym, ap, ◌∙◌, ℤ, pos, arith}
use Rattle.std.proofs.lemmas.List.{append-nil, drop_all, set-get_or, set-set, take_all}
use Rattle.grid_meaning.specs.of_zpl_arrays.Array.{Array}
use Rattle.grid_meaning.specs.of_node_form.Group.{Point}
use Rattle.node_local.specs.declared.changes.Change.{Change}
use Rattle.node_local.specs.declared.changes.Change.TheVariants.{Scalar, Cell, Place}
use Rattle.node_local.specs.Undo.{taken_back, undone}

-- one change more in front of the log
pub undone_more : (change : Change) (log more : List Change) (point before : Point (List Array))
    → more ≡ change ∷ log → taken_back change point ≡ before → undone more point ≡ undone log before
undone_more change log more point before is back = ap (λ changes. undone changes point) is ∙ ap (undone log) back

pub scalar_back : (point : Point (List Array)) (scalar : ℕ) (old value : ℤ) → old ≡ get_or point.scalars scalar (pos 0)
    → taken_back (Scalar scalar old) (record point { scalars = set point.scalars scalar value }) ≡ point
scalar_back point scalar old value was =
    ap (λ values. record point { scalars = values })
    (set-set point.scalars scalar value old ∙ (ap (set point.scalars scalar) was ∙ set-get_or point.scalars scalar (pos 0)))

pub cell_back : (point : Point (List Array)) (cell : ℕ) (old value : ℤ) → old ≡ get_or point.cells cell (pos 0)
    → taken_back (Cell cell old) (record point { cells = set point.cells cell value }) ≡ point
cell_back point cell old value was =
    ap (λ values. record point { cells = values })
    (set-set point.cells cell value old ∙ (ap (set point.cells cell) was ∙ set-get_or point.cells cell (pos 0)))

-- a row whose values are all 0
pub all_zeros : (values : List ℤ) (many : ℕ) → length values ≡ many
    → ((k : ℕ) → k < many → get_or values k (pos 0) ≡ pos 0) → values ≡ replicate many (pos 0)
all_zeros [] zero long zeros = refl
all_zeros [] (suc many) long zeros = absurd (omega arith)
all_zeros (value ∷ values) zero long zeros = absurd (omega arith)
all_zeros (value ∷ values) (suc many) long zeros =
    let first : value ≡ pos 0 = zeros 0 (omega arith) in
    let rest : values ≡ replicate many (pos 0) =
    all_zeros values many (omega arith) (λ k below. zeros (suc k) (omega arith)) in
    ap (λ v. v ∷ values) first ∙ ap (λ vs. pos 0 ∷ vs) rest

pub scalar_undone : (point : Point (List Array)) (scalar : ℕ) (old value : ℤ) (log more : List Change)
    → old ≡ get_or point.scalars scalar (pos 0) → more ≡ Scalar scalar old ∷ log
    → undone more (record point { scalars = set point.scalars scalar value }) ≡ undone log point
scalar_undone point scalar old value log more was is =
    undone_more (Scalar scalar old) log more (record point { scalars = set point.scalars scalar value }) point is
    (scalar_back point scalar old value was)

pub cell_undone : (point : Point (List Array)) (cell : ℕ) (old value : ℤ) (log more : List Change)
    → old ≡ get_or point.cells cell (pos 0) → more ≡ Cell cell old ∷ log
    → undone more (record point { cells = set point.cells cell value }) ≡ undone log point
cell_undone point cell old value log more was is =
    undone_more (Cell cell old) log more (record point { cells = set point.cells cell value }) point is
    (cell_back point cell old value was)

-- the whole of a list is written over
pub whole_log : {X : Type 0} (log more : List X) (len : ℕ) → length more ≡ length log → len ≡ length log
    → take len (more ++ drop (length more) log) ≡ more
whole_log log more len same whole =
    let past : drop (length more) log ≡ [] = drop_all (length more) log (omega arith) in
    ap (λ rest. take len (more ++ rest)) past ∙ (ap (take len) (append-nil more) ∙ take_all len more (omega arith))
