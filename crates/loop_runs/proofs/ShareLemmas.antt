-- All units at a tuple on a processor do what they do at the tuple by itself, over the whole arrays as
-- they were before the loop.
--
--   AreUnitsOf     units, each of which reads no cell that none has kept before
--   IsAt           a processor's state within a tuple, and what the tuple has come to by itself
--   owns_alike     both come to the same
--   owns_good      nothing that they read is missing, and where none divides, no divisor is zero
use Rattle.std.proofs.Common.{◌≡◌, inl, inr, refl, sym, ◌∙◌, ap, subst, arith, ℕ, zero, suc}
use Rattle.std.proofs.Common.{◌+◌, ◌<◌, ◌≤◌, Bool, true, false, List, [], ◌∷◌, length, All, ℤ}
use Rattle.std.proofs.Common.{Option, Some, None}
use Rattle.std.specs.Prelude.{if◌then◌else◌, option_and_then, slice_get, slice_set, ⊤}
use Rattle.std.specs.Option.{option_map}
use Rattle.zpl_nums.specs.declared.folds.Fold.{Fold}
use Rattle.zpl_nums.specs.declared.operators.Op.{Op}
use Rattle.zpl_nums.specs.Fold.{joined}
use Rattle.zpl_nums.specs.Op.{Divides as IsDivision}
use Rattle.zpl_region.specs.declared.regions.Region.{Region}
use Rattle.zpl_region.proofs.ListLemmas.{Among}
use Rattle.zpl_arrays.specs.Array.{Array, element, has_place, updated}
use Rattle.row_runs.specs.Straight.{Every}
use Rattle.node_form.specs.declared.tables.Tables.{Tables}
use Rattle.node_form.specs.declared.words.ExprOp.{ExprOp}
use Rattle.node_form.specs.declared.words.ExprOp.TheVariants as word
use Rattle.node_form.specs.Expression.{IsExpression}
use Rattle.node_form.specs.Fits.{FitsWord}
use Rattle.node_form.specs.Group as group
use Rattle.node_form.specs.Nest.{Nest, Nothing, Putting, Keeping, Joining, Choosing, ChoosingElse}
use Rattle.node_form.specs.Nest.{Looping, Repeating, members_of}
use Rattle.node_form.specs.Value.{Computed, Gives, Divides, Lacks, Operands, and_then, read, unmoved}
use Rattle.node_form.specs.Value.{DividesByZero, IsUnheld, ReadsUnheld, value_of}
use Rattle.node_form.proofs.ValueLemmas.{value_of-Divides, value_of-Lacks}
use Rattle.grid_meaning.specs.Loop.{access_at}
use Rattle.grid_meaning.specs.Place.{held_value, held_with, moved_by, value_at, where_held, with_value}
use Rattle.code_parts.specs.Uses.{is_division}
use Rattle.nest_meaning.specs.Alike.{AreBoth, AreLeaves, AreTold, AreValues, Both, BothFine, BothLost}
use Rattle.nest_meaning.specs.Alike.{BothWant, BothZero, JoinLeaf, KeepLeaf, Leaf, PutLeaf, way_of}
use Rattle.nest_meaning.specs.Nested.{Ways, Told, Fine, Zero, Wants, Lost, nested, then_do, ways_of}
use Rattle.nest_meaning.specs.Nested as tree
use Rattle.nest_meaning.proofs.AlikeLemmas.{does_alike}
use Rattle.flat_form.specs.Loop.{Joins, Point, Puts, Write, element_at, log_ways, log_written}
use Rattle.flat_form.specs.Loop.{logged, operands_at, written}
use Rattle.flat_form.specs.Right.{is_unmoved}
use Rattle.flat_form.specs.Whole.{Whole}
use Rattle.loop_runs.proofs.ColumnLemmas.{Gone, Keeps, Own, Waits, own_next, own_run}
use Rattle.loop_runs.proofs.NestLemmas.{GoodFine, GoodWant, GoodZero, NestOf, StateGood, ToldGood}
use Rattle.loop_runs.proofs.NestLemmas.{ValueGood, every_behind, nest_same, nested_good}
use Rattle.loop_runs.proofs.WordLemmas.{ExprOf, LeafOf, is_moved_none, value_by}
use Rattle.loop_runs.proofs.WriteLemmas.{HasOwn, Placed, PlacedAt, WriteOf, Wrote, log_wrote, set_length}
use Rattle.loop_runs.proofs.WriteLemmas.{unput_logged}

-- ---- cells
set_same : (xs ys : List ℤ) (c d : ℕ) (v : ℤ) → d < length xs → d < length ys
    → slice_get xs d ≡ slice_get ys d
    → slice_get (slice_set xs c v) d ≡ slice_get (slice_set ys c v) d
set_same [] ys c d v low high e = absurd (omega (arith, low))
set_same (x ∷ xs) [] c d v low high e = absurd (omega (arith, high))
set_same (x ∷ xs) (y ∷ ys) zero zero v low high e = refl
set_same (x ∷ xs) (y ∷ ys) zero (suc d) v low high e = e
set_same (x ∷ xs) (y ∷ ys) (suc c) zero v low high e = e
set_same (x ∷ xs) (y ∷ ys) (suc c) (suc d) v low high e =
    set_same xs ys c d v (omega (arith, low)) (omega (arith, high)) e

set_here : (xs : List ℤ) (c : ℕ) (v : ℤ) → c < length xs → slice_get (slice_set xs c v) c ≡ Some v
set_here [] c v low = absurd (omega (arith, low))
set_here (x ∷ xs) zero v low = refl
set_here (x ∷ xs) (suc c) v low = set_here xs c v (omega (arith, low))

get_there : (xs : List ℤ) (k : ℕ) → k < length xs → (v : ℤ) × (slice_get xs k ≡ Some v)
get_there [] k low = absurd (omega (arith, low))
get_there (x ∷ xs) zero low = (x, refl)
get_there (x ∷ xs) (suc k) low = get_there xs k (omega (arith, low))

-- the cells that are kept behind a unit
abbrev pub known_behind : List ℕ → Nest → List ℕ
known_behind known (Keeping cell expr None line after) = cell ∷ known
known_behind known unit = known

-- a unit by itself
abbrev pub IsSingle : Nest → Type 0
IsSingle (Keeping cell expr mask line Nothing) = ⊤
IsSingle (Keeping cell expr mask line after) = ⊥
IsSingle unit = ⊤

module _ (code : Tables) (rank n count : ℕ) (before : Whole)
    (R : ℕ → List ℤ → Type 0) (S : ℕ → Type 0) (puts : ℕ → Bool) (J : ℕ → Fold → Type 0)
    (Z : ℕ → Region) (one : (k : ℕ) (f g : Fold) → J k f → J k g → f ≡ g)
    (far_unput : (a : ℕ) (shift : List ℤ) → R a shift → is_unmoved shift ≡ false → puts a ≡ false)
    (low : (k : ℕ) (f : Fold) → J k f → k < code.scalars) where
  abbrev pub IsCell : ℕ → Type 0
  IsCell c = (c < code.cells) × (c < count)

  abbrev pub Reads : List ℕ → ℕ → Type 0
  Reads known = ExprOf code rank code.exprs R S known

  abbrev pub Leaves : Leaf → Type 0
  Leaves = LeafOf puts J IsCell

  abbrev pub AreUnitsOf : List ℕ → List Nest → Type 0
  AreUnitsOf known [] = ⊤
  AreUnitsOf known (unit ∷ units) =
      (IsSingle unit × NestOf (Reads known) Leaves unit)
      × AreUnitsOf (known_behind known unit) units

  abbrev IsWrite : Write → Type 0
  IsWrite = WriteOf puts J Z one

  abbrev Spot : Type 0
  Spot = group.Point (List Array)

  -- ---- a tuple on a processor, whose state was `start` in front of it
  module _ (start : Whole) (t : List ℤ) (placed : Placed puts J Z one start)
      (owns : HasOwn puts J Z one t)
      (alike : (a : ℕ) (shift : List ℤ) → R a shift
      → value_at start.stores a (moved_by shift t) ≡ value_at before.stores a (moved_by shift t))
      (same : (k : ℕ) → S k → (p : List ℤ)
      → ((k : ℕ) → ((f : Fold) → J k f → ⊥) → slice_get p k ≡ slice_get start.scalars k)
      → slice_get p k ≡ slice_get before.scalars k) where
    pub record IsAt (known : List ℕ) (p : Spot) (q : Point) : Type 0 where
      pub after : Whole
      pub wrote : log_written t q.log start ≡ Some after
      pub stores : p.store ≡ after.stores
      pub scalars : p.scalars ≡ after.scalars
      pub writes : Every IsWrite q.log
      pub long : length p.cells ≡ code.cells
      pub long_alone : length q.cells ≡ count
      pub scalars_long : length p.scalars ≡ code.scalars
      pub cells : (c : ℕ) → Among known c
          → IsCell c × (slice_get p.cells c ≡ slice_get q.cells c)

    abbrev here : Ways Spot
    here = ways_of code (access_at t)

    abbrev alone : Ways Point
    alone = log_ways code.exprs before t

    pub facts : (known : List ℕ) (p : Spot) (q : Point) (is : IsAt known p q)
        → Wrote puts J Z one t q.log start is.after
    facts known p q is = log_wrote puts J Z one t q.log start is.after placed owns is.writes is.wrote

    elements : (known : List ℕ) (p : Spot) (q : Point) → IsAt known p q → (a : ℕ) (shift : List ℤ)
        → R a shift
        → value_at p.store a (moved_by shift t) ≡ element_at before t q.log a shift
    elements known p q is a shift r =
        let u = moved_by shift t in
        let wrote = facts known p q is in
        ap (λ stores. value_at stores a u) is.stores
        ∙ by (is_unmoved shift) refl (puts a) refl wrote
      where
        kept : puts a ≡ false → Wrote puts J Z one t q.log start is.after
            → value_at is.after.stores a (moved_by shift t)
            ≡ value_at before.stores a (moved_by shift t)
        kept e wrote =
            ap (λ o. option_and_then (held_value (moved_by shift t)) o) (wrote.stays.unput a e)
            ∙ alike a shift r

        near : is_unmoved shift ≡ true → (b : Bool) → puts a ≡ b
            → Wrote puts J Z one t q.log start is.after
            → value_at is.after.stores a (moved_by shift t)
            ≡ logged q.log a (value_at before.stores a (moved_by shift t))
        near e true is_put wrote =
            let flat : moved_by shift t ≡ t = is_moved_none shift t e in
            let own = owns a is_put in
            subst (λ u. value_at is.after.stores a u ≡ logged q.log a (value_at start.stores a u))
            (sym flat) (wrote.own a t is_put own.0 own.1)
            ∙ ap (logged q.log a) (alike a shift r)
        near e false is_put wrote =
            kept is_put wrote
            ∙ sym (unput_logged puts J Z one q.log a
            (value_at before.stores a (moved_by shift t)) is.writes is_put)

        by : (b : Bool) → is_unmoved shift ≡ b → (c : Bool) → puts a ≡ c
            → Wrote puts J Z one t q.log start is.after
            → value_at is.after.stores a (moved_by shift t) ≡ element_at before t q.log a shift
        by true e c is_put wrote =
            near e c is_put wrote
            ∙ sym (ap (λ b. if b then logged q.log a (value_at before.stores a (moved_by shift t))
            else value_at before.stores a (moved_by shift t)) e)
        by false e c is_put wrote =
            kept (far_unput a shift r e) wrote
            ∙ sym (ap (λ b. if b then logged q.log a (value_at before.stores a (moved_by shift t))
            else value_at before.stores a (moved_by shift t)) e)

    values : (known : List ℕ) (expr : ℕ) → Reads known expr
        → AreValues (IsAt known) here alone expr expr
    values known expr reads = record {
      same = λ p q is.
          value_by code rank code.exprs R S known (group.operands_at (access_at t) p)
          (operands_at before t q)
          (λ k r. same k r p.scalars (λ j never. ap (λ s. slice_get s j) is.scalars
          ∙ (facts known p q is).stays.others j never))
          (λ c k. (is.cells c k).1) refl (elements known p q is) expr reads;
    }

    put_is : (s : Whole) → Placed puts J Z one s → (a : ℕ) (v : ℤ) → puts a ≡ true
        → (next : List Array) × (with_value s.stores a t v ≡ Some next)
    put_is s place a v is =
        let at : PlacedAt puts J Z one s a = place a is in
        let has : has_place at.store.storage t ≡ true =
        subst (λ z. has_place z t ≡ true) (sym at.storage) (owns a is).0 in (
          slice_set s.stores a (updated at.store t v),
          ap (λ o. option_map (slice_set s.stores a) (option_and_then (held_with t v) o)) at.there
              ∙ ap (λ b. option_map (slice_set s.stores a) (where_held b (updated at.store t v))) has,
        )

    leaves : (known : List ℕ) (leaf : Leaf) → Leaves leaf
        → AreLeaves (IsAt known) here alone leaf leaf
    leaves known (PutLeaf a) put = record {
      steps = λ v p q is.
          let found = put_is is.after (facts known p q is).placed a v put in
          subst (λ o. AreBoth (IsAt known) o (alone.put a v q))
          (sym (ap (λ stores. option_map (λ store. record p { store = store })
          (with_value stores a t v)) is.stores
          ∙ ap (option_map (λ store. record p { store = store })) found.1))
          (Both (record {
            after = record is.after { stores = found.0 };
            wrote = ap (λ o. option_and_then (written t (Puts a v)) o) is.wrote
                ∙ ap (option_map (λ stores. record is.after { stores = stores })) found.1;
            stores = refl;
            scalars = is.scalars;
            writes = (put, is.writes);
            long = is.long;
            long_alone = is.long_alone;
            scalars_long = is.scalars_long;
            cells = is.cells;
          }));
    }
    leaves known (KeepLeaf cell) keep = record {
      steps = λ v p q is. Both (record {
        after = is.after;
        wrote = is.wrote;
        stores = is.stores;
        scalars = is.scalars;
        writes = is.writes;
        long = set_length p.cells cell v ∙ is.long;
        long_alone = set_length q.cells cell v ∙ is.long_alone;
        scalars_long = is.scalars_long;
        cells = λ c k. let at = is.cells c k in (
          at.0,
          set_same p.cells q.cells cell c v (subst (λ m. c < m) (sym is.long) at.0.0)
              (subst (λ m. c < m) (sym is.long_alone) at.0.1) at.1,
        );
      });
    }
    leaves known (JoinLeaf k f) join = record {
      steps = λ v p q is.
          let own = get_there p.scalars k
          (subst (λ m. k < m) (sym is.scalars_long) (low k f join)) in
          let whole_own : slice_get is.after.scalars k ≡ Some own.0 =
          ap (λ s. slice_get s k) (sym is.scalars) ∙ own.1 in
          subst (λ o. AreBoth (IsAt known)
          (option_map (λ own. record p { scalars = slice_set p.scalars k (joined f own v) }) o)
          (alone.join k f v q)) (sym own.1)
          (Both (record {
            after = record is.after {
              scalars = slice_set is.after.scalars k (joined f own.0 v);
            };
            wrote = ap (λ o. option_and_then (written t (Joins k f v)) o) is.wrote
                ∙ ap (option_map (λ own. record is.after {
                  scalars = slice_set is.after.scalars k (joined f own v);
                })) whole_own;
            stores = is.stores;
            scalars = ap (λ s. slice_set s k (joined f own.0 v)) is.scalars;
            writes = (join, is.writes);
            long = is.long;
            long_alone = is.long_alone;
            scalars_long = set_length p.scalars k (joined f own.0 v) ∙ is.scalars_long;
            cells = is.cells;
          }));
    }

    -- ---- a unit, and the cells that are kept behind it
    data ToldTo (known after : List ℕ) : Told Spot → Told Point → Type 0 where
      ToFine : {p : Spot} {q : Point} → IsAt after p q → ToldTo known after (Fine p) (Fine q)
      ToZero : {p : Spot} {q : Point} → IsAt known p q → ToldTo known after (Zero p) (Zero q)
      ToWant : ToldTo known after Wants Wants
      ToLost : ToldTo known after Lost Lost

    as_told : (known : List ℕ) (x : Told Spot) (y : Told Point) → AreTold (IsAt known) x y
        → ToldTo known known x y
    as_told known x y (BothFine is) = ToFine is
    as_told known x y (BothZero is) = ToZero is
    as_told known x y BothWant = ToWant
    as_told known x y BothLost = ToLost

    tree_told : (known : List ℕ) (unit : Nest) → NestOf (Reads known) Leaves unit → (p : Spot)
        (q : Point) → IsAt known p q
        → ToldTo known known (nested here n unit p) (nested alone n unit q)
    tree_told known unit of p q is =
        as_told known (nested here n unit p) (nested alone n unit q)
        (does_alike (IsAt known) here alone n unit
        (nest_same (Reads known) Leaves (IsAt known) here alone (values known) (leaves known) unit of)
        p q is)

    cell_told : (known : List ℕ) (cell expr line : ℕ) → Reads known expr → IsCell cell
        → (p : Spot) (q : Point) → IsAt known p q
        → ToldTo known (cell ∷ known) (nested here n (Keeping cell expr None line Nothing) p)
        (nested alone n (Keeping cell expr None line Nothing) q)
    cell_told known cell expr line reads keep p q is =
        subst (λ x. ToldTo known (cell ∷ known) (nested here n (Keeping cell expr None line Nothing) p)
        (then_do (nested alone n Nothing) (tree.with_value q x
        (λ v. tree.with_state (alone.keep cell v q)))))
        ((values known expr reads).same p q is) (by (here.value p expr))
      where
        by : (x : Computed ℤ)
            → ToldTo known (cell ∷ known)
            (then_do (nested here n Nothing) (tree.with_value p x
            (λ v. tree.with_state (here.keep cell v p))))
            (then_do (nested alone n Nothing) (tree.with_value q x
            (λ v. tree.with_state (alone.keep cell v q))))
        by (Gives v) = ToFine (record {
          after = is.after;
          wrote = is.wrote;
          stores = is.stores;
          scalars = is.scalars;
          writes = is.writes;
          long = set_length p.cells cell v ∙ is.long;
          long_alone = set_length q.cells cell v ∙ is.long_alone;
          scalars_long = is.scalars_long;
          cells = λ c k. cells c v k;
        })
          where
            cells : (c : ℕ) (v : ℤ) → Among (cell ∷ known) c
                → IsCell c
                × (slice_get (slice_set p.cells cell v) c ≡ slice_get (slice_set q.cells cell v) c)
            cells c v (inl e) =
                subst (λ d. IsCell d × (slice_get (slice_set p.cells cell v) d
                ≡ slice_get (slice_set q.cells cell v) d)) e (
                  keep,
                  set_here p.cells cell v (subst (λ m. cell < m) (sym is.long) keep.0)
                      ∙ sym (set_here q.cells cell v
                      (subst (λ m. cell < m) (sym is.long_alone) keep.1)),
                )
            cells c v (inr k) = let at = is.cells c k in (
              at.0,
              set_same p.cells q.cells cell c v (subst (λ m. c < m) (sym is.long) at.0.0)
                  (subst (λ m. c < m) (sym is.long_alone) at.0.1) at.1,
            )
        by Divides = ToZero is
        by Lacks = ToLost

    unit_told : (known : List ℕ) (unit : Nest) → IsSingle unit → NestOf (Reads known) Leaves unit
        → (p : Spot) (q : Point) → IsAt known p q
        → ToldTo known (known_behind known unit) (nested here n unit p) (nested alone n unit q)
    unit_told known (Keeping cell expr None line Nothing) single of p q is =
        cell_told known cell expr line of.1 of.2 p q is
    unit_told known (Keeping cell expr (Some mask) line after) single of p q is =
        tree_told known (Keeping cell expr (Some mask) line after) of p q is
    unit_told known Nothing single of p q is = tree_told known Nothing of p q is
    unit_told known (Putting array expr mask line after) single of p q is =
        tree_told known (Putting array expr mask line after) of p q is
    unit_told known (Joining scalar f expr mask line after) single of p q is =
        tree_told known (Joining scalar f expr mask line after) of p q is
    unit_told known (Choosing expr mask line body after) single of p q is =
        tree_told known (Choosing expr mask line body after) of p q is
    unit_told known (ChoosingElse expr mask line body otherwise after) single of p q is =
        tree_told known (ChoosingElse expr mask line body otherwise after) of p q is
    unit_told known (Looping expr mask line body after) single of p q is =
        tree_told known (Looping expr mask line body after) of p q is
    unit_told known (Repeating mask line body until after) single of p q is =
        tree_told known (Repeating mask line body until after) of p q is
    unit_told known (Keeping cell expr mask line after) single of p q is = absurd single

    -- ---- all units
    pub data OwnsAlike : Own Spot → Own Point → Type 0 where
      BothKeep : {known : List ℕ} {p : Spot} {q : Point} {flag : Option ℕ} → IsAt known p q
          → OwnsAlike (Keeps p flag) (Keeps q flag)
      BothWait : OwnsAlike Waits Waits
      BothGone : OwnsAlike Gone Gone

    pub owns_alike : (number : ℕ) (units : List Nest) (known : List ℕ) → AreUnitsOf known units
        → (p : Spot) (q : Point) → IsAt known p q
        → OwnsAlike (own_run here n number units p) (own_run alone n number units q)
    owns_alike number [] known of p q is = BothKeep is
    owns_alike number (unit ∷ units) known of p q is =
        by (nested here n unit p) (nested alone n unit q)
        (unit_told known unit of.0.0 of.0.1 p q is)
        (λ p q is. owns_alike (number + length (members_of unit)) units (known_behind known unit)
        of.1 p q is)
      where
        by : (x : Told Spot) (y : Told Point) → ToldTo known (known_behind known unit) x y
            → ((p : Spot) (q : Point) → IsAt (known_behind known unit) p q
            → OwnsAlike (own_run here n (number + length (members_of unit)) units p)
            (own_run alone n (number + length (members_of unit)) units q))
            → OwnsAlike
            (own_next number x (λ p. own_run here n (number + length (members_of unit)) units p))
            (own_next number y (λ q. own_run alone n (number + length (members_of unit)) units q))
        by x y (ToFine {p = p} {q = q} is) more = more p q is
        by x y (ToZero is) more = BothKeep is
        by x y ToWant more = BothWait
        by x y ToLost more = BothGone

-- ---- what is read is there
pub record IsHeld (stores : List Array) (a : ℕ) (u : List ℤ) : Type 0 where
  pub store : Array
  pub there : slice_get stores a ≡ Some store
  pub has : has_place store.storage u ≡ true

-- `Z` says whether an expression may divide
module _ (code : Tables) (rank n : ℕ) (R : ℕ → List ℤ → Type 0) (puts : ℕ → Bool)
    (J : ℕ → Fold → Type 0) (IsCell : ℕ → Type 0) (Z : Type 0) (stores : List Array) (t : List ℤ)
    (long : rank ≤ length t)
    (reads : (a : ℕ) (shift : List ℤ) → R a shift → IsHeld stores a (moved_by shift t))
    (writes : (a : ℕ) → puts a ≡ true → IsHeld stores a t)
    (low : (k : ℕ) (f : Fold) → J k f → k < code.scalars) where
  abbrev pub WordGood : ExprOp → Type 0
  WordGood (word.Here a) = R a unmoved
  WordGood (word.Shifted a shift) = R a shift
  WordGood (word.Pair operator) = is_division operator ≡ true → Z
  WordGood other = ⊤

  pub record ExprGood (expr : ℕ) : Type 0 where
    pub words : List ExprOp
    pub there : slice_get code.exprs expr ≡ Some words
    pub stack : IsExpression words
    pub fit : All (FitsWord code rank) words
    pub each : Every WordGood words

  abbrev Place : Type 0
  Place = group.Point (List Array)

  pub record Sized (p : Place) : Type 0 where
    pub scalars : length p.scalars ≡ code.scalars
    pub cells : length p.cells ≡ code.cells
    pub held : (a : ℕ) (u : List ℤ) → IsHeld stores a u → IsHeld p.store a u

  held_some : (own : List Array) (a : ℕ) (u : List ℤ) → IsHeld own a u → value_at own a u ≡ None → ⊥
  held_some own a u is e = by (sym (ap (λ o. option_and_then (held_value u) o) is.there
      ∙ ap (λ b. where_held b (element is.store u)) is.has) ∙ e)
    where
      by : {v : ℤ} → Some v ≡ None → ⊥
      by e = cc

  never_unheld : (p : Place) → Sized p → (w : ExprOp) → WordGood w
      → IsUnheld (group.operands_at (access_at t) p) w → ⊥
  never_unheld p has (word.Here a) good e =
      held_some p.store a (moved_by unmoved t) (has.held a _ (reads a unmoved good)) e
  never_unheld p has (word.Shifted a shift) good e =
      held_some p.store a (moved_by shift t) (has.held a _ (reads a shift good)) e
  never_unheld p has (word.Const value) good e = e
  never_unheld p has (word.Scalar scalar) good e = e
  never_unheld p has (word.Cell cell) good e = e
  never_unheld p has (word.Coord dimension) good e = e
  never_unheld p has (word.Pair operator) good e = e
  never_unheld p has word.Neg good e = e
  never_unheld p has word.Not good e = e
  never_unheld p has word.Abs good e = e

  divides_is : (operator : Op) → IsDivision operator → is_division operator ≡ true
  divides_is operator (inl is) = ap is_division is
  divides_is operator (inr is) = ap is_division is

  value_good : (expr : ℕ) → ExprGood expr → (p : Place) → Sized p
      → ValueGood ExprGood (LeafOf puts J IsCell) Sized Z (group.value_at code (access_at t) p expr)
  value_good expr good p has =
      subst (ValueGood ExprGood (LeafOf puts J IsCell) Sized Z)
      (sym (ap (λ o. and_then (value_of operands) (read o)) good.there))
      (by (value_of operands good.words) refl)
    where
      operands : Operands
      operands = group.operands_at (access_at t) p

      by : (x : Computed ℤ) → value_of operands good.words ≡ x
          → ValueGood ExprGood (LeafOf puts J IsCell) Sized Z x
      by (Gives v) e = tt
      by Divides e =
          let why : DividesByZero operands good.words [] =
          (value_of-Divides code rank operands good.words good.stack good.fit (record {
            scalars = omega (arith, has.scalars);
            cells = omega (arith, has.cells);
            index = long;
          })).0 e in
          (every_behind WordGood why.front (word.Pair why.op ∷ why.rest)
          (subst (Every WordGood) why.place good.each)).0 (divides_is why.op why.divides)
      by Lacks e =
          let why : ReadsUnheld operands good.words [] =
          (value_of-Lacks code rank operands good.words good.stack good.fit (record {
            scalars = omega (arith, has.scalars);
            cells = omega (arith, has.cells);
            index = long;
          })).0 e in
          never_unheld p has why.word (every_behind WordGood why.front (why.word ∷ why.rest)
          (subst (Every WordGood) why.place good.each)).0 why.unheld

  abbrev own_ways : Ways Place
  own_ways = ways_of code (access_at t)

  set_held : (own : List Array) (k : ℕ) (old new : Array) → slice_get own k ≡ Some old
      → new.storage ≡ old.storage → (a : ℕ) (u : List ℤ) → IsHeld own a u
      → IsHeld (slice_set own k new) a u
  set_held [] k old new there same a u is = is
  set_held (x ∷ own) zero old new there same zero u is =
      let first : x ≡ old = cc in
      let second : x ≡ is.store = some_same is.there in record {
        store = new;
        there = refl;
        has = subst (λ z. has_place z u ≡ true)
            (ap (λ (b : Array). b.storage) (sym second ∙ first) ∙ sym same) is.has;
      }
    where
      some_same : {v w : Array} → Some v ≡ Some w → v ≡ w
      some_same e = cc
  set_held (x ∷ own) zero old new there same (suc a) u is =
      record { store = is.store; there = is.there; has = is.has }
  set_held (x ∷ own) (suc k) old new there same zero u is =
      record { store = is.store; there = is.there; has = is.has }
  set_held (x ∷ own) (suc k) old new there same (suc a) u is =
      let rest = set_held own k old new there same a u
      (record { store = is.store; there = is.there; has = is.has }) in
      record { store = rest.store; there = rest.there; has = rest.has }

  leaf_good : (leaf : Leaf) → LeafOf puts J IsCell leaf → (v : ℤ) (p : Place) → Sized p
      → StateGood ExprGood (LeafOf puts J IsCell) Sized Z (way_of own_ways leaf v p)
  leaf_good (PutLeaf a) put v p has =
      let at : IsHeld p.store a t = has.held a t (writes a put) in
      subst (StateGood ExprGood (LeafOf puts J IsCell) Sized Z)
      (sym (ap (λ o. option_map (λ store. record p { store = store })
      (option_map (slice_set p.store a) (option_and_then (held_with t v) o))) at.there
      ∙ ap (λ b. option_map (λ store. record p { store = store })
      (option_map (slice_set p.store a) (where_held b (updated at.store t v)))) at.has))
      (record {
        scalars = has.scalars;
        cells = has.cells;
        held = λ b u is. set_held p.store a at.store (updated at.store t v) at.there refl b u
            (has.held b u is);
      })
  leaf_good (KeepLeaf cell) keep v p has = record {
    scalars = has.scalars;
    cells = set_length p.cells cell v ∙ has.cells;
    held = has.held;
  }
  leaf_good (JoinLeaf k f) join v p has =
      let own = get_there p.scalars k (subst (λ m. k < m) (sym has.scalars) (low k f join)) in
      subst (λ o. StateGood ExprGood (LeafOf puts J IsCell) Sized Z
      (option_map (λ own. record p { scalars = slice_set p.scalars k (joined f own v) }) o))
      (sym own.1)
      (record {
        scalars = set_length p.scalars k (joined f own.0 v) ∙ has.scalars;
        cells = has.cells;
        held = has.held;
      })

  -- nothing is missing, and a flag says that something divides
  pub data OwnGood : Own Place → Type 0 where
    GoodKeeps : {p : Place} → Sized p → OwnGood (Keeps p None)
    GoodFlag : {p : Place} {number : ℕ} → Z → Sized p → OwnGood (Keeps p (Some number))
    GoodWaits : OwnGood Waits

  pub owns_good : (number : ℕ) (units : List Nest)
      → Every (NestOf ExprGood (LeafOf puts J IsCell)) units → (p : Place) → Sized p
      → OwnGood (own_run own_ways n number units p)
  owns_good number [] of p has = GoodKeeps has
  owns_good number (unit ∷ units) of p has =
      by (nested own_ways n unit p)
      (nested_good ExprGood (LeafOf puts J IsCell) Sized Z own_ways value_good leaf_good n unit of.0
      p has)
      (λ q has. owns_good (number + length (members_of unit)) units of.1 q has)
    where
      by : (told : Told Place) → ToldGood ExprGood (LeafOf puts J IsCell) Sized Z told
          → ((q : Place) → Sized q
          → OwnGood (own_run own_ways n (number + length (members_of unit)) units q))
          → OwnGood
          (own_next number told
          (λ p. own_run own_ways n (number + length (members_of unit)) units p))
      by told (GoodFine {p = q} has) more = more q has
      by told (GoodZero is has) more = GoodFlag is has
      by told GoodWant more = GoodWaits
