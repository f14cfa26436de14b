-- What members come to at a tuple, where cells take the place of arrays.
use Rattle.std.proofs.Common.{◌≡◌, refl, sym, ◌∙◌, ap, arith, ℕ, zero, suc, ◌<◌, ◌≤◌}
use Rattle.std.proofs.Common.{Bool, true, false, true≢false, List, [], ◌∷◌, length, map, ℤ}
use Rattle.std.proofs.Common.{Option, Some, None, eqb-true}
use Rattle.std.specs.Prelude.{◌==◌, if◌then◌else◌, option_and_then, slice_get, slice_index_or}
use Rattle.std.specs.Prelude.{slice_set, ⊤}
use Rattle.std.proofs.lemmas.Bool.Decides.{nat_tests}
use Rattle.zpl_nums.specs.declared.folds.Fold.{Fold}
use Rattle.row_runs.specs.Straight.{Every}
use Rattle.node_form.specs.declared.tables.Tables.{Tables}
use Rattle.node_form.specs.declared.touches.Thing.{Thing}
use Rattle.node_form.specs.declared.touches.Thing.TheVariants as thing
use Rattle.node_form.specs.declared.words.ExprOp.{ExprOp}
use Rattle.node_form.specs.declared.words.ExprOp.TheVariants as word
use Rattle.node_form.specs.Value.{Computed, Divides, Gives, Lacks, and_then, evaluated, only_value}
use Rattle.node_form.specs.Value.{pushed, read, stepped, unmoved, value_of}
use Rattle.grid_meaning.specs.Place.{held_value, moved_by, value_at}
use Rattle.nest_meaning.specs.Alike.{AreLeaves, AreMasks, AreValues}
use Rattle.nest_meaning.specs.Alike.{Both}
use Rattle.nest_meaning.specs.Alike.{JoinLeaf, KeepLeaf, Masks, NoMasks, PutLeaf}
use Rattle.nest_meaning.specs.Nested.{Ways}
use Rattle.normal_runs.specs.of_flat_form.Loop.{Joins, Log, Point, Puts, Write, log_ways, logged}
use Rattle.normal_runs.specs.of_flat_form.Loop.{operands_at}
use Rattle.normal_runs.specs.of_flat_form.Right.{is_unmoved}
use Rattle.normal_runs.specs.of_flat_form.Row.{Words}
use Rattle.normal_runs.specs.of_flat_form.Whole.{Whole}
use Rattle.normal_runs.proofs.of_flat_form.AgreeLemmas.{Agree, set_alike}
use Rattle.fuse_contract.specs.Contracting.{here_or_cell, word_contracted}
use Rattle.normal_runs.proofs.PlaceLemmas.{set_apart, set_length}

-- ---- numbers
pub differ : (a b : ℕ) → (a ≡ b → ⊥) → (a == b) ≡ false
differ a b apart = by (a == b) refl
  where
    by : (t : Bool) → (a == b) ≡ t → t ≡ false
    by true e = absurd (apart (eqb-true a b e))
    by false e = refl

pub same_number : (a : ℕ) → (a == a) ≡ true
same_number a = let e : a ≡ a = refl in grind (arith, nat_tests)

pub set_within : {X : Type 0} (xs : List X) (k : ℕ) (x : X) → k < length xs
    → slice_get (slice_set xs k x) k ≡ Some x
set_within [] k x below = absurd (omega (arith, below))
set_within (y ∷ xs) zero x below = refl
set_within (y ∷ xs) (suc k) x below = set_within xs k x (omega (arith, below))

set_both : {X : Type 0} (xs ys : List X) (k j : ℕ) (x : X)
    → slice_get xs k ≡ slice_get ys k → slice_get xs j ≡ slice_get ys j
    → slice_get (slice_set xs k x) j ≡ slice_get (slice_set ys k x) j
set_both xs ys k j x here there = set_alike xs ys k j x here there

-- ---- logs without what is put into arrays that are cells
module _ (cell_of : ℕ → Option ℕ) where
  abbrev pub drop_if : Option ℕ → Write → Log → Log
  drop_if (Some cell) write log = log
  drop_if None write log = write ∷ log

  abbrev pub without : Log → Log
  without [] = []
  without (Puts array value ∷ log) = drop_if (cell_of array) (Puts array value) (without log)
  without (Joins scalar operator value ∷ log) = Joins scalar operator value ∷ without log

  -- things that aren't cells
  abbrev pub IsOther : Thing → Type 0
  IsOther (thing.Array array) = cell_of array ≡ None
  IsOther (thing.Scalar scalar) = ⊤
  IsOther (thing.Slot slot) = ⊤

  pub other_array : (a b cell : ℕ) → cell_of a ≡ Some cell → cell_of b ≡ None → a ≡ b → ⊥
  other_array a b cell is none same = cc

  -- what others read is the same
  logged_without : (log : Log) (array : ℕ) (value : Option ℤ) → cell_of array ≡ None
      → logged (without log) array value ≡ logged log array value
  logged_without [] array value none = refl
  logged_without (Joins scalar operator v ∷ log) array value none =
      logged_without log array value none
  logged_without (Puts other v ∷ log) array value none =
      by (cell_of other) refl (logged_without log array value none)
    where
      by : (found : Option ℕ) → cell_of other ≡ found
          → logged (without log) array value ≡ logged log array value
          → logged (drop_if found (Puts other v) (without log)) array value
          ≡ logged (Puts other v ∷ log) array value
      by None is same = ap (λ o. if other == array then Some v else o) same
      by (Some cell) is same =
          same
          ∙ sym (ap (λ b. if b then Some v else logged log array value)
          (differ other array (other_array other array cell is none)))

  -- ---- points that are alike: cells that were there before, and those of arrays that are begun
  module _ (old new : ℕ) (Begun : ℕ → Type 0) where
    pub record ArePoints (at : ℕ → Option ℤ) (p q : Point) : Type 0 where
      pub cells : (k : ℕ) → k < old → slice_get p.cells k ≡ slice_get q.cells k
      pub long : length q.cells ≡ new
      pub logs : q.log ≡ without p.log
      pub held : (array cell : ℕ) → Begun array → cell_of array ≡ Some cell
          → logged p.log array (at array) ≡ slice_get q.cells cell

    abbrev pub WordFine : ExprOp → Type 0
    WordFine (word.Here array) = (cell : ℕ) → cell_of array ≡ Some cell → Begun array
    WordFine (word.Shifted array shift) = cell_of array ≡ None
    WordFine (word.Cell cell) = cell < old
    WordFine row = ⊤

    module _ (tables other : Tables) (s s' : Whole) (agree : Agree tables other IsOther s s')
        (t : List ℤ) where
      abbrev pub held_at : ℕ → Option ℤ
      held_at array = value_at s.stores array (moved_by unmoved t)

      abbrev pub Like : Point → Point → Type 0
      Like = ArePoints held_at

      -- ---- values
      stepped_same : (p q : Point) → Like p q → (w : ExprOp) (stack : List ℤ) → WordFine w
          → stepped (operands_at s t p) w stack
          ≡ stepped (operands_at s' t q) (word_contracted cell_of w) stack
      stepped_same p q like (word.Here array) stack fine = by (cell_of array) refl
        where
          by : (found : Option ℕ) → cell_of array ≡ found
              → stepped (operands_at s t p) (word.Here array) stack
              ≡ stepped (operands_at s' t q) (here_or_cell cell_of array found) stack
          by (Some cell) is =
              ap (λ v. pushed stack (read v)) (like.held array cell (fine cell is) is)
          by None is =
              ap (λ v. pushed stack (read v))
              (sym (logged_without p.log array (held_at array) is)
              ∙ (ap (λ log. logged log array (held_at array)) (sym like.logs)
              ∙ ap (λ store. logged q.log array
              (option_and_then (held_value (moved_by unmoved t)) store))
              (agree (thing.Array array) is).1))
      stepped_same p q like (word.Shifted array shift) stack fine =
          let value = value_at s.stores array (moved_by shift t) in
          ap (λ v. pushed stack (read v))
          (ap (λ v. if is_unmoved shift then v else value)
          (sym (logged_without p.log array value fine)
          ∙ ap (λ log. logged log array value) (sym like.logs))
          ∙ ap (λ store. if is_unmoved shift then logged q.log array
          (option_and_then (held_value (moved_by shift t)) store)
          else option_and_then (held_value (moved_by shift t)) store)
          (agree (thing.Array array) fine).1)
      stepped_same p q like (word.Scalar scalar) stack fine =
          ap (λ v. pushed stack (read v)) (agree (thing.Scalar scalar) tt).0
      stepped_same p q like (word.Cell cell) stack fine =
          ap (λ v. pushed stack (read v)) (like.cells cell fine)
      stepped_same p q like (word.Const value) stack fine = refl
      stepped_same p q like (word.Coord dimension) stack fine = refl
      stepped_same p q like (word.Pair op) [] fine = refl
      stepped_same p q like (word.Pair op) (right ∷ []) fine = refl
      stepped_same p q like (word.Pair op) (right ∷ left ∷ stack) fine = refl
      stepped_same p q like word.Neg [] fine = refl
      stepped_same p q like word.Neg (value ∷ stack) fine = refl
      stepped_same p q like word.Not [] fine = refl
      stepped_same p q like word.Not (value ∷ stack) fine = refl
      stepped_same p q like word.Abs [] fine = refl
      stepped_same p q like word.Abs (value ∷ stack) fine = refl

      then_same : (made : Computed (List ℤ)) (f g : List ℤ → Computed (List ℤ))
          → ((stack : List ℤ) → f stack ≡ g stack) → and_then f made ≡ and_then g made
      then_same (Gives stack) f g same = same stack
      then_same Divides f g same = refl
      then_same Lacks f g same = refl

      evaluated_same : (p q : Point) → Like p q → (words : Words) (stack : List ℤ)
          → Every WordFine words
          → evaluated (operands_at s t p) words stack
          ≡ evaluated (operands_at s' t q) (map (word_contracted cell_of) words) stack
      evaluated_same p q like [] stack fine = refl
      evaluated_same p q like (w ∷ words) stack fine =
          ap (and_then (evaluated (operands_at s t p) words))
          (stepped_same p q like w stack fine.0)
          ∙ then_same (stepped (operands_at s' t q) (word_contracted cell_of w) stack)
          (evaluated (operands_at s t p) words)
          (evaluated (operands_at s' t q) (map (word_contracted cell_of) words))
          (λ stack. evaluated_same p q like words stack fine.1)

      module _ (exprs : List Words) where
        abbrev pub exprs' : List Words
        exprs' = map (map (word_contracted cell_of)) exprs

        abbrev pub ExprFine : ℕ → Type 0
        ExprFine expr = Every WordFine (slice_index_or exprs expr [])

        abbrev pub ways : Ways Point
        ways = log_ways exprs s t

        abbrev pub ways' : Ways Point
        ways' = log_ways exprs' s' t

        asked_same : (p q : Point) → Like p q → (es : List Words) (expr : ℕ)
            → Every WordFine (slice_index_or es expr [])
            → and_then (value_of (operands_at s t p)) (read (slice_get es expr))
            ≡ and_then (value_of (operands_at s' t q))
            (read (slice_get (map (map (word_contracted cell_of)) es) expr))
        asked_same p q like [] expr fine = refl
        asked_same p q like (words ∷ es) zero fine =
            ap (and_then only_value) (evaluated_same p q like words [] fine)
        asked_same p q like (words ∷ es) (suc expr) fine = asked_same p q like es expr fine

        pub values_same : (expr : ℕ) → ExprFine expr → AreValues Like ways ways' expr expr
        values_same expr fine =
            record { same = λ p q like. asked_same p q like exprs expr fine }

        abbrev pub MaskFine : Option ℕ → Type 0
        MaskFine None = ⊤
        MaskFine (Some mask) = ExprFine mask

        pub masks_same : (mask : Option ℕ) → MaskFine mask → AreMasks Like ways ways' mask mask
        masks_same None fine = NoMasks
        masks_same (Some mask) fine = Masks (values_same mask fine)

        -- ---- what members make of points
        module _ (apart : (a b cell : ℕ) → cell_of a ≡ Some cell → cell_of b ≡ Some cell → a ≡ b)
            (above : (a cell : ℕ) → cell_of a ≡ Some cell → old ≤ cell) where
          pub put_others : (array : ℕ) → cell_of array ≡ None
              → AreLeaves Like ways ways' (PutLeaf array) (PutLeaf array)
          put_others array none = record {
            steps = λ v p q like. Both (record {
              cells = like.cells;
              long = like.long;
              logs = ap (λ log. Puts array v ∷ log) like.logs
                  ∙ ap (λ found. drop_if found (Puts array v) (without p.log)) (sym none);
              held = λ other cell begun is.
                  ap (λ b. if b then Some v else logged p.log other (held_at other))
                  (differ array other (λ same. other_array other array cell is none (sym same)))
                  ∙ like.held other cell begun is;
            });
          }

          pub put_cell : (array kept : ℕ) → cell_of array ≡ Some kept → kept < new
              → AreLeaves Like ways ways' (PutLeaf array) (KeepLeaf kept)
          put_cell array kept is below = record {
            steps = λ v p q like. Both (record {
              cells = λ k less. like.cells k less
                  ∙ sym (set_apart q.cells kept k v
                  (λ same. omega (arith, same, less, above array kept is)));
              long = set_length q.cells kept v ∙ like.long;
              logs = like.logs
                  ∙ ap (λ found. drop_if found (Puts array v) (without p.log)) (sym is);
              held = λ other cell begun has.
                  by v p q like other cell begun has (array == other) refl;
            });
          }
            where
              by : (v : ℤ) (p q : Point) → Like p q → (other cell : ℕ) → Begun other
                  → cell_of other ≡ Some cell → (b : Bool) → (array == other) ≡ b
                  → (if b then Some v else logged p.log other (held_at other))
                  ≡ slice_get (slice_set q.cells kept v) cell
              by v p q like other cell begun has true e =
                  let same : array ≡ other = eqb-true array other e in
                  let one : kept ≡ cell =
                  some_is (sym is ∙ (ap cell_of same ∙ has)) in
                  sym (set_within q.cells kept v (omega (arith, below, like.long)))
                  ∙ ap (slice_get (slice_set q.cells kept v)) one
                where
                  some_is : {a b : ℕ} → Some a ≡ Some b → a ≡ b
                  some_is e = cc
              by v p q like other cell begun has false e =
                  like.held other cell begun has
                  ∙ sym (set_apart q.cells kept cell v
                  (λ same. true≢false (sym (same_number array)
                  ∙ (ap (λ b. array == b)
                  (apart array other kept is (has ∙ ap Some (sym same))) ∙ e))))

          pub keep_both : (kept : ℕ) → kept < old → AreLeaves Like ways ways' (KeepLeaf kept)
              (KeepLeaf kept)
          keep_both kept below = record {
            steps = λ v p q like. Both (record {
              cells = λ k less.
                  set_both p.cells q.cells kept k v (like.cells kept below) (like.cells k less);
              long = set_length q.cells kept v ∙ like.long;
              logs = like.logs;
              held = λ other cell begun is. like.held other cell begun is
                  ∙ sym (set_apart q.cells kept cell v
                  (λ same. omega (arith, same, below, above other cell is)));
            });
          }

          pub join_both : (scalar : ℕ) (operator : Fold)
              → AreLeaves Like ways ways' (JoinLeaf scalar operator) (JoinLeaf scalar operator)
          join_both scalar operator = record {
            steps = λ v p q like. Both (record {
              cells = like.cells;
              long = like.long;
              logs = ap (λ log. Joins scalar operator v ∷ log) like.logs;
              held = like.held;
            });
          }
