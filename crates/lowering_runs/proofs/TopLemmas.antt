-- Laid-out code that goes as the meaning does shows what it shows.
use Rattle.std.proofs.Common.{◌≡◌, ℕ, suc, ◌+◌, ◌-◌, ◌≤◌, Bool, true, false, ℤ, List, [], ◌∷◌}
use Rattle.std.specs.Prelude.{if◌then◌else◌}
use Rattle.std.proofs.Common.{◌++◌, map, drop, length, refl, sym, ap, ◌∙◌, subst, arith, append-nil}
use Rattle.zpl_nums.specs.declared.ends.End.{End}
use Rattle.zpl_nums.specs.declared.ends.End.TheVariants.{Done, Trap, More}
use Rattle.zpl_nums.specs.Integer.{is_true}
use Rattle.lowering_fits.specs.of_zpl_meaning.Store.{Store}
use Rattle.lowering_fits.specs.of_zpl_meaning.Outcome.{Outcome}
use Rattle.node_form.specs.declared.tables.Tables.{Tables}
use Rattle.node_form.specs.declared.instructions.Instr.TheVariants as instr
use Rattle.node_form.specs.Value.{Computed, Gives, Divides, Lacks, scalar_operands, value_of}
use Rattle.node_form.specs.Control.{with_computed, branched}
use Rattle.row_runs.specs.Run.{Ends, Wrong, Result, Goes, Stops, Effect, Does, Leaps}
use Rattle.row_runs.specs.Run.{Passes, runs, stopped, walked}
use Rattle.row_runs.specs.Code.{CodeRow, Straight, Jump, Unless, code_act, decided}
use Rattle.row_runs.specs.Structured.{Piece, Course, size, flattened}
use Rattle.row_runs.specs.Structured.{left_before, shown_by, and_then}
use Rattle.row_runs.specs.Rows.{AreEffects, BothGo, BothStop, BothLeap, BothPass, OldWrong}
use Rattle.row_runs.specs.Rows.{AreLikeRows, NoRows, MoreRows}
use Rattle.row_runs.specs.Segments.{Keeps, WasWrong, Same}
use Rattle.row_runs.proofs.CodeLemmas.{follow}
use Rattle.row_runs.proofs.RowLemmas.{rows_keep_runs}
use Rattle.row_runs.proofs.PlaceLemmas.{past, flat_length}
use Rattle.lowering_fits.specs.of_flat_form.Row as row
use Rattle.lowering_fits.specs.of_flat_form.Row.{Row}
use Rattle.lowering_fits.specs.of_flat_form.Right.{are_settled}
use Rattle.lowering_fits.specs.of_flat_form.Whole.{Whole, registers_of}
use Rattle.lowering_fits.specs.of_flat_form.Act.{act, row_does, tested}
use Rattle.lowering_fits.specs.of_zpl_lowering.Check.{Check, flat_row}
use Rattle.lowering_runs.specs.Run.{straight, decision, step, decide, does}
use Rattle.lowering_runs.specs.Agrees.{Agrees, Going, Trapping, Shattering, Wanting}
use Rattle.lowering_runs.specs.Shown.{Few, Many, Shattered, Shows}
use Rattle.lowering_runs.proofs.AgreeLemmas.{sum_of}

-- ---- rows do in structured code what they do in flat code, unless that is wrong

abbrev IsSame : Whole → Whole → Type 0
IsSame one other = one ≡ other

straight_like : (effect : Effect Whole) → AreEffects IsSame (Does (straight effect)) effect
straight_like (Does (Goes bytes state)) = BothGo refl
straight_like (Does (Stops stop)) = BothStop
straight_like (Leaps goal) = OldWrong
straight_like Passes = OldWrong

module _ (tables : Tables) (n : ℕ) where
  -- a test that has this value
  test_like : (whole : Whole) (goal line : ℕ) (value : Computed ℤ)
      → AreEffects IsSame
      (decided (decision (tested whole
      (with_computed value line (λ v. branched (registers_of whole) (is_true v) 0)))) goal)
      (tested whole
      (with_computed value line (λ v. branched (registers_of whole) (is_true v) goal)))
  test_like whole goal line (Gives v) = by (is_true v)
    where
      by : (b : Bool) → AreEffects IsSame
          (decided (decision (tested whole (branched (registers_of whole) b 0))) goal)
          (tested whole (branched (registers_of whole) b goal))
      by true = BothPass
      by false = BothLeap
  test_like whole goal line Divides = BothStop
  test_like whole goal line Lacks = BothStop

  row_like : (one : CodeRow Row Check) (whole : Whole)
      → AreEffects IsSame (code_act (step tables n) (decide tables n) one whole)
      (act tables n (flat_row one) whole)
  row_like (Straight one) whole = straight_like (act tables n one whole)
  row_like (Jump goal) whole = BothLeap
  row_like (Unless check goal) whole = by (are_settled whole (row.Unless check.expr 0 check.line))
    where
      by : (b : Bool) → AreEffects IsSame
          (decided (decision (if b then row_does tables n (row.Unless check.expr 0 check.line) whole
          else Does (Stops Wrong))) goal)
          (if b then row_does tables n (row.Unless check.expr goal check.line) whole
          else Does (Stops Wrong))
      by true =
          test_like whole goal check.line (value_of (scalar_operands whole.scalars) check.expr)
      by false = BothStop

  all_like : (rows : List (CodeRow Row Check))
      → AreLikeRows (code_act (step tables n) (decide tables n)) (act tables n) IsSame rows
      (map flat_row rows)
  all_like [] = NoRows
  all_like (one ∷ rows) =
      MoreRows (record {
        like = λ s t same. subst (λ (u : Whole).
            AreEffects IsSame (code_act (step tables n) (decide tables n) one s)
            (act tables n (flat_row one) u)) same (row_like one s);
      }) (all_like rows)

  -- ---- a piece with the end behind it

  abbrev ended : Piece Row Check → List (CodeRow Row Check)
  ended piece = flattened 0 piece ++ Straight (row.Plain instr.End) ∷ []

  abbrev ran : List (CodeRow Row Check) → ℕ → ℕ → Whole → Result
  ran code a at whole = runs (code_act (step tables n) (decide tables n)) code a at whole

  end_stands : (piece : Piece Row Check)
      → drop (0 + size piece) (ended piece) ≡ Straight (row.Plain instr.End) ∷ []
  end_stands piece =
      let e : 0 + length (flattened 0 piece) ≡ 0 + size piece =
      omega (arith, flat_length 0 piece) in
      past (ended piece) 0 (0 + size piece) (flattened 0 piece)
      (Straight (row.Plain instr.End) ∷ []) e refl

  at_end : (piece : Piece Row Check) (left : ℕ) (whole : Whole)
      → ran (ended piece) (suc left) (0 + size piece) whole ≡ stopped (Ends Done)
  at_end piece left whole =
      ap (λ (rows : List (CodeRow Row Check)).
      walked (code_act (step tables n) (decide tables n)) (ran (ended piece) left)
      (λ _. stopped (Ends Done)) (0 + size piece) rows whole) (end_stands piece)

  follows : (piece : Piece Row Check) (start : Whole) (course : Course Whole) (left : ℕ)
      → does tables n piece start ≡ course
      → ran (ended piece) (suc (left_before course.close course.jumps left)) 0 start
      ≡ shown_by course (λ after. ran (ended piece) (suc left) (0 + size piece) after)
  follows piece start course left e =
      subst (λ (c : Course Whole).
      ran (ended piece) (suc (left_before c.close c.jumps left)) 0 start
      ≡ shown_by c (λ after. ran (ended piece) (suc left) (0 + size piece) after)) e
      (follow (step tables n) (decide tables n) (ended piece) n piece 0
      (record { rest = Straight (row.Plain instr.End) ∷ []; here = refl }) start left)

  -- the rows of the flat program show it too
  kept : (piece : Piece Row Check) (start : Whole) (a : ℕ) (bytes : List ℕ) (ending : End)
      → ran (ended piece) a 0 start ≡ record { bytes = bytes; stop = Ends ending }
      → runs (act tables n) (map flat_row (ended piece)) a 0 start
      ≡ record { bytes = bytes; stop = Ends ending }
  kept piece start a bytes ending e =
      by (rows_keep_runs (code_act (step tables n) (decide tables n)) (act tables n) IsSame
      (ended piece) (map flat_row (ended piece)) (all_like (ended piece)) a 0 start start refl)
    where
      never : Ends ending ≡ Wrong → ⊥
      never q = cc

      by : Keeps (ran (ended piece) a 0 start)
          (runs (act tables n) (map flat_row (ended piece)) a 0 start)
          → runs (act tables n) (map flat_row (ended piece)) a 0 start
          ≡ record { bytes = bytes; stop = Ends ending }
      by (WasWrong w) = absurd (never (sym (ap (λ (r : Result). r.stop) e) ∙ w))
      by (Same s) = sym s ∙ e

  pub shows : (IsAlike : Store → Whole → Type 0) (spare : ℕ) (piece : Piece Row Check)
      (start : Whole) (outcome : Outcome) (course : Course Whole) → spare ≤ 14
      → does tables n piece start ≡ course → Agrees IsAlike n spare outcome course
      → Shows (λ a. runs (act tables n) (map flat_row (ended piece)) a 0 start) n outcome
  shows IsAlike spare piece start outcome course le e
      (Going {after = w} {bytes = b} {steps = s} {jumps = j} alike few) = record {
        bound = suc (and_then j 0);
        same = kept piece start (suc (and_then j 0)) b Done
            (follows piece start course 0 e
            ∙ ap (λ (r : Result). record { bytes = b ++ r.bytes; stop = r.stop }) (at_end piece 0 w)
            ∙ ap (λ (bytes : List ℕ). record { bytes = bytes; stop = Ends Done }) (append-nil b));
        size = Few (λ q. done_more q) (omega (arith, few, le, sum_of j 0));
      }
    where
      done_more : Done ≡ More → ⊥
      done_more q = cc
  shows IsAlike spare piece start outcome course le e
      (Trapping {bytes = b} {steps = s} {jumps = j} {kind = kind} {line = line} few) = record {
        bound = suc (and_then j 0);
        same = kept piece start (suc (and_then j 0)) b (Trap kind line) (follows piece start course 0 e);
        size = Few (λ q. trap_more q) (omega (arith, few, le, sum_of j 0));
      }
    where
      trap_more : Trap kind line ≡ More → ⊥
      trap_more q = cc
  shows IsAlike spare piece start outcome course le e
      (Shattering {after = w} {bytes = b} {jumps = j}) =
      let run : ℕ → Result = λ a. runs (act tables n) (map flat_row (ended piece)) a 0 start in
      let at : (left : ℕ) → run (suc (and_then j left)) ≡ record { bytes = b; stop = Ends More } =
      λ left. kept piece start (suc (and_then j left)) b More (follows piece start course left e) in
      record {
        bound = suc (and_then j 0);
        same = at 0;
        size = Shattered refl (λ more l.
            let left = more - suc (and_then j 0) in
            let as_many : suc (and_then j left) ≡ more =
            omega (arith, sum_of j left, sum_of j 0, l) in
            ap run (sym as_many) ∙ at left ∙ sym (at 0));
      }
  shows IsAlike spare piece start outcome course le e (Wanting {bytes = b} {jumps = j} many) =
      record {
        bound = suc j;
        same = kept piece start (suc j) b More (follows piece start course 0 e);
        size = Many refl (omega (arith, many));
      }
