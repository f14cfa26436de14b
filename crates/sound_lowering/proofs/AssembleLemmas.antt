-- Flat tables are sound whose rows are structured code that goes, with folds right behind loops and
-- shifts within fringes.
use Rattle.std.proofs.Common.{◌≡◌, ◌⊎◌, inl, inr, ℕ, zero, suc, ◌+◌, ◌<◌, ◌≤◌, Bool, true, false, ◌&&◌, ◌||◌, ℤ, pos, refl, sym, ap, ◌∙◌, subst, arith, true≢false}
use Rattle.std.proofs.Common.{List, [], ◌∷◌, ◌++◌, length, map, Contains}
use Rattle.std.specs.Prelude.{Option, Some, None, All, filter, flat_map, neg_ℤ, not, slice_get, slice_index_or, ◌≤ℤ◌, int_le}
use Rattle.std.specs.Ordering.{int_eq}
use Rattle.std.specs.List.{list_all, list_any, range_with_len}
use Rattle.std.specs.Option.{option_map}
use Rattle.std.proofs.lemmas.Int.{ints}
use Rattle.zpl_region.proofs.ListLemmas.{test_from_le}
use Rattle.std.proofs.lemmas.List.Elements.{All-head, All-tail, All-get_or}
use Rattle.std.proofs.lemmas.Option.{get_or_from_slice_get, slice_get_within, slice_get-map}
use Rattle.zpl_lowering.specs.of_node_form.Fits.{Fits, FitsArray, FitsExpr, FitsWord, HasFringe}
use Rattle.zpl_lowering.specs.of_node_form.Value.{unmoved}
use Rattle.zpl_lowering.specs.of_node_form.declared.arrays.ArrayDim.{ArrayDim}
use Rattle.zpl_lowering.specs.of_node_form.declared.arrays.ArrayDim.TheVariants as axis
use Rattle.zpl_lowering.specs.of_node_form.declared.arrays.ArrayRow.{ArrayRow}
use Rattle.zpl_lowering.specs.of_node_form.declared.words.ExprOp.{ExprOp}
use Rattle.zpl_lowering.specs.of_node_form.declared.words.ExprOp.TheVariants as word
use Rattle.zpl_lowering.specs.of_node_form.declared.instructions.DimRow.{DimRow}
use Rattle.zpl_lowering.specs.of_node_form.declared.instructions.DimRow.TheVariants as part
use Rattle.zpl_lowering.specs.of_node_form.declared.instructions.Instr.{Instr}
use Rattle.zpl_lowering.specs.of_node_form.declared.instructions.Instr.TheVariants as instr
use Rattle.zpl_lowering.specs.of_node_form.declared.tables.Tables.{Tables}
use Rattle.code_parts.specs.Uses.{may_divide, rows_or_none, scalars_in, words_of}
use Rattle.code_parts.proofs.ListLemmas.{In, contained, in_append, in_back, in_front, in_list, unfiltered}
use Rattle.zpl_lowering.specs.of_row_runs.Structured.{Piece, size}
use Rattle.zpl_lowering.specs.of_flat_form.Flat.{IsFlat, IsFlatRow}
use Rattle.zpl_lowering.specs.of_flat_form.Row as row
use Rattle.zpl_lowering.specs.of_flat_form.Row.{Row, all_inlined, inlined, words_at}
use Rattle.zpl_lowering.specs.of_flat_form.Static.{HasFringes, array_has_fringe, is_in_fringe, word_has_fringe}
use Rattle.zpl_lowering.specs.Check.{Check}
use Rattle.node_check.specs.declared.facts.Fact.{Fact}
use Rattle.node_check.specs.declared.facts.Fact.TheVariants.{Uniform}
use Rattle.node_check.specs.Learn.{is_uniform, learnt, start_facts}
use Rattle.node_check.specs.Path.{nexts}
use Rattle.node_check.specs.Demand.{has_own, has_place, is_held, is_met, is_near, is_stored, is_stored_row, is_uniform_part, leaves_slots}
use Rattle.node_check.proofs.MoreLemmas.{learnt_more, met_more}
use Rattle.lowering_checks.specs.Walked.{laid}
use Rattle.sound_lowering.specs.Goes.{AreIn, Goes, IsHere, MeetsRow, behind_row, is_decided_held, is_of_slots, row_nexts}
use Rattle.sound_lowering.specs.Undecided.{IsUndecidedSound}
use Rattle.sound_lowering.specs.Uniform.{AreTaken, asks_scalars, uniform_at}
use Rattle.sound_lowering.proofs.UniformLemmas.{IsKept, NamesScalars, all_uniform, in_all, is_fold, kept_in, uniform_at_start, uniform_behind}
use Rattle.sound_lowering.proofs.SegmentLemmas.{AreAlong, CodeRuns, IsRight, front, glued, goes_runs, high, laid_long, low}
use Rattle.sound_lowering.proofs.KeptLemmas.{held_kept, keeps, kept_is, kept_of, learnt_behind, plain_met}
use Rattle.sound_lowering.proofs.LoopLemmas.{found, loop_passes, WordsPass}

pub both_true : (a b : Bool) → a ≡ true → b ≡ true → (a && b) ≡ true
both_true true b first rest = rest
both_true false b first rest = absurd (true≢false (sym first))

both_are : (a b : Bool) → (a && b) ≡ true → (a ≡ true) × (b ≡ true)
both_are true b is = (refl, is)
both_are false b is = absurd (true≢false (sym is))

pub all_at : {X : Type 0} (P : X → Type 0) (xs : List X) → All P xs → (k : ℕ) (x : X)
    → slice_get xs k ≡ Some x → P x
all_at P xs all k x there =
    subst P (get_or_from_slice_get xs k x x there)
    (All-get_or P xs k x (slice_get_within xs k x there) all)

-- ---- the scalars that are named are there
words_name : (tables : Tables) (rank scalar : ℕ) (words : List ExprOp)
    → All (FitsWord tables rank) words → In (flat_map scalars_in words) scalar
    → scalar < tables.scalars
words_name tables rank scalar [] fit h = absurd h
words_name tables rank scalar (word.Scalar other ∷ words) fit (inl same) =
    subst (λ n. n < tables.scalars) same
    (All-head (FitsWord tables rank) (word.Scalar other) words fit)
words_name tables rank scalar (word.Scalar other ∷ words) fit (inr h) =
    words_name tables rank scalar words
    (All-tail (FitsWord tables rank) (word.Scalar other) words fit) h
words_name tables rank scalar (one ∷ words) fit h =
    words_name tables rank scalar words (All-tail (FitsWord tables rank) one words fit) h

pub scalars_named : (code : Tables) → Fits code → NamesScalars code
scalars_named code fits expr scalar h = by (slice_get code.exprs expr) refl h
  where
    by : (words : Option (List ExprOp)) → slice_get code.exprs expr ≡ words
        → In (flat_map scalars_in (rows_or_none words)) scalar
        → In (range_with_len 0 code.scalars) scalar
    by None there h = absurd h
    by (Some words) there h =
        let one = all_at (FitsExpr code) code.exprs fits.exprs expr words there in
        in_all code.scalars scalar (words_name code one.rank scalar words one.fit h)

-- ---- arrays are near
widths : (low high : ℤ) → pos 0 ≤ℤ low → pos 0 ≤ℤ high
    → (int_le (neg_ℤ low) (pos 0) && int_le (pos 0) high) ≡ true
widths low high down up =
    both_true (int_le (neg_ℤ low) (pos 0)) (int_le (pos 0) high)
    (test_from_le (neg_ℤ low) (pos 0) (omega (arith, ints, down)))
    (test_from_le (pos 0) high up)

no_fringe : (dims : List ArrayDim) (shift : List ℤ) → All HasFringe dims
    → ((d : ℤ) → In shift d → d ≡ pos 0) → is_in_fringe dims shift ≡ true
no_fringe [] shift fringes none = refl
no_fringe (dim ∷ dims) [] fringes none = refl
no_fringe (axis.Range lo hi low high ∷ dims) (d ∷ shift) fringes none =
    let wide : HasFringe (axis.Range lo hi low high) =
    All-head HasFringe (axis.Range lo hi low high) dims fringes in
    both_true (int_le (neg_ℤ low) d && int_le d high) (is_in_fringe dims shift)
    (subst (λ d. (int_le (neg_ℤ low) d && int_le d high) ≡ true) (sym (none d (inl refl)))
    (widths low high wide.0.0 wide.1.0))
    (no_fringe dims shift (All-tail HasFringe (axis.Range lo hi low high) dims fringes)
    (λ e h. none e (inr h)))
no_fringe (axis.Star ∷ dims) (d ∷ shift) fringes none =
    both_true (int_eq d (pos 0)) (is_in_fringe dims shift)
    (ap (λ e. int_eq e (pos 0)) (none d (inl refl)))
    (no_fringe dims shift (All-tail HasFringe axis.Star dims fringes) (λ e h. none e (inr h)))

none_moved : (d : ℤ) → In unmoved d → d ≡ pos 0
none_moved d (inl same) = sym same
none_moved d (inr (inl same)) = sym same
none_moved d (inr (inr (inl same))) = sym same
none_moved d (inr (inr (inr h))) = absurd h

pub near_unmoved : (code : Tables) → Fits code → (array : ℕ) → is_near code array unmoved ≡ true
near_unmoved code fits array =
    by (slice_get code.arrays array)
    (λ one there. all_at FitsArray code.arrays fits.arrays array one there)
  where
    which : (stored : Bool) (one : ArrayRow) → one.stored ≡ stored → FitsArray one
        → (not stored || is_in_fringe one.dims unmoved) ≡ true
    which false one is fits = refl
    which true one is fits = no_fringe one.dims unmoved (fits.fringes is) none_moved

    by : (found : Option ArrayRow) → ((one : ArrayRow) → found ≡ Some one → FitsArray one)
        → (not (is_stored_row found) || array_has_fringe found unmoved) ≡ true
    by None fit = refl
    by (Some one) fit = which one.stored one refl (fit one refl)

-- a shift of an expression is within the fringe
near_shifted : (stored fringe : Bool) → fringe ≡ true → (not stored || fringe) ≡ true
near_shifted true fringe is = is
near_shifted false fringe is = refl

-- ---- the rows of tables, seen inline
nexts_same : (code : Tables) (at : ℕ) (one : Instr) → row_nexts at (inlined code one) ≡ nexts at one
nexts_same code at (instr.Set scalar expr line) = refl
nexts_same code at (instr.Dims slot parts line) = refl
nexts_same code at (instr.Loop slot group) = refl
nexts_same code at (instr.Print text) = refl
nexts_same code at (instr.Number expr) = refl
nexts_same code at (instr.Truth expr) = refl
nexts_same code at (instr.Unless expr goal line) = refl
nexts_same code at one = refl

along_at : (code : Tables) (facts : ℕ → List Fact) (at : ℕ) (rows : List Row)
    → AreAlong code facts at rows → (k : ℕ) (one : Row) → slice_get rows k ≡ Some one
    → IsRight code facts (at + k) one
along_at code facts at [] along k one there = absurd (no there)
  where
    no : None ≡ Some one → ⊥
    no e = cc
along_at code facts at (first ∷ rows) along zero one there =
    let same : first ≡ one = cc in
    let here : at + 0 ≡ at = omega arith in
    subst (λ n. IsRight code facts n one) (sym here)
    (subst (IsRight code facts at) same along.0)
along_at code facts at (first ∷ rows) along (suc k) one there =
    let here : at + suc k ≡ suc at + k = omega arith in
    subst (λ n. IsRight code facts n one) (sym here)
    (along_at code facts (suc at) rows along.1 k one there)

-- ---- what rows demand of scalars alone
parts_uniform : (code : Tables) (facts : List Fact)
    → ((expr : ℕ) → is_uniform code facts expr ≡ true) → (parts : List DimRow)
    → list_all (is_uniform_part code facts) parts ≡ true
parts_uniform code facts uniform [] = refl
parts_uniform code facts uniform (part.Span low high ∷ parts) =
    both_true (is_uniform code facts low && is_uniform code facts high)
    (list_all (is_uniform_part code facts) parts)
    (both_true (is_uniform code facts low) (is_uniform code facts high) (uniform low)
    (uniform high)) (parts_uniform code facts uniform parts)
parts_uniform code facts uniform (part.Star ∷ parts) = parts_uniform code facts uniform parts
parts_uniform code facts uniform (part.Copied slot ∷ parts) =
    parts_uniform code facts uniform parts

right_true : (a b : Bool) → b ≡ true → (a || b) ≡ true
right_true true b is = refl
right_true false b is = is

pub scalars_met : (code : Tables) (facts : List Fact) (one : Instr) → IsFlatRow one
    → asks_scalars one ≡ true
    → (is_fold one ≡ false → (expr : ℕ) → is_uniform code facts expr ≡ true)
    → has_own code facts [] one ≡ true
scalars_met code facts (instr.Set scalar expr line) flat asks uniform =
    right_true (not (may_divide code expr)) (is_uniform code facts expr) (uniform refl expr)
scalars_met code facts (instr.Dims slot parts line) flat asks uniform =
    parts_uniform code facts (uniform refl) parts
scalars_met code facts (instr.Unless expr goal line) flat asks uniform = uniform refl expr
scalars_met code facts (instr.Number expr) flat asks uniform = uniform refl expr
scalars_met code facts (instr.Truth expr) flat asks uniform = uniform refl expr
scalars_met code facts (instr.Start exchange) flat asks uniform = absurd flat
scalars_met code facts (instr.Finish exchange) flat asks uniform = absurd flat
scalars_met code facts (instr.Loop slot group) flat asks uniform =
    absurd (true≢false (sym asks))
scalars_met code facts (instr.Edge border array slot shift) flat asks uniform =
    absurd (true≢false (sym asks))
scalars_met code facts (instr.Flood array target from source) flat asks uniform =
    absurd (true≢false (sym asks))
scalars_met code facts (instr.Part array target fold from source) flat asks uniform =
    absurd (true≢false (sym asks))
scalars_met code facts (instr.Scan array slot fold along from mask) flat asks uniform =
    absurd (true≢false (sym asks))
scalars_met code facts (instr.Gather truth array slot) flat asks uniform =
    absurd (true≢false (sym asks))
scalars_met code facts (instr.Remap array slot from parts) flat asks uniform =
    absurd (true≢false (sym asks))
scalars_met code facts one flat asks uniform = refl

-- ---- all together
module _ (code : Tables) (flat : IsFlat code) (taken : AreTaken code) (fringes : HasFringes code)
    (slots : ℕ → List Fact) (along : AreAlong code slots 0 (all_inlined code))
    (begins : (fact : Fact) → In (slots 0) fact → ⊥) where
  abbrev all : ℕ → List Fact
  all at = uniform_at code at ++ kept_of code (slots at)

  named : NamesScalars code
  named = scalars_named code flat.fits

  in_left : (at : ℕ) (fact : Fact) → In (uniform_at code at) fact → In (all at) fact
  in_left at fact h = in_front (uniform_at code at) (kept_of code (slots at)) fact h

  in_right : (at : ℕ) (fact : Fact) → In (kept_of code (slots at)) fact → In (all at) fact
  in_right at fact h = in_back (uniform_at code at) (kept_of code (slots at)) fact h

  right_at : (at : ℕ) (one : Instr) → slice_get code.code at ≡ Some one
      → IsRight code slots at (inlined code one)
  right_at at one there =
      let same : 0 + at ≡ at = omega arith in
      subst (λ n. IsRight code slots n (inlined code one)) same
      (along_at code slots 0 (all_inlined code) along at (inlined code one)
      (slice_get-map (inlined code) code.code at ∙ ap (option_map (inlined code)) there))

  all_behind : (at next : ℕ) (one : Instr) (fact : Fact) → slice_get code.code at ≡ Some one
      → In (nexts at one) next → In (all next) fact → In (learnt code (all at) one) fact
  all_behind at next one fact there leads h =
      by (in_append (uniform_at code next) (kept_of code (slots next)) fact h)
    where
      by : In (uniform_at code next) fact ⊎ In (kept_of code (slots next)) fact
          → In (learnt code (all at) one) fact
      by (inl h) =
          learnt_more code (uniform_at code at) (all at) (in_left at) one fact
          (uniform_behind code taken named at next one there leads fact h)
      by (inr h) =
          let kept = kept_is code (slots next) fact h in
          learnt_more code (kept_of code (slots at)) (all at) (in_right at) one fact
          (learnt_behind code (slots at) one fact
          ((right_at at one there).1 next
          (subst (λ nexts. In nexts next) (sym (nexts_same code at one)) leads) fact kept.0)
          kept.1)

  -- what a loop demands
  abbrev Passing : ℕ → ℕ → List ExprOp → Type 0
  Passing at slot words =
      WordsPass (IsHere code (slots at) slot) (has_place code (kept_of code (slots at)) slot) words

  words_passing : (at slot : ℕ) (words : List ExprOp)
      → list_all (word_has_fringe code) words ≡ true → Passing at slot words
  words_passing at slot [] is = tt
  words_passing at slot (word.Shifted array shift ∷ words) is =
      let both = both_are (array_has_fringe (slice_get code.arrays array) shift)
      (list_all (word_has_fringe code) words) is in (
        λ here.
            both_true (is_held code (kept_of code (slots at)) array shift slot)
            (is_near code array shift) (held_kept code (slots at) slot array shift here)
            (near_shifted (is_stored code array)
            (array_has_fringe (slice_get code.arrays array) shift) both.0),
        words_passing at slot words both.1,
      )
  words_passing at slot (one ∷ words) is = (tt, words_passing at slot words is)

  shifts_in : (expr : ℕ) → list_all (word_has_fringe code) (words_at code expr) ≡ true
  shifts_in expr =
      subst (λ words. list_all (word_has_fringe code) words ≡ true) (found code.exprs expr)
      (by (slice_get code.exprs expr) refl)
    where
      by : (words : Option (List ExprOp)) → slice_get code.exprs expr ≡ words
          → list_all (word_has_fringe code) (rows_or_none words) ≡ true
      by None there = refl
      by (Some words) there =
          all_at (λ words. list_all (word_has_fringe code) words ≡ true) code.exprs fringes expr
          words there

  loop_met : (at slot group : ℕ) → slice_get code.code at ≡ Some (instr.Loop slot group)
      → has_own code (kept_of code (slots at)) [] (instr.Loop slot group) ≡ true
  loop_met at slot group there =
      loop_passes code (IsHere code (slots at) slot) (has_place code (kept_of code (slots at)) slot)
      (λ array here.
      both_true (is_held code (kept_of code (slots at)) array unmoved slot)
      (is_near code array unmoved) (held_kept code (slots at) slot array unmoved here)
      (near_unmoved code flat.fits array))
      (λ expr. words_passing at slot (words_at code expr) (shifts_in expr)) group
      (right_at at (instr.Loop slot group) there).0

  none_open : (one : Instr) → leaves_slots code [] one ≡ true
  none_open one = refl

  from_scalars : (at : ℕ) (one : Instr) → slice_get code.code at ≡ Some one
      → asks_scalars one ≡ true → is_met code (all at) [] one ≡ true
  from_scalars at one there asks =
      met_more code (uniform_at code at) (all at) (in_left at) [] one
      (both_true (has_own code (uniform_at code at) [] one) (leaves_slots code [] one)
      (scalars_met code (uniform_at code at) one
      (all_at IsFlatRow code.code flat.rows at one there) asks
      (λ is expr. all_uniform code taken named at one there is expr)) (none_open one))

  from_slots : (at : ℕ) (one : Instr)
      → has_own code (kept_of code (slots at)) [] one ≡ true
      → is_met code (all at) [] one ≡ true
  from_slots at one has =
      met_more code (kept_of code (slots at)) (all at) (in_right at) [] one
      (both_true (has_own code (kept_of code (slots at)) [] one) (leaves_slots code [] one) has
      (none_open one))

  all_met : (at : ℕ) (one : Instr) → slice_get code.code at ≡ Some one
      → is_met code (all at) [] one ≡ true
  all_met at (instr.Loop slot group) there =
      from_slots at (instr.Loop slot group) (loop_met at slot group there)
  all_met at (instr.Edge border array slot shift) there =
      from_slots at (instr.Edge border array slot shift)
      (plain_met code (slots at) (instr.Edge border array slot shift) refl
      (right_at at (instr.Edge border array slot shift) there).0)
  all_met at (instr.Flood array target from source) there =
      from_slots at (instr.Flood array target from source)
      (plain_met code (slots at) (instr.Flood array target from source) refl
      (right_at at (instr.Flood array target from source) there).0)
  all_met at (instr.Part array target fold from source) there =
      from_slots at (instr.Part array target fold from source)
      (plain_met code (slots at) (instr.Part array target fold from source) refl
      (right_at at (instr.Part array target fold from source) there).0)
  all_met at (instr.Scan array slot fold dimension from mask) there =
      from_slots at (instr.Scan array slot fold dimension from mask)
      (plain_met code (slots at) (instr.Scan array slot fold dimension from mask) refl
      (right_at at (instr.Scan array slot fold dimension from mask) there).0)
  all_met at (instr.Gather truth array slot) there =
      from_slots at (instr.Gather truth array slot)
      (plain_met code (slots at) (instr.Gather truth array slot) refl
      (right_at at (instr.Gather truth array slot) there).0)
  all_met at (instr.Remap array slot from parts) there =
      from_slots at (instr.Remap array slot from parts)
      (plain_met code (slots at) (instr.Remap array slot from parts) refl
      (right_at at (instr.Remap array slot from parts) there).0)
  all_met at one there = from_scalars at one there refl

  open_kept : (fact : Fact) → keeps code fact ≡ true → is_decided_held code fact ≡ false
  open_kept fact is = twice (is_decided_held code fact) (both_are (is_of_slots fact) _ is).1
    where
      twice : (b : Bool) → not b ≡ true → b ≡ false
      twice true is = absurd (true≢false (sym is))
      twice false is = refl

  pub assembled : IsUndecidedSound code
  assembled = record {
    facts = all;
    start = λ fact h.
        by_start fact (in_append (uniform_at code 0) (kept_of code (slots 0)) fact h);
    behind = λ at next one fact there leads h. all_behind at next one fact there leads h;
    met = λ at one there. all_met at one there;
    undecided = λ at fact h.
        by_open at fact (in_append (uniform_at code at) (kept_of code (slots at)) fact h);
  }
    where
      by_start : (fact : Fact) → In (uniform_at code 0) fact ⊎ In (kept_of code (slots 0)) fact
          → In (start_facts code) fact
      by_start fact (inl h) = uniform_at_start code taken named fact h
      by_start fact (inr h) = absurd (begins fact (kept_is code (slots 0) fact h).0)

      by_open : (at : ℕ) (fact : Fact)
          → In (uniform_at code at) fact ⊎ In (kept_of code (slots at)) fact
          → is_decided_held code fact ≡ false
      by_open at fact (inl h) =
          let kept = kept_in code at fact h in
          subst (λ fact. is_decided_held code fact ≡ false) (sym kept.is) refl
      by_open at fact (inr h) = open_kept fact (kept_is code (slots at) fact h).1
