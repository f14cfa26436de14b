-- What holds of all code of a program, part by part: of pieces of code one behind the other, of
-- rows without loops, and of the loops that operators, statements and copies have, each with the
-- rows that it stands among. Whatever the program is: no faults are ruled out.
use Rattle.std.proofs.Common.{◌≡◌, ℕ, zero, suc, ◌+◌, Bool, true, false, ℤ, pos, List, [], ◌∷◌, ◌++◌, length, refl, sym, ap, ◌∙◌, subst}
use Rattle.std.specs.Prelude.{Option, Some, None, cond, find, slice_get}
use Rattle.std.specs.Str.{bytes_eq}
use Rattle.zpl_nums.specs.declared.operators.Op.{Op}
use Rattle.zpl_nums.specs.declared.folds.Fold.{Fold}
use Rattle.zpl_nums.specs.declared.folds.Fold.TheVariants as fold
use Rattle.zpl_nums.specs.declared.ends.TrapKind.TheVariants as trap
use Rattle.zpl_nums.specs.declared.ends.Border.{Border as BorderKind}
use Rattle.zpl_region.specs.declared.regions.Region.{Region}
use Rattle.zpl_tree.specs.Syntax as tree
use Rattle.zpl_tree.specs.Syntax.{Name, Expr, Number, Truth, Coord, Named, Shifted, Around, Remap, Call, Paren, Neg, Not, Abs, Pair, Reduce, Scan, Flood, Exprs, Prefix, Stmt, Prefixed, Stmts, NoStmt, ThenStmt, Form, Assign, Invoke, Block, If, While, Repeat, For, Border, Write, Return, Arm, Tested, Arms, NoArm, ThenArm, Otherwise, NoElse, Else, ForHead, Item, Str, Value, Bracket, NoBracket, Bracketed, VarDef, Base, Decl, Config, Regions, Directions, Vars, Defined, Program}
use Rattle.zpl_names.specs.Kinds.{Rank}
use Rattle.zpl_names.specs.Scope as names
use Rattle.zpl_names.specs.Scope.{kind_of}
use Rattle.zpl_names.specs.Ranks.{first_rank, is_above_zero, rank_of}
use Rattle.zpl_names.specs.Shapes.{prefix_rank, unknown_shapes}
use Rattle.zpl_names.specs.Declared.{Routine, routine_named, routine_of, routines_behind, routines_of, scope_of, with_decl, with_procedure}
use Rattle.zpl_names.specs.Expansion.{FormalName, formal_names}
use Rattle.zpl_names.specs.Sites as sites
use Rattle.zpl_names.specs.Sites.{Role, Test, Printed, Assigned, Result, Limit, Reach, Site, AtStmt, arm_sites, arms_rank, arms_sites, body_sites, decl_sites, each_sites, form_sites, head_sites, in_body, inside, is_shattered, otherwise_sites, outermost_sites, prefixes_sites, routine_sites, step_sites, stmt_sites, stmts_sites, test_rank, text_sites, under_prefixes, whole_sites, tests_rank}
use Rattle.zpl_names.specs.Types.{type_of}
use Rattle.zpl_binding.specs.Declarations.{known_of}
use Rattle.zpl_binding.specs.Outcome.{Computed}
use Rattle.zpl_binding.specs.Settings.{Setting}
use Rattle.zpl_binding.specs.Storages.{borders_of}
use Rattle.zpl_meaning.specs.Store.{Thing, Scalar, ArrayAt, Fixed, thing_of}
use Rattle.zpl_meaning.specs.Context.{Mask, Setup}
use Rattle.zpl_meaning.specs.Calls.{formals_in}
use Rattle.zpl_meaning.specs.Points.{assigned_expr}
use Rattle.zpl_meaning.specs.Program.{first_frame, setup_of}
use Rattle.zpl_meaning.specs.Statement.{arms_at}
use Rattle.zpl_meaning.specs.Variables.{Frame}
use Rattle.node_form.specs.declared.instructions.Instr.TheVariants as instr
use Rattle.node_form.specs.declared.instructions.RegionForm.TheVariants as form
use Rattle.node_form.specs.Expression.{Expression, Constant, Variable, Element, Denial, words_of}
use Rattle.row_runs.specs.Structured as piece
use Rattle.row_runs.specs.Structured.{Piece}
use Rattle.lowering_fits.specs.of_flat_form.Row as row
use Rattle.lowering_fits.specs.of_flat_form.Row.{Row, Words}
use Rattle.lowering_fits.specs.of_zpl_lowering.Check.{Check}
use Rattle.lowering_fits.specs.of_zpl_lowering.Bracket.{Opened}
use Rattle.lowering_fits.specs.of_zpl_lowering.Where.{Stored, Numbers, Slotted, slotted_at, SlotEdge, Where, Next, rank_in, rank_for, reach_of, line_of}
use Rattle.lowering_fits.specs.of_zpl_lowering.Slate as slate
use Rattle.lowering_fits.specs.of_zpl_lowering.Slate.{Slate, Slates, NoSlate, ThenSlate, Placed, Settled, settled_each}
use Rattle.lowering_fits.specs.of_zpl_lowering.Reference.{Reference, all_referred, all_conforming, needs}
use Rattle.lowering_fits.specs.of_zpl_lowering.Hoist.{Hoisted, Free, behind as hoisted_behind, stored_element, fold_rows, kept_rows, scan_row, masked_scan, number_of, scanning, temps_from, three_of, rooms, index_puts, remap_code, remapping, border_vectors, border_rows, wrapping, mask_code, outside_code, trap_if, hoisted, all_hoisted}
use Rattle.lowering_fits.specs.of_zpl_lowering.Lowered.{Lowered, rows_alone, behind, Phased, phased, phased_with, first_left, free_at, check_of}
use Rattle.lowering_fits.specs.of_zpl_lowering.Statement.{Given, Valued, Copied, Referring, Calling, Lowering, placed_in, test_of, set_row, lowered_scalar, lowered_array, lowered_to, value_rows, value_exprs, given_to, with_values, lowered_invoke, target_of, lowered_assign, lowered_borders, is_border, prefix_opened, current_for, under_prefix, of_opened, is_last, lowered_under, counter_from, enters, is_done, step_row, counted, head_exprs, lowered_for, scalar_of, Shown, shown_at, shown_of, Prints, items_of, lowered_write, printed_exprs, is_truth, source_shift, each_border, Inside, form_inside, shattered_over, has_put, apart_rows, shattered, choose_code, ends_arms, lowered, lowered_all, lowered_form, lowered_arms, lowered_arm, lowered_otherwise}
use Rattle.lowering_fits.specs.of_zpl_lowering.Program.{Framed, with_scalar, with_array, Entry, zero_row, clear_row, made_copy, givens_code, names_code, locals_code, where_in, reads_round, in_call, routine_code, call_code, region_rows, globals_made, first_next, entry_calling, entry_code, lowered_program}
use Rattle.zpl_meaning.proofs.DepthLemmas.{Each, each_left, each_right}
use Rattle.lowering_checks.proofs.SlateLemmas.{AllQuiet, quiet_both, each_quiet, all_conforming_quiet, needs_quiet, opened_quiet}
use Rattle.lowering_checks.proofs.HoistLemmas.{borders_quiet}
use Rattle.lowering_checks.proofs.ShatterLemmas.{apart_quiet}
use Rattle.lowering_checks.proofs.AssignLemmas.{set_quiet, values_quiet, edges_quiet, prints_quiet}
use Rattle.lowering_checks.proofs.BodyLemmas.{if_quiet}

-- of rows
abbrev pub OfRows : (Piece Row Check → Type 0) → List Row → Type 0
OfRows P rows = P (piece.Rows rows)

-- ---- what is asked of a property: that it goes from parts to the whole, and holds of the loops of
-- operators and of copies
pub record GoesAlong (P : Piece Row Check → Type 0) : Type 0 where
  pub quiet : (rows : List Row) → AllQuiet rows → OfRows P rows
  pub rows : (xs ys : List Row) → OfRows P xs → OfRows P ys → OfRows P (xs ++ ys)
  pub then : (first rest : Piece Row Check) → P first → P rest → P (piece.Then first rest)
  pub when : (test : Check) (body : Piece Row Check) → P body → P (piece.When test body)
  pub choose : (test : Check) (one other : Piece Row Check) → P one → P other →
      P (piece.Choose test one other)
  pub while : (head : Piece Row Check) (test : Check) (body : Piece Row Check) → P head → P body →
      P (piece.While head test body)
  pub repeat : (body head : Piece Row Check) (test : Check) → P body → P head →
      P (piece.Repeat body head test)
  pub remap : (numbers : Numbers) (line scalar temp : ℕ) (operator : Fold) (over : Slotted)
      (exprs : List Expression) (operand : Expression) →
      OfRows P (rooms over.slot (temps_from temp exprs)
      ++ (row.Loop over.slot (index_puts line (mask_code numbers over.mask) temp exprs)
      ∷ fold_rows numbers line scalar operator over operand))
  pub fold : (numbers : Numbers) (line scalar : ℕ) (operator : Fold) (over : Slotted)
      (operand : Expression) → OfRows P (fold_rows numbers line scalar operator over operand)
  pub kept : (line temp slot : ℕ) (expr : Expression) (mask : Option Words) →
      OfRows P (kept_rows line temp slot expr mask)
  pub pair : (line one other slot : ℕ) (expr also : Expression) (mask : Option Words) →
      OfRows P (row.Plain (instr.Room one slot) ∷ row.Plain (instr.Room other slot)
      ∷ row.Loop slot (row.Put one (words_of expr) mask line
      ∷ row.Put other (words_of also) None line ∷ []) ∷ [])
  pub copy : (line array copy slot : ℕ) (region : Region) →
      OfRows P (row.Plain (instr.Fix slot region)
      ∷ row.Loop slot (row.Put copy (words_of (Element array)) None line ∷ []) ∷ [])

module _ (P : Piece Row Check → Type 0) (goes : GoesAlong P) where
  -- ---- operators

  with_quiet : (rows others : List Row) → OfRows P rows → AllQuiet others → OfRows P (rows ++ others)
  with_quiet rows others first quiet = goes.rows rows others first (goes.quiet others quiet)

  scan_each : (numbers : Numbers) (line : ℕ) (free : Free) (operator : Fold) (along : Option ℤ)
      (over : Slotted) (mask : Option Mask) (operand : Hoisted Expression) → P operand.code →
      P (scanning numbers line free operator along over mask operand).code
  scan_each numbers line free operator along over None operand inside =
      let from = (hoisted_behind free operand).temps in
      let rows = kept_rows line from over.slot operand.left (mask_code numbers over.mask) in
      let others = scan_row (suc from) from operator along over None in
      goes.then operand.code (piece.Rows (rows ++ others)) inside
      (with_quiet rows others
      (goes.kept line from over.slot operand.left (mask_code numbers over.mask)) (tt, (tt, tt)))
  scan_each numbers line free operator along over (Some mask) operand inside =
      by mask.without (number_of (slice_get numbers.arrays mask.array))
    where
      from : ℕ
      from = (hoisted_behind free operand).temps

      by : (b : Bool) (array : ℕ) →
          P (masked_scan numbers line free operator along over operand b array).code
      by false array =
          let rows = kept_rows line from over.slot operand.left (mask_code numbers over.mask) in
          let others = scan_row (suc from) from operator along over (Some array) in
          goes.then operand.code (piece.Rows (rows ++ others)) inside
          (with_quiet rows others
          (goes.kept line from over.slot operand.left (mask_code numbers over.mask)) (tt, (tt, tt)))
      by true array =
          let rows = row.Plain (instr.Room from over.slot) ∷ row.Plain (instr.Room (suc from) over.slot)
          ∷ row.Loop over.slot
          (row.Put from (words_of operand.left) (mask_code numbers over.mask) line
          ∷ row.Put (suc from) (words_of (Denial (Element array))) None line ∷ []) ∷ [] in
          let others = scan_row (suc (suc from)) from operator along over (Some (suc from)) in
          goes.then operand.code (piece.Rows (rows ++ others)) inside
          (with_quiet rows others
          (goes.pair line from (suc from) over.slot operand.left (Denial (Element array))
          (mask_code numbers over.mask)) (tt, (tt, tt)))

  remap_each : (numbers : Numbers) (line scalar temp : ℕ) (over : Slotted) (array : ℕ)
      (storage : Region) (indices : List Expression) →
      P (remap_code numbers line scalar temp over array storage indices)
  remap_each numbers line scalar temp over array storage indices =
      let mask = mask_code numbers over.mask in
      let places = rooms over.slot (temps_from temp indices) in
      let loop = row.Loop over.slot (index_puts line mask temp indices) ∷ [] in
      let sums = fold_rows numbers line scalar fold.Any over (outside_code temp storage) in
      let traps : List Row = row.Plain (instr.Trap trap.OutsideStorage line) ∷ [] in
      let reads : List Row = row.Plain (instr.Room (temp + length indices) over.slot)
      ∷ row.Plain
      (instr.Remap (temp + length indices) over.slot array (three_of (temps_from temp indices)))
      ∷ [] in
      goes.then (piece.Rows (places ++ (loop ++ sums)))
      (piece.Then (trap_if scalar line) (piece.Rows reads))
      (goes.remap numbers line scalar temp fold.Any over indices (outside_code temp storage))
      (goes.then (trap_if scalar line) (piece.Rows reads)
      (goes.when (record { expr = words_of (Variable scalar); line = line }) (piece.Rows traps)
      (goes.quiet traps (tt, tt)))
      (goes.quiet reads (tt, (tt, tt))))

  wrap_each : (line : ℕ) (stored : Option Stored) (home : Region) (shift : List ℤ)
      (copy first : ℕ) → P (wrapping line stored home shift copy first).code
  wrap_each line None home shift copy first = goes.quiet [] tt
  wrap_each line (Some stored) home shift copy first =
      with_quiet
      (row.Plain (instr.Fix first home)
      ∷ row.Loop first (row.Put copy (words_of (Element stored.array)) None line ∷ []) ∷ [])
      (border_rows line copy first (suc first) (border_vectors shift))
      (goes.copy line stored.array copy first home)
      (borders_quiet line copy first (suc first) (border_vectors shift))

  stored_each : (stored : Option Stored) (shift : List ℤ) → P (stored_element stored shift).code
  stored_each None shift = goes.quiet [] tt
  stored_each (Some stored) shift = goes.quiet [] tt

  remapping_each : (numbers : Numbers) (line : ℕ) (free : Free) (over : Slotted)
      (stored : Option Stored) (inside : Hoisted (List Expression)) → P inside.code →
      P (remapping numbers line free over stored inside).code
  remapping_each numbers line free over None inside first = first
  remapping_each numbers line free over (Some stored) inside first =
      let after = hoisted_behind free inside in
      goes.then inside.code
      (remap_code numbers line after.scalars after.temps over stored.array stored.storage inside.left)
      first
      (remap_each numbers line after.scalars after.temps over stored.array stored.storage inside.left)

  mutual
    pub hoisted_each : (numbers : Numbers) (line : ℕ) (free : Free) (one : Slate) →
        P (hoisted numbers line free one).code
    hoisted_each numbers line free (slate.Constant value) = goes.quiet [] tt
    hoisted_each numbers line free (slate.Variable place) = goes.quiet [] tt
    hoisted_each numbers line free (slate.Coordinate k) = goes.quiet [] tt
    hoisted_each numbers line free (slate.Element slot place shift) =
        stored_each (slice_get numbers.arrays place) shift
    hoisted_each numbers line free (slate.Wrapped slot place home shift copy first) =
        wrap_each line (slice_get numbers.arrays place) home shift copy first
    hoisted_each numbers line free (slate.Unary operator operand) =
        hoisted_each numbers line free operand
    hoisted_each numbers line free (slate.Binary operator left right) =
        let one : Hoisted Expression = hoisted numbers line free left in
        goes.then one.code (hoisted numbers line (hoisted_behind free one) right).code
        (hoisted_each numbers line free left)
        (hoisted_each numbers line (hoisted_behind free one) right)
    hoisted_each numbers line free (slate.Folded operator over operand) =
        let inside : Hoisted Expression = hoisted numbers line free operand in
        let scalar : ℕ = (hoisted_behind free inside).scalars in
        goes.then inside.code (piece.Rows (fold_rows numbers line scalar operator over inside.left))
        (hoisted_each numbers line free operand)
        (goes.fold numbers line scalar operator over inside.left)
    hoisted_each numbers line free (slate.PartFolded operator over source operand) =
        let inside : Hoisted Expression = hoisted numbers line free operand in
        let from : ℕ = (hoisted_behind free inside).temps in
        let rows : List Row = kept_rows line from source.slot inside.left None in
        let others : List Row = row.Plain (instr.Room (suc from) over.slot)
        ∷ row.Plain (instr.Part (suc from) over.slot operator from source.slot) ∷ [] in
        goes.then inside.code (piece.Rows (rows ++ others)) (hoisted_each numbers line free operand)
        (with_quiet rows others (goes.kept line from source.slot inside.left None) (tt, (tt, tt)))
    hoisted_each numbers line free (slate.Scanned operator along over operand) =
        scan_each numbers line free operator along over over.mask (hoisted numbers line free operand)
        (hoisted_each numbers line free operand)
    hoisted_each numbers line free (slate.Flooded over source operand) =
        let inside : Hoisted Expression = hoisted numbers line free operand in
        let from : ℕ = (hoisted_behind free inside).temps in
        let rows : List Row = kept_rows line from source.slot inside.left None in
        let others : List Row = row.Plain (instr.Room (suc from) over.slot)
        ∷ row.Plain (instr.Flood (suc from) over.slot from source.slot) ∷ [] in
        goes.then inside.code (piece.Rows (rows ++ others)) (hoisted_each numbers line free operand)
        (with_quiet rows others (goes.kept line from source.slot inside.left None) (tt, (tt, tt)))
    hoisted_each numbers line free (slate.Remapped over place indices) =
        remapping_each numbers line free over (slice_get numbers.arrays place)
        (all_hoisted numbers line free indices) (all_each numbers line free indices)

    pub all_each : (numbers : Numbers) (line : ℕ) (free : Free) (all : Slates) →
        P (all_hoisted numbers line free all).code
    all_each numbers line free NoSlate = goes.quiet [] tt
    all_each numbers line free (ThenSlate first rest) =
        let one : Hoisted Expression = hoisted numbers line free first in
        goes.then one.code (all_hoisted numbers line (hoisted_behind free one) rest).code
        (hoisted_each numbers line free first)
        (all_each numbers line (hoisted_behind free one) rest)

  -- ---- phases

  pub phases_each : (w : Where) (line : ℕ) (next : Next) (first last : List Reference)
      (placed : List Placed) → P (phased_with w line next first last placed).lowered.code
  phases_each w line next first last placed =
      let all : Settled Slates = settled_each w line next placed in
      let refs : List Reference = first ++ (all_referred w.numbers all.slate ++ last) in
      let rows : List Row = all.rows ++ (all_conforming line all.slate ++ needs line refs) in
      goes.then (piece.Rows rows) (all_hoisted w.numbers line (free_at next 0) all.slate).code
      (goes.quiet rows
      (quiet_both all.rows (all_conforming line all.slate ++ needs line refs)
      (each_quiet w line next placed)
      (quiet_both (all_conforming line all.slate) (needs line refs)
      (all_conforming_quiet line all.slate) (needs_quiet line refs))))
      (all_each w.numbers line (free_at next 0) all.slate)

-- ---- places of the text, and where they are lowered
-- The names in reach and the prefix are the same, and the place is in no shattered statement.
pub record IsSeen (reach : Reach) (w : Where) : Type 0 where
  pub scope : reach.scope ≡ w.scope
  pub prefix : reach.prefix ≡ w.prefix
  pub bare : is_above_zero reach.shattered ≡ false

seen_under : (reach : Reach) (w : Where) (prefix : Prefix) (opened : Opened) → IsSeen reach w →
    IsSeen (sites.under_prefix reach prefix) (under_prefix w prefix opened)
seen_under reach w prefix opened seen = record {
  scope = seen.scope;
  prefix = ap (λ scope. prefix_rank scope reach.prefix prefix) seen.scope
      ∙ ap (λ rank. prefix_rank w.scope rank prefix) seen.prefix;
  bare = seen.bare;
}

no_rank : (one other : Rank) → is_above_zero one ≡ false → is_above_zero other ≡ false →
    is_above_zero (first_rank one other) ≡ false
no_rank None other first second = first
no_rank (Some zero) other first second = second
no_rank (Some (suc rank)) other first second = first

seen_inside : (reach : Reach) (w : Where) (rank : Rank) → IsSeen reach w →
    is_above_zero rank ≡ false → IsSeen (inside reach rank) w
seen_inside reach w rank seen none = record {
  scope = seen.scope;
  prefix = seen.prefix;
  bare = no_rank reach.shattered rank seen.bare none;
}

test_seen : (reach : Reach) (w : Where) (test : Expr) → IsSeen reach w →
    test_rank reach test ≡ test_rank (reach_of w) test
test_seen reach w test seen =
    ap (λ scope. rank_of scope reach.prefix reach.prefix test) seen.scope
    ∙ ap (λ rank. rank_of w.scope rank rank test) seen.prefix

arms_seen : (reach : Reach) (w : Where) (arms : Arms) → IsSeen reach w →
    arms_rank reach arms ≡ arms_rank (reach_of w) arms
arms_seen reach w NoArm seen = refl
arms_seen reach w (ThenArm (Tested at test body) rest) seen =
    ap (λ rank. first_rank rank (arms_rank reach rest)) (test_seen reach w test seen)
    ∙ ap (first_rank (test_rank (reach_of w) test)) (arms_seen reach w rest seen)

-- ---- what is asked of statements: that it holds of assignments of arrays
abbrev pub OfArrays : (Piece Row Check → Type 0) → Type 0
OfArrays P =
    (w : Where) (line : ℕ) (next : Next) (over : Slotted) (value : Placed)
    (target : Option Stored) → P (lowered_array w line next over value target).code

module _ (P : Piece Row Check → Type 0) (along : GoesAlong P) (arrays : OfArrays P) where
  quiet_each : (rows : List Row) → AllQuiet rows → OfRows P rows
  quiet_each rows quiet = along.quiet rows quiet

  test_each : (w : Where) (next : Next) (one : Expr) (at : ℕ) → P (test_of w next one at).before.code
  test_each w next one at =
      phases_each P along w (line_of w at) next [] [] (placed_in w Test one ∷ [])

  scalar_each : (w : Where) (line : ℕ) (next : Next) (value : Placed) (target : Option ℕ) →
      P (lowered_scalar w line next value target).code
  scalar_each w line next value target =
      let phases : Phased = phased w line next (value ∷ []) in
      let rows : List Row = set_row line (first_left phases.left) target in
      along.then phases.lowered.code (piece.Rows rows)
      (phases_each P along w line next [] [] (value ∷ []))
      (quiet_each rows (set_quiet line (first_left phases.left) target))

  values_each : (w : Where) (line scalar : ℕ) (next : Next) (placed : List Placed) →
      P (with_values line scalar (phased w line next placed)).code
  values_each w line scalar next placed =
      let phases : Phased = phased w line next placed in
      along.then phases.lowered.code (piece.Rows (value_rows line scalar phases.left))
      (phases_each P along w line next [] [] placed)
      (quiet_each (value_rows line scalar phases.left) (values_quiet line scalar phases.left))

  to_each : (w : Where) (role : Role) (line : ℕ) (next : Next) (value : Expr)
      (thing : Option Thing) → P (lowered_to w role line next value thing).code
  to_each w role line next value None = quiet_each [] tt
  to_each w role line next value (Some (Fixed number)) = quiet_each [] tt
  to_each w role line next value (Some (Scalar target)) =
      scalar_each w line next (placed_in w role value) (slice_get w.numbers.scalars target)
  to_each w role line next value (Some (ArrayAt target home)) =
      arrays w line next (slotted_at w.currents (rank_for w role)) (placed_in w role value)
      (slice_get w.numbers.arrays target)

  -- ---- borders and prints

  borders_each : (w : Where) (kind : BorderKind) (edge : Option SlotEdge) (line : ℕ) (next : Next)
      (names : List Name) → P (lowered_borders w kind edge line next names).code
  borders_each w kind None line next names = quiet_each [] tt
  borders_each w kind (Some edge) line next names =
      let over : Slotted = slotted_at w.currents w.prefix in
      quiet_each (row.Plain (instr.Fits edge.slot edge.shift line)
      ∷ row.Plain
      (instr.Formed form.Inside next.slots edge.slot (source_shift kind edge.shift) line)
      ∷ each_border w kind edge over.slot next.slots line names)
      (tt, (tt, edges_quiet w kind edge over.slot next.slots line names))

  shown_each : (line : ℕ) (truth : Bool) (scalar temp : ℕ) (over : Slotted) (rank : Rank)
      (expr : Expression) → OfRows P (shown_at line truth scalar temp over rank expr).values
  shown_each line truth scalar temp over None expr = quiet_each _ (tt, tt)
  shown_each line truth scalar temp over (Some zero) expr = quiet_each _ (tt, tt)
  shown_each line truth scalar temp over (Some (suc rank)) expr =
      along.kept line temp over.slot expr None

  shows_each : (w : Where) (line : ℕ) (ends : Bool) (items : List Item) (scalar temp : ℕ)
      (left : List Expression) → OfRows P (items_of w line scalar temp ends items left).values
  shows_each w line ends [] scalar temp left = quiet_each [] tt
  shows_each w line ends (Str bytes ∷ items) scalar temp left =
      shows_each w line ends items scalar temp left
  shows_each w line ends (Value expr ∷ items) scalar temp [] =
      shows_each w line ends items scalar temp []
  shows_each w line ends (Value expr ∷ items) scalar temp (first ∷ left) =
      let shown : Shown = shown_of w line scalar temp expr first in
      let rest : Prints = items_of w line (scalar + shown.scalars) (temp + length shown.temps) ends
      items left in
      along.rows shown.values rest.values
      (shown_each line (is_truth (type_of w.scope expr)) scalar temp
      (slotted_at w.currents (rank_in w Printed expr)) (rank_in w Printed expr) first)
      (shows_each w line ends items (scalar + shown.scalars) (temp + length shown.temps) left)

  write_each : (w : Where) (line : ℕ) (next : Next) (ends : Bool) (items : List Item) →
      P (lowered_write w line next ends items).code
  write_each w line next ends items =
      let phases : Phased = phased w line next (printed_exprs w items) in
      let after : Next = behind next phases.lowered in
      let all : Prints = items_of w line after.scalars after.temps ends items phases.left in
      along.then phases.lowered.code (piece.Rows (all.values ++ all.prints))
      (phases_each P along w line next [] [] (printed_exprs w items))
      (along.rows all.values all.prints
      (shows_each w line ends items after.scalars after.temps phases.left)
      (quiet_each all.prints
      (prints_quiet w line ends items after.scalars after.temps phases.left)))

  -- ---- `for`

  for_each : (w : Where) (line : ℕ) (next : Next) (head : ForHead) (body : Next → Lowered) →
      ((after : Next) → P (body after).code) → P (lowered_for w line next head body).code
  for_each w line next head body bodies =
      let phases : Phased = phased w line next (head_exprs w head) in
      let scalar : ℕ = next.scalars + phases.lowered.scalars in
      let values : Lowered = with_values line scalar phases in
      let after : Next = behind next values in
      let target = scalar_of w.numbers (thing_of w.environment head.name.text) in
      let sets : Lowered = rows_alone (set_row line (Variable scalar) target) in
      let inside : Lowered = body (behind after sets) in
      let counter = counter_from scalar in
      let step : List Row = step_row head.down counter line ∷ [] in
      let turn : Piece Row Check = piece.Then sets.code inside.code in
      let done : Check = check_of (is_done head.down counter) line in
      along.then values.code (counted head.down counter line target after body).code
      (values_each w line scalar next (head_exprs w head))
      (along.when (check_of (enters head.down counter) line)
      (piece.Repeat (piece.Then turn (piece.Rows step)) (piece.Rows []) done)
      (along.repeat (piece.Then turn (piece.Rows step)) (piece.Rows []) done
      (along.then turn (piece.Rows step)
      (along.then sets.code inside.code
      (quiet_each (set_row line (Variable scalar) target)
      (set_quiet line (Variable scalar) target))
      (bodies (behind after sets)))
      (quiet_each step (tt, tt)))
      (quiet_each [] tt)))

  -- ---- prefixes

  under_each : (borders : Bool) (rest : Lowering → Next → Lowered) (prefixes : List Prefix)
      (w : Where) (call : Calling → Next → Lowered) (next : Next) (reach : Reach) →
      IsSeen reach w →
      ((inner : Where) (after : Next) → IsSeen (under_prefixes reach prefixes) inner →
      P (rest (record { place = inner; call = call }) after).code) →
      P (lowered_under borders (record { place = w; call = call }) next prefixes rest).code
  under_each borders rest [] w call next reach seen inside = inside w next seen
  under_each borders rest (prefix ∷ prefixes) w call next reach seen inside =
      let last : Bool = is_last borders prefixes in
      let opened = prefix_opened last w next.slots (line_of w prefix.at) (current_for w prefix)
      prefix.region in
      let inner : Where = under_prefix w prefix opened in
      let after : Next = behind next (of_opened opened) in
      along.then (piece.Rows opened.rows)
      (lowered_under borders (record { place = inner; call = call }) after prefixes rest).code
      (quiet_each opened.rows
      (opened_quiet last w next.slots (line_of w prefix.at) (current_for w prefix) prefix.region))
      (under_each borders rest prefixes inner call after (sites.under_prefix reach prefix)
      (seen_under reach w prefix opened seen) inside)

  -- ---- statements, where this is so of what they call

  module _ (call : Calling → Next → Lowered)
      (calls : (calling : Calling) (next : Next) → P (call calling next).code) where
    abbrev here : Where → Lowering
    here w = record { place = w; call = call }

    invoke_each : (w : Where) (next : Next) (name : Name) (actuals : Exprs) (target line : ℕ) →
        P (lowered_invoke (here w) next name actuals target line).code
    invoke_each w next name actuals target line =
        let formals = formals_in (kind_of w.scope name) in
        let placed = value_exprs w formals actuals in
        let phases = phased w line next placed in
        let scalar : ℕ = next.scalars + phases.lowered.scalars in
        let values : Lowered = with_values line scalar phases in
        let calling : Calling = record {
          name = name.text;
          actuals = given_to w scalar formals actuals;
          currents = w.currents;
          result = target;
          numbers = w.numbers;
          line = line;
        } in
        along.then values.code (call calling (behind next values)).code
        (values_each w line scalar next placed) (calls calling (behind next values))

    assign_each : (w : Where) (next : Next) (name : Name) (op : Option Op) (value : Expr)
        (line : ℕ) → P (lowered_assign (here w) next name op value line).code
    assign_each w next name (Some op) value line =
        to_each w (Assigned name (Some op)) line next (assigned_expr name (Some op) value)
        (thing_of w.environment name.text)
    assign_each w next name None (Call at callee actuals) line =
        invoke_each w next callee actuals (target_of w name) line
    assign_each w next name None (Number at value) line =
        to_each w (Assigned name None) line next (Number at value) (thing_of w.environment name.text)
    assign_each w next name None (Truth at value) line =
        to_each w (Assigned name None) line next (Truth at value) (thing_of w.environment name.text)
    assign_each w next name None (Coord at k) line =
        to_each w (Assigned name None) line next (Coord at k) (thing_of w.environment name.text)
    assign_each w next name None (Named at read) line =
        to_each w (Assigned name None) line next (Named at read) (thing_of w.environment name.text)
    assign_each w next name None (Shifted at read shift) line =
        to_each w (Assigned name None) line next (Shifted at read shift)
        (thing_of w.environment name.text)
    assign_each w next name None (Around at read shift) line =
        to_each w (Assigned name None) line next (Around at read shift)
        (thing_of w.environment name.text)
    assign_each w next name None (Remap at read indices) line =
        to_each w (Assigned name None) line next (Remap at read indices)
        (thing_of w.environment name.text)
    assign_each w next name None (Paren at inside) line =
        to_each w (Assigned name None) line next (Paren at inside)
        (thing_of w.environment name.text)
    assign_each w next name None (Neg at operand) line =
        to_each w (Assigned name None) line next (Neg at operand)
        (thing_of w.environment name.text)
    assign_each w next name None (Not at operand) line =
        to_each w (Assigned name None) line next (Not at operand)
        (thing_of w.environment name.text)
    assign_each w next name None (Abs at operand) line =
        to_each w (Assigned name None) line next (Abs at operand)
        (thing_of w.environment name.text)
    assign_each w next name None (Pair at operator left right) line =
        to_each w (Assigned name None) line next (Pair at operator left right)
        (thing_of w.environment name.text)
    assign_each w next name None (Reduce at operator over operand) line =
        to_each w (Assigned name None) line next (Reduce at operator over operand)
        (thing_of w.environment name.text)
    assign_each w next name None (Scan at operator along operand) line =
        to_each w (Assigned name None) line next (Scan at operator along operand)
        (thing_of w.environment name.text)
    assign_each w next name None (Flood at source operand) line =
        to_each w (Assigned name None) line next (Flood at source operand)
        (thing_of w.environment name.text)

-- ---- the places of procedures are among those of the text
module _ (program : Program) (Q : Site → Type 0) where
  abbrev SitesHold : Routine → Type 0
  SitesHold routine = Each Q (routine_sites program unknown_shapes routine)

  abbrev AllHold : List Routine → Type 0
  AllHold [] = Unit {0}
  AllHold (routine ∷ routines) = SitesHold routine × AllHold routines

  all_hold : (decls : List Decl) (earlier : List names.Entry) →
      Each Q (each_sites with_decl (decl_sites program) earlier decls) →
      AllHold (routines_behind earlier decls)
  all_hold [] earlier all = tt
  all_hold (Defined procedure ∷ decls) earlier all =
      let sites = decl_sites program earlier (Defined procedure) in
      let rest = each_sites with_decl (decl_sites program) (with_decl earlier (Defined procedure))
      decls in (
        each_right Q (head_sites earlier procedure)
            (routine_sites program unknown_shapes (routine_of earlier procedure))
            (each_left Q sites rest all),
        all_hold decls (with_procedure earlier procedure) (each_right Q sites rest all),
      )
  all_hold (Config defines ∷ decls) earlier all =
      all_hold decls _ (each_right Q (decl_sites program earlier (Config defines)) _ all)
  all_hold (tree.Constant defines ∷ decls) earlier all =
      all_hold decls _ (each_right Q (decl_sites program earlier (tree.Constant defines)) _ all)
  all_hold (Regions regions ∷ decls) earlier all =
      all_hold decls _ (each_right Q (decl_sites program earlier (Regions regions)) _ all)
  all_hold (Directions directions ∷ decls) earlier all =
      all_hold decls _ (each_right Q (decl_sites program earlier (Directions directions)) _ all)
  all_hold (Vars vars ∷ decls) earlier all =
      all_hold decls _ (each_right Q (decl_sites program earlier (Vars vars)) _ all)

  abbrev FoundHolds : Option Routine → Type 0
  FoundHolds None = Unit {0}
  FoundHolds (Some routine) = SitesHold routine

  found_holds : (is_it : Routine → Bool) (routines : List Routine) → AllHold routines →
      FoundHolds (find is_it routines)
  found_holds is_it [] all = tt
  found_holds is_it (routine ∷ routines) all =
      by (is_it routine) refl (found_holds is_it routines all.1)
    where
      by : (b : Bool) → is_it routine ≡ b → FoundHolds (find is_it routines) →
          FoundHolds (find is_it (routine ∷ routines))
      by true e rest =
          subst (λ b. FoundHolds (cond b (Some routine) (find is_it routines))) (sym e) all.0
      by false e rest =
          subst (λ b. FoundHolds (cond b (Some routine) (find is_it routines))) (sym e) rest

-- ---- a shattered statement: its loop, and the row behind one that puts nothing

abbrev pub inside_of : Where → ℕ → Next → Form → Inside
inside_of w line next form = form_inside w line next (tests_rank (reach_of w) form) form

abbrev pub shattered_rows : Where → ℕ → Next → Form → Lowered
shattered_rows w line next form =
    shattered_over w (slotted_at w.currents (tests_rank (reach_of w) form)) line
    (inside_of w line next form)

pub shattered_each : (P : Piece Row Check → Type 0) → GoesAlong P → (w : Where) (line : ℕ)
    (next : Next) (form : Form) → P (shattered_rows w line next form).code →
    P (shattered w line next form).code
shattered_each P along w line next form over =
    let put : Bool = has_put (inside_of w line next form).members in
    along.then (shattered_rows w line next form).code
    (piece.Rows (apart_rows put line next.scalars)) over
    (along.quiet (apart_rows put line next.scalars) (apart_quiet put line next.scalars))

-- ---- and of shattered statements, each where it stands in the text
pub record GoesFrom (P : Piece Row Check → Type 0) (Q : Site → Type 0) : Type 0 where
  pub goes : GoesAlong P
  pub array : OfArrays P
  pub shatters : (w : Where) (line : ℕ) (next : Next) (form : Form) (reach : Reach) (at : ℕ)
      (prefixes : List Prefix) → IsSeen reach w → is_shattered reach form ≡ true →
      Q (AtStmt reach at prefixes form) → P (shattered w line next form).code

module _ (P : Piece Row Check → Type 0) (Q : Site → Type 0) (holds : GoesFrom P Q) where
  abbrev along : GoesAlong P
  along = holds.goes

  none_each : P (piece.Rows [])
  none_each = along.quiet [] tt

  module _ (call : Calling → Next → Lowered)
      (calls : (calling : Calling) (next : Next) → P (call calling next).code) where
    abbrev at_place : Where → Lowering
    at_place w = record { place = w; call = call }

    choose_each : (b : Bool) (one other : Lowered) → (b ≡ true → P one.code) →
        (b ≡ false → P other.code) → P (choose_code b one other).code
    choose_each true one other first second = first refl
    choose_each false one other first second = second refl

    mutual
      stmt_each : (w : Where) (next : Next) (stmt : Stmt) (reach : Reach) → IsSeen reach w →
          Each Q (stmt_sites reach stmt) → P (lowered (at_place w) next stmt).code
      stmt_each w next (Prefixed at prefixes form) reach seen all =
          let within : Reach = under_prefixes reach prefixes in
          let own = each_right Q (prefixes_sites reach prefixes)
          (AtStmt within at prefixes form ∷ form_sites within form) all in
          under_each P along holds.array (is_border form)
          (λ inner after. lowered_form inner after at form) prefixes w call next reach seen
          (λ inner after is. form_each inner after at form within prefixes is own.0 own.1)

      stmts_each : (w : Where) (next : Next) (stmts : Stmts) (reach : Reach) → IsSeen reach w →
          Each Q (stmts_sites reach stmts) → P (lowered_all (at_place w) next stmts).code
      stmts_each w next NoStmt reach seen all = none_each
      stmts_each w next (ThenStmt first rest) reach seen all =
          let one : Lowered = lowered (at_place w) next first in
          along.then one.code (lowered_all (at_place w) (behind next one) rest).code
          (stmt_each w next first reach seen
          (each_left Q (stmt_sites reach first) (stmts_sites reach rest) all))
          (stmts_each w (behind next one) rest reach seen
          (each_right Q (stmt_sites reach first) (stmts_sites reach rest) all))

      form_each : (w : Where) (next : Next) (at : ℕ) (one : Form) (reach : Reach)
          (prefixes : List Prefix) → IsSeen reach w → Q (AtStmt reach at prefixes one) →
          Each Q (form_sites reach one) → P (lowered_form (at_place w) next at one).code
      form_each w next at (Assign name op value) reach prefixes seen own all =
          assign_each P along holds.array call calls w next name op value (line_of w at)
      form_each w next at (Invoke name actuals) reach prefixes seen own all =
          invoke_each P along holds.array call calls w next name actuals 0 (line_of w at)
      form_each w next at (Block body) reach prefixes seen own all =
          stmts_each w next body (inside reach (Some 0)) (seen_inside reach w (Some 0) seen refl) all
      form_each w next at (If arms otherwise) reach prefixes seen own all =
          let rank : Rank = arms_rank reach arms in
          let same : rank ≡ arms_rank (reach_of w) arms = arms_seen reach w arms seen in
          let tests = arms_sites reach (inside reach rank) arms in
          let others = otherwise_sites (inside reach rank) otherwise in
          choose_each (is_shattered (reach_of w) (If arms otherwise))
          (shattered w (line_of w at) next (If arms otherwise))
          (lowered_arms (at_place w) next at arms otherwise
          (λ after. lowered_otherwise (at_place w) after otherwise))
          (λ is. holds.shatters w (line_of w at) next (If arms otherwise) reach at prefixes
          seen (ap is_above_zero same ∙ is) own)
          (λ is.
          let bare = seen_inside reach w rank seen (ap is_above_zero same ∙ is) in
          arms_each w next at arms otherwise
          (λ after. lowered_otherwise (at_place w) after otherwise) reach (inside reach rank) bare
          (each_left Q tests others all)
          (λ after. otherwise_each w after otherwise (inside reach rank) bare
          (each_right Q tests others all)))
      form_each w next at (While test body) reach prefixes seen own all =
          let rank : Rank = test_rank reach test in
          let same : rank ≡ test_rank (reach_of w) test = test_seen reach w test seen in
          let tested = test_of w next test at in
          let after : Next = behind next tested.before in
          choose_each (is_shattered (reach_of w) (While test body))
          (shattered w (line_of w at) next (While test body)) _
          (λ is. holds.shatters w (line_of w at) next (While test body) reach at prefixes
          seen (ap is_above_zero same ∙ is) own)
          (λ is.
          along.while tested.before.code tested.check (lowered_all (at_place w) after body).code
          (test_each P along holds.array w next test at)
          (stmts_each w after body (inside reach rank)
          (seen_inside reach w rank seen (ap is_above_zero same ∙ is))
          (each_right Q (whole_sites reach Test test) (stmts_sites (inside reach rank) body) all)))
      form_each w next at (Repeat body until test) reach prefixes seen own all =
          let rank : Rank = test_rank reach test in
          let same : rank ≡ test_rank (reach_of w) test = test_seen reach w test seen in
          let turns : Lowered = lowered_all (at_place w) next body in
          let after : Next = behind next turns in
          let tested = test_of w after test until in
          choose_each (is_shattered (reach_of w) (Repeat body until test))
          (shattered w (line_of w at) next (Repeat body until test)) _
          (λ is. holds.shatters w (line_of w at) next (Repeat body until test) reach at prefixes
          seen (ap is_above_zero same ∙ is) own)
          (λ is.
          along.repeat turns.code tested.before.code tested.check
          (stmts_each w next body (inside reach rank)
          (seen_inside reach w rank seen (ap is_above_zero same ∙ is))
          (each_left Q (stmts_sites (inside reach rank) body) (whole_sites reach Test test) all))
          (test_each P along holds.array w after test until))
      form_each w next at (For head body) reach prefixes seen own all =
          let within : Reach = inside reach (Some 0) in
          let bounds = whole_sites reach Limit head.first ++ whole_sites reach Limit head.last
          ++ step_sites reach head.step in
          for_each P along holds.array w (line_of w at) next head
          (λ after. lowered_all (at_place w) after body)
          (λ after. stmts_each w after body within (seen_inside reach w (Some 0) seen refl)
          (each_right Q bounds (stmts_sites within body) all))
      form_each w next at (Border kind names) reach prefixes seen own all =
          borders_each P along holds.array w kind w.edge (line_of w at) next names
      form_each w next at (Write ends items) reach prefixes seen own all =
          write_each P along holds.array w (line_of w at) next ends items
      form_each w next at (Return value) reach prefixes seen own all =
          scalar_each P along holds.array w (line_of w at) next (placed_in w (Result None) value)
          (Some w.result)

      arms_each : (w : Where) (next : Next) (at : ℕ) (arms : Arms) (otherwise : Otherwise)
          (last : Next → Lowered) (reach within : Reach) → IsSeen within w →
          Each Q (arms_sites reach within arms) → ((after : Next) → P (last after).code) →
          P (lowered_arms (at_place w) next at arms otherwise last).code
      arms_each w next at NoArm otherwise last reach within seen all ends = ends next
      arms_each w next at (ThenArm first rest) otherwise last reach within seen all ends =
          let one = arm_sites reach within first in
          let others = arms_sites reach within rest in
          arm_each w next at first (ends_arms rest otherwise)
          (λ after. lowered_arms (at_place w) after (arms_at rest) rest otherwise last) reach within
          seen (each_left Q one others all)
          (λ after. arms_each w after (arms_at rest) rest otherwise last reach within seen
          (each_right Q one others all) ends)

      arm_each : (w : Where) (next : Next) (at : ℕ) (arm : Arm) (ending : Bool)
          (last : Next → Lowered) (reach within : Reach) → IsSeen within w →
          Each Q (arm_sites reach within arm) → ((after : Next) → P (last after).code) →
          P (lowered_arm (at_place w) next at arm ending last).code
      arm_each w next at (Tested own test body) true last reach within seen all ends =
          let tested = test_of w next test at in
          let after : Next = behind next tested.before in
          let turn : Lowered = lowered_all (at_place w) after body in
          along.then tested.before.code (piece.When tested.check turn.code)
          (test_each P along holds.array w next test at)
          (along.when tested.check turn.code (stmts_each w after body within seen
          (each_right Q (whole_sites reach Test test) (stmts_sites within body) all)))
      arm_each w next at (Tested own test body) false last reach within seen all ends =
          let tested = test_of w next test at in
          let after : Next = behind next tested.before in
          let turn : Lowered = lowered_all (at_place w) after body in
          let other : Lowered = last (behind after turn) in
          along.then tested.before.code (piece.Choose tested.check turn.code other.code)
          (test_each P along holds.array w next test at)
          (along.choose tested.check turn.code other.code
          (stmts_each w after body within seen
          (each_right Q (whole_sites reach Test test) (stmts_sites within body) all))
          (ends (behind after turn)))

      otherwise_each : (w : Where) (next : Next) (otherwise : Otherwise) (reach : Reach) →
          IsSeen reach w → Each Q (otherwise_sites reach otherwise) →
          P (lowered_otherwise (at_place w) next otherwise).code
      otherwise_each w next NoElse reach seen all = none_each
      otherwise_each w next (Else body) reach seen all = stmts_each w next body reach seen all

    -- the statements of a body, of which the last may be its `return`
    body_each : (w : Where) (next : Next) (body : Stmts) (reach : Reach) (result : Option Base) →
        IsSeen reach w → Each Q (body_sites reach result body) →
        P (lowered_all (at_place w) next body).code
    body_each w next NoStmt reach result seen all = none_each
    body_each w next (ThenStmt last NoStmt) reach result seen all =
        let one : Lowered = lowered (at_place w) next last in
        along.then one.code (piece.Rows [])
        (stmt_each w next last (record reach { result = result })
        (record { scope = seen.scope; prefix = seen.prefix; bare = seen.bare }) all) none_each
    body_each w next (ThenStmt first (ThenStmt second rest)) reach result seen all =
        let one : Lowered = lowered (at_place w) next first in
        let others = body_sites reach result (ThenStmt second rest) in
        along.then one.code (lowered_all (at_place w) (behind next one) (ThenStmt second rest)).code
        (stmt_each w next first reach seen (each_left Q (stmt_sites reach first) others all))
        (body_each w (behind next one) (ThenStmt second rest) reach result seen
        (each_right Q (stmt_sites reach first) others all))

    outermost_each : (w : Where) (next : Next) (stmt : Stmt) (reach : Reach)
        (result : Option Base) → IsSeen reach w → Each Q (outermost_sites reach result stmt) →
        P (lowered (at_place w) next stmt).code
    outermost_each w next (Prefixed at prefixes (Block body)) reach result seen all =
        let within : Reach = under_prefixes reach prefixes in
        under_each P along holds.array false (λ inner after. lowered_form inner after at (Block body))
        prefixes w call next reach seen
        (λ inner after is. body_each inner after body within result is
        (each_right Q (prefixes_sites reach prefixes) (body_sites within result body) all))
    outermost_each w next (Prefixed at prefixes (Assign name op value)) reach result seen all =
        stmt_each w next (Prefixed at prefixes (Assign name op value)) reach seen all
    outermost_each w next (Prefixed at prefixes (Invoke name actuals)) reach result seen all =
        stmt_each w next (Prefixed at prefixes (Invoke name actuals)) reach seen all
    outermost_each w next (Prefixed at prefixes (If arms otherwise)) reach result seen all =
        stmt_each w next (Prefixed at prefixes (If arms otherwise)) reach seen all
    outermost_each w next (Prefixed at prefixes (While test body)) reach result seen all =
        stmt_each w next (Prefixed at prefixes (While test body)) reach seen all
    outermost_each w next (Prefixed at prefixes (Repeat body until test)) reach result seen all =
        stmt_each w next (Prefixed at prefixes (Repeat body until test)) reach seen all
    outermost_each w next (Prefixed at prefixes (For head body)) reach result seen all =
        stmt_each w next (Prefixed at prefixes (For head body)) reach seen all
    outermost_each w next (Prefixed at prefixes (Border kind names)) reach result seen all =
        stmt_each w next (Prefixed at prefixes (Border kind names)) reach seen all
    outermost_each w next (Prefixed at prefixes (Write ends items)) reach result seen all =
        stmt_each w next (Prefixed at prefixes (Write ends items)) reach seen all
    outermost_each w next (Prefixed at prefixes (Return value)) reach result seen all =
        stmt_each w next (Prefixed at prefixes (Return value)) reach seen all

  -- ---- procedures

  givens_each : (line : ℕ) (formals : List FormalName) (actuals : List Given) (frame : Framed)
      (next : Next) (rest : Framed → Next → Lowered) →
      ((frame : Framed) (after : Next) → P (rest frame after).code) →
      P (givens_code line formals actuals frame next rest).code
  givens_each line [] actuals frame next rest each = each frame next
  givens_each line (formal ∷ formals) [] frame next rest each = each frame next
  givens_each line (formal ∷ formals) (Valued scalar ∷ actuals) frame next rest each =
      givens_each line formals actuals (with_scalar frame formal.name scalar) next rest each
  givens_each line (formal ∷ formals) (Referring thing ∷ actuals) frame next rest each =
      givens_each line formals actuals
      (record frame { names = frame.names ++ (formal.name.text, thing) ∷ [] }) next rest each
  givens_each line (formal ∷ formals) (Copied from home ∷ actuals) frame next rest each =
      let made : Lowered = made_copy line next from in
      let after : Next = behind next made in
      let inner : Framed = with_array frame formal.name home
      (record { array = next.arrays; storage = from.storage }) in
      along.then made.code (givens_code line formals actuals inner after rest).code
      (along.copy line from.array next.arrays next.slots from.storage)
      (givens_each line formals actuals inner after rest each)

  names_each : (setup : Setup) (entry : Entry) (shape : Bracket) (names : List Name)
      (frame : Framed) (next : Next) (rest : Framed → Next → Lowered) →
      ((frame : Framed) (after : Next) → P (rest frame after).code) →
      P (names_code setup entry shape names frame next rest).code
  names_each setup entry shape [] frame next rest each = each frame next
  names_each setup entry NoBracket (name ∷ names) frame next rest each =
      along.then (piece.Rows (zero_row entry next.scalars)) _
      (along.quiet (zero_row entry next.scalars) (if_quiet entry.clears
      (row.Set next.scalars (words_of (Constant (pos 0))) entry.line ∷ []) (tt, tt)))
      (names_each setup entry NoBracket names _ _ rest each)
  names_each setup entry (Bracketed inner) (name ∷ names) frame next rest each =
      along.then (piece.Rows (clear_row entry next.arrays)) _
      (along.quiet (clear_row entry next.arrays) (if_quiet entry.clears
      (row.Plain (instr.Clear next.arrays) ∷ []) (tt, tt)))
      (names_each setup entry (Bracketed inner) names _ _ rest each)

  locals_each : (setup : Setup) (entry : Entry) (vars : List VarDef) (frame : Framed)
      (next : Next) (rest : Framed → Next → Lowered) →
      ((frame : Framed) (after : Next) → P (rest frame after).code) →
      P (locals_code setup entry vars frame next rest).code
  locals_each setup entry [] frame next rest each = each frame next
  locals_each setup entry (var ∷ vars) frame next rest each =
      names_each setup entry var.shape var.names frame next
      (λ frame after. locals_code setup entry vars frame after rest)
      (λ frame after. locals_each setup entry vars frame after rest each)

  -- ---- calls, and the program

  module _ (setup : Setup) (sites : Each Q (text_sites setup.program)) where
    found_each : (text : List ℕ) → FoundHolds setup.program Q (routine_named setup.program text)
    found_each text =
        found_holds setup.program Q (λ routine. bytes_eq routine.procedure.name.text text)
        (routines_of setup.program) (all_hold setup.program Q setup.program.decls [] sites)

    routine_each : (clears : Bool) (call : Calling → Next → Lowered) →
        ((calling : Calling) (next : Next) → P (call calling next).code) →
        (found : Option Routine) → FoundHolds setup.program Q found →
        (calling : Calling) (next : Next) →
        P (routine_code setup clears call found calling next).code
    routine_each clears call calls None held calling next = none_each
    routine_each clears call calls (Some routine) held calling next =
        let entry : Entry = record { clears = clears; line = calling.line } in
        givens_each calling.line (formal_names routine.procedure.params) calling.actuals
        (record { names = []; numbers = calling.numbers })
        (in_call (reads_round setup.program routine) next)
        (λ frame after.
        locals_code setup entry routine.procedure.locals frame after (λ frame last.
        lowered (record { place = where_in setup routine calling frame; call = call }) last
        routine.procedure.body))
        (λ frame after. locals_each setup entry routine.procedure.locals frame after
        (λ frame last.
        lowered (record { place = where_in setup routine calling frame; call = call }) last
        routine.procedure.body)
        (λ frame last. outermost_each call calls (where_in setup routine calling frame) last
        routine.procedure.body (in_body (scope_of setup.program routine) unknown_shapes)
        routine.procedure.result (record { scope = refl; prefix = refl; bare = refl }) held))

    calls_each : (depth : ℕ) (calling : Calling) (next : Next) →
        P (call_code setup depth calling next).code
    calls_each zero calling next = none_each
    calls_each (suc depth) calling next =
        routine_each true (call_code setup depth) (calls_each depth)
        (routine_named setup.program calling.name) (found_each calling.name) calling next

    entry_each : (depth : ℕ) (calling : Calling) (next : Next) →
        P (entry_code setup depth calling next).code
    entry_each zero calling next = none_each
    entry_each (suc depth) calling next =
        routine_each false (call_code setup depth) (calls_each depth)
        (routine_named setup.program calling.name) (found_each calling.name) calling next

  regions_quiet : (slot : ℕ) (all : List (Computed Region)) → AllQuiet (region_rows slot all)
  regions_quiet slot [] = tt
  regions_quiet slot (one ∷ rest) = (tt, regions_quiet (suc slot) rest)

  pub program_from : (program : Program) (settings : List Setting) → Each Q (text_sites program) →
      P (lowered_program program settings).code
  program_from program settings sites =
      let known = known_of program settings in
      let borders = borders_of program in
      let frame : Frame = first_frame program known borders in
      let made : Lowered = globals_made known frame in
      let next : Next = behind (first_next program) made in
      along.then made.code _
      (along.quiet (region_rows 0 known.regions) (regions_quiet 0 known.regions))
      (entry_each (setup_of program known borders frame) sites _ (entry_calling program frame) next)

-- ---- where nothing is asked of places
pub record GoesOn (P : Piece Row Check → Type 0) : Type 0 where
  pub goes : GoesAlong P
  pub array : OfArrays P
  pub shatters : (w : Where) (line : ℕ) (next : Next) (form : Form) →
      P (shattered w line next form).code

any_sites : (sites : List Site) → Each (λ site. Unit {0}) sites
any_sites [] = tt
any_sites (site ∷ sites) = (tt, any_sites sites)

pub program_each : (P : Piece Row Check → Type 0) → GoesOn P →
    (program : Program) (settings : List Setting) → P (lowered_program program settings).code
program_each P holds program settings =
    program_from P (λ site. Unit {0})
    (record {
      goes = holds.goes;
      array = holds.array;
      shatters = λ w line next form reach at prefixes seen is own.
          holds.shatters w line next form;
    }) program settings (any_sites (text_sites program))
