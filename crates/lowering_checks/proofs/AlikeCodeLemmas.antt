-- Assignments, shattered statements, prints and `for`: where the slots of current regions have shapes,
-- and the arrays that are put have them too, all loops in their code are alike.
use Rattle.std.proofs.Common.{◌≡◌, ◌⊎◌, inl, inr, ℕ, zero, suc, ◌+◌, ◌<◌, Bool, true, false, List, [], ◌∷◌, ◌++◌, length, refl, sym, ap, ◌∙◌, subst, arith, length-append}
use Rattle.std.specs.Prelude.{Option, Some, None, slice_get}
use Rattle.zpl_nums.specs.declared.ends.Border.{Border as BorderKind}
use Rattle.zpl_region.specs.declared.regions.Region.{Region}
use Rattle.zpl_tree.specs.Syntax.{Name, Expr, ForHead, Item, Str, Value, Form}
use Rattle.zpl_names.specs.Kinds.{Rank, Shape}
use Rattle.zpl_names.specs.Sites.{Printed, Test, tests_rank}
use Rattle.zpl_names.specs.Types.{type_of}
use Rattle.zpl_meaning.specs.Store.{thing_of}
use Rattle.node_form.specs.declared.instructions.Instr.TheVariants as instr
use Rattle.node_form.specs.declared.instructions.RegionForm.TheVariants as form
use Rattle.node_form.specs.Expression.{Expression, Variable, words_of}
use Rattle.row_runs.specs.Structured as piece
use Rattle.row_runs.specs.Structured.{Piece, size}
use Rattle.lowering_fits.specs.of_flat_form.Row as row
use Rattle.lowering_fits.specs.of_flat_form.Row.{Row, Member, Words}
use Rattle.lowering_fits.specs.of_zpl_lowering.Check.{Check}
use Rattle.lowering_fits.specs.of_zpl_lowering.Where.{Stored, Slotted, slotted_at, SlotEdge, Where, Next, rank_in, reach_of, line_of}
use Rattle.lowering_fits.specs.of_zpl_lowering.Slate.{Placed}
use Rattle.lowering_fits.specs.of_zpl_lowering.Reference.{Reference, over_reference, needs, refer_to}
use Rattle.lowering_fits.specs.of_zpl_lowering.Hoist.{mask_code}
use Rattle.lowering_fits.specs.of_zpl_lowering.Lowered.{Lowered, rows_alone, behind, followed, Phased, phased, phased_with, first_left, check_of}
use Rattle.lowering_fits.specs.of_zpl_lowering.Statement.{test_of, set_row, put_row, lowered_scalar, lowered_array, value_rows, with_values, source_shift, each_border, lowered_borders, Counter, counter_from, enters, is_done, step_row, counted, head_exprs, lowered_for, scalar_of, Shown, shown_at, shown_of, Prints, items_of, lowered_write, printed_exprs, is_truth, Inside, form_inside, masked_members, has_put, apart_rows, shattered, placed_in}
use Rattle.lowering_checks.specs.Walked.{laid}
use Rattle.lowering_checks.proofs.WalkLemmas.{laid_rows}
use Rattle.lowering_checks.proofs.SlateLemmas.{AllQuiet, needs_quiet}
use Rattle.lowering_checks.proofs.ShatterLemmas.{apart_quiet}
use Rattle.lowering_checks.proofs.AssignLemmas.{set_quiet, values_quiet, edges_quiet, prints_quiet}
use Rattle.lowering_checks.proofs.AlikeLemmas.{Last, behind_row, behind_rows, behind_both, Marks, Keeps, PutsOf, MayJoin, AreAlike, alike_both, IsMarked, GoesOn, go_both, HasAlike, more_alike, then_alike, when_alike, repeat_alike, quiet_alike, quiet_marked, quiet_code, IsLone, lone_goes}
use Rattle.lowering_checks.proofs.AlikeHoistLemmas.{EndRows, rows_end, quiet_still, quiet_end, of_rows, phases_go}

none_twice : (s : Option Last) → (s ≡ None) ⊎ (s ≡ None) → s ≡ None
none_twice s (inl is) = is
none_twice s (inr is) = is

-- ---- what is printed: behind the rows of values stand those that print them

print_resets : (line : ℕ) (truth : Bool) (scalar temp : ℕ) (over : Slotted) (rank : Rank)
    (expr : Expression) (last : Option Last) →
    behind_row last (shown_at line truth scalar temp over rank expr).print ≡ None
print_resets line true scalar temp over None expr last = refl
print_resets line false scalar temp over None expr last = refl
print_resets line true scalar temp over (Some zero) expr last = refl
print_resets line false scalar temp over (Some zero) expr last = refl
print_resets line truth scalar temp over (Some (suc rank)) expr last = refl

prints_end : (w : Where) (line : ℕ) (ends : Bool) (items : List Item) (scalar temp : ℕ)
    (left : List Expression) →
    (let all = items_of w line scalar temp ends items left in
    (all.values ≡ []) ⊎ ((last : Option Last) → behind_rows last all.prints ≡ None))
prints_end w line ends [] scalar temp left = inl refl
prints_end w line ends (Str bytes ∷ items) scalar temp left =
    by (prints_end w line ends items scalar temp left)
  where
    rest : Prints
    rest = items_of w line scalar temp ends items left

    by : (rest.values ≡ []) ⊎ ((last : Option Last) → behind_rows last rest.prints ≡ None) →
        (rest.values ≡ []) ⊎ ((last : Option Last) → behind_rows None rest.prints ≡ None)
    by (inl none) = inl none
    by (inr ends) = inr (λ last. ends None)
prints_end w line ends (Value expr ∷ items) scalar temp [] =
    prints_end w line ends items scalar temp []
prints_end w line ends (Value expr ∷ items) scalar temp (first ∷ left) =
    let shown : Shown = shown_of w line scalar temp expr first in
    let rest : Prints = items_of w line (scalar + shown.scalars) (temp + length shown.temps) ends
    items left in
    inr (λ last.
    ap (λ s. behind_rows s rest.prints)
    (print_resets line (is_truth (type_of w.scope expr)) scalar temp
    (slotted_at w.currents (rank_in w Printed expr)) (rank_in w Printed expr) first last)
    ∙ none_twice (behind_rows None rest.prints)
    (quiet_still None rest.prints
    (prints_quiet w line ends items (scalar + shown.scalars) (temp + length shown.temps) left)))

shows_end : (n m : ℕ) (w : Where) (line : ℕ) (ends : Bool) (items : List Item) (scalar temp : ℕ)
    (left : List Expression) →
    (let all = items_of w line scalar temp ends items left in EndRows n m (all.values ++ all.prints))
shows_end n m w line ends items scalar temp left =
    by (prints_end w line ends items scalar temp left)
  where
    all : Prints
    all = items_of w line scalar temp ends items left

    quiet : AllQuiet all.prints
    quiet = prints_quiet w line ends items scalar temp left

    by : (all.values ≡ []) ⊎ ((last : Option Last) → behind_rows last all.prints ≡ None) →
        EndRows n m (all.values ++ all.prints)
    by (inl none) =
        subst (λ values. EndRows n m (values ++ all.prints)) (sym none)
        (quiet_end n m all.prints quiet)
    by (inr ends) = λ last.
        inr (subst (IsLone n m)
        (sym (behind_both last all.values all.prints ∙ ends (behind_rows last all.values))) tt)

-- ---- the storages that code has of its own

-- the storages stand in a list from a number on
abbrev pub StoresAt : List Region → ℕ → List Region → Type 0
StoresAt all n [] = Unit {0}
StoresAt all n (storage ∷ storages) =
    (slice_get all n ≡ Some storage) × StoresAt all (suc n) storages

pub stores_first : (all : List Region) (n : ℕ) (xs ys : List Region) → StoresAt all n (xs ++ ys) →
    StoresAt all n xs
stores_first all n [] ys are = tt
stores_first all n (x ∷ xs) ys are = (are.0, stores_first all (suc n) xs ys are.1)

pub stores_rest : (all : List Region) (n : ℕ) (xs ys : List Region) → StoresAt all n (xs ++ ys) →
    StoresAt all (n + length xs) ys
stores_rest all n [] ys are = subst (λ k. StoresAt all k ys) (none n) are
  where
    none : (n : ℕ) → n ≡ n + 0
    none n = omega arith
stores_rest all n (x ∷ xs) ys are =
    subst (λ k. StoresAt all k ys) (more n (length xs)) (stores_rest all (suc n) xs ys are.1)
  where
    more : (n m : ℕ) → suc n + m ≡ n + suc m
    more n m = omega arith

-- where the numbers of arrays are free
abbrev pub IsLaid : List Region → Next → Lowered → Type 0
IsLaid storages next lowered = StoresAt storages next.arrays lowered.arrays

module _ (Of : Shape → ℕ → Type 0) where
  -- code with what it has of its own, where these numbers are free
  abbrev pub GoLowered : Marks → Next → Lowered → Type 0
  GoLowered marks next lowered =
      HasAlike Of marks next.slots (next.slots + length lowered.slots) lowered.code

  pub followed_go : (marks : Marks) (next : Next) (first : Lowered) (rest : Next → Lowered) →
      GoLowered marks next first →
      ((later : Marks) → Keeps next.slots marks later →
      GoLowered later (behind next first) (rest (behind next first))) →
      GoLowered marks next (followed next first rest)
  followed_go marks next first rest one others =
      let n = next.slots in
      let m = n + length first.slots in
      let second : Lowered = rest (behind next first) in
      let many = length-append first.slots second.slots in
      more_alike Of marks n (m + length second.slots) (n + length (first.slots ++ second.slots))
      (piece.Then first.code second.code) (omega (arith, many))
      (then_alike Of marks n m (m + length second.slots) first.code second.code (omega arith) one
      others)

  -- and where their storages are
  pub laid_go : (storages : List Region) (marks : Marks) (next : Next) (first : Lowered)
      (rest : Next → Lowered) → (IsLaid storages next first → GoLowered marks next first) →
      ((later : Marks) → Keeps next.slots marks later →
      IsLaid storages (behind next first) (rest (behind next first)) →
      GoLowered later (behind next first) (rest (behind next first))) →
      IsLaid storages next (followed next first rest) →
      GoLowered marks next (followed next first rest)
  laid_go storages marks next first rest one others laid =
      let second : Lowered = rest (behind next first) in
      followed_go marks next first rest
      (one (stores_first storages next.arrays first.arrays second.arrays laid))
      (λ later keeps. others later keeps
      (stores_rest storages next.arrays first.arrays second.arrays laid))

  -- rows without loops behind code
  pub quiet_behind : (marks : Marks) (next : Next) (first : Lowered) (rows : List Row) →
      AllQuiet rows → GoLowered marks next first →
      GoLowered marks next (followed next first (λ after. rows_alone rows))
  quiet_behind marks next first rows quiet one =
      followed_go marks next first (λ after. rows_alone rows) one
      (λ later keeps. quiet_code Of later (behind next first).slots _ rows quiet (omega arith))

  -- ---- phases, and rows behind them

  pub test_go : (marks : Marks) (w : Where) (next : Next) (one : Expr) (at : ℕ) →
      GoLowered marks next (test_of w next one at).before
  test_go marks w next one at =
      phases_go Of marks w (line_of w at) next [] [] (placed_in w Test one ∷ [])

  pub scalar_go : (marks : Marks) (w : Where) (line : ℕ) (next : Next) (value : Placed)
      (target : Option ℕ) → GoLowered marks next (lowered_scalar w line next value target)
  scalar_go marks w line next value target =
      let phases : Phased = phased w line next (value ∷ []) in
      quiet_behind marks next phases.lowered (set_row line (first_left phases.left) target)
      (set_quiet line (first_left phases.left) target)
      (phases_go Of marks w line next [] [] (value ∷ []))

  pub values_go : (marks : Marks) (w : Where) (line scalar : ℕ) (next : Next)
      (placed : List Placed) →
      GoLowered marks next (with_values line scalar (phased w line next placed))
  values_go marks w line scalar next placed =
      let phases : Phased = phased w line next placed in
      let rows = value_rows line scalar phases.left in
      quiet_behind marks next phases.lowered rows (values_quiet line scalar phases.left)
      (phases_go Of marks w line next [] [] placed)

  pub borders_go : (marks : Marks) (w : Where) (kind : BorderKind) (edge : Option SlotEdge)
      (line : ℕ) (next : Next) (names : List Name) →
      GoLowered marks next (lowered_borders w kind edge line next names)
  borders_go marks w kind None line next names =
      quiet_code Of marks next.slots _ [] tt (omega arith)
  borders_go marks w kind (Some edge) line next names =
      let over : Slotted = slotted_at w.currents w.prefix in
      quiet_code Of marks next.slots _
      (row.Plain (instr.Fits edge.slot edge.shift line)
      ∷ row.Plain
      (instr.Formed form.Inside next.slots edge.slot (source_shift kind edge.shift) line)
      ∷ each_border w kind edge over.slot next.slots line names)
      (tt, (tt, edges_quiet w kind edge over.slot next.slots line names)) (omega arith)

  shown_any : (last : Option Last) (line : ℕ) (truth : Bool) (scalar temp : ℕ) (over : Slotted)
      (rank : Rank) (expr : Expression) →
      AreAlike Of last (shown_at line truth scalar temp over rank expr).values
  shown_any last line truth scalar temp over None expr = (tt, tt)
  shown_any last line truth scalar temp over (Some zero) expr = (tt, tt)
  shown_any last line truth scalar temp over (Some (suc rank)) expr = (tt, (tt, tt))

  shows_any : (w : Where) (line : ℕ) (ends : Bool) (items : List Item) (scalar temp : ℕ)
      (left : List Expression) (last : Option Last) →
      AreAlike Of last (items_of w line scalar temp ends items left).values
  shows_any w line ends [] scalar temp left last = tt
  shows_any w line ends (Str bytes ∷ items) scalar temp left last =
      shows_any w line ends items scalar temp left last
  shows_any w line ends (Value expr ∷ items) scalar temp [] last =
      shows_any w line ends items scalar temp [] last
  shows_any w line ends (Value expr ∷ items) scalar temp (first ∷ left) last =
      let shown : Shown = shown_of w line scalar temp expr first in
      let rest : Prints = items_of w line (scalar + shown.scalars) (temp + length shown.temps) ends
      items left in
      alike_both Of last shown.values rest.values
      (shown_any last line (is_truth (type_of w.scope expr)) scalar temp
      (slotted_at w.currents (rank_in w Printed expr)) (rank_in w Printed expr) first)
      (shows_any w line ends items (scalar + shown.scalars) (temp + length shown.temps) left
      (behind_rows last shown.values))

  pub write_go : (marks : Marks) (w : Where) (line : ℕ) (next : Next) (ends : Bool)
      (items : List Item) → GoLowered marks next (lowered_write w line next ends items)
  write_go marks w line next ends items =
      let phases : Phased = phased w line next (printed_exprs w items) in
      let after : Next = behind next phases.lowered in
      let all : Prints = items_of w line after.scalars after.temps ends items phases.left in
      let rows : List Row = all.values ++ all.prints in
      followed_go marks next phases.lowered
      (λ after. record (rows_alone ((items_of w line after.scalars after.temps ends items
      phases.left).values ++ (items_of w line after.scalars after.temps ends items
      phases.left).prints)) {
        scalars = (items_of w line after.scalars after.temps ends items phases.left).scalars;
        temps = (items_of w line after.scalars after.temps ends items phases.left).temps;
      })
      (phases_go Of marks w line next [] [] (printed_exprs w items))
      (λ later keeps.
      lone_goes Of later after.slots (after.slots + 0) (piece.Rows rows) (omega arith)
      (of_rows Of rows (λ last.
      alike_both Of last all.values all.prints
      (shows_any w line ends items after.scalars after.temps phases.left last)
      (quiet_alike Of (behind_rows last all.values) all.prints
      (prints_quiet w line ends items after.scalars after.temps phases.left))))
      (rows_end after.slots (after.slots + 0) rows
      (shows_end after.slots (after.slots + 0) w line ends items after.scalars after.temps
      phases.left)))

  -- ---- a loop over a slot whose shape is known

  loop_go : (marks : Marks) (n slot : ℕ) (group : List Member) (shape : Shape) → slot < n →
      marks slot ≡ Some shape → PutsOf Of (Some shape) group → (last : Option Last) →
      IsMarked Of marks n last → GoesOn Of marks n n last (row.Loop slot group ∷ [])
  loop_go marks n slot group shape below mark puts last is = record {
    alike = (joins last is, tt);
    later = marks;
    keeps = λ slot below. refl;
    marked = (below, subst (λ m. PutsOf Of m group) (sym mark) puts);
  }
    where
      joins : (last : Option Last) → IsMarked Of marks n last → MayJoin Of last slot group
      joins None is = tt
      joins (Some last) is = λ same.
          inr (record {
            shape = shape;
            first = subst (λ m. PutsOf Of m last.group) (ap marks same ∙ mark) is.1;
            second = puts;
          })

  rows_go : (marks : Marks) (n m : ℕ) (rows : List Row) →
      ((last : Option Last) → IsMarked Of marks n last → GoesOn Of marks n m last rows) →
      HasAlike Of marks n m (piece.Rows rows)
  rows_go marks n m rows goes at last is =
      subst (GoesOn Of marks n m last) (sym (laid_rows at rows)) (goes last is)

  -- ---- an array is assigned

  pub array_go : (marks : Marks) (w : Where) (line : ℕ) (next : Next) (over : Slotted)
      (value : Placed) (stored : Stored) (shape : Shape) → over.slot < next.slots →
      marks over.slot ≡ Some shape → Of shape stored.array →
      GoLowered marks next (lowered_array w line next over value (Some stored))
  array_go marks w line next over value stored shape below mark of =
      let own = refer_to over.slot [] (Some stored) in
      let mask = over_reference w.numbers over in
      let phases : Phased = phased_with w line next own mask (value ∷ []) in
      let rows = put_row w line over (first_left phases.left) (Some stored) in
      let group : List Member =
      row.Put stored.array (words_of (first_left phases.left)) (mask_code w.numbers over.mask) line
      ∷ [] in
      let m = (behind next phases.lowered).slots in
      followed_go marks next phases.lowered (λ after. rows_alone rows)
      (phases_go Of marks w line next own mask (value ∷ []))
      (λ later keeps.
      more_alike Of later m m (m + 0) (piece.Rows rows) (omega arith)
      (rows_go later m m rows
      (loop_go later m over.slot group shape (omega (arith, below))
      (keeps over.slot below ∙ mark) (of, tt))))

  -- ---- shattered statements

  closed_puts : (mark : Option Shape) (members : List Member) → PutsOf Of mark members →
      PutsOf Of mark (members ++ row.CloseIf ∷ [])
  closed_puts mark [] puts = tt
  closed_puts mark (row.Put array expr mask line ∷ members) puts =
      (puts.0, closed_puts mark members puts.1)
  closed_puts mark (row.Cell cell expr mask line ∷ members) puts = closed_puts mark members puts
  closed_puts mark (row.Acc scalar operator expr mask line ∷ members) puts =
      closed_puts mark members puts
  closed_puts mark (row.OpenIf expr mask line ∷ members) puts = closed_puts mark members puts
  closed_puts mark (row.Otherwise ∷ members) puts = closed_puts mark members puts
  closed_puts mark (row.CloseIf ∷ members) puts = closed_puts mark members puts
  closed_puts mark (row.OpenWhile expr mask line ∷ members) puts = closed_puts mark members puts
  closed_puts mark (row.CloseWhile ∷ members) puts = closed_puts mark members puts
  closed_puts mark (row.OpenRepeat mask line ∷ members) puts = closed_puts mark members puts
  closed_puts mark (row.Until expr ∷ members) puts = closed_puts mark members puts

  masked_puts : (mark : Option Shape) (mask : Option Words) (line : ℕ) (members : List Member) →
      PutsOf Of mark members → PutsOf Of mark (masked_members mask line members)
  masked_puts mark None line members puts = puts
  masked_puts mark (Some words) line members puts = closed_puts mark members puts

  pub shattered_go : (marks : Marks) (w : Where) (line : ℕ) (next : Next) (form : Form)
      (shape : Shape) →
      (let over = slotted_at w.currents (tests_rank (reach_of w) form) in
      over.slot < next.slots → marks over.slot ≡ Some shape →
      PutsOf Of (Some shape)
      (form_inside w line next (tests_rank (reach_of w) form) form).members →
      GoLowered marks next (shattered w line next form))
  shattered_go marks w line next form shape below mark puts =
      let rank : Rank = tests_rank (reach_of w) form in
      let over : Slotted = slotted_at w.currents rank in
      let inside : Inside = form_inside w line next rank form in
      let mask : Option Words = mask_code w.numbers over.mask in
      let refs : List Reference = inside.references ++ over_reference w.numbers over in
      let front : List Row = needs line refs in
      let group : List Member = masked_members mask line inside.members in
      let loop : List Row = row.Loop over.slot group ∷ [] in
      let apart : List Row = apart_rows (has_put inside.members) line next.scalars in
      let n = next.slots in
      then_alike Of marks n n (n + 0) (piece.Rows (front ++ loop)) (piece.Rows apart) (omega arith)
      (rows_go marks n n (front ++ loop) (λ last is.
      let quiet = needs_quiet line refs in
      go_both Of marks n n n last front loop (omega arith)
      (record {
        alike = quiet_alike Of last front quiet;
        later = marks;
        keeps = λ slot below. refl;
        marked = quiet_marked Of marks n last front quiet is;
      })
      (loop_go marks n over.slot group shape below mark
      (masked_puts (Some shape) mask line inside.members puts) (behind_rows last front)
      (quiet_marked Of marks n last front quiet is))))
      (λ later keeps.
      quiet_code Of later n (n + 0) apart
      (apart_quiet (has_put inside.members) line next.scalars) (omega arith))

  -- ---- `for`

  pub for_go : (marks : Marks) (w : Where) (line : ℕ) (next : Next) (head : ForHead)
      (body : Next → Lowered) →
      (let phases = phased w line next (head_exprs w head) in
      let scalar = next.scalars + phases.lowered.scalars in
      let target = scalar_of w.numbers (thing_of w.environment head.name.text) in
      let start = behind (behind next (with_values line scalar phases))
      (rows_alone (set_row line (Variable scalar) target)) in
      ((later : Marks) → Keeps next.slots marks later → GoLowered later start (body start)) →
      GoLowered marks next (lowered_for w line next head body))
  for_go marks w line next head body bodies =
      let phases : Phased = phased w line next (head_exprs w head) in
      let scalar : ℕ = next.scalars + phases.lowered.scalars in
      let values : Lowered = with_values line scalar phases in
      let target = scalar_of w.numbers (thing_of w.environment head.name.text) in
      let counter : Counter = counter_from scalar in
      let step : List Row = step_row head.down counter line ∷ [] in
      let done : Check = check_of (is_done head.down counter) line in
      let sets : Lowered = rows_alone (set_row line (Variable scalar) target) in
      followed_go marks next values
      (λ after. counted head.down counter line target after body)
      (values_go marks w line scalar next (head_exprs w head))
      (λ later keeps.
      let after : Next = behind next values in
      let n = after.slots in
      let inside : Lowered = followed after sets body in
      let m = n + length inside.slots in
      when_alike Of later n m (check_of (enters head.down counter) line)
      (piece.Repeat (piece.Then inside.code (piece.Rows step)) (piece.Rows []) done)
      (repeat_alike Of later n m m (piece.Then inside.code (piece.Rows step)) (piece.Rows []) done
      (omega arith) (omega arith)
      (then_alike Of later n m m inside.code (piece.Rows step) (omega arith)
      (followed_go later after sets body
      (quiet_code Of later n (n + 0) (set_row line (Variable scalar) target)
      (set_quiet line (Variable scalar) target) (omega arith))
      (λ last kept.
      bodies last
      (λ slot below. kept slot (omega (arith, below)) ∙ keeps slot below)))
      (λ last kept. quiet_code Of last m m step (tt, tt) (omega arith)))
      (λ last kept. quiet_code Of last m m [] tt (omega arith))))
