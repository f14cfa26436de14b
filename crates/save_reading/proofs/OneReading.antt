-- The lines of a processor's values are those of one state at most, and not both of one and of none.
use Rattle.std.proofs.Common.{◌≡◌, ℕ, ℤ, List, [], ◌∷◌, refl, sym, ◌∙◌, ap, subst}
use Rattle.std.specs.Prelude.{All}
use Rattle.zpl_region.specs.declared.regions.Region.{Region}
use Rattle.zpl_arrays.specs.Array.{Array}
use Rattle.node_form.specs.declared.arrays.ArrayRow.{ArrayRow}
use Rattle.node_form.specs.declared.tables.Tables.{Tables}
use Rattle.grid_meaning.specs.Local.{Local}
use Rattle.save_lines.specs.declared.lines.SavedLine.{SavedLine}
use Rattle.save_lines.specs.declared.lines.SavedLine.TheVariants.{Scalars, Cells}
use Rattle.grid_save.specs.Reads.{AreValues, BreaksValues, AtProc, AtScalars, AtSlot, AtCells, AtStore, Each, EachBreaks, First, IsProc, IsSlotLine, IsStoreLine, NoFirst, ReadsValues}
use Rattle.save_reading.specs.Three.{HasThree}
use Rattle.save_reading.proofs.OneLine.{cells_told, proc_told, scalars_told, slot_told, store_told}
use Rattle.save_reading.proofs.OneWay.{IsTold, Same, each_left, each_not, each_one, first_not, first_one, none_one}

same_lines : (lines : List SavedLine) → lines ≡ lines
same_lines lines = refl

module _ (code : Tables) (p : ℕ) (three : All HasThree code.arrays) where
  slots_told : IsTold (λ (rank : ℕ). Unit {0}) (λ (rank : ℕ). First (IsSlotLine rank)) (λ (rank : ℕ). NoFirst (IsSlotLine rank))
  slots_told = record {
    one = λ rank holds lines x y rest rest' r r'. first_one (IsSlotLine rank) (slot_told rank) lines x y rest rest' r r';
    apart = λ rank holds lines x rest left r none. first_not (IsSlotLine rank) lines x rest left r none;
    left = λ rank holds lines left left' none none'. none_one (IsSlotLine rank) lines left left' none none';
  }

  stores_told : IsTold HasThree (λ (row : ArrayRow). First (IsStoreLine code p row)) (λ (row : ArrayRow). NoFirst (IsStoreLine code p row))
  stores_told = record {
    one = λ row holds lines x y rest rest' r r'. first_one (IsStoreLine code p row) (store_told code p row holds) lines x y rest rest' r r';
    apart = λ row holds lines x rest left r none. first_not (IsStoreLine code p row) lines x rest left r none;
    left = λ row holds lines left left' none none'. none_one (IsStoreLine code p row) lines left left' none none';
  }

  all_ranks : All (λ (rank : ℕ). Unit {0}) code.slots
  all_ranks k d inside = tt

  proc_one : (l m : List SavedLine) (x y : Local) (r s : List SavedLine) → l ≡ m → First (IsProc code p) l x r → First (IsProc code p) m y s → Same x y r s
  proc_one l m x y r s e a b = first_one (IsProc code p) (proc_told code p) m x y r s (subst (λ (k : List SavedLine). First (IsProc code p) k x r) e a) b

  proc_not : (l m : List SavedLine) (x : Local) (r left : List SavedLine) → l ≡ m → First (IsProc code p) l x r → NoFirst (IsProc code p) m left → ⊥
  proc_not l m x r left e a b = first_not (IsProc code p) m x r left (subst (λ (k : List SavedLine). First (IsProc code p) k x r) e a) b

  proc_left : (l m left left' : List SavedLine) → l ≡ m → NoFirst (IsProc code p) l left → NoFirst (IsProc code p) m left' → left ≡ left'
  proc_left l m left left' e a b = none_one (IsProc code p) m left left' (subst (λ (k : List SavedLine). NoFirst (IsProc code p) k left) e a) b

  scal_one : (l m : List SavedLine) (x y : (List ℤ)) (r s : List SavedLine) → l ≡ m → First (AreValues Scalars code.scalars) l x r → First (AreValues Scalars code.scalars) m y s → Same x y r s
  scal_one l m x y r s e a b = first_one (AreValues Scalars code.scalars) (scalars_told code.scalars) m x y r s (subst (λ (k : List SavedLine). First (AreValues Scalars code.scalars) k x r) e a) b

  scal_not : (l m : List SavedLine) (x : (List ℤ)) (r left : List SavedLine) → l ≡ m → First (AreValues Scalars code.scalars) l x r → NoFirst (AreValues Scalars code.scalars) m left → ⊥
  scal_not l m x r left e a b = first_not (AreValues Scalars code.scalars) m x r left (subst (λ (k : List SavedLine). First (AreValues Scalars code.scalars) k x r) e a) b

  scal_left : (l m left left' : List SavedLine) → l ≡ m → NoFirst (AreValues Scalars code.scalars) l left → NoFirst (AreValues Scalars code.scalars) m left' → left ≡ left'
  scal_left l m left left' e a b = none_one (AreValues Scalars code.scalars) m left left' (subst (λ (k : List SavedLine). NoFirst (AreValues Scalars code.scalars) k left) e a) b

  slot_one : (l m : List SavedLine) (x y : List Region) (r s : List SavedLine) → l ≡ m → Each (λ (w : ℕ). First (IsSlotLine w)) code.slots l x r → Each (λ (w : ℕ). First (IsSlotLine w)) code.slots m y s → Same x y r s
  slot_one l m x y r s e a b = each_one (λ (rank : ℕ). Unit {0}) (λ (w : ℕ). First (IsSlotLine w)) (λ (w : ℕ). NoFirst (IsSlotLine w)) slots_told a b refl e all_ranks

  slot_not : (l m : List SavedLine) (x : List Region) (r left : List SavedLine) → l ≡ m → Each (λ (w : ℕ). First (IsSlotLine w)) code.slots l x r → EachBreaks (λ (w : ℕ). First (IsSlotLine w)) (λ (w : ℕ). NoFirst (IsSlotLine w)) code.slots m left → ⊥
  slot_not l m x r left e a b = each_not (λ (rank : ℕ). Unit {0}) (λ (w : ℕ). First (IsSlotLine w)) (λ (w : ℕ). NoFirst (IsSlotLine w)) slots_told a b refl e all_ranks

  slot_left : (l m left left' : List SavedLine) → l ≡ m → EachBreaks (λ (w : ℕ). First (IsSlotLine w)) (λ (w : ℕ). NoFirst (IsSlotLine w)) code.slots l left → EachBreaks (λ (w : ℕ). First (IsSlotLine w)) (λ (w : ℕ). NoFirst (IsSlotLine w)) code.slots m left' → left ≡ left'
  slot_left l m left left' e a b = each_left (λ (rank : ℕ). Unit {0}) (λ (w : ℕ). First (IsSlotLine w)) (λ (w : ℕ). NoFirst (IsSlotLine w)) slots_told a b refl e all_ranks

  cell_one : (l m : List SavedLine) (x y : (List ℤ)) (r s : List SavedLine) → l ≡ m → First (AreValues Cells code.cells) l x r → First (AreValues Cells code.cells) m y s → Same x y r s
  cell_one l m x y r s e a b = first_one (AreValues Cells code.cells) (cells_told code.cells) m x y r s (subst (λ (k : List SavedLine). First (AreValues Cells code.cells) k x r) e a) b

  cell_not : (l m : List SavedLine) (x : (List ℤ)) (r left : List SavedLine) → l ≡ m → First (AreValues Cells code.cells) l x r → NoFirst (AreValues Cells code.cells) m left → ⊥
  cell_not l m x r left e a b = first_not (AreValues Cells code.cells) m x r left (subst (λ (k : List SavedLine). First (AreValues Cells code.cells) k x r) e a) b

  cell_left : (l m left left' : List SavedLine) → l ≡ m → NoFirst (AreValues Cells code.cells) l left → NoFirst (AreValues Cells code.cells) m left' → left ≡ left'
  cell_left l m left left' e a b = none_one (AreValues Cells code.cells) m left left' (subst (λ (k : List SavedLine). NoFirst (AreValues Cells code.cells) k left) e a) b

  stor_one : (l m : List SavedLine) (x y : List Array) (r s : List SavedLine) → l ≡ m → Each (λ (w : ArrayRow). First (IsStoreLine code p w)) code.arrays l x r → Each (λ (w : ArrayRow). First (IsStoreLine code p w)) code.arrays m y s → Same x y r s
  stor_one l m x y r s e a b = each_one HasThree (λ (w : ArrayRow). First (IsStoreLine code p w)) (λ (w : ArrayRow). NoFirst (IsStoreLine code p w)) stores_told a b refl e three

  stor_not : (l m : List SavedLine) (x : List Array) (r left : List SavedLine) → l ≡ m → Each (λ (w : ArrayRow). First (IsStoreLine code p w)) code.arrays l x r → EachBreaks (λ (w : ArrayRow). First (IsStoreLine code p w)) (λ (w : ArrayRow). NoFirst (IsStoreLine code p w)) code.arrays m left → ⊥
  stor_not l m x r left e a b = each_not HasThree (λ (w : ArrayRow). First (IsStoreLine code p w)) (λ (w : ArrayRow). NoFirst (IsStoreLine code p w)) stores_told a b refl e three

  stor_left : (l m left left' : List SavedLine) → l ≡ m → EachBreaks (λ (w : ArrayRow). First (IsStoreLine code p w)) (λ (w : ArrayRow). NoFirst (IsStoreLine code p w)) code.arrays l left → EachBreaks (λ (w : ArrayRow). First (IsStoreLine code p w)) (λ (w : ArrayRow). NoFirst (IsStoreLine code p w)) code.arrays m left' → left ≡ left'
  stor_left l m left left' e a b = each_left HasThree (λ (w : ArrayRow). First (IsStoreLine code p w)) (λ (w : ArrayRow). NoFirst (IsStoreLine code p w)) stores_told a b refl e three

  pub breaks_one : (lines left left' : List SavedLine) → BreaksValues code p lines left → BreaksValues code p lines left' → left ≡ left'
  breaks_one lines _ _ (AtProc left bad) (AtProc left' bad') =
      proc_left lines lines left left' (same_lines lines) bad bad'
  breaks_one lines _ _ (AtProc left bad) (AtScalars placed' one' left' proc' bad') =
      absurd (proc_not lines lines placed' one' left (sym (same_lines lines)) proc' bad)
  breaks_one lines _ _ (AtProc left bad) (AtSlot placed' scalars' one' two' left' proc' scal' bad') =
      absurd (proc_not lines lines placed' one' left (sym (same_lines lines)) proc' bad)
  breaks_one lines _ _ (AtProc left bad) (AtCells placed' scalars' slots' one' two' three' left' proc' scal' slot' bad') =
      absurd (proc_not lines lines placed' one' left (sym (same_lines lines)) proc' bad)
  breaks_one lines _ _ (AtProc left bad) (AtStore placed' scalars' slots' cells' one' two' three' four' left' proc' scal' slot' cell' bad') =
      absurd (proc_not lines lines placed' one' left (sym (same_lines lines)) proc' bad)
  breaks_one lines _ _ (AtScalars placed one left proc bad) (AtProc left' bad') =
      absurd (proc_not lines lines placed one left' (same_lines lines) proc bad')
  breaks_one lines _ _ (AtScalars placed one left proc bad) (AtScalars placed' one' left' proc' bad') =
      let e1 = proc_one lines lines placed placed' one one' (same_lines lines) proc proc' in
      scal_left one one' left left' (e1.behind) bad bad'
  breaks_one lines _ _ (AtScalars placed one left proc bad) (AtSlot placed' scalars' one' two' left' proc' scal' bad') =
      let e1 = proc_one lines lines placed placed' one one' (same_lines lines) proc proc' in
      absurd (scal_not one' one scalars' two' left (sym (e1.behind)) scal' bad)
  breaks_one lines _ _ (AtScalars placed one left proc bad) (AtCells placed' scalars' slots' one' two' three' left' proc' scal' slot' bad') =
      let e1 = proc_one lines lines placed placed' one one' (same_lines lines) proc proc' in
      absurd (scal_not one' one scalars' two' left (sym (e1.behind)) scal' bad)
  breaks_one lines _ _ (AtScalars placed one left proc bad) (AtStore placed' scalars' slots' cells' one' two' three' four' left' proc' scal' slot' cell' bad') =
      let e1 = proc_one lines lines placed placed' one one' (same_lines lines) proc proc' in
      absurd (scal_not one' one scalars' two' left (sym (e1.behind)) scal' bad)
  breaks_one lines _ _ (AtSlot placed scalars one two left proc scal bad) (AtProc left' bad') =
      absurd (proc_not lines lines placed one left' (same_lines lines) proc bad')
  breaks_one lines _ _ (AtSlot placed scalars one two left proc scal bad) (AtScalars placed' one' left' proc' bad') =
      let e1 = proc_one lines lines placed placed' one one' (same_lines lines) proc proc' in
      absurd (scal_not one one' scalars two left' (e1.behind) scal bad')
  breaks_one lines _ _ (AtSlot placed scalars one two left proc scal bad) (AtSlot placed' scalars' one' two' left' proc' scal' bad') =
      let e1 = proc_one lines lines placed placed' one one' (same_lines lines) proc proc' in
      let e2 = scal_one one one' scalars scalars' two two' (e1.behind) scal scal' in
      slot_left two two' left left' (e2.behind) bad bad'
  breaks_one lines _ _ (AtSlot placed scalars one two left proc scal bad) (AtCells placed' scalars' slots' one' two' three' left' proc' scal' slot' bad') =
      let e1 = proc_one lines lines placed placed' one one' (same_lines lines) proc proc' in
      let e2 = scal_one one one' scalars scalars' two two' (e1.behind) scal scal' in
      absurd (slot_not two' two slots' three' left (sym (e2.behind)) slot' bad)
  breaks_one lines _ _ (AtSlot placed scalars one two left proc scal bad) (AtStore placed' scalars' slots' cells' one' two' three' four' left' proc' scal' slot' cell' bad') =
      let e1 = proc_one lines lines placed placed' one one' (same_lines lines) proc proc' in
      let e2 = scal_one one one' scalars scalars' two two' (e1.behind) scal scal' in
      absurd (slot_not two' two slots' three' left (sym (e2.behind)) slot' bad)
  breaks_one lines _ _ (AtCells placed scalars slots one two three left proc scal slot bad) (AtProc left' bad') =
      absurd (proc_not lines lines placed one left' (same_lines lines) proc bad')
  breaks_one lines _ _ (AtCells placed scalars slots one two three left proc scal slot bad) (AtScalars placed' one' left' proc' bad') =
      let e1 = proc_one lines lines placed placed' one one' (same_lines lines) proc proc' in
      absurd (scal_not one one' scalars two left' (e1.behind) scal bad')
  breaks_one lines _ _ (AtCells placed scalars slots one two three left proc scal slot bad) (AtSlot placed' scalars' one' two' left' proc' scal' bad') =
      let e1 = proc_one lines lines placed placed' one one' (same_lines lines) proc proc' in
      let e2 = scal_one one one' scalars scalars' two two' (e1.behind) scal scal' in
      absurd (slot_not two two' slots three left' (e2.behind) slot bad')
  breaks_one lines _ _ (AtCells placed scalars slots one two three left proc scal slot bad) (AtCells placed' scalars' slots' one' two' three' left' proc' scal' slot' bad') =
      let e1 = proc_one lines lines placed placed' one one' (same_lines lines) proc proc' in
      let e2 = scal_one one one' scalars scalars' two two' (e1.behind) scal scal' in
      let e3 = slot_one two two' slots slots' three three' (e2.behind) slot slot' in
      cell_left three three' left left' (e3.behind) bad bad'
  breaks_one lines _ _ (AtCells placed scalars slots one two three left proc scal slot bad) (AtStore placed' scalars' slots' cells' one' two' three' four' left' proc' scal' slot' cell' bad') =
      let e1 = proc_one lines lines placed placed' one one' (same_lines lines) proc proc' in
      let e2 = scal_one one one' scalars scalars' two two' (e1.behind) scal scal' in
      let e3 = slot_one two two' slots slots' three three' (e2.behind) slot slot' in
      absurd (cell_not three' three cells' four' left (sym (e3.behind)) cell' bad)
  breaks_one lines _ _ (AtStore placed scalars slots cells one two three four left proc scal slot cell bad) (AtProc left' bad') =
      absurd (proc_not lines lines placed one left' (same_lines lines) proc bad')
  breaks_one lines _ _ (AtStore placed scalars slots cells one two three four left proc scal slot cell bad) (AtScalars placed' one' left' proc' bad') =
      let e1 = proc_one lines lines placed placed' one one' (same_lines lines) proc proc' in
      absurd (scal_not one one' scalars two left' (e1.behind) scal bad')
  breaks_one lines _ _ (AtStore placed scalars slots cells one two three four left proc scal slot cell bad) (AtSlot placed' scalars' one' two' left' proc' scal' bad') =
      let e1 = proc_one lines lines placed placed' one one' (same_lines lines) proc proc' in
      let e2 = scal_one one one' scalars scalars' two two' (e1.behind) scal scal' in
      absurd (slot_not two two' slots three left' (e2.behind) slot bad')
  breaks_one lines _ _ (AtStore placed scalars slots cells one two three four left proc scal slot cell bad) (AtCells placed' scalars' slots' one' two' three' left' proc' scal' slot' bad') =
      let e1 = proc_one lines lines placed placed' one one' (same_lines lines) proc proc' in
      let e2 = scal_one one one' scalars scalars' two two' (e1.behind) scal scal' in
      let e3 = slot_one two two' slots slots' three three' (e2.behind) slot slot' in
      absurd (cell_not three three' cells four left' (e3.behind) cell bad')
  breaks_one lines _ _ (AtStore placed scalars slots cells one two three four left proc scal slot cell bad) (AtStore placed' scalars' slots' cells' one' two' three' four' left' proc' scal' slot' cell' bad') =
      let e1 = proc_one lines lines placed placed' one one' (same_lines lines) proc proc' in
      let e2 = scal_one one one' scalars scalars' two two' (e1.behind) scal scal' in
      let e3 = slot_one two two' slots slots' three three' (e2.behind) slot slot' in
      let e4 = cell_one three three' cells cells' four four' (e3.behind) cell cell' in
      stor_left four four' left left' (e4.behind) bad bad'

  pub values_not : (lines : List SavedLine) (local : Local) (rest left : List SavedLine) → ReadsValues code p lines local rest → BreaksValues code p lines left → ⊥
  values_not lines local rest _ r (AtProc left' bad') =
      proc_not lines lines r.placed r.behind_proc left' (same_lines lines) r.proc bad'
  values_not lines local rest _ r (AtScalars placed' one' left' proc' bad') =
      let e1 = proc_one lines lines r.placed placed' r.behind_proc one' (same_lines lines) r.proc proc' in
      scal_not r.behind_proc one' r.scalars r.behind_scalars left' (e1.behind) r.scalars_are bad'
  values_not lines local rest _ r (AtSlot placed' scalars' one' two' left' proc' scal' bad') =
      let e1 = proc_one lines lines r.placed placed' r.behind_proc one' (same_lines lines) r.proc proc' in
      let e2 = scal_one r.behind_proc one' r.scalars scalars' r.behind_scalars two' (e1.behind) r.scalars_are scal' in
      slot_not r.behind_scalars two' r.slots r.behind_slots left' (e2.behind) r.slots_are bad'
  values_not lines local rest _ r (AtCells placed' scalars' slots' one' two' three' left' proc' scal' slot' bad') =
      let e1 = proc_one lines lines r.placed placed' r.behind_proc one' (same_lines lines) r.proc proc' in
      let e2 = scal_one r.behind_proc one' r.scalars scalars' r.behind_scalars two' (e1.behind) r.scalars_are scal' in
      let e3 = slot_one r.behind_scalars two' r.slots slots' r.behind_slots three' (e2.behind) r.slots_are slot' in
      cell_not r.behind_slots three' r.cells r.behind_cells left' (e3.behind) r.cells_are bad'
  values_not lines local rest _ r (AtStore placed' scalars' slots' cells' one' two' three' four' left' proc' scal' slot' cell' bad') =
      let e1 = proc_one lines lines r.placed placed' r.behind_proc one' (same_lines lines) r.proc proc' in
      let e2 = scal_one r.behind_proc one' r.scalars scalars' r.behind_scalars two' (e1.behind) r.scalars_are scal' in
      let e3 = slot_one r.behind_scalars two' r.slots slots' r.behind_slots three' (e2.behind) r.slots_are slot' in
      let e4 = cell_one r.behind_slots three' r.cells cells' r.behind_cells four' (e3.behind) r.cells_are cell' in
      stor_not r.behind_cells four' r.stores rest left' (e4.behind) r.stores_are bad'

  filled : (a b : Local) (s s' : List ℤ) (t t' : List Region) (c c' : List ℤ) (u u' : List Array) → a ≡ b → s ≡ s' → t ≡ t' → c ≡ c' → u ≡ u' →
      ◌≡◌ {A = Local} (record a { scalars = s; slots = t; cells = c; stores = u }) (record b { scalars = s'; slots = t'; cells = c'; stores = u' })
  filled a b s s' t t' c c' u u' e f g h i = rw (e, f, g, h, i) refl

  pub values_one : (lines : List SavedLine) (one other : Local) (rest rest' : List SavedLine) → ReadsValues code p lines one rest → ReadsValues code p lines other rest' → Same one other rest rest'
  values_one lines one other rest rest' r q =
      let e1 = proc_one lines lines r.placed q.placed r.behind_proc q.behind_proc (same_lines lines) r.proc q.proc in
      let e2 = scal_one r.behind_proc q.behind_proc r.scalars q.scalars r.behind_scalars q.behind_scalars e1.behind r.scalars_are q.scalars_are in
      let e3 = slot_one r.behind_scalars q.behind_scalars r.slots q.slots r.behind_slots q.behind_slots e2.behind r.slots_are q.slots_are in
      let e4 = cell_one r.behind_slots q.behind_slots r.cells q.cells r.behind_cells q.behind_cells e3.behind r.cells_are q.cells_are in
      let e5 = stor_one r.behind_cells q.behind_cells r.stores q.stores rest rest' e4.behind r.stores_are q.stores_are in
      record {
        value = r.made ∙ (filled r.placed q.placed r.scalars q.scalars r.slots q.slots r.cells q.cells r.stores q.stores e1.value e2.value e3.value e4.value e5.value ∙ sym q.made);
        behind = e5.behind;
      }
