-- The rows of operators over regions, pushed one by one behind their operands.
use Rattle.std.proofs.Common.{◌≡◌, ℕ, suc, ◌+◌, Bool, true, false, ℤ, List, [], ◌∷◌, ◌++◌, length, Option, Some, None, slice_get, refl, sym, ap, ◌∙◌, add-one, arith}
use Rattle.zpl_nums.specs.declared.folds.Fold.{Fold}
use Rattle.zpl_nums.specs.Fold.{unit_of}
use Rattle.node_form.specs.declared.words.ExprOp.TheVariants.{Const, Here}
use Rattle.node_form.specs.declared.instructions.Instr.{Instr}
use Rattle.node_form.specs.declared.instructions.Instr.TheVariants as instr
use Rattle.node_form.specs.Expression.{Denial, Element, Expression, Variable, words_of}
use Rattle.flat_form.specs.Row as row
use Rattle.flat_form.specs.Row.{Row, Words}
use Rattle.zpl_meaning.specs.Context.{Mask}
use Rattle.lower_regions.specs.of_zpl_lowering.Where.{Numbers, Slotted}
use Rattle.lower_regions.specs.of_zpl_lowering.Hoist.{Hoisted, fold_rows, folding, kept_rows, mask_code, masked_scan, number_of, scan_row, scan_with, scan_without, scanning, with_rows as hoisted_with}
use Rattle.lower_regions.specs.of_lower_draft.Drafted.{Drafted, grown, pushed, with_scalars, with_temp}
use Rattle.lower_operators.specs.Code.{IsOver, free_of, of_hoisted, owning}
use Rattle.lower_operators.proofs.GrowthLemmas.{behind_operand, nothing, owning_both, then_row, then_scalar, then_temp}

-- ---- temporaries

pub room-grown : (draft new : Drafted) (flood : List Bool) (one : Row) →
    new ≡ pushed (with_temp draft flood) one →
    new ≡ grown draft (owning 0 (flood ∷ []) (one ∷ []))
room-grown draft new flood one h =
    then_row draft (with_temp draft flood) new 0 (flood ∷ []) [] one
    (then_temp draft draft (with_temp draft flood) 0 [] [] flood (nothing draft) refl) h

pub kept : (draft behind new : Drafted) (line slot temp : ℕ) (flood : List Bool) (expr : Words)
    (mask : Option Words) (value : Expression) → temp ≡ draft.next.temps →
    behind ≡ pushed (with_temp draft flood) (row.Plain (instr.Room draft.next.temps slot)) →
    new ≡ pushed behind (row.Loop slot (row.Put temp expr mask line ∷ [])) →
    expr ≡ words_of value →
    new ≡ grown draft (owning 0 (flood ∷ []) (kept_rows line draft.next.temps slot value mask))
kept draft behind new line slot temp flood expr mask value is room loop same =
    let here = row.Plain (instr.Room draft.next.temps slot) in
    then_row draft behind new 0 (flood ∷ []) (here ∷ [])
    (row.Loop slot (row.Put temp expr mask line ∷ [])) (room-grown draft behind flood here room)
    loop
    ∙ ap (λ n. grown draft (owning 0 (flood ∷ [])
    (here ∷ row.Loop slot (row.Put n expr mask line ∷ []) ∷ []))) is
    ∙ ap (λ words. grown draft (owning 0 (flood ∷ [])
    (here ∷ row.Loop slot (row.Put draft.next.temps words mask line ∷ []) ∷ []))) same

-- ---- reductions

pub folded : (numbers : Numbers) (line : ℕ) (fold : Fold) (over : Slotted)
    (start d0 d1 d2 d3 d4 : Drafted) (hoisted : Hoisted Expression) (scalar : ℕ)
    (unit operand : Words) (mask : Option Words) →
    IsOver start hoisted d0 operand → scalar ≡ d0.next.scalars →
    unit ≡ Const (unit_of fold) ∷ [] → mask ≡ mask_code numbers over.mask →
    d1 ≡ with_scalars d0 1 → d2 ≡ pushed d1 (row.Set scalar unit line) →
    d3 ≡ pushed d2 (row.Loop over.slot (row.Acc scalar fold operand mask line ∷ [])) →
    d4 ≡ pushed d3 (row.Plain (instr.Fold scalar fold)) →
    d4 ≡ grown start (of_hoisted (folding numbers line (free_of start.next) fold over hoisted))
folded numbers line fold over start d0 d1 d2 d3 d4 hoisted scalar unit operand mask is number one
    masked h1 h2 h3 h4 =
    let s = start.next.scalars + hoisted.scalars in
    let rows : ℕ → Words → Words → Option Words → List Row = λ n u e m.
    row.Set n u line ∷ row.Loop over.slot (row.Acc n fold e m line ∷ [])
    ∷ row.Plain (instr.Fold n fold) ∷ [] in
    let set = row.Set scalar unit line in
    let loop = row.Loop over.slot (row.Acc scalar fold operand mask line ∷ []) in
    let pushed_all : d4 ≡ grown d0 (owning 1 [] (rows scalar unit operand mask)) =
    then_row d0 d3 d4 1 [] (set ∷ loop ∷ []) (row.Plain (instr.Fold scalar fold))
    (then_row d0 d2 d3 1 [] (set ∷ []) loop
    (then_row d0 d1 d2 1 [] [] set (then_scalar d0 d0 d1 0 [] [] (nothing d0) h1) h2) h3) h4 in
    let numbered : scalar ≡ s = number ∙ ap (λ d. d.next.scalars) is.rows in
    behind_operand start d0 d4 hoisted 1 [] (fold_rows numbers line s fold over hoisted.left)
    (Variable s) is.rows
    (pushed_all
    ∙ ap (λ n. grown d0 (owning 1 [] (rows n unit operand mask))) numbered
    ∙ ap (λ u. grown d0 (owning 1 [] (rows s u operand mask))) one
    ∙ ap (λ e. grown d0 (owning 1 [] (rows s (Const (unit_of fold) ∷ []) e mask))) is.left
    ∙ ap (λ m. grown d0
    (owning 1 [] (rows s (Const (unit_of fold) ∷ []) (words_of hoisted.left) m))) masked)

pub folded-left : (numbers : Numbers) (line : ℕ) (fold : Fold) (over : Slotted)
    (start draft : Drafted) (hoisted : Hoisted Expression) (scalar : ℕ) (operand : Words) →
    IsOver start hoisted draft operand → scalar ≡ draft.next.scalars →
    words_of (Variable scalar)
    ≡ words_of (folding numbers line (free_of start.next) fold over hoisted).left
folded-left numbers line fold over start draft hoisted scalar operand is number =
    ap (λ n. words_of (Variable n)) (number ∙ ap (λ d. d.next.scalars) is.rows)

-- ---- operators over a source

-- the number behind one temporary
next-temp : (draft new : Drafted) (flood : List Bool) (rows : List Row) →
    new ≡ grown draft (owning 0 (flood ∷ []) rows) → new.next.temps ≡ suc draft.next.temps
next-temp draft new flood rows h = ap (λ d. d.next.temps) h ∙ add-one draft.next.temps

module _ (line : ℕ) (over source : Slotted) (make : ℕ → ℕ → Instr) (start d0 d1 : Drafted)
    (hoisted : Hoisted Expression) (from array : ℕ) (operand : Words)
    (is : IsOver start hoisted d0 operand) (first : from ≡ d0.next.temps)
    (keeps : d1 ≡ grown d0 (owning 0 (source.flood ∷ [])
    (kept_rows line d0.next.temps source.slot hoisted.left None)))
    (second : array ≡ d1.next.temps) where
  abbrev temp_at : ℕ
  temp_at = start.next.temps + length hoisted.temps

  temp-is : d0.next.temps ≡ temp_at
  temp-is = ap (λ d. d.next.temps) is.rows

  array-is : array ≡ suc temp_at
  array-is =
      second ∙ next-temp d0 d1 source.flood
      (kept_rows line d0.next.temps source.slot hoisted.left None) keeps
      ∙ ap suc temp-is

  pub sourced : (d2 d3 : Drafted) →
      d2 ≡ pushed (with_temp d1 over.flood) (row.Plain (instr.Room d1.next.temps over.slot)) →
      d3 ≡ pushed d2 (row.Plain (make array from)) →
      d3 ≡ grown start (of_hoisted (hoisted_with hoisted
      (kept_rows line temp_at source.slot hoisted.left None
      ++ row.Plain (instr.Room (suc temp_at) over.slot)
      ∷ row.Plain (make (suc temp_at) temp_at) ∷ []) 0 (source.flood ∷ over.flood ∷ [])
      (Element (suc temp_at))))
  sourced d2 d3 room last =
      let rows : ℕ → ℕ → ℕ → ℕ → List Row = λ k r a f.
      kept_rows line k source.slot hoisted.left None
      ++ row.Plain (instr.Room r over.slot) ∷ row.Plain (make a f) ∷ [] in
      let floods = source.flood ∷ over.flood ∷ [] in
      let keep_rows = kept_rows line d0.next.temps source.slot hoisted.left None in
      let room_row = row.Plain (instr.Room d1.next.temps over.slot) in
      let all : d3 ≡ grown d0 (owning 0 floods
      (rows d0.next.temps d1.next.temps array from)) =
      then_row d0 d2 d3 0 floods (keep_rows ++ room_row ∷ []) (row.Plain (make array from))
      (then_row d0 (with_temp d1 over.flood) d2 0 floods keep_rows room_row
      (then_temp d0 d1 (with_temp d1 over.flood) 0 (source.flood ∷ []) keep_rows over.flood keeps
      refl) room) last in
      behind_operand start d0 d3 hoisted 0 floods (rows temp_at (suc temp_at) (suc temp_at) temp_at)
      (Element (suc temp_at)) is.rows
      (all
      ∙ ap (λ k. grown d0 (owning 0 floods (rows k d1.next.temps array from))) temp-is
      ∙ ap (λ k. grown d0 (owning 0 floods (rows temp_at k array from))) (sym second ∙ array-is)
      ∙ ap (λ k. grown d0 (owning 0 floods (rows temp_at (suc temp_at) k from))) array-is
      ∙ ap (λ k. grown d0 (owning 0 floods (rows temp_at (suc temp_at) (suc temp_at) k)))
      (first ∙ temp-is))

  pub sourced-left : Here array ∷ [] ≡ words_of (Element (suc temp_at))
  sourced-left = ap (λ n. words_of (Element n)) array-is

-- ---- scans

pub scan-kept : (numbers : Numbers) (line : ℕ) (fold : Fold) (along : Option ℤ) (over : Slotted)
    (d0 d1 d2 : Drafted) (value : Expression) (among : Option Words) (mask : Option ℕ) (from : ℕ) →
    from ≡ d0.next.temps → among ≡ mask_code numbers over.mask →
    d1 ≡ grown d0 (owning 0 (over.flood ∷ [])
    (kept_rows line d0.next.temps over.slot value among)) →
    d2 ≡ grown d1 (owning 0 (over.flood ∷ [])
    (scan_row d1.next.temps from fold along over mask)) →
    d2 ≡ grown d0 (owning 0 (over.flood ∷ over.flood ∷ [])
    (scan_with numbers line d0.next.temps fold along over value mask))
scan-kept numbers line fold along over d0 d1 d2 value among mask from is masked h1 h2 =
    let floods = over.flood ∷ over.flood ∷ [] in
    let temp = d0.next.temps in
    let rows : ℕ → ℕ → Option Words → List Row = λ t f m.
    kept_rows line temp over.slot value m ++ scan_row t f fold along over mask in
    h2
    ∙ ap (λ d. grown d (owning 0 (over.flood ∷ [])
    (scan_row d1.next.temps from fold along over mask))) h1
    ∙ owning_both d0 0 0 (over.flood ∷ []) (over.flood ∷ [])
    (kept_rows line temp over.slot value among)
    (scan_row d1.next.temps from fold along over mask)
    ∙ ap (λ t. grown d0 (owning 0 floods (rows t from among)))
    (next-temp d0 d1 over.flood (kept_rows line temp over.slot value among) h1)
    ∙ ap (λ f. grown d0 (owning 0 floods (rows (suc temp) f among))) is
    ∙ ap (λ m. grown d0 (owning 0 floods (rows (suc temp) temp m))) masked

pub scan-filled : (numbers : Numbers) (line : ℕ) (fold : Fold) (along : Option ℤ) (over : Slotted)
    (d0 d1 d2 d3 d4 : Drafted) (value : Expression) (operand : Words) (among : Option Words)
    (from complement mask : ℕ) →
    from ≡ d0.next.temps → complement ≡ d1.next.temps → among ≡ mask_code numbers over.mask →
    operand ≡ words_of value →
    d1 ≡ pushed (with_temp d0 over.flood) (row.Plain (instr.Room d0.next.temps over.slot)) →
    d2 ≡ pushed (with_temp d1 over.flood) (row.Plain (instr.Room d1.next.temps over.slot)) →
    d3 ≡ pushed d2 (row.Loop over.slot (row.Put from operand among line
    ∷ row.Put complement (words_of (Denial (Element mask))) None line ∷ [])) →
    d4 ≡ grown d3 (owning 0 (over.flood ∷ [])
    (scan_row d3.next.temps from fold along over (Some complement))) →
    d4 ≡ grown d0 (owning 0 (over.flood ∷ over.flood ∷ over.flood ∷ [])
    (scan_without numbers line d0.next.temps fold along over value mask))
scan-filled numbers line fold along over d0 d1 d2 d3 d4 value operand among from complement mask is
    behind masked same h1 h2 h3 h4 =
    let temp = d0.next.temps in
    let flood = over.flood in
    let floods = flood ∷ flood ∷ flood ∷ [] in
    let one = row.Plain (instr.Room temp over.slot) in
    let two = row.Plain (instr.Room d1.next.temps over.slot) in
    let loop = row.Loop over.slot (row.Put from operand among line
    ∷ row.Put complement (words_of (Denial (Element mask))) None line ∷ []) in
    let rows : ℕ → ℕ → Words → Option Words → ℕ → ℕ → List Row = λ r f e m c t.
    row.Plain (instr.Room temp over.slot) ∷ row.Plain (instr.Room r over.slot)
    ∷ row.Loop over.slot (row.Put f e m line
    ∷ row.Put c (words_of (Denial (Element mask))) None line ∷ [])
    ∷ scan_row t f fold along over (Some c) in
    let e1 : d1 ≡ grown d0 (owning 0 (flood ∷ []) (one ∷ [])) = room-grown d0 d1 flood one h1 in
    let e2 : d2 ≡ grown d0 (owning 0 (flood ∷ flood ∷ []) (one ∷ two ∷ [])) =
    then_row d0 (with_temp d1 flood) d2 0 (flood ∷ flood ∷ []) (one ∷ []) two
    (then_temp d0 d1 (with_temp d1 flood) 0 (flood ∷ []) (one ∷ []) flood e1 refl) h2 in
    let e3 : d3 ≡ grown d0 (owning 0 (flood ∷ flood ∷ []) (one ∷ two ∷ loop ∷ [])) =
    then_row d0 d2 d3 0 (flood ∷ flood ∷ []) (one ∷ two ∷ []) loop e2 h3 in
    let n1 : d1.next.temps ≡ suc temp = next-temp d0 d1 flood (one ∷ []) e1 in
    let n3 : d3.next.temps ≡ suc (suc temp) = ap (λ d. d.next.temps) e3 ∙ two-more temp in
    h4
    ∙ ap (λ d. grown d (owning 0 (flood ∷ [])
    (scan_row d3.next.temps from fold along over (Some complement)))) e3
    ∙ owning_both d0 0 0 (flood ∷ flood ∷ []) (flood ∷ []) (one ∷ two ∷ loop ∷ [])
    (scan_row d3.next.temps from fold along over (Some complement))
    ∙ ap (λ r. grown d0 (owning 0 floods (rows r from operand among complement d3.next.temps))) n1
    ∙ ap (λ f. grown d0 (owning 0 floods
    (rows (suc temp) f operand among complement d3.next.temps))) is
    ∙ ap (λ e. grown d0 (owning 0 floods
    (rows (suc temp) temp e among complement d3.next.temps))) same
    ∙ ap (λ m. grown d0 (owning 0 floods
    (rows (suc temp) temp (words_of value) m complement d3.next.temps))) masked
    ∙ ap (λ c. grown d0 (owning 0 floods (rows (suc temp) temp (words_of value)
    (mask_code numbers over.mask) c d3.next.temps))) (behind ∙ n1)
    ∙ ap (λ t. grown d0 (owning 0 floods (rows (suc temp) temp (words_of value)
    (mask_code numbers over.mask) (suc temp) t))) n3
  where
    two-more : (n : ℕ) → n + 2 ≡ suc (suc n)
    two-more n = omega arith

-- a scan under a mask, and under the complement of one
module _ (numbers : Numbers) (line : ℕ) (fold : Fold) (along : Option ℤ) (over : Slotted)
    (start d0 new : Drafted) (hoisted : Hoisted Expression) (operand : Words) (mask : Mask)
    (array : ℕ) (is : IsOver start hoisted d0 operand)
    (number : array ≡ number_of (slice_get numbers.arrays mask.array)) where
  abbrev temp_of : ℕ
  temp_of = start.next.temps + length hoisted.temps

  abbrev scanned_at : Bool → ℕ → Drafted
  scanned_at without n =
      grown start (of_hoisted (masked_scan numbers line (free_of start.next) fold along over hoisted
      without n))

  pub scanned-without : mask.without ≡ true →
      ((value : Expression) → operand ≡ words_of value → new
      ≡ grown d0 (owning 0 (over.flood ∷ over.flood ∷ over.flood ∷ [])
      (scan_without numbers line d0.next.temps fold along over value array))) →
      new ≡ grown start (of_hoisted (scanning numbers line (free_of start.next) fold along over
      (Some mask) hoisted))
  scanned-without without h =
      behind_operand start d0 new hoisted 0 (over.flood ∷ over.flood ∷ over.flood ∷ [])
      (scan_without numbers line temp_of fold along over hoisted.left array)
      (Element (suc (suc temp_of))) is.rows
      (h hoisted.left is.left
      ∙ ap (λ t. grown d0 (owning 0 (over.flood ∷ over.flood ∷ over.flood ∷ [])
      (scan_without numbers line t fold along over hoisted.left array)))
      (ap (λ d. d.next.temps) is.rows))
      ∙ ap (scanned_at true) number
      ∙ ap (λ b. scanned_at b (number_of (slice_get numbers.arrays mask.array))) (sym without)

  pub scanned-with : mask.without ≡ false →
      ((value : Expression) → operand ≡ words_of value → new
      ≡ grown d0 (owning 0 (over.flood ∷ over.flood ∷ [])
      (scan_with numbers line d0.next.temps fold along over value (Some array)))) →
      new ≡ grown start (of_hoisted (scanning numbers line (free_of start.next) fold along over
      (Some mask) hoisted))
  scanned-with without h =
      behind_operand start d0 new hoisted 0 (over.flood ∷ over.flood ∷ [])
      (scan_with numbers line temp_of fold along over hoisted.left (Some array))
      (Element (suc temp_of)) is.rows
      (h hoisted.left is.left
      ∙ ap (λ t. grown d0 (owning 0 (over.flood ∷ over.flood ∷ [])
      (scan_with numbers line t fold along over hoisted.left (Some array))))
      (ap (λ d. d.next.temps) is.rows))
      ∙ ap (scanned_at false) number
      ∙ ap (λ b. scanned_at b (number_of (slice_get numbers.arrays mask.array))) (sym without)
