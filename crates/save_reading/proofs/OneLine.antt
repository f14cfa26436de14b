-- A line is that of one value at most.
use Rattle.std.proofs.Common.{◌≡◌, ℕ, zero, suc, ◌+◌, ◌-◌, ◌<◌, ◌≤◌, Bool, true, false, ℤ, pos, negsuc, ◌⊎◌, inl, inr, List, [], ◌∷◌, ◌++◌, length, map, take, drop, refl, sym, ◌∙◌, ap, subst, arith}
use Rattle.std.specs.Prelude.{All, Option, Some, None, ◌==◌, if◌then◌else◌, replicate}
use Rattle.std.proofs.lemmas.List.{length-append, take-append-drop}
use Rattle.zpl_nums.specs.declared.ends.End.{End}
use Rattle.zpl_nums.specs.declared.ends.End.TheVariants as ending
use Rattle.zpl_nums.specs.declared.ends.TrapKind.{TrapKind}
use Rattle.zpl_nums.specs.declared.ends.TrapKind.TheVariants as trap
use Rattle.zpl_region.specs.declared.dims.Dim.{Dim}
use Rattle.zpl_region.specs.declared.regions.Region.{Region}
use Rattle.zpl_region.specs.Hull.{IsBoxed}
use Rattle.zpl_region.specs.Region.{padding}
use Rattle.zpl_arrays.specs.Array.{Array}
use Rattle.grid_links.specs.declared.messages.Message.{Message}
use Rattle.grid_layout.specs.declared.axes.Axis.{Axis}
use Rattle.grid_layout.specs.declared.blocks.Blocks.{Blocks}
use Rattle.grid_layout.specs.Grid.{blocks_at, cuts, cuts_of, factors_of}
use Rattle.grid_layout.specs.Layout.{axes_at, each_bound, laid_out, own_first, own_last}
use Rattle.grid_layout.specs.Block.{block_first, block_last}
use Rattle.grid_layout.proofs.PartLemmas.{blocks_length}
use Rattle.node_form.specs.declared.arrays.ArrayRow.{ArrayRow}
use Rattle.node_form.specs.declared.tables.Tables.{Tables}
use Rattle.grid_meaning.specs.Local.{Local}
use Rattle.grid_meaning.specs.State.{ArePlaces, IsRoom}
use Rattle.grid_meaning.specs.Stored.{arrangement_of, no_places}
use Rattle.listing_rows.specs.Rows.{trap_number}
use Rattle.save_lines.specs.declared.lines.BoxDim.{BoxDim}
use Rattle.save_lines.specs.declared.lines.ProcRow.{ProcRow}
use Rattle.save_lines.specs.declared.lines.SavedLine.{SavedLine}
use Rattle.save_lines.specs.declared.lines.SavedLine.TheVariants.{Proc, Scalars, Slot, Cells, Store, Kept, Msg}
use Rattle.grid_save.specs.Kept.{IsEnding}
use Rattle.grid_save.specs.Reads.{AreValues, IsKeptLine, IsMessageLine, IsProc, IsSlotLine, IsStoreLine, bare}
use Rattle.grid_save.specs.Written.{box_dim, end_of, flag_number, kept_line, message_line, proc_row}
use Rattle.save_reading.specs.Box.{box_with}
use Rattle.save_reading.specs.Three.{HasThree}
use Rattle.save_reading.proofs.BoxLemmas.{all_rooms_boxed, room_box}

-- ---- the line `proc`
flag_same : (a b : Option ℕ) → flag_number a ≡ flag_number b → a ≡ b
flag_same None None e = refl
flag_same None (Some b) e = absurd cc
flag_same (Some a) None e = absurd cc
flag_same (Some a) (Some b) e = let same : a ≡ b = cc in ap Some same

kind_same : (a b : TrapKind) → trap_number a ≡ trap_number b → a ≡ b
kind_same trap.DivideByZero trap.DivideByZero e = refl
kind_same trap.OutsideStorage trap.OutsideStorage e = refl
kind_same trap.RegionLimit trap.RegionLimit e = refl
kind_same trap.RegionMismatch trap.RegionMismatch e = refl
kind_same trap.DivideByZero trap.OutsideStorage e = absurd (omega arith)
kind_same trap.DivideByZero trap.RegionLimit e = absurd (omega arith)
kind_same trap.DivideByZero trap.RegionMismatch e = absurd (omega arith)
kind_same trap.OutsideStorage trap.DivideByZero e = absurd (omega arith)
kind_same trap.OutsideStorage trap.RegionLimit e = absurd (omega arith)
kind_same trap.OutsideStorage trap.RegionMismatch e = absurd (omega arith)
kind_same trap.RegionLimit trap.DivideByZero e = absurd (omega arith)
kind_same trap.RegionLimit trap.OutsideStorage e = absurd (omega arith)
kind_same trap.RegionLimit trap.RegionMismatch e = absurd (omega arith)
kind_same trap.RegionMismatch trap.DivideByZero e = absurd (omega arith)
kind_same trap.RegionMismatch trap.OutsideStorage e = absurd (omega arith)
kind_same trap.RegionMismatch trap.RegionLimit e = absurd (omega arith)

end_same : (a b : Option End) → IsEnding a → IsEnding b → end_of a ≡ end_of b → a ≡ b
end_same None None p q e = refl
end_same None (Some ending.Done) p q e = absurd cc
end_same None (Some (ending.Trap kind line)) p q e = absurd cc
end_same (Some ending.Done) None p q e = absurd cc
end_same (Some ending.Done) (Some ending.Done) p q e = refl
end_same (Some ending.Done) (Some (ending.Trap kind line)) p q e = absurd cc
end_same (Some (ending.Trap kind line)) None p q e = absurd cc
end_same (Some (ending.Trap kind line)) (Some ending.Done) p q e = absurd cc
end_same (Some (ending.Trap kind line)) (Some (ending.Trap kind' line')) p q e =
    let number : trap_number kind ≡ trap_number kind' = cc in
    let lines : line ≡ line' = cc in
    let kinds = kind_same kind kind' number in
    cc
end_same None (Some ending.More) p q e = absurd q
end_same (Some ending.Done) (Some ending.More) p q e = absurd q
end_same (Some (ending.Trap kind line)) (Some ending.More) p q e = absurd q
end_same (Some ending.More) b p q e = absurd p

bare_same : (a b : Local) → a.at ≡ b.at → a.made ≡ b.made → a.index ≡ b.index → a.member ≡ b.member → a.flag ≡ b.flag → a.ended ≡ b.ended → bare a ≡ bare b
bare_same a b p q r s t u = rw (p, q, r, s, t, u) refl

pub proc_told : (code : Tables) (p : ℕ) (line : SavedLine) (a b : Local) → IsProc code p line a → IsProc code p line b → a ≡ b
proc_told code p line a b one other =
    let e = sym one.written ∙ other.written in
    let rows : proc_row p a ≡ proc_row p b = cc in
    let at : pos a.at ≡ pos b.at = ap (λ (r : ProcRow). r.at) rows in
    let made : pos a.made ≡ pos b.made = ap (λ (r : ProcRow). r.made) rows in
    let index : pos a.index ≡ pos b.index = ap (λ (r : ProcRow). r.index) rows in
    let member : pos a.member ≡ pos b.member = ap (λ (r : ProcRow). r.member) rows in
    let flag = flag_same a.flag b.flag (ap (λ (r : ProcRow). r.flag) rows) in
    let ended = end_same a.ended b.ended one.ended other.ended (ap (λ (r : ProcRow). r.end) rows) in
    let p1 : a.at ≡ b.at = cc in
    let p2 : a.made ≡ b.made = cc in
    let p3 : a.index ≡ b.index = cc in
    let p4 : a.member ≡ b.member = cc in
    one.alone ∙ (bare_same a b p1 p2 p3 p4 flag ended ∙ sym other.alone)

-- ---- lines of values
pub scalars_told : (count : ℕ) (line : SavedLine) (a b : List ℤ) → AreValues Scalars count line a → AreValues Scalars count line b → a ≡ b
scalars_told count line a b one other = let e : Scalars a ≡ Scalars b = sym one.written ∙ other.written in cc

pub cells_told : (count : ℕ) (line : SavedLine) (a b : List ℤ) → AreValues Cells count line a → AreValues Cells count line b → a ≡ b
cells_told count line a b one other = let e : Cells a ≡ Cells b = sym one.written ∙ other.written in cc

region_same : (a b : Region) → a.rank ≡ b.rank → a.dims ≡ b.dims → a ≡ b
region_same a b p q = made a.rank b.rank a.dims b.dims p q
  where
    made : (m n : ℕ) (xs ys : List Dim) → m ≡ n → xs ≡ ys → ◌≡◌ {A = Region} (record { rank = m; dims = xs }) (record { rank = n; dims = ys })
    made m n xs ys p q = rw (p, q) refl

padded_same : (m n : ℕ) (xs ys : List Dim) → m ≡ n → take m xs ≡ take n ys → drop m xs ≡ replicate (3 - m) padding → drop n ys ≡ replicate (3 - n) padding → xs ≡ ys
padded_same m n xs ys p q r s =
    let rest : drop m xs ≡ drop n ys = r ∙ (ap (λ k. replicate (3 - k) padding) p ∙ sym s) in
    sym (take-append-drop m xs) ∙ (ap (λ l. l ++ drop m xs) q ∙ (ap (λ l. take n ys ++ l) rest ∙ take-append-drop n ys))

pub slot_told : (rank : ℕ) (line : SavedLine) (a b : Region) → IsSlotLine rank line a → IsSlotLine rank line b → a ≡ b
slot_told rank line a b one other =
    let e = sym one.written ∙ other.written in
    let front : take a.rank a.dims ≡ take b.rank b.dims = cc in
    let ranks = one.fits.ranked ∙ sym other.fits.ranked in
    region_same a b ranks (padded_same a.rank b.rank a.dims b.dims ranks front one.fits.fits.padded other.fits.fits.padded)

-- ---- lines of arrays
cuts_long : (rank : ℕ) (factors : List ℕ) → length (cuts_of rank factors) ≡ rank
cuts_long zero factors = refl
cuts_long (suc zero) factors = refl
cuts_long (suc (suc rank)) [] = ap suc (cuts_long (suc rank) [])
cuts_long (suc (suc rank)) (n ∷ factors) = ap suc (cuts_long (suc rank) factors)

copies_long : {X : Type 0} (n : ℕ) (x : X) → length (replicate n x) ≡ n
copies_long zero x = refl
copies_long (suc n) x = ap suc (copies_long n x)

three_cuts : (grid : List ℕ) (rank : ℕ) → rank ≤ 3 → length (cuts grid rank) ≡ 3
three_cuts grid rank few =
    length-append (cuts_of rank (factors_of grid)) (replicate (3 - rank) 1)
    ∙ (let one = cuts_long rank (factors_of grid) in let two = copies_long {X = ℕ} (3 - rank) 1 in rw (one, two) (omega arith))

bounds_long : (bound : Axis → ℕ → ℕ → ℤ) (axes : List Axis) (ns cs : List ℕ) → length axes ≡ 3 → length ns ≡ 3 → length cs ≡ 3 → length (each_bound bound axes ns cs) ≡ 3
bounds_long bound axes ns cs n m o = long axes ns cs 3 n m o
  where
    long : (xs : List Axis) (is js : List ℕ) (k : ℕ) → length xs ≡ k → length is ≡ k → length js ≡ k → length (each_bound bound xs is js) ≡ k
    long [] is js k n m o = n
    long (x ∷ xs) [] js k n m o = m
    long (x ∷ xs) (i ∷ is) [] k n m o = o
    long (x ∷ xs) (i ∷ is) (j ∷ js) zero n m o = absurd (omega arith)
    long (x ∷ xs) (i ∷ is) (j ∷ js) (suc k) n m o = ap suc (long xs is js k (omega arith) (omega arith) (omega arith))

axes_long : (blocks : Blocks) (b c : Bool) → length blocks.lines ≡ 3 → length blocks.planes ≡ 3 → length blocks.spaces ≡ 3 →
    length (if b then blocks.lines else if c then blocks.planes else blocks.spaces) ≡ 3
axes_long blocks true c p q r = p
axes_long blocks false true p q r = q
axes_long blocks false false p q r = r

module _ (code : Tables) (p : ℕ) (row : ArrayRow) (three : HasThree row) where
  ends_long : (bound : Axis → ℕ → ℕ → ℤ) → let blocks = laid_out (arrangement_of code) in
      length (each_bound bound (axes_at blocks row.rank) (cuts blocks.grid row.rank) (blocks_at (cuts blocks.grid row.rank) p)) ≡ 3
  ends_long bound =
      let blocks = laid_out (arrangement_of code) in
      let cut = three_cuts code.grid row.rank three.rank in
      bounds_long bound (axes_at blocks row.rank) (cuts code.grid row.rank) (blocks_at (cuts code.grid row.rank) p)
      (axes_long blocks (row.rank == 1) (row.rank == 2) refl refl refl) cut (blocks_length (cuts code.grid row.rank) p ∙ cut)

  boxes : (other : Region) → IsRoom code p row other → All IsBoxed other.dims
  boxes other room =
      let blocks = laid_out (arrangement_of code) in
      all_rooms_boxed code p row (own_first blocks row.rank p) (own_last blocks row.rank p) three.dims (ends_long block_first) (ends_long block_last) refl refl other room

  nothing_box : (rank : ℕ) → rank ≤ 3 → no_places rank ≡ box_with rank (map box_dim (take rank (no_places rank).dims))
  nothing_box zero few = refl
  nothing_box (suc zero) few = refl
  nothing_box (suc (suc zero)) few = refl
  nothing_box (suc (suc (suc zero))) few = refl
  nothing_box (suc (suc (suc (suc rank)))) few = absurd (omega arith)

  boxed : (places : Region) → ArePlaces code p row false places → places ≡ box_with row.rank (map box_dim (take places.rank places.dims))
  boxed places (inl nothing) =
      nothing ∙ (nothing_box row.rank three.rank ∙ ap (λ (r : Region). box_with row.rank (map box_dim (take r.rank r.dims))) (sym nothing))
  boxed places (inr room) = room_box code p row places (map box_dim (take places.rank places.dims)) boxes room refl

  places_one : (stored : Bool) (one other : Region) → ArePlaces code p row stored one → ArePlaces code p row stored other →
      map box_dim (take one.rank one.dims) ≡ map box_dim (take other.rank other.dims) → one ≡ other
  places_one true one other is is' sides = is ∙ sym is'
  places_one false one other is is' sides = boxed one is ∙ (ap (box_with row.rank) sides ∙ sym (boxed other is'))

  array_same : (a b : Array) → a.storage ≡ b.storage → a.values ≡ b.values → a ≡ b
  array_same a b e f = made a.storage b.storage a.values b.values e f
    where
      made : (s t : Region) (xs ys : List ℤ) → s ≡ t → xs ≡ ys → ◌≡◌ {A = Array} (record { storage = s; values = xs }) (record { storage = t; values = ys })
      made s t xs ys e f = rw (e, f) refl

  pub store_told : (line : SavedLine) (a b : Array) → IsStoreLine code p row line a → IsStoreLine code p row line b → a ≡ b
  store_told line a b one other =
      let e = sym one.written ∙ other.written in
      let sides : map box_dim (take a.storage.rank a.storage.dims) ≡ map box_dim (take b.storage.rank b.storage.dims) = cc in
      let values : a.values ≡ b.values = cc in
      array_same a b (places_one row.stored a.storage b.storage one.fits.places other.fits.places sides) values

-- ---- lines of messages
message_same : (a b : Message) → a.tag ≡ b.tag → a.words ≡ b.words → a ≡ b
message_same a b e f = made a.tag b.tag a.words b.words e f
  where
    made : (m n : ℕ) (xs ys : List ℤ) → m ≡ n → xs ≡ ys → ◌≡◌ {A = Message} (record { tag = m; words = xs }) (record { tag = n; words = ys })
    made m n xs ys e f = rw (e, f) refl

pub message_told : (code : Tables) (p : ℕ) (done : List (ℕ × Message)) (line : SavedLine) (a b : ℕ × Message) →
    IsMessageLine code p done line a → IsMessageLine code p done line b → a ≡ b
message_told code p done line a b one other =
    let e = sym one.written ∙ other.written in
    let to : a.0 ≡ b.0 = cc in
    let tag : a.1.tag ≡ b.1.tag = cc in
    let words : a.1.words ≡ b.1.words = cc in
    paired a.0 b.0 a.1 b.1 to (message_same a.1 b.1 tag words)
  where
    paired : (m n : ℕ) (x y : Message) → m ≡ n → x ≡ y → ◌≡◌ {A = ℕ × Message} (m, x) (n, y)
    paired m n x y e f = rw (e, f) refl
