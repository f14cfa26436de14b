-- Each row is found in its own line.
use Rattle.std.proofs.Common.{◌≡◌, ℕ, zero, suc, Bool, true, false, List, [], ◌∷◌, ◌++◌, map, take, drop, sym, ap, subst, refl, arith}
use Rattle.std.specs.Prelude.{ℤ, pos, Option, Some, None, All, IsNone, IsSomeAnd, slice_get, unwrap_or}
use Rattle.std.proofs.lemmas.List.Elements.{All-head, All-tail}
use Rattle.zpl_nums.specs.declared.ends.Border.TheVariants as border
use Rattle.zpl_nums.specs.declared.ends.TrapKind.{TrapKind}
use Rattle.zpl_nums.specs.declared.ends.TrapKind.TheVariants as trap
use Rattle.zpl_nums.specs.declared.ends.Border.{Border}
use Rattle.zpl_nums.specs.declared.folds.Fold.{Fold}
use Rattle.zpl_nums.specs.declared.folds.Fold.TheVariants as fold
use Rattle.zpl_nums.specs.declared.operators.Op.{Op}
use Rattle.zpl_nums.specs.declared.operators.Op.TheVariants as op
use Rattle.zpl_region.specs.declared.dims.Dim.{Dim}
use Rattle.zpl_region.specs.declared.dims.Dim.TheVariants as dim
use Rattle.zpl_region.specs.Region.{IsPadded}
use Rattle.node_form.specs.declared.arrays.ArrayRow.{ArrayRow}
use Rattle.node_form.specs.declared.arrays.ArrayDim.{ArrayDim}
use Rattle.node_form.specs.declared.arrays.ArrayDim.TheVariants as axis
use Rattle.node_form.specs.declared.arrays.Item.{Item}
use Rattle.node_form.specs.declared.instructions.DimRow.{DimRow}
use Rattle.node_form.specs.declared.instructions.DimRow.TheVariants as made
use Rattle.node_form.specs.declared.instructions.Instr.{Instr}
use Rattle.node_form.specs.declared.instructions.Instr.TheVariants as instr
use Rattle.node_form.specs.declared.instructions.RegionForm.{RegionForm}
use Rattle.node_form.specs.declared.instructions.RegionForm.TheVariants as form
use Rattle.node_form.specs.declared.instructions.SameKind.{SameKind}
use Rattle.node_form.specs.declared.instructions.SameKind.TheVariants as same
use Rattle.node_form.specs.declared.members.Member.{Member}
use Rattle.node_form.specs.declared.members.Member.TheVariants as member
use Rattle.node_form.specs.declared.tables.Tables.{Tables}
use Rattle.node_form.specs.declared.words.ExprOp.{ExprOp}
use Rattle.node_form.specs.declared.words.ExprOp.TheVariants as word
use Rattle.node_form.specs.Fits.{IsRank, HasSlot, HasArray, IsUnused, IsUnusedOrStar, IsStar, IsIndexArray, FitsArray, FitsAt, FitsItem, FitsRemap, FitsWord}
use Rattle.node_form.specs.Grid.{IsGrid, factors_of}
use Rattle.listing_rules.specs.of_listing_lines.declared.keywords.Keyword.TheVariants as key
use Rattle.listing_rules.specs.of_listing_rows.declared.fields.Said.TheVariants.{Number, Vector, Bounds, Made}
use Rattle.listing_rules.specs.of_listing_rows.Fields.{fields_of, fold_name, operator_name, mask_field, bounds_field, made_field, stored_field, hidden_field, word_field}
use Rattle.listing_rules.specs.of_listing_rows.Rows.{slot_rank, array_rank, array_said, array_line, word_rank, expr_line, member_line, item_line, form_keyword, edge_keyword, same_name, shown_name, trap_number, present, instr_line}
use Rattle.listing_rules.specs.Found.{u32_of, vector_of, mask_in, fold_of, same_of, is_truth, trap_of, bounds_in, axis_in, made_in, is_stored, array_in, operator_in, word_in, words_in, grid_in, ranks_in, item_in, member_in, instr_in}
use Rattle.node_text.specs.Typed.{IsU32, IsMask, IsShift, HasThree, TypedMade, TypedArray, TypedWord, TypedMember, TypedItem, TypedInstr}
use Rattle.node_text.proofs.Ranks.{by2, by3, by4, by5, by6, kept, kept_small, Rank, One, Two, Three, rank_is, read_rank, Of3, Of, three_are, vector_kept}

-- ---- names and masks
pub fold_kept : (f : Fold) → fold_of (fold_name f) ≡ f
fold_kept fold.Sum = refl
fold_kept fold.Prod = refl
fold_kept fold.Max = refl
fold_kept fold.Min = refl
fold_kept fold.All = refl
fold_kept fold.Any = refl

same_kept : (kind : SameKind) → same_of (same_name kind) ≡ kind
same_kept same.Part = refl
same_kept same.Flood = refl

truth_kept : (truth : Bool) → is_truth (shown_name truth) ≡ truth
truth_kept true = refl
truth_kept false = refl

trap_kept : (kind : TrapKind) → trap_of (u32_of (pos (trap_number kind))) ≡ kind
trap_kept trap.DivideByZero = refl
trap_kept trap.OutsideStorage = refl
trap_kept trap.RegionLimit = refl
trap_kept trap.RegionMismatch = refl

operator_kept : (o : Op) → operator_in (operator_name o) ≡ word.Pair o
operator_kept op.Add = refl
operator_kept op.Sub = refl
operator_kept op.Mul = refl
operator_kept op.Div = refl
operator_kept op.Rem = refl
operator_kept op.Eq = refl
operator_kept op.Ne = refl
operator_kept op.Lt = refl
operator_kept op.Le = refl
operator_kept op.Gt = refl
operator_kept op.Ge = refl
operator_kept op.And = refl
operator_kept op.Or = refl
operator_kept op.Max = refl
operator_kept op.Min = refl

mask_kept : (mask : Option ℕ) → IsMask mask → mask_in (Some (mask_field mask)) ≡ mask
mask_kept None typed = refl
mask_kept (Some expr) typed = ap (λ (n : ℕ). Some n) (kept expr typed)

-- ---- dimensions
bounds_kept : (d : Dim) → bounds_in (Some (bounds_field d)) ≡ d
bounds_kept (dim.Range lo hi step align) = refl
bounds_kept dim.Flood = refl

made_kept : (part : DimRow) → TypedMade part → made_in (Some (made_field part)) ≡ part
made_kept (made.Span low high) typed = by2 (λ (a b : ℕ). made.Span a b) (kept low typed.0) (kept high typed.1)
made_kept made.Star typed = refl
made_kept (made.Copied slot) typed = ap (λ (n : ℕ). made.Copied n) (kept slot typed)

star_is : (part : DimRow) → IsStar part → made.Star ≡ part
star_is (made.Span low high) is = absurd is
star_is made.Star is = refl
star_is (made.Copied slot) is = absurd is

stored_kept : (d : ArrayDim) → axis_in (Some (stored_field d)) ≡ d
stored_kept (axis.Range lo hi low high) = refl
stored_kept axis.Star = refl

abbrev unused : ArrayDim
unused = axis.Range (pos 0) (pos 0) (pos 0) (pos 0)

unused_is : (d : ArrayDim) → IsUnused d → unused ≡ d
unused_is (axis.Range lo hi low high) is = by4 (λ (a b c d : ℤ). axis.Range a b c d) (sym is.0) (sym is.1) (sym is.2) (sym is.3)
unused_is axis.Star is = absurd is

hidden_kept : (d : ArrayDim) → IsUnusedOrStar d → axis_in (Some (hidden_field d)) ≡ d
hidden_kept (axis.Range lo hi low high) is = by4 (λ (a b c d : ℤ). axis.Range a b c d) (sym is.0) (sym is.1) (sym is.2) (sym is.3)
hidden_kept axis.Star is = refl

is_stored_field : (d : ArrayDim) → is_stored (Some (stored_field d)) ≡ true
is_stored_field (axis.Range lo hi low high) = refl
is_stored_field axis.Star = refl

is_hidden_field : (d : ArrayDim) → is_stored (Some (hidden_field d)) ≡ false
is_hidden_field (axis.Range lo hi low high) = refl
is_hidden_field axis.Star = refl

-- ---- arrays
abbrev row_of : ℕ → Bool → List ArrayDim → ArrayRow
row_of rank stored dims = record { rank = rank; stored = stored; dims = dims }

abbrev three_dims : ℕ → Bool → ArrayDim → ArrayDim → ArrayDim → ArrayRow
three_dims rank stored a b c = row_of rank stored (a ∷ b ∷ c ∷ [])

stored_found : (rank : ℕ) (dims : List ArrayDim) → Rank rank → Of3 dims → All IsUnused (drop rank dims) →
    array_in (fields_of (array_said true (take rank dims))) ≡ row_of rank true dims
stored_found rank dims One (Of a b c) padded =
    by4 (three_dims 1) (is_stored_field a) (stored_kept a)
    (unused_is b (All-head IsUnused b (c ∷ []) padded)) (unused_is c (All-head IsUnused c [] (All-tail IsUnused b (c ∷ []) padded)))
stored_found rank dims Two (Of a b c) padded =
    by4 (three_dims 2) (is_stored_field a) (stored_kept a) (stored_kept b) (unused_is c (All-head IsUnused c [] padded))
stored_found rank dims Three (Of a b c) padded =
    by4 (three_dims 3) (is_stored_field a) (stored_kept a) (stored_kept b) (stored_kept c)

hidden_found : (rank : ℕ) (dims : List ArrayDim) → Rank rank → Of3 dims → All IsUnused (drop rank dims) → All IsUnusedOrStar dims →
    array_in (fields_of (array_said false (take rank dims))) ≡ row_of rank false dims
hidden_found rank dims One (Of a b c) padded empty =
    by4 (three_dims 1) (is_hidden_field a) (hidden_kept a (All-head IsUnusedOrStar a (b ∷ c ∷ []) empty))
    (unused_is b (All-head IsUnused b (c ∷ []) padded)) (unused_is c (All-head IsUnused c [] (All-tail IsUnused b (c ∷ []) padded)))
hidden_found rank dims Two (Of a b c) padded empty =
    let others = All-tail IsUnusedOrStar a (b ∷ c ∷ []) empty in
    by4 (three_dims 2) (is_hidden_field a) (hidden_kept a (All-head IsUnusedOrStar a (b ∷ c ∷ []) empty))
    (hidden_kept b (All-head IsUnusedOrStar b (c ∷ []) others)) (unused_is c (All-head IsUnused c [] padded))
hidden_found rank dims Three (Of a b c) padded empty =
    let others = All-tail IsUnusedOrStar a (b ∷ c ∷ []) empty in
    by4 (three_dims 3) (is_hidden_field a) (hidden_kept a (All-head IsUnusedOrStar a (b ∷ c ∷ []) empty))
    (hidden_kept b (All-head IsUnusedOrStar b (c ∷ []) others)) (hidden_kept c (All-head IsUnusedOrStar c [] (All-tail IsUnusedOrStar b (c ∷ []) others)))

array_found_at : (rank : ℕ) (stored : Bool) (dims : List ArrayDim) → FitsArray (row_of rank stored dims) → HasThree dims →
    array_in (fields_of (array_said stored (take rank dims))) ≡ row_of rank stored dims
array_found_at rank true dims fits three = stored_found rank dims (rank_is rank fits.rank) (three_are dims three) fits.padded
array_found_at rank false dims fits three = hidden_found rank dims (rank_is rank fits.rank) (three_are dims three) fits.padded (fits.without_storage refl)

pub array_found : (row : ArrayRow) → FitsArray row → TypedArray row → array_in (array_line row).fields ≡ row
array_found row fits typed = array_found_at row.rank row.stored row.dims fits typed.three

-- ---- the head
pub grid_found : (grid : List ℕ) → IsGrid grid → Of3 grid → All IsU32 grid → grid_in (fields_of (map Number (factors_of grid))) ≡ grid
grid_found grid is (Of zero b c) small = let some = is.some in absurd (omega arith)
grid_found grid is (Of (suc a) zero c) small =
    let last : c ≡ 0 = All-head (λ (n : ℕ). n ≡ 0) c [] (All-tail (λ (n : ℕ). n ≡ 0) 0 (c ∷ []) is.absent) in
    by2 (λ (x y : ℕ). x ∷ 0 ∷ y ∷ []) (kept (suc a) (All-head IsU32 (suc a) (0 ∷ c ∷ []) small)) (sym last)
grid_found grid is (Of (suc a) (suc b) zero) small =
    by2 (λ (x y : ℕ). x ∷ y ∷ 0 ∷ []) (kept (suc a) (All-head IsU32 (suc a) (suc b ∷ 0 ∷ []) small))
    (kept (suc b) (All-head IsU32 (suc b) (0 ∷ []) (All-tail IsU32 (suc a) (suc b ∷ 0 ∷ []) small)))
grid_found grid is (Of (suc a) (suc b) (suc c)) small =
    let others = All-tail IsU32 (suc a) (suc b ∷ suc c ∷ []) small in
    by3 (λ (x y z : ℕ). x ∷ y ∷ z ∷ []) (kept (suc a) (All-head IsU32 (suc a) (suc b ∷ suc c ∷ []) small))
    (kept (suc b) (All-head IsU32 (suc b) (suc c ∷ []) others)) (kept (suc c) (All-head IsU32 (suc c) [] (All-tail IsU32 (suc b) (suc c ∷ []) others)))

pub slots_found : (ranks : List ℕ) → All IsRank ranks → ranks_in (fields_of (map Number ranks)) ≡ ranks
slots_found [] fit = refl
slots_found (rank ∷ ranks) fit =
    let here = All-head IsRank rank ranks fit in
    by2 (λ (r : ℕ) (rs : List ℕ). r ∷ rs) (kept_small rank here.1) (slots_found ranks (All-tail IsRank rank ranks fit))

-- ---- ranks of slots and arrays
pub slot_at : (tables : Tables) (rank slot : ℕ) → HasSlot tables rank slot → slot_rank tables slot ≡ rank
slot_at tables rank slot has = slot_go (slice_get tables.slots slot) rank has where
  slot_go : (o : Option ℕ) (rank : ℕ) → o ≡ Some rank → unwrap_or o 0 ≡ rank
  slot_go o rank e = ap (λ (x : Option ℕ). unwrap_or x 0) e

pub array_at : (tables : Tables) (rank array : ℕ) → HasArray tables rank array → array_rank tables array ≡ rank
array_at tables rank array has = read_rank (λ (row : ArrayRow). row.rank) (slice_get tables.arrays array) rank has

-- ---- expressions
word_found : (tables : Tables) (rank : ℕ) → IsRank rank → (w : ExprOp) → FitsWord tables rank w → TypedWord w → word_in (word_field (word_rank tables w) w) ≡ w
word_found tables rank is (word.Const value) fits typed = refl
word_found tables rank is (word.Scalar scalar) fits typed = ap (λ (n : ℕ). word.Scalar n) (kept scalar typed)
word_found tables rank is (word.Here array) fits typed = ap (λ (n : ℕ). word.Here n) (kept array typed)
word_found tables rank is (word.Shifted array shift) fits typed =
    by2 (λ (n : ℕ) (v : List ℤ). word.Shifted n v) (kept array typed.0)
    (vector_kept (array_rank tables array) rank shift (array_at tables rank array fits.0) (rank_is rank is) typed.1 fits.1.1)
word_found tables rank is (word.Cell cell) fits typed = ap (λ (n : ℕ). word.Cell n) (kept cell typed)
word_found tables rank is (word.Coord dimension) fits typed =
    let below = fits.1 in let most = is.1 in
    ap (λ (n : ℕ). word.Coord n) (kept_small dimension (omega arith))
word_found tables rank is (word.Pair o) fits typed = operator_kept o
word_found tables rank is word.Neg fits typed = refl
word_found tables rank is word.Not fits typed = refl
word_found tables rank is word.Abs fits typed = refl

pub words_found : (tables : Tables) (rank : ℕ) → IsRank rank → (words : List ExprOp) → All (FitsWord tables rank) words → All TypedWord words →
    words_in (expr_line tables words).fields ≡ words
words_found tables rank is [] fit typed = refl
words_found tables rank is (w ∷ words) fit typed =
    by2 (λ (x : ExprOp) (xs : List ExprOp). x ∷ xs)
    (word_found tables rank is w (All-head (FitsWord tables rank) w words fit) (All-head TypedWord w words typed))
    (words_found tables rank is words (All-tail (FitsWord tables rank) w words fit) (All-tail TypedWord w words typed))

-- ---- members and items
pub member_found : (row : Member) → TypedMember row → member_in (member_line row).keyword (member_line row).fields ≡ Some row
member_found (member.Put array expr mask line) typed =
    by4 (λ (a b : ℕ) (m : Option ℕ) (c : ℕ). Some (member.Put a b m c)) (kept array typed.0) (kept expr typed.1) (mask_kept mask typed.2) (kept line typed.3)
member_found (member.Cell cell expr mask line) typed =
    by4 (λ (a b : ℕ) (m : Option ℕ) (c : ℕ). Some (member.Cell a b m c)) (kept cell typed.0) (kept expr typed.1) (mask_kept mask typed.2) (kept line typed.3)
member_found (member.Acc scalar f expr mask line) typed =
    by5 (λ (a : ℕ) (g : Fold) (b : ℕ) (m : Option ℕ) (c : ℕ). Some (member.Acc a g b m c))
    (kept scalar typed.0) (fold_kept f) (kept expr typed.1) (mask_kept mask typed.2) (kept line typed.3)
member_found (member.OpenIf expr mask line) typed =
    by3 (λ (a : ℕ) (m : Option ℕ) (c : ℕ). Some (member.OpenIf a m c)) (kept expr typed.0) (mask_kept mask typed.1) (kept line typed.2)
member_found member.Otherwise typed = refl
member_found member.CloseIf typed = refl
member_found (member.OpenWhile expr mask line) typed =
    by3 (λ (a : ℕ) (m : Option ℕ) (c : ℕ). Some (member.OpenWhile a m c)) (kept expr typed.0) (mask_kept mask typed.1) (kept line typed.2)
member_found member.CloseWhile typed = refl
member_found (member.OpenRepeat mask line) typed =
    by2 (λ (m : Option ℕ) (c : ℕ). Some (member.OpenRepeat m c)) (mask_kept mask typed.0) (kept line typed.1)
member_found (member.Until expr) typed = ap (λ (n : ℕ). Some (member.Until n)) (kept expr typed)

-- the rank that a slot has
pub slot_is : (tables : Tables) (rank slot : ℕ) → All IsRank tables.slots → HasSlot tables rank slot → IsRank rank
slot_is tables rank slot ranks has = go tables.slots slot ranks has where
  go : (slots : List ℕ) (k : ℕ) → All IsRank slots → slice_get slots k ≡ Some rank → IsRank rank
  go [] k all e = absurd cc
  go (x ∷ xs) zero all e = let same : x ≡ rank = cc in subst IsRank same (All-head IsRank x xs all)
  go (x ∷ xs) (suc k) all e = go xs k (All-tail IsRank x xs all) e

pub item_found : (tables : Tables) (item : Item) → All IsRank tables.slots → FitsItem tables item → TypedItem item → item_in (item_line tables item).fields ≡ item
item_found tables item ranks fits typed =
    let is = rank_is fits.rank (slot_is tables fits.rank item.slot ranks fits.slot) in
    by3 (λ (a b : ℕ) (v : List ℤ). record { array = a; slot = b; shift = v }) (kept item.array typed.array) (kept item.slot typed.slot)
    (vector_kept (slot_rank tables item.slot) fits.rank item.shift (slot_at tables fits.rank item.slot fits.slot) is typed.shift fits.shift.1)

-- ---- instructions
region_found : (slot rank : ℕ) (dims : List Dim) → IsU32 slot → Rank rank → Of3 dims → IsPadded rank dims →
    instr_in key.Fix (fields_of (Number slot ∷ map Bounds (take rank dims))) ≡ Some (instr.Fix slot (record { rank = rank; dims = dims }))
region_found slot rank dims typed One (Of a b c) padded =
    let second : dim.Range (pos 0) (pos 0) (pos 1) (pos 0) ≡ b = cc in
    let third : dim.Range (pos 0) (pos 0) (pos 1) (pos 0) ≡ c = cc in
    by4 (λ (n : ℕ) (x y z : Dim). Some (instr.Fix n (record { rank = 1; dims = x ∷ y ∷ z ∷ [] }))) (kept slot typed) (bounds_kept a) second third
region_found slot rank dims typed Two (Of a b c) padded =
    let third : dim.Range (pos 0) (pos 0) (pos 1) (pos 0) ≡ c = cc in
    by4 (λ (n : ℕ) (x y z : Dim). Some (instr.Fix n (record { rank = 2; dims = x ∷ y ∷ z ∷ [] }))) (kept slot typed) (bounds_kept a) (bounds_kept b) third
region_found slot rank dims typed Three (Of a b c) padded =
    by4 (λ (n : ℕ) (x y z : Dim). Some (instr.Fix n (record { rank = 3; dims = x ∷ y ∷ z ∷ [] }))) (kept slot typed) (bounds_kept a) (bounds_kept b) (bounds_kept c)

abbrev dims_of : ℕ → DimRow → DimRow → DimRow → ℕ → Option Instr
dims_of slot a b c line = Some (instr.Dims slot (a ∷ b ∷ c ∷ []) line)

parts_found : (slot rank line : ℕ) (parts : List DimRow) → IsU32 slot → IsU32 line → Rank rank → Of3 parts → All TypedMade parts → All IsStar (drop rank parts) →
    instr_in key.Dims (fields_of (Number slot ∷ (map Made (take rank parts) ++ Number line ∷ []))) ≡ Some (instr.Dims slot parts line)
parts_found slot rank line parts typed last One (Of a b c) each stars =
    by5 dims_of (kept slot typed) (made_kept a (All-head TypedMade a (b ∷ c ∷ []) each))
    (star_is b (All-head IsStar b (c ∷ []) stars)) (star_is c (All-head IsStar c [] (All-tail IsStar b (c ∷ []) stars))) (kept line last)
parts_found slot rank line parts typed last Two (Of a b c) each stars =
    let others = All-tail TypedMade a (b ∷ c ∷ []) each in
    by5 dims_of (kept slot typed) (made_kept a (All-head TypedMade a (b ∷ c ∷ []) each)) (made_kept b (All-head TypedMade b (c ∷ []) others))
    (star_is c (All-head IsStar c [] stars)) (kept line last)
parts_found slot rank line parts typed last Three (Of a b c) each stars =
    let others = All-tail TypedMade a (b ∷ c ∷ []) each in
    by5 dims_of (kept slot typed) (made_kept a (All-head TypedMade a (b ∷ c ∷ []) each)) (made_kept b (All-head TypedMade b (c ∷ []) others))
    (made_kept c (All-head TypedMade c [] (All-tail TypedMade b (c ∷ []) others))) (kept line last)

-- the arrays of a `remap`: as many as the rank, in front
pub data Given : List (Option ℕ) → Type 0 where
  OneGiven : (a : ℕ) → IsU32 a → Given (Some a ∷ None ∷ None ∷ [])
  TwoGiven : (a b : ℕ) → IsU32 a → IsU32 b → Given (Some a ∷ Some b ∷ None ∷ [])
  ThreeGiven : (a b c : ℕ) → IsU32 a → IsU32 b → IsU32 c → Given (Some a ∷ Some b ∷ Some c ∷ [])

module _ (P : ℕ → Type 0) where
  abbrev There : Option ℕ → Type 0
  There part = IsSomeAnd part P

  abbrev Absent : Option ℕ → Type 0
  Absent part = IsNone part

  given_one : (a b c : Option ℕ) → There a → Absent b → Absent c → IsMask a → Given (a ∷ b ∷ c ∷ [])
  given_one (Some a) None None x y z typed = OneGiven a typed
  given_one None b c x y z typed = absurd x
  given_one (Some a) (Some b) c x y z typed = absurd cc
  given_one (Some a) None (Some c) x y z typed = absurd cc

  given_two : (a b c : Option ℕ) → There a → There b → Absent c → IsMask a → IsMask b → Given (a ∷ b ∷ c ∷ [])
  given_two (Some a) (Some b) None x y z typed also = TwoGiven a b typed also
  given_two None b c x y z typed also = absurd x
  given_two (Some a) None c x y z typed also = absurd y
  given_two (Some a) (Some b) (Some c) x y z typed also = absurd cc

  given_three : (a b c : Option ℕ) → There a → There b → There c → IsMask a → IsMask b → IsMask c → Given (a ∷ b ∷ c ∷ [])
  given_three (Some a) (Some b) (Some c) x y z typed also last = ThreeGiven a b c typed also last
  given_three None b c x y z typed also last = absurd x
  given_three (Some a) None c x y z typed also last = absurd y
  given_three (Some a) (Some b) None x y z typed also last = absurd z

  pub given_are : (rank : ℕ) (parts : List (Option ℕ)) → Rank rank → Of3 parts → All (λ part. IsSomeAnd part P) (take rank parts) → All IsNone (drop rank parts) → All IsMask parts → Given parts
  given_are rank parts One (Of a b c) given absent typed =
      given_one a b c (All-head There a [] given) (All-head Absent b (c ∷ []) absent) (All-head Absent c [] (All-tail Absent b (c ∷ []) absent))
      (All-head IsMask a (b ∷ c ∷ []) typed)
  given_are rank parts Two (Of a b c) given absent typed =
      let others = All-tail IsMask a (b ∷ c ∷ []) typed in
      given_two a b c (All-head There a (b ∷ []) given) (All-head There b [] (All-tail There a (b ∷ []) given)) (All-head Absent c [] absent)
      (All-head IsMask a (b ∷ c ∷ []) typed) (All-head IsMask b (c ∷ []) others)
  given_are rank parts Three (Of a b c) given absent typed =
      let others = All-tail IsMask a (b ∷ c ∷ []) typed in
      let behind = All-tail There a (b ∷ c ∷ []) given in
      given_three a b c (All-head There a (b ∷ c ∷ []) given) (All-head There b (c ∷ []) behind) (All-head There c [] (All-tail There b (c ∷ []) behind))
      (All-head IsMask a (b ∷ c ∷ []) typed) (All-head IsMask b (c ∷ []) others) (All-head IsMask c [] (All-tail IsMask b (c ∷ []) others))

-- the parts of a `remap` that fits
pub remap_given : (tables : Tables) (rank target from : ℕ) (parts : List (Option ℕ)) → All FitsArray tables.arrays →
    IsSomeAnd (slice_get tables.arrays from) (FitsRemap tables rank target parts) → HasThree parts → All IsMask parts → Given parts
remap_given tables rank target from parts arrays fits three typed = go tables.arrays from arrays fits where
  go : (rows : List ArrayRow) (k : ℕ) → All FitsArray rows → IsSomeAnd (slice_get rows k) (FitsRemap tables rank target parts) → Given parts
  go [] k all is = absurd is
  go (row ∷ rows) zero all is =
      let fit = All-head FitsArray row rows all in
      given_are (IsIndexArray tables rank target) row.rank parts (rank_is row.rank fit.rank) (three_are parts three) is.given is.absent typed
  go (row ∷ rows) (suc k) all is = go rows k (All-tail FitsArray row rows all) is

remap_found : (array slot from : ℕ) (parts : List (Option ℕ)) → IsU32 array → IsU32 slot → IsU32 from → Given parts →
    instr_in key.Remap (fields_of (Number array ∷ Number slot ∷ Number from ∷ present parts)) ≡ Some (instr.Remap array slot from parts)
remap_found array slot from parts x y z (OneGiven a t) =
    by4 (λ (k l m n : ℕ). Some (instr.Remap k l m (Some n ∷ None ∷ None ∷ []))) (kept array x) (kept slot y) (kept from z) (kept a t)
remap_found array slot from parts x y z (TwoGiven a b t u) =
    by5 (λ (k l m n o : ℕ). Some (instr.Remap k l m (Some n ∷ Some o ∷ None ∷ []))) (kept array x) (kept slot y) (kept from z) (kept a t) (kept b u)
remap_found array slot from parts x y z (ThreeGiven a b c t u v) =
    by6 (λ (k l m n o p : ℕ). Some (instr.Remap k l m (Some n ∷ Some o ∷ Some p ∷ []))) (kept array x) (kept slot y) (kept from z) (kept a t) (kept b u) (kept c v)

formed_found : (f : RegionForm) (slot from r line : ℕ) (shift : List ℤ) → IsU32 slot → IsU32 from → vector_of (take r shift) ≡ shift → IsU32 line →
    instr_in (form_keyword f) (fields_of (Number slot ∷ Number from ∷ Vector r shift ∷ Number line ∷ [])) ≡ Some (instr.Formed f slot from shift line)
formed_found form.Of slot from r line shift x y v z =
    by4 (λ (a b : ℕ) (s : List ℤ) (c : ℕ). Some (instr.Formed form.Of a b s c)) (kept slot x) (kept from y) v (kept line z)
formed_found form.Inside slot from r line shift x y v z =
    by4 (λ (a b : ℕ) (s : List ℤ) (c : ℕ). Some (instr.Formed form.Inside a b s c)) (kept slot x) (kept from y) v (kept line z)
formed_found form.At slot from r line shift x y v z =
    by4 (λ (a b : ℕ) (s : List ℤ) (c : ℕ). Some (instr.Formed form.At a b s c)) (kept slot x) (kept from y) v (kept line z)
formed_found form.By slot from r line shift x y v z =
    by4 (λ (a b : ℕ) (s : List ℤ) (c : ℕ). Some (instr.Formed form.By a b s c)) (kept slot x) (kept from y) v (kept line z)

edge_found : (e : Border) (array slot r : ℕ) (shift : List ℤ) → IsU32 array → IsU32 slot → vector_of (take r shift) ≡ shift →
    instr_in (edge_keyword e) (fields_of (Number array ∷ Number slot ∷ Vector r shift ∷ [])) ≡ Some (instr.Edge e array slot shift)
edge_found border.Wrap array slot r shift x y v = by3 (λ (a b : ℕ) (s : List ℤ). Some (instr.Edge border.Wrap a b s)) (kept array x) (kept slot y) v
edge_found border.Reflect array slot r shift x y v = by3 (λ (a b : ℕ) (s : List ℤ). Some (instr.Edge border.Reflect a b s)) (kept array x) (kept slot y) v

module _ (tables : Tables) (ranks : All IsRank tables.slots) (arrays : All FitsArray tables.arrays) where
  pub vector_at_slot : (rank slot : ℕ) (shift : List ℤ) → HasSlot tables rank slot → IsShift shift → All (λ z. z ≡ pos 0) (drop rank shift) →
      vector_of (take (slot_rank tables slot) shift) ≡ shift
  vector_at_slot rank slot shift has typed zeros =
      vector_kept (slot_rank tables slot) rank shift (slot_at tables rank slot has) (rank_is rank (slot_is tables rank slot ranks has)) typed zeros

  pub instr_found : (rank : ℕ) (row : Instr) → FitsAt tables rank row → TypedInstr row → instr_in (instr_line tables row).keyword (instr_line tables row).fields ≡ Some row
  instr_found rank (instr.Set scalar expr line) fits typed =
      by3 (λ (a b c : ℕ). Some (instr.Set a b c)) (kept scalar typed.0) (kept expr typed.1) (kept line typed.2)
  instr_found rank (instr.Fix slot region) fits typed =
      region_found slot region.rank region.dims typed.0 (rank_is region.rank fits.1.rank) (three_are region.dims typed.1) fits.1.padded
  instr_found rank (instr.Dims slot parts line) fits typed =
      subst (λ (r : ℕ). instr_in key.Dims (fields_of (Number slot ∷ (map Made (take r parts) ++ Number line ∷ []))) ≡ Some (instr.Dims slot parts line))
      (sym (slot_at tables rank slot fits.0))
      (parts_found slot rank line parts typed.0 typed.3 (rank_is rank (slot_is tables rank slot ranks fits.0)) (three_are parts typed.1) typed.2 fits.1.1)
  instr_found rank (instr.Formed f slot from shift line) fits typed =
      formed_found f slot from (slot_rank tables slot) line shift typed.0 typed.1 (vector_at_slot rank slot shift fits.0 typed.2 fits.2.1) typed.3
  instr_found rank (instr.Need slot array shift line) fits typed =
      by4 (λ (a b : ℕ) (s : List ℤ) (c : ℕ). Some (instr.Need a b s c)) (kept slot typed.0) (kept array typed.1) (vector_at_slot rank slot shift fits.0 typed.2 fits.3.1) (kept line typed.3)
  instr_found rank (instr.Same target source kind line) fits typed =
      by4 (λ (a b : ℕ) (k : SameKind) (c : ℕ). Some (instr.Same a b k c)) (kept target typed.0) (kept source typed.1) (same_kept kind) (kept line typed.2)
  instr_found rank (instr.Fits slot shift line) fits typed =
      by3 (λ (a : ℕ) (s : List ℤ) (c : ℕ). Some (instr.Fits a s c)) (kept slot typed.0) (vector_at_slot rank slot shift fits.0 typed.1 fits.1.1) (kept line typed.2)
  instr_found rank (instr.Room array slot) fits typed = by2 (λ (a b : ℕ). Some (instr.Room a b)) (kept array typed.0) (kept slot typed.1)
  instr_found rank (instr.Clear array) fits typed = ap (λ (a : ℕ). Some (instr.Clear a)) (kept array typed)
  instr_found rank (instr.Loop slot group) fits typed = by2 (λ (a b : ℕ). Some (instr.Loop a b)) (kept slot typed.0) (kept group typed.1)
  instr_found rank (instr.Start exchange) fits typed = ap (λ (a : ℕ). Some (instr.Start a)) (kept exchange typed)
  instr_found rank (instr.Finish exchange) fits typed = ap (λ (a : ℕ). Some (instr.Finish a)) (kept exchange typed)
  instr_found rank (instr.Edge kind array slot shift) fits typed =
      edge_found kind array slot (slot_rank tables slot) shift typed.0 typed.1 (vector_at_slot rank slot shift fits.0 typed.2 fits.2.1)
  instr_found rank (instr.Flood array target from source) fits typed =
      by4 (λ (a b c d : ℕ). Some (instr.Flood a b c d)) (kept array typed.0) (kept target typed.1) (kept from typed.2) (kept source typed.3)
  instr_found rank (instr.Part array target f from source) fits typed =
      by5 (λ (a b : ℕ) (g : Fold) (c d : ℕ). Some (instr.Part a b g c d)) (kept array typed.0) (kept target typed.1) (fold_kept f) (kept from typed.2) (kept source typed.3)
  instr_found rank (instr.Scan array slot f along from mask) fits typed =
      let is = slot_is tables rank slot ranks fits.0 in let most = is.1 in let below = fits.4 in
      by6 (λ (a b : ℕ) (g : Fold) (k c : ℕ) (m : Option ℕ). Some (instr.Scan a b g k c m))
      (kept array typed.0) (kept slot typed.1) (fold_kept f) (kept_small along (omega arith)) (kept from typed.3) (mask_kept mask typed.4)
  instr_found rank (instr.Vote group) fits typed = ap (λ (a : ℕ). Some (instr.Vote a)) (kept group typed)
  instr_found rank (instr.Fold scalar f) fits typed = by2 (λ (a : ℕ) (g : Fold). Some (instr.Fold a g)) (kept scalar typed) (fold_kept f)
  instr_found rank (instr.TreeVote group) fits typed = ap (λ (a : ℕ). Some (instr.TreeVote a)) (kept group typed)
  instr_found rank (instr.TreeFold scalar f) fits typed = by2 (λ (a : ℕ) (g : Fold). Some (instr.TreeFold a g)) (kept scalar typed) (fold_kept f)
  instr_found rank (instr.Print text) fits typed = ap (λ (a : ℕ). Some (instr.Print a)) (kept text typed)
  instr_found rank (instr.Number expr) fits typed = ap (λ (a : ℕ). Some (instr.Number a)) (kept expr typed)
  instr_found rank (instr.Truth expr) fits typed = ap (λ (a : ℕ). Some (instr.Truth a)) (kept expr typed)
  instr_found rank (instr.Gather truth array slot) fits typed =
      by3 (λ (t : Bool) (a b : ℕ). Some (instr.Gather t a b)) (truth_kept truth) (kept array typed.0) (kept slot typed.1)
  instr_found rank (instr.Jump goal) fits typed = ap (λ (a : ℕ). Some (instr.Jump a)) (kept goal typed)
  instr_found rank (instr.Unless expr goal line) fits typed =
      by3 (λ (a b c : ℕ). Some (instr.Unless a b c)) (kept expr typed.0) (kept goal typed.1) (kept line typed.2)
  instr_found rank (instr.Trap kind line) fits typed = by2 (λ (k : TrapKind) (a : ℕ). Some (instr.Trap k a)) (trap_kept kind) (kept line typed)
  instr_found rank instr.End fits typed = refl
  instr_found rank (instr.Remap array slot from parts) fits typed =
      remap_found array slot from parts typed.0 typed.1 typed.2 (remap_given tables rank array from parts arrays fits.3 typed.3 typed.4)
