-- What is read of lines is as memory holds it.
use Rattle.std.proofs.Common.{◌≡◌, ℕ, zero, suc, ◌+◌, ◌-◌, ◌<◌, Bool, true, false, List, [], ◌∷◌, length, subst, refl, arith}
use Rattle.std.specs.Prelude.{ℤ, pos, negsuc, Option, Some, None, All, IfSome, slice_get, min, nat_lt, if◌then◌else◌}
use Rattle.std.proofs.Math.Nat.{min-le_right}
use Rattle.std.proofs.lemmas.Bool.{ltb-true}
use Rattle.std.proofs.lemmas.List.Elements.{All-nil, All-cons, All-head, All-tail}
use Rattle.zpl_nums.specs.Integer.{IsInteger}
use Rattle.node_form.specs.declared.instructions.DimRow.TheVariants as made
use Rattle.node_form.specs.declared.instructions.Instr.{Instr}
use Rattle.node_form.specs.declared.members.Member.{Member}
use Rattle.listing_rules.specs.of_listing_lines.declared.fields.Field.{Field}
use Rattle.listing_rules.specs.of_listing_lines.declared.fields.Field.TheVariants as field
use Rattle.listing_rules.specs.of_listing_lines.declared.fields.Mark.{Mark}
use Rattle.listing_rules.specs.of_listing_lines.declared.fields.Mark.TheVariants as mark
use Rattle.listing_rules.specs.of_listing_lines.declared.keywords.Keyword.{Keyword}
use Rattle.listing_rules.specs.of_listing_lines.declared.keywords.Keyword.TheVariants as key
use Rattle.listing_rules.specs.of_listing_lines.declared.names.Name.{Name}
use Rattle.listing_rules.specs.of_listing_lines.declared.names.Name.TheVariants as name
use Rattle.listing_rules.specs.of_listing_lines.Field.{IsField}
use Rattle.listing_rules.specs.Found.{u32_of, component, numbers_in, number_at, vector_at, mask_in, mask_at, bounds_in, axis_named, axis_in, made_by, made_in, made_at, operator_in, operand_in, word_in, words_in, array_in, grid_in, item_in, member_in, instr_in}
use Rattle.node_text.specs.Typed.{IsU32, IsMask, IsShift, HasThree, TypedDim, TypedAxis, TypedMade, TypedArray, TypedWord, TypedMember, TypedItem, TypedInstr}

-- ---- numbers
chosen_small : (b : Bool) (n : ℕ) → (b ≡ true → IsU32 n) → IsU32 (if b then n else 0)
chosen_small true n small = small refl
chosen_small false n small = omega arith

pub u32_small : (z : ℤ) → IsU32 (u32_of z)
u32_small (pos n) = chosen_small (nat_lt n 4294967296) n (ltb-true n 4294967296)
u32_small (negsuc n) = omega arith

short : (n : ℕ) → min n 4 < 256
short n = let most = min-le_right n 4 in omega arith

pub component_typed : (numbers : List ℤ) (k : ℕ) → All IsInteger numbers → IsInteger (component numbers k)
component_typed [] k all = omega arith
component_typed (z ∷ numbers) zero all = All-head IsInteger z numbers all
component_typed (z ∷ numbers) (suc k) all = component_typed numbers k (All-tail IsInteger z numbers all)

three : (a b c : ℤ) → IsInteger a → IsInteger b → IsInteger c → IsShift (a ∷ b ∷ c ∷ [])
three a b c x y z = (refl, All-cons IsInteger a (b ∷ c ∷ []) x (All-cons IsInteger b (c ∷ []) y (All-cons IsInteger c [] z (All-nil IsInteger))))

-- ---- fields
given : (fields : List Field) (k : ℕ) → All (IsField false) fields → IfSome (slice_get fields k) (IsField false)
given [] k all = tt
given (f ∷ fields) zero all = All-head (IsField false) f fields all
given (f ∷ fields) (suc k) all = given fields k (All-tail (IsField false) f fields all)

numbers_typed : (found : Option Field) → IfSome found (IsField false) → All IsInteger (numbers_in found)
numbers_typed None is = All-nil IsInteger
numbers_typed (Some (field.Numbers mark numbers)) is = is.1
numbers_typed (Some (field.Name name)) is = All-nil IsInteger
numbers_typed (Some (field.Bytes bytes)) is = All-nil IsInteger

pub mask_small : (found : Option Field) → IsMask (mask_in found)
mask_small None = tt
mask_small (Some (field.Numbers mark numbers)) = u32_small (component numbers 0)
mask_small (Some (field.Name name)) = tt
mask_small (Some (field.Bytes bytes)) = tt

bounds_typed : (found : Option Field) → IfSome found (IsField false) → TypedDim (bounds_in found)
bounds_typed None is = (omega arith, omega arith, omega arith, omega arith)
bounds_typed (Some (field.Numbers mark numbers)) is =
    (component_typed numbers 0 is.1, component_typed numbers 1 is.1, component_typed numbers 2 is.1, component_typed numbers 3 is.1)
bounds_typed (Some (field.Name name)) is = tt
bounds_typed (Some (field.Bytes bytes)) is = tt

named_typed : (n : Name) → TypedAxis (axis_named n)
named_typed name.Minus = (omega arith, omega arith, omega arith, omega arith)
named_typed other = tt

axis_typed : (found : Option Field) → IfSome found (IsField false) → TypedAxis (axis_in found)
axis_typed None is = (omega arith, omega arith, omega arith, omega arith)
axis_typed (Some (field.Numbers mark numbers)) is =
    (component_typed numbers 0 is.1, component_typed numbers 1 is.1, component_typed numbers 2 is.1, component_typed numbers 3 is.1)
axis_typed (Some (field.Name n)) is = named_typed n
axis_typed (Some (field.Bytes bytes)) is = absurd is

by_typed : (m : Mark) (numbers : List ℤ) → TypedMade (made_by m numbers)
by_typed mark.Span numbers = (u32_small (component numbers 0), u32_small (component numbers 1))
by_typed other numbers = u32_small (component numbers 0)

made_typed : (found : Option Field) → TypedMade (made_in found)
made_typed None = tt
made_typed (Some (field.Numbers m numbers)) = by_typed m numbers
made_typed (Some (field.Name n)) = tt
made_typed (Some (field.Bytes bytes)) = tt

part_typed : (fields : List Field) (k : ℕ) → TypedMade (made_at fields k)
part_typed fields k = go (nat_lt (k + 1) (length fields)) where
  go : (b : Bool) → TypedMade (if b then made_in (slice_get fields k) else made.Star)
  go true = made_typed (slice_get fields k)
  go false = tt

operator_typed : (n : Name) → TypedWord (operator_in n)
operator_typed n = go n where
  go : (n : Name) → TypedWord (operator_in n)
  go name.Plus = tt
  go other = tt

operand_typed : (m : Mark) (numbers : List ℤ) → All IsInteger numbers → TypedWord (operand_in m numbers)
operand_typed mark.Scalar numbers all = u32_small (component numbers 0)
operand_typed mark.Here numbers all = u32_small (component numbers 0)
operand_typed mark.Shifted numbers all =
    (u32_small (component numbers 0), three (component numbers 1) (component numbers 2) (component numbers 3) (component_typed numbers 1 all) (component_typed numbers 2 all) (component_typed numbers 3 all))
operand_typed mark.Cell numbers all = u32_small (component numbers 0)
operand_typed mark.Coord numbers all = short (u32_of (component numbers 0))
operand_typed other numbers all = component_typed numbers 0 all

word_typed : (f : Field) → IsField false f → TypedWord (word_in f)
word_typed (field.Name n) is = operator_typed n
word_typed (field.Numbers m numbers) is = operand_typed m numbers is.1
word_typed (field.Bytes bytes) is = tt

pub words_typed : (fields : List Field) → All (IsField false) fields → All TypedWord (words_in fields)
words_typed [] all = All-nil TypedWord
words_typed (f ∷ fields) all =
    All-cons TypedWord (word_in f) (words_in fields) (word_typed f (All-head (IsField false) f fields all)) (words_typed fields (All-tail (IsField false) f fields all))

-- ---- rows
pub grid_typed : (fields : List Field) → All IsU32 (grid_in fields)
grid_typed fields =
    let a = number_at fields 0 in
    let b = number_at fields 1 in
    let c = number_at fields 2 in
    All-cons IsU32 a (b ∷ c ∷ []) (small fields 0) (All-cons IsU32 b (c ∷ []) (small fields 1) (All-cons IsU32 c [] (small fields 2) (All-nil IsU32))) where
      small : (fields : List Field) (k : ℕ) → IsU32 (number_at fields k)
      small fields k = u32_small (component (numbers_in (slice_get fields k)) 0)

pub array_typed : (fields : List Field) → All (IsField false) fields → TypedArray (array_in fields)
array_typed fields all =
    let a = axis_in (slice_get fields 0) in
    let b = axis_in (slice_get fields 1) in
    let c = axis_in (slice_get fields 2) in
    record {
      three = refl;
      dims = All-cons TypedAxis a (b ∷ c ∷ []) (axis_typed (slice_get fields 0) (given fields 0 all))
          (All-cons TypedAxis b (c ∷ []) (axis_typed (slice_get fields 1) (given fields 1 all))
          (All-cons TypedAxis c [] (axis_typed (slice_get fields 2) (given fields 2 all)) (All-nil TypedAxis)));
    }

some_is : {A : Type 0} {x y : A} → Some x ≡ Some y → x ≡ y
some_is e = cc

module _ (fields : List Field) where
  abbrev u : (k : ℕ) → IsU32 (number_at fields k)
  u k = u32_small (component (numbers_in (slice_get fields k)) 0)

  abbrev m : (k : ℕ) → IsMask (mask_at fields k)
  m k = mask_small (slice_get fields k)

  pub member_typed : (keyword : Keyword) (row : Member) → member_in keyword fields ≡ Some row → TypedMember row
  member_typed key.Put row e = subst TypedMember (some_is e) (u 0, u 1, m 2, u 3)
  member_typed key.Cell row e = subst TypedMember (some_is e) (u 0, u 1, m 2, u 3)
  member_typed key.Acc row e = subst TypedMember (some_is e) (u 0, u 2, m 3, u 4)
  member_typed key.If row e = subst TypedMember (some_is e) (u 0, m 1, u 2)
  member_typed key.Else row e = subst TypedMember (some_is e) tt
  member_typed key.Fi row e = subst TypedMember (some_is e) tt
  member_typed key.While row e = subst TypedMember (some_is e) (u 0, m 1, u 2)
  member_typed key.Od row e = subst TypedMember (some_is e) tt
  member_typed key.Repeat row e = subst TypedMember (some_is e) (m 0, u 1)
  member_typed key.Until row e = subst TypedMember (some_is e) (u 0)
  member_typed other row e = absurd cc

  module _ (all : All (IsField false) fields) where
    abbrev v : (k : ℕ) → IsShift (vector_at fields k)
    v k =
        let numbers = numbers_in (slice_get fields k) in
        let are = numbers_typed (slice_get fields k) (given fields k all) in
        three (component numbers 0) (component numbers 1) (component numbers 2) (component_typed numbers 0 are) (component_typed numbers 1 are) (component_typed numbers 2 are)

    pub item_typed : TypedItem (item_in fields)
    item_typed = record { array = u 0; slot = u 1; shift = v 2 }

    region_typed : HasThree (bounds_in (slice_get fields 1) ∷ bounds_in (slice_get fields 2) ∷ bounds_in (slice_get fields 3) ∷ [])
        × All TypedDim (bounds_in (slice_get fields 1) ∷ bounds_in (slice_get fields 2) ∷ bounds_in (slice_get fields 3) ∷ [])
    region_typed =
        let a = bounds_in (slice_get fields 1) in
        let b = bounds_in (slice_get fields 2) in
        let c = bounds_in (slice_get fields 3) in (
          refl,
          All-cons TypedDim a (b ∷ c ∷ []) (bounds_typed (slice_get fields 1) (given fields 1 all))
              (All-cons TypedDim b (c ∷ []) (bounds_typed (slice_get fields 2) (given fields 2 all))
              (All-cons TypedDim c [] (bounds_typed (slice_get fields 3) (given fields 3 all)) (All-nil TypedDim))),
        )

    parts_typed : All TypedMade (made_at fields 1 ∷ made_at fields 2 ∷ made_at fields 3 ∷ [])
    parts_typed =
        let a = made_at fields 1 in
        let b = made_at fields 2 in
        let c = made_at fields 3 in
        All-cons TypedMade a (b ∷ c ∷ []) (part_typed fields 1) (All-cons TypedMade b (c ∷ []) (part_typed fields 2) (All-cons TypedMade c [] (part_typed fields 3) (All-nil TypedMade)))

    masks_typed : All IsMask (mask_at fields 3 ∷ mask_at fields 4 ∷ mask_at fields 5 ∷ [])
    masks_typed =
        let a = mask_at fields 3 in
        let b = mask_at fields 4 in
        let c = mask_at fields 5 in
        All-cons IsMask a (b ∷ c ∷ []) (m 3) (All-cons IsMask b (c ∷ []) (m 4) (All-cons IsMask c [] (m 5) (All-nil IsMask)))

    pub instr_typed : (keyword : Keyword) (row : Instr) → instr_in keyword fields ≡ Some row → TypedInstr row
    instr_typed key.Set row e = subst TypedInstr (some_is e) (u 0, u 1, u 2)
    instr_typed key.Fix row e = subst TypedInstr (some_is e) (u 0, region_typed.0, region_typed.1)
    instr_typed key.Dims row e = subst TypedInstr (some_is e) (u 0, refl, parts_typed, u (length fields - 1))
    instr_typed key.Of row e = subst TypedInstr (some_is e) (u 0, u 1, v 2, u 3)
    instr_typed key.In row e = subst TypedInstr (some_is e) (u 0, u 1, v 2, u 3)
    instr_typed key.At row e = subst TypedInstr (some_is e) (u 0, u 1, v 2, u 3)
    instr_typed key.By row e = subst TypedInstr (some_is e) (u 0, u 1, v 2, u 3)
    instr_typed key.Need row e = subst TypedInstr (some_is e) (u 0, u 1, v 2, u 3)
    instr_typed key.Same row e = subst TypedInstr (some_is e) (u 0, u 1, u 3)
    instr_typed key.Fits row e = subst TypedInstr (some_is e) (u 0, v 1, u 2)
    instr_typed key.Room row e = subst TypedInstr (some_is e) (u 0, u 1)
    instr_typed key.Clear row e = subst TypedInstr (some_is e) (u 0)
    instr_typed key.Loop row e = subst TypedInstr (some_is e) (u 0, u 1)
    instr_typed key.Start row e = subst TypedInstr (some_is e) (u 0)
    instr_typed key.Finish row e = subst TypedInstr (some_is e) (u 0)
    instr_typed key.Wrap row e = subst TypedInstr (some_is e) (u 0, u 1, v 2)
    instr_typed key.Reflect row e = subst TypedInstr (some_is e) (u 0, u 1, v 2)
    instr_typed key.Flood row e = subst TypedInstr (some_is e) (u 0, u 1, u 2, u 3)
    instr_typed key.Part row e = subst TypedInstr (some_is e) (u 0, u 1, u 3, u 4)
    instr_typed key.Scan row e = subst TypedInstr (some_is e) (u 0, u 1, short (number_at fields 3), u 4, m 5)
    instr_typed key.Remap row e = subst TypedInstr (some_is e) (u 0, u 1, u 2, refl, masks_typed)
    instr_typed key.Vote row e = subst TypedInstr (some_is e) (u 0)
    instr_typed key.Fold row e = subst TypedInstr (some_is e) (u 0)
    instr_typed key.TreeVote row e = subst TypedInstr (some_is e) (u 0)
    instr_typed key.TreeFold row e = subst TypedInstr (some_is e) (u 0)
    instr_typed key.Print row e = subst TypedInstr (some_is e) (u 0)
    instr_typed key.Number row e = subst TypedInstr (some_is e) (u 0)
    instr_typed key.Truth row e = subst TypedInstr (some_is e) (u 0)
    instr_typed key.Gather row e = subst TypedInstr (some_is e) (u 1, u 2)
    instr_typed key.Jump row e = subst TypedInstr (some_is e) (u 0)
    instr_typed key.Unless row e = subst TypedInstr (some_is e) (u 0, u 1, u 2)
    instr_typed key.Trap row e = subst TypedInstr (some_is e) (u 1)
    instr_typed key.End row e = subst TypedInstr (some_is e) tt
    instr_typed other row e = absurd cc
