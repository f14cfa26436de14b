-- What an expression has of its own: the shifts and the copies of the reads at its sites.
use Rattle.std.proofs.Common.{◌≡◌, refl, sym, ap, ap₂, ◌∙◌, subst, arith, append-nil, ℕ, suc, ◌+◌, Bool, true, false, List, [], ◌∷◌, ◌++◌, map, length, Option, Some, None}
use Rattle.std.specs.Prelude.{flat_map, slice_get, sum_by}
use Rattle.std.proofs.lemmas.List.{length-map, map-append}
use Rattle.std.proofs.lemmas.List.Sums.{sum_by-append}
use Rattle.std.proofs.lemmas.Grind.{flat_map-append}
use Rattle.zpl_region.specs.declared.regions.Region.{Region}
use Rattle.zpl_arrays.specs.Around.{copy_shift, copy_storage}
use Rattle.zpl_tree.specs.Syntax.{Name, Expr, Number, Truth, Coord, Named, Shifted as ShiftedExpr, Around, Remap, Call, Paren, Neg, Not, Abs, Pair, Reduce, Scan, Flood, Exprs, NoExpr, ThenExpr, Dir, NoBracket, Bracketed, Program}
use Rattle.zpl_names.specs.Kinds.{Rank}
use Rattle.zpl_names.specs.Ranks.{own_rank, operand_rank, inner_rank}
use Rattle.zpl_names.specs.Sites.{Reach, Site, AtExpr, Operand, whole_rank, over_source, dir_sites, expr_sites, exprs_sites, region_sites}
use Rattle.zpl_names.specs.Expansion.{ExpandedArray, Instance, ShiftedRead, array_named, copies_at, shifted_read, shifts_at}
use Rattle.zpl_binding.specs.Regions.{Known}
use Rattle.zpl_meaning.specs.Context.{Mask}
use Rattle.zpl_meaning.specs.Regions.{vector_in}
use Rattle.zpl_meaning.specs.Store.{Environment, Thing, Scalar, ArrayAt, Fixed, thing_of}
use Rattle.zpl_lowering.specs.Where.{Numbers, Next, Slotted, Stored, Where, slotted_at}
use Rattle.zpl_lowering.specs.Reference.{vector_over}
use Rattle.zpl_lowering.specs.Slate as settle
use Rattle.zpl_lowering.specs.Slate.{Slate, Slates, NoSlate, ThenSlate, Settled, around_slate, named_slate, remap_slate, settled, settled_all, shifted_slate}
use Rattle.zpl_lowering.specs.Hoist.{Free, Hoisted, Shifted, all_hoisted, hoisted, remapping, scanning, shifts_of, stored_element, wrapping}
use Rattle.zpl_lowering.specs.Hoist as hoist
use Rattle.zpl_nums.specs.declared.folds.Fold.{Fold}
use Rattle.stored_boxes.specs.Declared.{declared_home}
use Rattle.stored_boxes.specs.Reads as told
use Rattle.stored_boxes.specs.Reads.{IsArrayThere, IsNoArray, IsReadAs, ReadNothing, ReadArray, copied, copy_shifts, own_shifts}

nothing_after : (f : Shifted → ℕ) (xs : List Shifted) → sum_by f (xs ++ []) ≡ sum_by f xs
nothing_after f xs = omega (arith, sum_by-append f xs [])

-- ---- operators note what their operands do
scanned : (numbers : Numbers) (line : ℕ) (free : Free) (operator : Fold) (along : Option _)
    (over : Slotted) (mask : Option Mask) (operand : Hoisted _) →
    (scanning numbers line free operator along over mask operand).shifts ≡ operand.shifts
scanned numbers line free operator along over None operand = refl
scanned numbers line free operator along over (Some mask) operand = by mask.without
  where
    by : (b : Bool) →
        (hoist.masked_scan numbers line free operator along over operand b
        (hoist.number_of (slice_get numbers.arrays mask.array))).shifts ≡ operand.shifts
    by true = refl
    by false = refl

remapped : (numbers : Numbers) (line : ℕ) (free : Free) (over : Slotted) (found : Option Stored)
    (indices : Hoisted _) →
    (remapping numbers line free over found indices).shifts ≡ indices.shifts
remapped numbers line free over None indices = refl
remapped numbers line free over (Some stored) indices = refl

module _ (program : Program) (known : Known) (number : ExpandedArray → ℕ) (instance : Instance)
    (numbers : Numbers) (environment : Environment)
    (reads : (name : Name) →
    IsReadAs program known number numbers (thing_of environment name.text)
    (array_named program instance name)) where
  abbrev own : ShiftedRead → List Shifted
  own = own_shifts program known number

  abbrev copies : ℕ → List ShiftedRead → List Shifted
  copies = copy_shifts program known number

  abbrev shifts_in : List Site → List ShiftedRead
  shifts_in sites = told.shifts_in program instance sites

  abbrev copies_in : List Site → List ShiftedRead
  copies_in sites = told.copies_in program instance sites

  abbrev IsQuiet : List Site → Type 0
  IsQuiet sites = told.IsQuiet program instance sites

  abbrev IsQuietWithin : Reach → Rank → Expr → Type 0
  IsQuietWithin reach rank expr = told.IsQuietWithin program instance environment reach rank expr

  abbrev AreQuietWithin : Reach → Rank → Exprs → Type 0
  AreQuietWithin reach rank exprs = told.AreQuietWithin program instance environment reach rank exprs

  abbrev IsNoted : ℕ → List Site → List Region → (Free → List Shifted) → Type 0
  IsNoted first sites storages shifts =
      told.IsNoted program known number instance first sites storages shifts

  copies_both : (first : ℕ) (xs ys : List ShiftedRead) →
      copies first (xs ++ ys) ≡ copies first xs ++ copies (first + length xs) ys
  copies_both first [] ys = ap (λ k. copies k ys) (omega arith)
  copies_both first (x ∷ xs) ys =
      let one = shifts_of first
      (copy_shift (declared_home program known x.array.storage) (vector_in known x.shift)) in
      ap (λ rest. one ++ rest)
      (copies_both (suc first) xs ys
      ∙ ap (λ k. copies (suc first) xs ++ copies k ys) (omega arith))
      ∙ regroup one (copies (suc first) xs) (copies (first + length (x ∷ xs)) ys)
    where
      regroup : (a b c : List Shifted) → a ++ (b ++ c) ≡ (a ++ b) ++ c
      regroup [] b c = refl
      regroup (z ∷ a) b c = ap (λ rest. z ∷ rest) (regroup a b c)

  pub noted_both : (first second : ℕ) (xs ys : List Site) (few more : List Region)
      (shifts others : Free → List Shifted) (after : Free → Free) →
      second ≡ first + length few → IsNoted first xs few shifts → IsNoted second ys more others →
      IsNoted first (xs ++ ys) (few ++ more) (λ free. shifts free ++ others (after free))
  noted_both first second xs ys few more shifts others after behind one other = record {
    copied_are = ap₂ (λ a b. a ++ b) one.copied_are other.copied_are
        ∙ sym (map-append (copied program known number) (copies_in xs) (copies_in ys))
        ∙ sym (ap (map (copied program known number))
        (flat_map-append (copies_at program instance) xs ys));
    noted = λ free f. omega (
      arith,
      sum_by-append f (shifts free) (others (after free)),
      one.noted free f,
      other.noted (after free) f,
      ap (λ reads. sum_by f (flat_map own reads))
          (flat_map-append (shifts_at program instance) xs ys),
      ap (sum_by f) (flat_map-append own (shifts_in xs) (shifts_in ys)),
      sum_by-append f (flat_map own (shifts_in xs)) (flat_map own (shifts_in ys)),
      ap (λ reads. sum_by f (copies first reads))
          (flat_map-append (copies_at program instance) xs ys),
      ap (sum_by f) (copies_both first (copies_in xs) (copies_in ys)),
      sum_by-append f (copies first (copies_in xs))
          (copies (first + length (copies_in xs)) (copies_in ys)),
      ap (λ k. sum_by f (copies k (copies_in ys)))
          (behind ∙ ap (λ n. first + n)
          (ap length one.copied_are
          ∙ length-map (copies_in xs) (copied program known number))),
    );
  }

  pub noted_behind : (first : ℕ) (xs ys : List Site) (storages : List Region)
      (shifts : Free → List Shifted) → IsQuiet xs → IsNoted first ys storages shifts →
      IsNoted first (xs ++ ys) storages shifts
  noted_behind first xs ys storages shifts quiet is =
      let moved : shifts_in (xs ++ ys) ≡ shifts_in ys =
      flat_map-append (shifts_at program instance) xs ys
      ∙ ap (λ front. front ++ shifts_in ys) quiet.shifts in
      let round : copies_in (xs ++ ys) ≡ copies_in ys =
      flat_map-append (copies_at program instance) xs ys
      ∙ ap (λ front. front ++ copies_in ys) quiet.copies in
      record {
        copied_are = is.copied_are ∙ sym (ap (map (copied program known number)) round);
        noted = λ free f. omega (
          arith,
          is.noted free f,
          ap (λ reads. sum_by f (flat_map own reads)) moved,
          ap (λ reads. sum_by f (copies first reads)) round,
        );
      }

  noted_as : (first second : ℕ) (sites : List Site) (storages : List Region)
      (shifts : Free → List Shifted) → second ≡ first → IsNoted second sites storages shifts →
      IsNoted first sites storages shifts
  noted_as first second sites storages shifts same is =
      subst (λ k. IsNoted k sites storages shifts) same is

  -- ---- names
  named_none : (slot : Slotted) (line : ℕ) (free : Free) (thing : Option Thing) →
      (hoisted numbers line free (named_slate slot thing)).shifts ≡ []
  named_none slot line free None = refl
  named_none slot line free (Some (Scalar place)) = refl
  named_none slot line free (Some (Fixed value)) = refl
  named_none slot line free (Some (ArrayAt place home)) = by (slice_get numbers.arrays place)
    where
      by : (found : Option Stored) → (stored_element found []).shifts ≡ []
      by None = refl
      by (Some stored) = refl

  shifted_noted : (slot : Slotted) (line : ℕ) (free : Free) (shift : Dir) (thing : Option Thing)
      (found : Option ExpandedArray) → IsReadAs program known number numbers thing found →
      (f : Shifted → ℕ) →
      sum_by f (hoisted numbers line free
      (shifted_slate slot (vector_in known shift) thing)).shifts
      ≡ sum_by f (flat_map own (shifted_read found shift))
  shifted_noted slot line free shift thing found (ReadNothing None none) f = refl
  shifted_noted slot line free shift thing found (ReadNothing (Some (Scalar place)) none) f = refl
  shifted_noted slot line free shift thing found (ReadNothing (Some (Fixed value)) none) f = refl
  shifted_noted slot line free shift thing found (ReadNothing (Some (ArrayAt place home)) none) f =
      absurd none
  shifted_noted slot line free shift thing found (ReadArray place home stored array there is kept) f =
      ap (λ (one : Option Stored). sum_by f (stored_element one (vector_in known shift)).shifts) there
      ∙ ap₂ (λ n storage. sum_by f (shifts_of n (vector_over storage (vector_in known shift)))) is
      kept.1
      ∙ sym (nothing_after f (own (record { array = array; shift = shift })))

  -- what a read that wraps round has
  around_noted : (next : Next) (slot : Slotted) (line : ℕ) (shift : Dir) (thing : Option Thing)
      (found : Option ExpandedArray) → IsReadAs program known number numbers thing found →
      (let one = around_slate next slot (vector_in known shift) thing in
      (one.copies ≡ map (copied program known number) (shifted_read found shift))
      × ((free : Free) (f : Shifted → ℕ) → sum_by f (hoisted numbers line free one.slate).shifts
      ≡ sum_by f (copies next.copies (shifted_read found shift))))
  around_noted next slot line shift thing found (ReadNothing None none) = (refl, λ free f. refl)
  around_noted next slot line shift thing found (ReadNothing (Some (Scalar place)) none) =
      (refl, λ free f. refl)
  around_noted next slot line shift thing found (ReadNothing (Some (Fixed value)) none) =
      (refl, λ free f. refl)
  around_noted next slot line shift thing found (ReadNothing (Some (ArrayAt place home)) none) =
      absurd none
  around_noted next slot line shift thing found
      (ReadArray place home stored array there is kept) = (
        ap (λ (box : Region). copy_storage box (vector_in known shift) ∷ []) kept.0,
        λ free f.
            ap (λ (one : Option Stored). sum_by f (wrapping line one home
            (copy_shift home (vector_in known shift)) next.copies next.slots).shifts) there
            ∙ ap (λ (box : Region). sum_by f
            (shifts_of next.copies (copy_shift box (vector_in known shift)))) kept.0
            ∙ sym (nothing_after f (shifts_of next.copies
            (copy_shift (declared_home program known array.storage) (vector_in known shift)))),
      )

  noted_before : (first : ℕ) (xs ys : List Site) (storages : List Region)
      (shifts : Free → List Shifted) → IsNoted first xs storages shifts → IsQuiet ys →
      IsNoted first (xs ++ ys) storages shifts
  noted_before first xs ys storages shifts is quiet =
      let moved : shifts_in (xs ++ ys) ≡ shifts_in xs =
      flat_map-append (shifts_at program instance) xs ys
      ∙ ap (λ back. shifts_in xs ++ back) quiet.shifts ∙ append-nil (shifts_in xs) in
      let round : copies_in (xs ++ ys) ≡ copies_in xs =
      flat_map-append (copies_at program instance) xs ys
      ∙ ap (λ back. copies_in xs ++ back) quiet.copies ∙ append-nil (copies_in xs) in
      record {
        copied_are = is.copied_are ∙ sym (ap (map (copied program known number)) round);
        noted = λ free f. omega (
          arith,
          is.noted free f,
          ap (λ reads. sum_by f (flat_map own reads)) moved,
          ap (λ reads. sum_by f (copies first reads)) round,
        );
      }

  one_shifted : (first : ℕ) (slot : Slotted) (line : ℕ) (reach : Reach) (rank : Rank) (at : ℕ)
      (name : Name) (shift : Dir) →
      IsNoted first (AtExpr reach rank (ShiftedExpr at name shift) ∷ []) []
      (λ free. (hoisted numbers line free
      (shifted_slate slot (vector_in known shift) (thing_of environment name.text))).shifts)
  one_shifted first slot line reach rank at name shift = record {
    copied_are = refl;
    noted = λ free f. omega (
      arith,
      shifted_noted slot line free shift (thing_of environment name.text)
          (array_named program instance name) (reads name) f,
      ap (λ reads. sum_by f (flat_map own reads))
          (append-nil (shifted_read (array_named program instance name) shift)),
    );
  }

  one_around : (next : Next) (slot : Slotted) (line : ℕ) (reach : Reach) (rank : Rank) (at : ℕ)
      (name : Name) (shift : Dir) →
      (let one = around_slate next slot (vector_in known shift) (thing_of environment name.text) in
      IsNoted next.copies (AtExpr reach rank (Around at name shift) ∷ []) one.copies
      (λ free. (hoisted numbers line free one.slate).shifts))
  one_around next slot line reach rank at name shift =
      let read = shifted_read (array_named program instance name) shift in
      let is = around_noted next slot line shift (thing_of environment name.text)
      (array_named program instance name) (reads name) in
      record {
        copied_are = is.0 ∙ sym (ap (map (copied program known number)) (append-nil read));
        noted = λ free f. omega (
          arith,
          is.1 free f,
          ap (λ reads. sum_by f (copies next.copies reads)) (append-nil read),
        );
      }

  -- ---- expressions
  abbrev IsAt : Where → Type 0
  IsAt w = told.IsAt known environment w

  abbrev Settles : Next → List Site → ℕ → Settled Slate → Type 0
  Settles next sites line one =
      IsNoted next.copies sites one.copies (λ free. (hoisted numbers line free one.slate).shifts)

  mutual
    pub settled_noted : (w : Where) → IsAt w → (line : ℕ) (next : Next) (rank : Rank)
        (reach : Reach) (whole : Rank) (expr : Expr) → IsQuietWithin reach whole expr →
        Settles next (expr_sites reach whole expr) line (settled w line next rank expr)
    settled_noted w here line next rank reach whole (Number at value) quiet =
        record { copied_are = refl; noted = λ free f. omega arith }
    settled_noted w here line next rank reach whole (Truth at value) quiet =
        record { copied_are = refl; noted = λ free f. omega arith }
    settled_noted w here line next rank reach whole (Coord at k) quiet =
        record { copied_are = refl; noted = λ free f. omega arith }
    settled_noted w here line next rank reach whole (Named at name) quiet = record {
      copied_are = refl;
      noted = λ free f. omega (
        arith,
        ap (sum_by f)
            (named_none (slotted_at w.currents rank) line free (thing_of w.environment name.text)),
      );
    }
    settled_noted w here line next rank reach whole (ShiftedExpr at name shift) quiet =
        let slot = slotted_at w.currents rank in
        let sites = AtExpr reach whole (ShiftedExpr at name shift) ∷ dir_sites reach shift in
        subst (λ (k : Known). IsNoted next.copies sites [] (λ free. (hoisted numbers line free
        (shifted_slate slot (vector_in k shift) (thing_of w.environment name.text))).shifts))
        (sym here.known_here)
        (subst (λ (e : Environment). IsNoted next.copies sites [] (λ free. (hoisted numbers line free
        (shifted_slate slot (vector_in known shift) (thing_of e name.text))).shifts))
        (sym here.names_here)
        (noted_before next.copies (AtExpr reach whole (ShiftedExpr at name shift) ∷ [])
        (dir_sites reach shift) [] (λ free. (hoisted numbers line free
        (shifted_slate slot (vector_in known shift) (thing_of environment name.text))).shifts)
        (one_shifted next.copies slot line reach whole at name shift) quiet))
    settled_noted w here line next rank reach whole (Around at name shift) quiet =
        let slot = slotted_at w.currents rank in
        let sites = AtExpr reach whole (Around at name shift) ∷ dir_sites reach shift in
        let one = around_slate next slot (vector_in known shift) (thing_of environment name.text) in
        subst (λ (k : Known). Settles next sites line
        (around_slate next slot (vector_in k shift) (thing_of w.environment name.text)))
        (sym here.known_here)
        (subst (λ (e : Environment). Settles next sites line
        (around_slate next slot (vector_in known shift) (thing_of e name.text)))
        (sym here.names_here)
        (noted_before next.copies (AtExpr reach whole (Around at name shift) ∷ [])
        (dir_sites reach shift) one.copies (λ free. (hoisted numbers line free one.slate).shifts)
        (one_around next slot line reach whole at name shift) quiet))
    settled_noted w here line next rank reach whole (Remap at name indices) quiet =
        let slot = slotted_at w.currents rank in
        let all = settled_all w line next rank indices in
        let later = all_noted w here line next rank reach whole indices quiet.1 in
        by slot all (thing_of w.environment name.text)
        (subst (λ (e : Environment). IsArrayThere (thing_of e name.text)) (sym here.names_here)
        quiet.0) later
      where
        by : (slot : Slotted) (all : Settled Slates) (thing : Option Thing) → IsArrayThere thing →
            IsNoted next.copies (exprs_sites reach whole indices) all.copies
            (λ free. (all_hoisted numbers line free all.slate).shifts) →
            IsNoted next.copies (expr_sites reach whole (Remap at name indices)) all.copies
            (λ free. (hoisted numbers line free (remap_slate slot thing all.slate)).shifts)
        by slot all None there later = absurd there
        by slot all (Some (Scalar place)) there later = absurd there
        by slot all (Some (Fixed value)) there later = absurd there
        by slot all (Some (ArrayAt place home)) there later = record {
          copied_are = later.copied_are;
          noted = λ free f.
              ap (sum_by f) (remapped numbers line free slot (slice_get numbers.arrays place)
              (all_hoisted numbers line free all.slate))
              ∙ later.noted free f;
        }
    settled_noted w here line next rank reach whole (Call at name actuals) quiet = absurd quiet
    settled_noted w here line next rank reach whole (Paren at inside) quiet =
        let later = settled_noted w here line next rank reach whole inside quiet in
        record { copied_are = later.copied_are; noted = later.noted }
    settled_noted w here line next rank reach whole (Neg at operand) quiet =
        let later = settled_noted w here line next rank reach whole operand quiet in
        record { copied_are = later.copied_are; noted = later.noted }
    settled_noted w here line next rank reach whole (Not at operand) quiet =
        let later = settled_noted w here line next rank reach whole operand quiet in
        record { copied_are = later.copied_are; noted = later.noted }
    settled_noted w here line next rank reach whole (Abs at operand) quiet =
        let later = settled_noted w here line next rank reach whole operand quiet in
        record { copied_are = later.copied_are; noted = later.noted }
    settled_noted w here line next rank reach whole (Pair at op left right) quiet =
        let xs = expr_sites reach whole left in
        let ys = expr_sites reach whole right in
        let one = settled w line next rank left in
        let after = settle.behind next one in
        let two = settled w line after rank right in
        let later = noted_both next.copies after.copies xs ys one.copies two.copies
        (λ free. (hoisted numbers line free one.slate).shifts)
        (λ free. (hoisted numbers line free two.slate).shifts)
        (λ free. hoist.behind free (hoisted numbers line free one.slate)) refl
        (settled_noted w here line next rank reach whole left quiet.0)
        (settled_noted w here line after rank reach whole right quiet.1) in
        record { copied_are = later.copied_are; noted = later.noted }
    settled_noted w here line next rank reach whole (Reduce at operator NoBracket operand) quiet =
        let later = settled_noted w here line next (operand_rank w.scope w.prefix operand) reach
        (whole_rank reach Operand operand) operand quiet in
        record { copied_are = later.copied_are; noted = later.noted }
    settled_noted w here line next rank reach whole (Reduce at operator (Bracketed source) operand)
        quiet =
        let over = settle.source_rank w source operand in
        let opened = settle.opened_source w next line source operand in
        let inner : Where = settle.under_source w over (settle.source_of opened) in
        let after : Next = settle.behind next (settle.of_opened opened) in
        let hint = own_rank reach.scope reach.prefix operand in
        let under = inner_rank reach.scope hint reach.prefix source in
        let ys = expr_sites (over_source reach under source) under operand in
        let one = settled inner line after over operand in
        let later = noted_behind next.copies (region_sites reach hint source) ys one.copies
        (λ free. (hoisted numbers line free one.slate).shifts) quiet.0
        (noted_as next.copies after.copies ys one.copies
        (λ free. (hoisted numbers line free one.slate).shifts) (omega arith)
        (settled_noted inner
        (record { known_here = here.known_here; names_here = here.names_here }) line after over
        (over_source reach under source) under operand quiet.1)) in
        record { copied_are = later.copied_are; noted = later.noted }
    settled_noted w here line next rank reach whole (Scan at operator along operand) quiet =
        let over = slotted_at w.currents rank in
        let one = settled w line next rank operand in
        let later = settled_noted w here line next rank reach whole operand quiet in
        record {
          copied_are = later.copied_are;
          noted = λ free f.
              ap (sum_by f) (scanned numbers line free operator along over over.mask
              (hoisted numbers line free one.slate))
              ∙ later.noted free f;
        }
    settled_noted w here line next rank reach whole (Flood at source operand) quiet =
        let over = settle.source_rank w source operand in
        let opened = settle.opened_source w next line source operand in
        let inner : Where = settle.under_source w over (settle.source_of opened) in
        let after : Next = settle.behind next (settle.of_opened opened) in
        let hint = own_rank reach.scope reach.prefix operand in
        let under = inner_rank reach.scope hint reach.prefix source in
        let ys = expr_sites (over_source reach under source) under operand in
        let one = settled inner line after over operand in
        let later = noted_behind next.copies (region_sites reach hint source) ys one.copies
        (λ free. (hoisted numbers line free one.slate).shifts) quiet.0
        (noted_as next.copies after.copies ys one.copies
        (λ free. (hoisted numbers line free one.slate).shifts) (omega arith)
        (settled_noted inner
        (record { known_here = here.known_here; names_here = here.names_here }) line after over
        (over_source reach under source) under operand quiet.1)) in
        record { copied_are = later.copied_are; noted = later.noted }

    pub all_noted : (w : Where) → IsAt w → (line : ℕ) (next : Next) (rank : Rank) (reach : Reach)
        (whole : Rank) (exprs : Exprs) → AreQuietWithin reach whole exprs →
        IsNoted next.copies (exprs_sites reach whole exprs) (settled_all w line next rank exprs).copies
        (λ free. (all_hoisted numbers line free (settled_all w line next rank exprs).slate).shifts)
    all_noted w here line next rank reach whole NoExpr quiet =
        record { copied_are = refl; noted = λ free f. omega arith }
    all_noted w here line next rank reach whole (ThenExpr first rest) quiet =
        let xs = expr_sites reach whole first in
        let ys = exprs_sites reach whole rest in
        let one = settled w line next rank first in
        let after = settle.behind next one in
        let two = settled_all w line after rank rest in
        noted_both next.copies after.copies xs ys one.copies two.copies
        (λ free. (hoisted numbers line free one.slate).shifts)
        (λ free. (all_hoisted numbers line free two.slate).shifts)
        (λ free. hoist.behind free (hoisted numbers line free one.slate)) refl
        (settled_noted w here line next rank reach whole first quiet.0)
        (all_noted w here line after rank reach whole rest quiet.1)
