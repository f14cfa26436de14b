-- What code has of its own, by the sites of its text: lowered code in parts.
use Rattle.std.proofs.Common.{◌≡◌, ℕ, zero, suc, ◌+◌, List, [], ◌∷◌, ◌++◌, map, length, Some, refl, sym, ap, ap₂, ◌∙◌, subst, arith, append-nil, append_assoc}
use Rattle.std.specs.Prelude.{filter_map, flat_map, slice_get, sum_by}
use Rattle.std.proofs.lemmas.List.{length-map, map-append}
use Rattle.std.proofs.lemmas.List.Elements.{filter_map-append}
use Rattle.std.proofs.lemmas.List.Sums.{sum_by-append}
use Rattle.std.proofs.lemmas.Grind.{flat_map-append}
use Rattle.zpl_arrays.specs.Around.{copy_shift}
use Rattle.zpl_tree.specs.Syntax.{Program}
use Rattle.zpl_names.specs.Expansion.{ExpandedArray, Instance, ShiftedRead, copies_at, instance_sites, shifts_at}
use Rattle.zpl_names.specs.Sites.{CallSite, Site, call_of}
use Rattle.zpl_binding.specs.Regions.{Known}
use Rattle.zpl_meaning.specs.Regions.{vector_in}
use Rattle.row_runs.specs.Structured.{Piece}
use Rattle.flat_form.specs.Row.{Row}
use Rattle.zpl_lowering.specs.Check.{Check}
use Rattle.zpl_lowering.specs.Hoist.{Shifted, shifts_of as shifts_noted}
use Rattle.zpl_lowering.specs.Lowered.{Lowered, behind, joined}
use Rattle.zpl_lowering.specs.Where.{Next}
use Rattle.stored_boxes.specs.Declared.{declared_home, declared_storage}
use Rattle.stored_boxes.specs.Reads.{copied, copies_in, copy_shifts, own_shifts, shifts_in}
use Rattle.program_boxes.specs.Own.{AreRightCalls, AreThere, HasOwn, HaveRoom, StandAt, arrays_of, called_in, copied_of, copies_of, noted_of, shifts_of, storages_of}

-- ---- what stands in lists

pub get_left : {A : Type 0} (xs ys : List A) (i : ℕ) (x : A) → slice_get xs i ≡ Some x →
    slice_get (xs ++ ys) i ≡ Some x
get_left [] ys i x found = let no : ⊥ = cc in absurd no
get_left (y ∷ xs) ys zero x found = found
get_left (y ∷ xs) ys (suc i) x found = get_left xs ys i x found

pub get_right : {A : Type 0} (xs ys : List A) (n i : ℕ) (x : A) → n ≡ length xs + i →
    slice_get ys i ≡ Some x → slice_get (xs ++ ys) n ≡ Some x
get_right [] ys n i x same found = ap (slice_get ys) (omega (arith, same)) ∙ found
get_right (y ∷ xs) ys zero i x same found = let no : ⊥ = omega (arith, same) in absurd no
get_right (y ∷ xs) ys (suc n) i x same found =
    get_right xs ys n i x (omega (arith, same)) found

pub stand_left : (all : List ExpandedArray) (first : ℕ) (xs ys : List ExpandedArray) →
    StandAt all first (xs ++ ys) → StandAt all first xs
stand_left all first xs ys stand i one found = stand i one (get_left xs ys i one found)

pub stand_right : (all : List ExpandedArray) (first second : ℕ) (xs ys : List ExpandedArray) →
    second ≡ first + length xs → StandAt all first (xs ++ ys) → StandAt all second ys
stand_right all first second xs ys same stand i one found =
    ap (slice_get all) (omega (arith, same))
    ∙ stand (length xs + i) one (get_right xs ys (length xs + i) i one refl found)

pub there_both : (all : List ExpandedArray) (xs ys : List ShiftedRead) → AreThere all xs →
    AreThere all ys → AreThere all (xs ++ ys)
there_both all [] ys first rest = rest
there_both all (x ∷ xs) ys first rest = (first.0, there_both all xs ys first.1 rest)

pub right_both : (program : Program) (known : Known) (all : List ExpandedArray)
    (xs ys : List Instance) → AreRightCalls program known all xs →
    AreRightCalls program known all ys → AreRightCalls program known all (xs ++ ys)
right_both program known all [] ys first rest = rest
right_both program known all (x ∷ xs) ys first rest =
    (first.0, right_both program known all xs ys first.1 rest)

pub arrays_both : (xs ys : List Instance) → arrays_of (xs ++ ys) ≡ arrays_of xs ++ arrays_of ys
arrays_both xs ys = flat_map-append (λ call. map (λ binding. binding.array) call.own) xs ys

pub all_shifts_both : (program : Program) (xs ys : List Instance) →
    shifts_of program (xs ++ ys) ≡ shifts_of program xs ++ shifts_of program ys
all_shifts_both program xs ys =
    flat_map-append (λ call. shifts_in program call (instance_sites program call)) xs ys

pub all_copies_both : (program : Program) (xs ys : List Instance) →
    copies_of program (xs ++ ys) ≡ copies_of program xs ++ copies_of program ys
all_copies_both program xs ys =
    flat_map-append (λ call. copies_in program call (instance_sites program call)) xs ys

pub room_left : (all : List ExpandedArray) (least first : ℕ) (sum xs ys : List Instance) →
    sum ≡ xs ++ ys → HaveRoom all least first sum → HaveRoom all least first xs
room_left all least first sum xs ys is room = record {
  more = room.more;
  stand = stand_left all first (arrays_of xs) (arrays_of ys)
      (subst (StandAt all first) (ap arrays_of is ∙ arrays_both xs ys) room.stand);
}

pub room_right : (all : List ExpandedArray) (least first second : ℕ) (sum xs ys : List Instance) →
    sum ≡ xs ++ ys → second ≡ first + length (arrays_of xs) → HaveRoom all least first sum →
    HaveRoom all least second ys
room_right all least first second sum xs ys is same room = record {
  more = omega (arith, same, room.more);
  stand = stand_right all first second (arrays_of xs) (arrays_of ys) same
      (subst (StandAt all first) (ap arrays_of is ∙ arrays_both xs ys) room.stand);
}

module _ (program : Program) (known : Known) (number : ExpandedArray → ℕ) where
  pub copies_both : (first second : ℕ) (xs ys : List ShiftedRead) → second ≡ first + length xs →
      copy_shifts program known number first (xs ++ ys) ≡
      copy_shifts program known number first xs ++ copy_shifts program known number second ys
  copies_both first second [] ys same =
      ap (λ k. copy_shifts program known number k ys) (omega (arith, same))
  copies_both first second (x ∷ xs) ys same =
      let one = shifts_noted first
      (copy_shift (declared_home program known x.array.storage) (vector_in known x.shift)) in
      ap (λ rest. one ++ rest) (copies_both (suc first) second xs ys (omega (arith, same)))
      ∙ sym (append_assoc one (copy_shifts program known number (suc first) xs)
      (copy_shifts program known number second ys))

  pub noted_both : (f : Shifted → ℕ) (first second : ℕ) (sum few more all cs ds : List ShiftedRead)
      →
      sum ≡ few ++ more → all ≡ cs ++ ds → second ≡ first + length cs →
      noted_of program known number f first sum all ≡
      noted_of program known number f first few cs + noted_of program known number f second more ds
  noted_both f first second sum few more all cs ds is are same =
      omega (
        arith,
        ap (λ reads. sum_by f (flat_map (own_shifts program known number) reads)) is,
        ap (sum_by f) (flat_map-append (own_shifts program known number) few more),
        sum_by-append f (flat_map (own_shifts program known number) few)
            (flat_map (own_shifts program known number) more),
        ap (λ reads. sum_by f (copy_shifts program known number first reads)) are,
        ap (sum_by f) (copies_both first second cs ds same),
        sum_by-append f (copy_shifts program known number first cs)
            (copy_shifts program known number second ds),
      )

  pub storages_both : (sum xs ys : List ExpandedArray) → sum ≡ xs ++ ys →
      storages_of program known number sum ≡
      storages_of program known number xs ++ storages_of program known number ys
  storages_both sum xs ys is =
      ap (storages_of program known number) is
      ∙ map-append (λ (array : ExpandedArray). declared_storage program known array.storage) xs ys

  pub copied_both : (sum xs ys : List ShiftedRead) → sum ≡ xs ++ ys →
      copied_of program known number sum ≡
      copied_of program known number xs ++ copied_of program known number ys
  copied_both sum xs ys is =
      ap (copied_of program known number) is ∙ map-append (copied program known number) xs ys

  -- ---- texts

  module _ (instance : Instance) (called : CallSite → List Instance) where
    abbrev shifts : List Site → List ShiftedRead
    shifts sites = shifts_in program instance sites

    abbrev copies : List Site → List ShiftedRead
    copies sites = copies_in program instance sites

    abbrev calls : List Site → List Instance
    calls sites = called_in program known number instance called sites

    -- sites have what two lists of sites do
    pub record IsOf (sites xs ys : List Site) : Type 0 where
      pub shifts_are : shifts sites ≡ shifts xs ++ shifts ys
      pub copies_are : copies sites ≡ copies xs ++ copies ys
      pub calls_are : calls sites ≡ calls xs ++ calls ys

    pub calls_both : (xs ys : List Site) → calls (xs ++ ys) ≡ calls xs ++ calls ys
    calls_both xs ys =
        ap (flat_map called) (filter_map-append call_of xs ys)
        ∙ flat_map-append called (filter_map call_of xs) (filter_map call_of ys)

    pub in_order : (xs ys : List Site) → IsOf (xs ++ ys) xs ys
    in_order xs ys = record {
      shifts_are = flat_map-append (shifts_at program instance) xs ys;
      copies_are = flat_map-append (copies_at program instance) xs ys;
      calls_are = calls_both xs ys;
    }

    -- sites that have nothing
    pub record HaveNothing (sites : List Site) : Type 0 where
      pub no_shifts : shifts sites ≡ []
      pub no_copies : copies sites ≡ []
      pub no_calls : calls sites ≡ []

    pub no_sites : HaveNothing []
    no_sites = record { no_shifts = refl; no_copies = refl; no_calls = refl }

    pub nothing_both : (xs ys : List Site) → HaveNothing xs → HaveNothing ys →
        HaveNothing (xs ++ ys)
    nothing_both xs ys first rest =
        let of = in_order xs ys in
        record {
          no_shifts = of.shifts_are ∙ ap₂ (λ a b. a ++ b) first.no_shifts rest.no_shifts;
          no_copies = of.copies_are ∙ ap₂ (λ a b. a ++ b) first.no_copies rest.no_copies;
          no_calls = of.calls_are ∙ ap₂ (λ a b. a ++ b) first.no_calls rest.no_calls;
        }

    -- sites stand behind some that have nothing, or before them
    pub behind_nothing : (xs ys : List Site) → HaveNothing xs → IsOf (xs ++ ys) [] ys
    behind_nothing xs ys none =
        let of = in_order xs ys in
        record {
          shifts_are = of.shifts_are ∙ ap (λ front. front ++ shifts ys) none.no_shifts;
          copies_are = of.copies_are ∙ ap (λ front. front ++ copies ys) none.no_copies;
          calls_are = of.calls_are ∙ ap (λ front. front ++ calls ys) none.no_calls;
        }

    pub itself : (sites : List Site) → IsOf sites sites []
    itself sites = record {
      shifts_are = sym (append-nil (shifts sites));
      copies_are = sym (append-nil (copies sites));
      calls_are = sym (append-nil (calls sites));
    }

    -- ---- code in parts, where the arrays of its calls have room

    module _ (all : List ExpandedArray) (least : ℕ) where
      abbrev pub Owns : Next → List Site → Lowered → Type 0
      Owns next sites lowered =
          HaveRoom all least next.arrays (calls sites) →
          HasOwn program known number instance called all next sites lowered

      pub nothing_own : (next : Next) (sites : List Site) (lowered : Lowered) → HaveNothing sites →
          lowered.copies ≡ [] → lowered.arrays ≡ [] → lowered.later ≡ [] → lowered.shifts ≡ [] →
          Owns next sites lowered
      nothing_own next sites lowered none no_copies no_arrays no_later no_shifts room = record {
        copies = no_copies ∙ ap (copied_of program known number) (sym none.no_copies);
        arrays = no_arrays
            ∙ ap (λ cs. storages_of program known number (arrays_of cs)) (sym none.no_calls);
        later_are = no_later
            ∙ ap (λ cs. copied_of program known number (copies_of program cs)) (sym none.no_calls);
        shifts = λ f. omega (
          arith,
          ap (sum_by f) no_shifts,
          ap (λ reads. sum_by f (flat_map (own_shifts program known number) reads)) none.no_shifts,
          ap (λ reads. sum_by f (copy_shifts program known number next.copies reads))
              none.no_copies,
          ap (λ cs. noted_of program known number f next.later (shifts_of program cs)
              (copies_of program cs)) none.no_calls,
        );
        right = subst (AreRightCalls program known all) (sym none.no_calls) tt;
      }

      pub joined_own : (code : Piece Row Check) (next : Next) (sites xs ys : List Site)
          (one other : Lowered) → IsOf sites xs ys → Owns next xs one →
          Owns (behind next one) ys other → Owns next sites (joined code one other)
      joined_own code next sites xs ys one other of first rest room =
          let mine = first
          (room_left all least next.arrays (calls sites) (calls xs) (calls ys) of.calls_are room) in
          let many : length one.arrays ≡ length (arrays_of (calls xs)) =
          ap length mine.arrays
          ∙ length-map (arrays_of (calls xs))
          (λ (array : ExpandedArray). declared_storage program known array.storage) in
          let copied_many : length one.copies ≡ length (copies xs) =
          ap length mine.copies ∙ length-map (copies xs) (copied program known number) in
          let later_many : length one.later ≡ length (copies_of program (calls xs)) =
          ap length mine.later_are
          ∙ length-map (copies_of program (calls xs)) (copied program known number) in
          let his = rest
          (room_right all least next.arrays (next.arrays + length one.arrays) (calls sites)
          (calls xs) (calls ys) of.calls_are (ap (λ n. next.arrays + n) many) room) in
          record {
            copies = ap₂ (λ a b. a ++ b) mine.copies his.copies
                ∙ sym (copied_both (copies sites) (copies xs) (copies ys) of.copies_are);
            arrays = ap₂ (λ a b. a ++ b) mine.arrays his.arrays
                ∙ sym (storages_both (arrays_of (calls sites)) (arrays_of (calls xs))
                (arrays_of (calls ys))
                (ap arrays_of of.calls_are ∙ arrays_both (calls xs) (calls ys)));
            later_are = ap₂ (λ a b. a ++ b) mine.later_are his.later_are
                ∙ sym (copied_both (copies_of program (calls sites))
                (copies_of program (calls xs)) (copies_of program (calls ys))
                (ap (copies_of program) of.calls_are
                ∙ all_copies_both program (calls xs) (calls ys)));
            shifts = λ f. omega (
              arith,
              sum_by-append f one.shifts other.shifts,
              mine.shifts f,
              his.shifts f,
              noted_both f next.copies (next.copies + length one.copies) (shifts sites) (shifts xs)
                  (shifts ys) (copies sites) (copies xs) (copies ys) of.shifts_are of.copies_are
                  (ap (λ n. next.copies + n) copied_many),
              noted_both f next.later (next.later + length one.later)
                  (shifts_of program (calls sites)) (shifts_of program (calls xs))
                  (shifts_of program (calls ys)) (copies_of program (calls sites))
                  (copies_of program (calls xs)) (copies_of program (calls ys))
                  (ap (shifts_of program) of.calls_are
                  ∙ all_shifts_both program (calls xs) (calls ys))
                  (ap (copies_of program) of.calls_are
                  ∙ all_copies_both program (calls xs) (calls ys))
                  (ap (λ n. next.later + n) later_many),
            );
            right = subst (AreRightCalls program known all) (sym of.calls_are)
                (right_both program known all (calls xs) (calls ys) mine.right his.right);
          }

      -- the same, with other code
      pub recoded_own : (code : Piece Row Check) (next : Next) (sites : List Site)
          (one : Lowered) → Owns next sites one → Owns next sites (record one { code = code })
      recoded_own code next sites one own room =
          let is = own room in
          record {
            copies = is.copies;
            arrays = is.arrays;
            later_are = is.later_are;
            shifts = is.shifts;
            right = is.right;
          }

      -- behind code that has nothing of its own
      pub behind_own : (code : Piece Row Check) (next : Next) (sites : List Site)
          (one other : Lowered) → one.copies ≡ [] → one.arrays ≡ [] → one.later ≡ [] →
          one.shifts ≡ [] → Owns (behind next one) sites other →
          Owns next sites (joined code one other)
      behind_own code next sites one other no_copies no_arrays no_later no_shifts own =
          joined_own code next sites [] sites one other
          (record { shifts_are = refl; copies_are = refl; calls_are = refl })
          (nothing_own next [] one no_sites no_copies no_arrays no_later no_shifts) own

      -- and before it
      pub before_own : (code : Piece Row Check) (next : Next) (sites : List Site)
          (one other : Lowered) → other.copies ≡ [] → other.arrays ≡ [] → other.later ≡ [] →
          other.shifts ≡ [] → Owns next sites one → Owns next sites (joined code one other)
      before_own code next sites one other no_copies no_arrays no_later no_shifts own =
          joined_own code next sites sites [] one other (itself sites) own
          (nothing_own (behind next one) [] other no_sites no_copies no_arrays no_later no_shifts)

      -- the same code, behind sites that have nothing
      pub silent_own : (next : Next) (xs ys : List Site) (one : Lowered) → HaveNothing xs →
          Owns next ys one → Owns next (xs ++ ys) one
      silent_own next xs ys one none own room =
          let of = behind_nothing xs ys none in
          let is = own
          (record {
            more = room.more;
            stand = subst (λ cs. StandAt all next.arrays (arrays_of cs)) of.calls_are room.stand;
          }) in
          record {
            copies = is.copies ∙ ap (copied_of program known number) (sym of.copies_are);
            arrays = is.arrays
                ∙ ap (λ cs. storages_of program known number (arrays_of cs)) (sym of.calls_are);
            later_are = is.later_are
                ∙ ap (λ cs. copied_of program known number (copies_of program cs))
                (sym of.calls_are);
            shifts = λ f. is.shifts f
                ∙ ap₂ (λ a b. a + b)
                (ap₂ (λ reads round. noted_of program known number f next.copies reads round)
                (sym of.shifts_are) (sym of.copies_are))
                (ap (λ cs. noted_of program known number f next.later (shifts_of program cs)
                (copies_of program cs)) (sym of.calls_are));
            right = subst (AreRightCalls program known all) (sym of.calls_are) is.right;
          }
