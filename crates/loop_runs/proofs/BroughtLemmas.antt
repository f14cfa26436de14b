-- Behind the exchanges in front of a loop each processor has what its part of the loop reads with a
-- shift.
use Rattle.std.proofs.Common.{◌≡◌, ◌⊎◌, inl, inr, refl, sym, ◌∙◌, ap, subst, ℕ, ◌<◌}
use Rattle.std.proofs.Common.{Bool, true, false, List, [], ◌∷◌, map, All, ℤ, Option, Some, None}
use Rattle.std.specs.Prelude.{if◌then◌else◌, slice_get}
use Rattle.std.specs.Option.{IsSomeAnd}
use Rattle.zpl_region.specs.declared.regions.Region.{Region}
use Rattle.zpl_region.specs.Region.{IsMember}
use Rattle.zpl_arrays.specs.Array.{Array, element}
use Rattle.row_runs.specs.Run.{Does, Effect, Stops, Wrong}
use Rattle.row_runs.specs.Straight.{Every}
use Rattle.node_form.specs.declared.arrays.ArrayRow.{ArrayRow}
use Rattle.node_form.specs.declared.arrays.Item.{Item}
use Rattle.node_form.specs.declared.instructions.Instr.TheVariants as instr
use Rattle.node_form.specs.declared.members.Member as number
use Rattle.node_form.specs.declared.tables.Tables.{Tables}
use Rattle.node_form.specs.Fits.{FitsInstr, FitsMember}
use Rattle.code_parts.specs.Early.{is_roomy}
use Rattle.grid_meaning.specs.Local.{processors}
use Rattle.grid_meaning.specs.Place.{held_value, moved_by, own_part, value_at}
use Rattle.grid_meaning.specs.State.{IsStore}
use Rattle.flat_form.specs.Act.{act}
use Rattle.flat_form.specs.Loop.{loop_stands, looped, tree_does}
use Rattle.flat_form.specs.Right.{are_settled}
use Rattle.flat_form.specs.Row.{Loop, Member, group_coded, inlined, member_inlined}
use Rattle.flat_form.specs.Whole.{Whole}
use Rattle.nest_meaning.specs.Tree.{nest_of}
use Rattle.comm_needs.specs.Needs.{needs_of}
use Rattle.needs_runs.specs.of_plan_meaning.Abreast.{Abreast}
use Rattle.needs_runs.specs.Agree.{HasLayout}
use Rattle.needs_runs.specs.Holds.{Holds, lies_in_own}
use Rattle.needs_runs.specs.Sharable.{IsSharable}
use Rattle.needs_runs.proofs.BringLemmas.{value_held}
use Rattle.needs_runs.proofs.NeedRows.{HasBrought, IsNeeded}
use Rattle.needs_runs.proofs.PlaceLemmas.{held_there}
use Rattle.needs_runs.proofs.SlotLemmas.{zip_there}
use Rattle.loop_runs.specs.Brought.{BroughtNeeds, BringsNeeds, HasOwnersValue}
use Rattle.loop_runs.proofs.LoopLemmas.{brought, inlined_is, needed_all}

every_two : {X : Type 0} (P Q R : X → Type 0) → ((x : X) → P x → Q x → R x) → (xs : List X)
    → Every P xs → Every Q xs → Every R xs
every_two P Q R both [] one other = tt
every_two P Q R both (x ∷ xs) one other =
    (both x one.0 other.0, every_two P Q R both xs one.1 other.1)

-- ---- one place
module _ (code : Tables) (layout : HasLayout code) (links : Option ℕ)
    (roomy : is_roomy links 0 ≡ true) (n : ℕ) (whole : Whole) (region : Region) (next : Abreast)
    (holds : Holds code whole next) where
  -- a value of the whole array: the owner has it
  owned : (array : ℕ) (place : List ℤ) (store : Array) (value : ℤ)
      → slice_get whole.stores array ≡ Some store → held_value place store ≡ Some value
      → (row : ArrayRow) → slice_get code.arrays array ≡ Some row → (q : ℕ) → q < processors code
      → lies_in_own code q row place ≡ true
      → value_at (next.shares q).stores array place ≡ Some value
  owned array place store value here is row there q below lies =
      let own = holds.own q below in
      let mine = zip_there (IsStore code q) code.arrays (next.shares q).stores array row own.parts.stores there in
      value_held (next.shares q).stores array mine.0 place mine.1
      ∙ (own.arrays array row store mine.0 there here mine.1).has place value lies is

  pub item_brought : (item : Item) → IsNeeded code layout links roomy n whole region item
      → HasBrought code layout links roomy n whole region next item → (p : ℕ) → p < processors code
      → (t : List ℤ) → IsMember (own_part code p region) t
      → HasOwnersValue code whole next p item.array (moved_by item.shift t)
  item_brought item needed has p below t member =
      let place = moved_by item.shift t in
      let value = element needed.store place in
      let is : held_value place needed.store ≡ Some value =
      held_there place needed.store (needed.places p below t member) in
      let whole_has : value_at whole.stores item.array place ≡ Some value =
      value_held whole.stores item.array needed.store place needed.held_whole ∙ is in record {
        value = value;
        whole_has = whole_has;
        has = has p below t member ∙ whole_has;
        owner_has = owned item.array place needed.store value needed.held_whole is;
      }

-- ---- a loop
module _ (code : Tables) (layout : HasLayout code) (sharable : IsSharable code) (links : Option ℕ)
    (roomy : is_roomy links 0 ≡ true) (n slot group : ℕ) (rank : ℕ)
    (has_slot : slice_get code.slots slot ≡ Some rank) (members : List number.Member)
    (there : slice_get code.groups group ≡ Some members)
    (fit : All (FitsMember code rank) members) (whole : Whole) (all : Abreast)
    (holds : Holds code whole all) where
  abbrev G : List Member
  G = map (member_inlined code) members

  abbrev Flat : Effect Whole
  Flat = act code n (Loop slot G) whole

  abbrev Goal : Type 0
  Goal = (Flat ≡ Does (Stops Wrong)) ⊎ BroughtNeeds code links n slot group whole all

  with_region : (region : Region) → slice_get whole.slots slot ≡ Some region
      → are_settled whole (Loop slot G) ≡ true → loop_stands code whole region G ≡ true
      → BroughtNeeds code links n slot group whole all
  with_region region in_slot settled stands =
      let behind = brought code layout sharable links roomy n slot group rank has_slot members there
      fit whole all holds region in_slot settled stands in record {
        next = behind.next;
        goes = behind.goes;
        holds = behind.holds;
        region = region;
        in_slot = in_slot;
        has = every_two (IsNeeded code layout links roomy n whole region)
            (HasBrought code layout links roomy n whole region behind.next) _
            (item_brought code layout links roomy n whole region behind.next behind.holds)
            (needs_of code slot group)
            (needed_all code layout sharable links roomy n slot group rank has_slot members there fit
            whole all holds region in_slot settled stands)
            behind.has;
      }

  goal : Goal
  goal = by_settled (are_settled whole (Loop slot G)) refl
    where
      by_stands : (region : Region) → slice_get whole.slots slot ≡ Some region
          → are_settled whole (Loop slot G) ≡ true
          → Flat ≡ Does (looped code n G whole (Some region))
          → (b : Bool) → loop_stands code whole region G ≡ b → Goal
      by_stands region in_slot settled is false stands =
          inl (is ∙ ap (λ b. Does (if b then tree_does n region G whole (nest_of (group_coded 0 G))
          else Stops Wrong)) stands)
      by_stands region in_slot settled is true stands = inr (with_region region in_slot settled stands)

      by_slot : are_settled whole (Loop slot G) ≡ true
          → Flat ≡ Does (looped code n G whole (slice_get whole.slots slot))
          → (o : Option Region) → slice_get whole.slots slot ≡ o → Goal
      by_slot settled is None in_slot = inl (is ∙ ap (λ o. Does (looped code n G whole o)) in_slot)
      by_slot settled is (Some region) in_slot =
          by_stands region in_slot settled (is ∙ ap (λ o. Does (looped code n G whole o)) in_slot)
          (loop_stands code whole region G) refl

      by_settled : (b : Bool) → are_settled whole (Loop slot G) ≡ b → Goal
      by_settled false settled =
          inl (ap (λ b. if b then Does (looped code n G whole (slice_get whole.slots slot))
          else Does (Stops Wrong)) settled)
      by_settled true settled =
          by_slot settled
          (ap (λ b. if b then Does (looped code n G whole (slice_get whole.slots slot))
          else Does (Stops Wrong)) settled)
          (slice_get whole.slots slot) refl

  pub loop_brought : (act code n (inlined code (instr.Loop slot group)) whole ≡ Does (Stops Wrong))
      ⊎ BroughtNeeds code links n slot group whole all
  loop_brought =
      subst (λ row. (act code n row whole ≡ Does (Stops Wrong))
      ⊎ BroughtNeeds code links n slot group whole all)
      (sym (inlined_is code layout sharable links roomy n slot group rank has_slot members there fit
      whole all holds)) goal

pub needs_are_brought : (code : Tables) → HasLayout code → IsSharable code → (links : Option ℕ)
    → is_roomy links 0 ≡ true → (n slot group : ℕ) → FitsInstr code (instr.Loop slot group)
    → BringsNeeds code links n slot group
needs_are_brought code layout sharable links roomy n slot group fits whole all holds =
    by (slice_get code.groups group) refl fits.fit.1
  where
    by : (o : Option (List number.Member)) → slice_get code.groups group ≡ o
        → IsSomeAnd o (All (FitsMember code fits.rank))
        → (act code n (inlined code (instr.Loop slot group)) whole ≡ Does (Stops Wrong))
        ⊎ BroughtNeeds code links n slot group whole all
    by None there fit = absurd fit
    by (Some members) there fit =
        loop_brought code layout sharable links roomy n slot group fits.rank fits.fit.0 members there
        fit whole all holds
