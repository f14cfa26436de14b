-- Regions that rows make for slots fit there.
use Rattle.std.proofs.Common.{◌≡◌, refl, sym, ◌∙◌, subst, ap, ℕ, zero, suc, ◌-◌, true}
use Rattle.std.proofs.Common.{List, [], ◌∷◌, length, take, replicate, arith, ℤ, pos}
use Rattle.std.proofs.Common.{length-append, length-take}
use Rattle.std.specs.Prelude.{All, Option, Some, None, option_and_then, slice_get, slice_set}
use Rattle.std.specs.List.{AllZip}
use Rattle.std.proofs.lemmas.Int.{ints}
use Rattle.std.proofs.lemmas.List.{length-replicate}
use Rattle.std.proofs.lemmas.List.Elements.{All-nil, All-cons, All-append, All-head, All-tail, All-replicate}
use Rattle.zpl_region.specs.declared.dims.Dim.{Dim}
use Rattle.zpl_region.specs.declared.dims.Dim.TheVariants as dim
use Rattle.zpl_region.specs.declared.regions.Region.{Region}
use Rattle.zpl_region.specs.Dim.{HasStep}
use Rattle.zpl_region.specs.Region.{components, padding, IsPadded}
use Rattle.zpl_region.specs.Tests.{is_within_limit}
use Rattle.zpl_region.proofs.TestLemmas.{is_within_limit_iff}
use Rattle.node_form.specs.declared.instructions.DimRow.{DimRow}
use Rattle.node_form.specs.declared.instructions.DimRow.TheVariants as part
use Rattle.node_form.specs.declared.instructions.RegionForm.{RegionForm}
use Rattle.node_form.specs.declared.instructions.RegionForm.TheVariants.{Of, Inside, At, By}
use Rattle.node_form.specs.declared.tables.Tables.{Tables}
use Rattle.node_form.specs.Control.{Registers, part_dim, part_dims, region_of, register_value}
use Rattle.node_form.specs.Control.{formed_by}
use Rattle.node_form.specs.Fits.{IsRank}
use Rattle.node_form.specs.Value.{Computed, Gives, Divides, Lacks, and_then, mapped, read}
use Rattle.plan_meaning.specs.of_grid_meaning.State.{IsSlot}
use Rattle.plan_meaning.proofs.of_grid_meaning.RegionLemmas.{HasStep-outside, HasStep-inside, HasStep-moved}
use Rattle.plan_meaning.proofs.of_grid_meaning.RegionLemmas.{HasStep-strided, steps-each, padded-each, padded-behind}
use Rattle.plan_meaning.proofs.of_grid_meaning.RegionLemmas.{length-each}

-- ---- lists side by side
module _ {A B : Type 0} (R : A → B → Type 0) where
  pub zip_back : (xs : List A) (ys : List B) (i : ℕ) (y : B) → AllZip R xs ys
      → slice_get ys i ≡ Some y → (x : A) × (slice_get xs i ≡ Some x) × R x y
  zip_back [] [] i y all is = cc
  zip_back [] (y' ∷ ys) i y all is = absurd all
  zip_back (x ∷ xs) [] i y all is = absurd all
  zip_back (x ∷ xs) (y' ∷ ys) zero y all is =
      let same : y' ≡ y = cc in (x, refl, subst (R x) same all.0)
  zip_back (x ∷ xs) (y' ∷ ys) (suc i) y all is = zip_back xs ys i y all.1 is

  pub zip_there : (xs : List A) (ys : List B) (i : ℕ) (x : A) → AllZip R xs ys
      → slice_get xs i ≡ Some x → (y : B) × (slice_get ys i ≡ Some y) × R x y
  zip_there [] ys i x all is = cc
  zip_there (x' ∷ xs) [] i x all is = absurd all
  zip_there (x' ∷ xs) (y ∷ ys) zero x all is =
      let same : x' ≡ x = cc in (y, refl, subst (λ z. R z y) same all.0)
  zip_there (x' ∷ xs) (y ∷ ys) (suc i) x all is = zip_there xs ys i x all.1 is

  pub zip_set : (xs : List A) (ys : List B) (i : ℕ) (x : A) (y : B) → AllZip R xs ys
      → slice_get xs i ≡ Some x → R x y → AllZip R xs (slice_set ys i y)
  zip_set [] [] i x y all is r = all
  zip_set [] (y' ∷ ys) i x y all is r = absurd all
  zip_set (x' ∷ xs) [] i x y all is r = absurd all
  zip_set (x' ∷ xs) (y' ∷ ys) zero x y all is r =
      let same : x' ≡ x = cc in (subst (λ z. R z y) (sym same) r, all.1)
  zip_set (x' ∷ xs) (y' ∷ ys) (suc i) x y all is r = (all.0, zip_set xs ys i x y all.1 is r)

module _ (code : Tables) where
  pub limited_slot : (rank : ℕ) (region : Region) → is_within_limit region ≡ true → IsRank rank
      → region.rank ≡ rank → length region.dims ≡ 3 → All HasStep region.dims
      → IsPadded region.rank region.dims → IsSlot rank region
  limited_slot rank region is ranked same many steps padded = record {
    ranked = same;
    many = many;
    fits = record {
      rank = subst IsRank (sym same) ranked;
      steps = steps;
      padded = padded;
      limit = (is_within_limit_iff region steps).0 is;
    };
  }

  -- ---- dimensions that are made
  step_at : (dims : List Dim) (i : ℕ) (x : Dim) → All HasStep dims → slice_get dims i ≡ Some x
      → HasStep x
  step_at [] i x all e = cc
  step_at (first ∷ dims) zero x all e =
      let same : first ≡ x = cc in subst HasStep same (All-head HasStep first dims all)
  step_at (first ∷ dims) (suc i) x all e = step_at dims i x (All-tail HasStep first dims all) e

  slot_steps : (registers : Registers) (slot number : ℕ) (region : Option Region) (d : Dim)
      → slice_get registers.slots slot ≡ region → AllZip IsSlot code.slots registers.slots
      → read (option_and_then (λ r. slice_get r.dims number) region) ≡ Gives d → HasStep d
  slot_steps registers slot number None d there slots is = cc
  slot_steps registers slot number (Some region) d there slots is =
      let found = zip_back IsSlot code.slots registers.slots slot region slots there in
      step_at region.dims number d found.2.fits.steps (read_is (slice_get region.dims number) is)
    where
      read_is : (o : Option Dim) → read o ≡ Gives d → o ≡ Some d
      read_is (Some x) e = let same : x ≡ d = cc in ap Some same
      read_is None e = cc

  span_steps : (lo hi : Computed ℤ) (d : Dim)
      → and_then (λ low. mapped (λ high. dim.Range low high (pos 1) low) hi) lo ≡ Gives d
      → HasStep d
  span_steps (Gives low) (Gives high) d is =
      let same : dim.Range low high (pos 1) low ≡ d = cc in subst HasStep same (omega (arith, ints))
  span_steps (Gives low) Divides d is = cc
  span_steps (Gives low) Lacks d is = cc
  span_steps Divides hi d is = cc
  span_steps Lacks hi d is = cc

  part_steps : (registers : Registers) (number : ℕ) (part : DimRow) (d : Dim)
      → AllZip IsSlot code.slots registers.slots → part_dim code registers number part ≡ Gives d
      → HasStep d
  part_steps registers number (part.Span low high) d slots is =
      span_steps (register_value code registers low) (register_value code registers high) d is
  part_steps registers number part.Star d slots is =
      let same : dim.Flood ≡ d = cc in subst HasStep same tt
  part_steps registers number (part.Copied slot) d slots is =
      slot_steps registers slot number (slice_get registers.slots slot) d refl slots is

  record Made (many : ℕ) (dims : List Dim) : Type 0 where
    long : length dims ≡ many
    steps : All HasStep dims

  parts_made : (registers : Registers) (number : ℕ) (parts : List DimRow) (dims : List Dim)
      → AllZip IsSlot code.slots registers.slots → part_dims code registers number parts ≡ Gives dims
      → Made (length parts) dims
  parts_made registers number [] dims slots is =
      let same : [] ≡ dims = cc in
      subst (Made 0) same (record { long = refl; steps = All-nil HasStep })
  parts_made registers number (part ∷ parts) dims slots is =
      by (part_dim code registers number part) (part_dims code registers (suc number) parts) refl
      (λ ds more. parts_made registers (suc number) parts ds slots more) is
    where
      by : (first : Computed Dim) (rest : Computed (List Dim))
          → part_dim code registers number part ≡ first
          → ((ds : List Dim) → rest ≡ Gives ds → Made (length parts) ds)
          → and_then (λ d. mapped (λ ds. d ∷ ds) rest) first ≡ Gives dims
          → Made (length (part ∷ parts)) dims
      by (Gives d) (Gives ds) one more all =
          let same : d ∷ ds ≡ dims = cc in
          let made = more ds refl in
          subst (Made (length (part ∷ parts))) same (record {
            long = omega (arith, made.long);
            steps = All-cons HasStep d ds (part_steps registers number part d slots one) made.steps;
          })
      by (Gives d) Divides one more all = cc
      by (Gives d) Lacks one more all = cc
      by Divides rest one more all = cc
      by Lacks rest one more all = cc

  pub dims_slot : (registers : Registers) (rank : ℕ) (parts : List DimRow) (dims : List Dim)
      → AllZip IsSlot code.slots registers.slots → length parts ≡ 3 → IsRank rank
      → part_dims code registers 0 (take rank parts) ≡ Gives dims
      → is_within_limit (region_of rank dims) ≡ true → IsSlot rank (region_of rank dims)
  dims_slot registers rank parts dims slots three ranked is limit =
      let made = parts_made registers 0 (take rank parts) dims slots is in
      let long : length dims ≡ rank =
      omega (arith, made.long, length-take rank parts, three, ranked.1) in
      limited_slot rank (region_of rank dims) limit ranked refl
      (omega (
        arith,
        length-append dims (replicate (3 - rank) padding),
        length-replicate (3 - rank) padding,
        long,
        ranked.1,
      ))
      (All-append HasStep dims (replicate (3 - rank) padding) made.steps
      (All-replicate HasStep (3 - rank) padding (omega (arith, ints))))
      (padded-behind rank (3 - rank) dims long)

  -- ---- regions that are formed
  pub formed_slot : (rank : ℕ) (form : RegionForm) (shift : List ℤ) (region : Region)
      → IsSlot rank region → is_within_limit (formed_by form shift region) ≡ true
      → IsSlot rank (formed_by form shift region)
  formed_slot rank Of shift region is limit =
      limited_slot rank _ limit (subst IsRank is.ranked is.fits.rank) is.ranked
      (length-each _ (components region.rank shift) region.dims ∙ is.many)
      (steps-each _ HasStep-outside (components region.rank shift) region.dims is.fits.steps)
      (padded-each _ refl region.rank (3 - region.rank) shift region.dims is.fits.padded)
  formed_slot rank Inside shift region is limit =
      limited_slot rank _ limit (subst IsRank is.ranked is.fits.rank) is.ranked
      (length-each _ (components region.rank shift) region.dims ∙ is.many)
      (steps-each _ HasStep-inside (components region.rank shift) region.dims is.fits.steps)
      (padded-each _ refl region.rank (3 - region.rank) shift region.dims is.fits.padded)
  formed_slot rank At shift region is limit =
      limited_slot rank _ limit (subst IsRank is.ranked is.fits.rank) is.ranked
      (length-each _ (components region.rank shift) region.dims ∙ is.many)
      (steps-each _ HasStep-moved (components region.rank shift) region.dims is.fits.steps)
      (padded-each _ refl region.rank (3 - region.rank) shift region.dims is.fits.padded)
  formed_slot rank By shift region is limit =
      limited_slot rank _ limit (subst IsRank is.ranked is.fits.rank) is.ranked
      (length-each _ (components region.rank shift) region.dims ∙ is.many)
      (steps-each _ HasStep-strided (components region.rank shift) region.dims is.fits.steps)
      (padded-each _ refl region.rank (3 - region.rank) shift region.dims is.fits.padded)
