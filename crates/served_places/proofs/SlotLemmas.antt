-- The slot of a declared region's name has it.
use Rattle.std.proofs.Common.{◌≡◌, refl, ◌∙◌, ap, arith, ℕ, suc, ◌+◌, ◌<◌, Bool, true, false}
use Rattle.std.proofs.Common.{List, [], ◌∷◌, length}
use Rattle.std.specs.Prelude.{cond, find, not, nat_lt, slice_get, Some}
use Rattle.std.specs.List.{position_or_len}
use Rattle.std.proofs.lemmas.Bool.Decides.{nat_tests}
use Rattle.std.specs.Str.{bytes_eq}
use Rattle.zpl_region.specs.declared.regions.Region.{Region}
use Rattle.zpl_region.specs.Region.{IsRegion}
use Rattle.zpl_tree.specs.Syntax.{Name}
use Rattle.zpl_binding.specs.Outcome.{Computed, Gives, outcome_or}
use Rattle.zpl_binding.specs.Regions.{Known, no_region}
use Rattle.prefix_runs.specs.of_zpl_lowering.Bracket.{region_slot}
use Rattle.prefix_runs.specs.Opens.{IsGivenRegion}

-- the place of the first one of a name
found_at : (all : List (Computed Region)) (text : List ℕ) (one : Computed Region)
    → find (λ one. bytes_eq one.name text) all ≡ Some one
    → (position_or_len (λ one. bytes_eq one.name text) all < length all)
    × (slice_get all (position_or_len (λ one. bytes_eq one.name text) all) ≡ Some one)
found_at [] text one e = absurd (let no : ⊥ = cc in no)
found_at (first ∷ rest) text one e = by (bytes_eq first.name text) (found_at rest text one) e
  where
    by : (b : Bool)
        → (find (λ one. bytes_eq one.name text) rest ≡ Some one
        → (position_or_len (λ one. bytes_eq one.name text) rest < length rest)
        × (slice_get rest (position_or_len (λ one. bytes_eq one.name text) rest) ≡ Some one))
        → cond b (Some first) (find (λ one. bytes_eq one.name text) rest) ≡ Some one
        → (cond (not b) (1 + position_or_len (λ one. bytes_eq one.name text) rest) 0
        < length (first ∷ rest))
        × (slice_get (first ∷ rest)
        (cond (not b) (1 + position_or_len (λ one. bytes_eq one.name text) rest) 0) ≡ Some one)
    by true later e = (omega arith, e)
    by false later e =
        let there = later e in
        let below = there.0 in
        let k = position_or_len (λ (one : Computed Region). bytes_eq one.name text) rest in
        (omega (arith, below), ap (slice_get (first ∷ rest)) (one_more k) ∙ there.1)
      where
        one_more : (k : ℕ) → 1 + k ≡ suc k
        one_more k = omega arith

is_less : (m n : ℕ) → m < n → nat_lt m n ≡ true
is_less m n below = grind (arith, nat_tests)

slot_at : (known : Known) (name : Name)
    → position_or_len (λ one. bytes_eq one.name name.text) known.regions < length known.regions
    → region_slot known name ≡ position_or_len (λ one. bytes_eq one.name name.text) known.regions
slot_at known name below =
    let less = is_less
    (position_or_len (λ (one : Computed Region). bytes_eq one.name name.text) known.regions)
    (length known.regions) below in
    rw less refl

pub declared_given : (known : Known) (name : Name) (one : Computed Region) (region : Region)
    → find (λ one. bytes_eq one.name name.text) known.regions ≡ Some one
    → one.outcome ≡ Gives region → IsRegion region → length region.dims ≡ 3
    → IsGivenRegion known name
declared_given known name one region e gives is three =
    let there = found_at known.regions name.text one e in
    record {
      region = region;
      one = one;
      in_slot = ap (slice_get known.regions) (slot_at known name there.0) ∙ there.1;
      outcome = gives;
      named = ap (outcome_or no_region) e ∙ gives;
      is = is;
      three = three;
    }
