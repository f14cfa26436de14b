-- In the operand of an operator over a region, current regions and arrays are as the text says there.
use Rattle.std.proofs.Common.{◌≡◌, refl, sym, ◌∙◌, ap, subst, ℕ, zero, suc, false, List, length, Option, Some, None}
use Rattle.zpl_region.specs.declared.regions.Region.{Region}
use Rattle.zpl_tree.specs.Syntax.{Expr, Inner}
use Rattle.zpl_names.specs.Kinds.{Rank, Shape}
use Rattle.zpl_names.specs.Shapes.{Over, Shapes, current_at, current_over, inner_shape, shape_within, with_current}
use Rattle.zpl_meaning.specs.Store.{Environment}
use Rattle.zpl_meaning.specs.Context.{Currents, Edge, Mask, Over as MeantOver, with_over}
use Rattle.zpl_meaning.specs.Proper.{HasCurrent, IsArrayRank}
use Rattle.prefix_runs.specs.of_zpl_lowering.Where.{Next, Slotted, Where, slotted_at, with_slotted}
use Rattle.prefix_runs.specs.of_zpl_lowering.Bracket.{Opened, bracket}
use Rattle.prefix_runs.specs.of_zpl_lowering.Slate.{opened_source, source_of, source_rank, under_source}
use Rattle.prefix_runs.specs.of_lowering_runs.Seen.{Spot}
use Rattle.prefix_runs.specs.of_array_runs.Floods.{IsReadableMaskAs}
use Rattle.prefix_runs.specs.Opens.{Opens}
use Rattle.prefix_runs.proofs.UnderLemmas.{slotted_with}
use Rattle.served_places.specs.Told.{IsMaskTold, IsSeenFrom, IsTold, place_of}
use Rattle.served_places.specs.Given.{KnowsGiven}
use Rattle.served_places.proofs.BracketLemmas.{opened_told}
use Rattle.served_places.proofs.CleanLemmas.{one_with, three_with, two_with}
use Rattle.served_places.proofs.PrefixLemmas.{current_told, slots_with, told_with}

-- ---- another current region of a rank

-- there is one then
pub has_with : (currents : Currents) (k : ℕ) (region : Region) → IsArrayRank (Some k)
    → HasCurrent (with_over currents (Some k) (record { region = region; mask = None })) (Some k)
has_with currents (suc zero) region r = refl
has_with currents (suc (suc zero)) region r = refl
has_with currents (suc (suc (suc zero))) region r = refl
has_with currents zero region r = absurd r
has_with currents (suc (suc (suc (suc k)))) region r = absurd r

-- ---- behind a bracket

module _ (w : Where) (environment : Environment) (answer : ℕ) (currents : Currents)
    (edge : Option Edge) (shapes : Shapes) (told : IsTold w shapes)
    (given : KnowsGiven w.setup.known w.scope) (source : Inner) (operand : Expr) (k : ℕ)
    (rank_is : source_rank w source operand ≡ Some k) (is_rank : IsArrayRank (Some k))
    (opens : Opens (place_of w environment answer currents edge) k source) (shape : Shape)
    (shape_is : shape_within w.scope (current_at shapes k) source ≡ Some shape)
    (many : length shape ≡ k) (next : Next) (line : ℕ) where
  abbrev rank : Rank
  rank = source_rank w source operand

  abbrev opened : Opened
  opened = opened_source w next line source operand

  pub source_flood : opened.flood ≡ shape
  source_flood = subst (λ (r : Rank). (bracket w next.slots line
      (slotted_at w.currents r) source).flood ≡ shape) (sym rank_is)
      (opened_told w environment answer currents edge given (current_at shapes k)
      (slotted_at w.currents (Some k)) (current_told w shapes told k is_rank) k false next.slots line
      source shape opens shape_is)

  abbrev inner : Where
  inner = under_source w rank (source_of opened)

  mask_on : (o : Option Slotted) → IsMaskTold w o → IsMaskTold inner o
  mask_on None h = tt
  mask_on (Some one) h = by one.mask h
    where
      by : (m : Option Mask) → IsReadableMaskAs w one m → IsReadableMaskAs inner one m
      by None h = tt
      by (Some mask) h = h

  shapes_are : with_current shapes rank (current_over (inner_shape w.scope shapes rank source) false)
      ≡ with_current shapes (Some k) (Over shape false)
  shapes_are =
      ap (λ (r : Rank). with_current shapes r
      (current_over (inner_shape w.scope shapes r source) false)) rank_is
      ∙ ap (λ (x : Option Shape). with_current shapes (Some k) (current_over x false)) shape_is

  pub source_told : IsTold inner
      (with_current shapes rank (current_over (inner_shape w.scope shapes rank source) false))
  source_told =
      let all = told_with w inner shapes k shape false (source_of opened) is_rank refl
      (ap (λ (r : Rank). with_slotted w.currents r (source_of opened)) rank_is) (λ o h. mask_on o h)
      (slots_with shapes w.currents k shape false (source_of opened) is_rank many source_flood
      told.slots) tt told in
      subst (λ (s : Shapes). IsTold inner s) (sym shapes_are)
      (record {
        slots = all.0;
        one = all.1;
        two = all.2;
        three = all.3;
        arrays = told.arrays;
        vectors = told.vectors;
      })

  pub source_seen : (spots : List Spot) (region : Region) → IsSeenFrom spots w environment currents
      → IsSeenFrom spots inner environment
      (with_over currents rank (record { region = region; mask = None }))
  source_seen spots region h =
      let over : MeantOver = record { region = region; mask = None } in
      record {
        names = h.names;
        one = one_with currents w.currents rank over (source_of opened) h.one;
        two = two_with currents w.currents rank over (source_of opened) h.two;
        three = three_with currents w.currents rank over (source_of opened) h.three;
      }

  pub source_current : (region : Region)
      → HasCurrent (with_over currents rank (record { region = region; mask = None })) (Some k)
  source_current region =
      subst (λ (r : Rank). HasCurrent (with_over currents r (record { region = region; mask = None }))
      (Some k)) (sym rank_is) (has_with currents k region is_rank)

  pub source_slotted : slotted_at inner.currents (Some k) ≡ source_of opened
  source_slotted =
      subst (λ (r : Rank). slotted_at (with_slotted w.currents r (source_of opened)) (Some k)
      ≡ source_of opened) (sym rank_is) (slotted_with w.currents k (source_of opened) is_rank)
