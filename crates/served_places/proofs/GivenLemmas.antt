-- A proper prefix whose ranks agree may be opened.
use Rattle.std.proofs.Common.{◌≡◌, refl, ◌∙◌, ap, arith, ℕ, zero, suc, ◌≤◌, Bool, true}
use Rattle.std.proofs.Common.{false, List, [], ◌∷◌, length, Option, Some, None, option_map}
use Rattle.std.specs.Prelude.{if◌then◌else◌}
use Rattle.zpl_tree.specs.Syntax.{Name, Pre, NamedRegion, Ditto, Expr, Number, Truth, Coord, Named, Shifted, Around, Remap, Call, Paren, Neg, Not, Abs, Pair, Reduce, Scan, Flood, Inner, Rexpr, Dims, Posts, Blank, Star, One, Span, DimTexts, NoDim, ThenDim, Prefix}
use Rattle.zpl_names.specs.Kinds.{Rank, Shape}
use Rattle.zpl_names.specs.Scope.{kind_of}
use Rattle.zpl_names.specs.Ranks.{inner_rank, is_index, mask_rank, region_shape}
use Rattle.zpl_meaning.specs.Store.{Thing, Scalar, ArrayAt, Fixed, Environment, thing_of}
use Rattle.zpl_meaning.specs.Context.{Place}
use Rattle.zpl_meaning.specs.Proper.{IsValue, HasValue, AreProperDims, IsProperName, IsProperInner, IsArrayRank, IsProperPrefix}
use Rattle.zpl_meaning.specs.Scalars.{IsScalarName, IsScalar}
use Rattle.meaning_ranks.specs.Ranked.{ArePresOf, IsInnerOf, IsRankedPrefix}
use Rattle.prefix_runs.specs.of_zpl_lowering.Where.{flood_of}
use Rattle.prefix_runs.specs.of_lowering_runs.Scalars.{IsScalarExpr}
use Rattle.prefix_runs.specs.Opens.{IsGivenRegion, AreGivenPres, AreGivenPosts, OpenDims, OpensName, Opens}
use Rattle.prefix_runs.specs.Under.{OpensPrefix}
use Rattle.prefix_runs.proofs.ShapeLemmas.{flood_length}
use Rattle.served_places.specs.Given.{KnowsGiven, HasSmall, HaveSmallDims, IsSound}

-- ---- bounds

value_scalar : (environment : Environment) (expr : Expr) → HasValue environment expr
    → HasSmall expr → IsScalarExpr expr × IsScalar environment expr
value_scalar environment (Number at value) h s = (s, tt)
value_scalar environment (Truth at value) h s = (tt, tt)
value_scalar environment (Named at name) h s = (tt, by (thing_of environment name.text) h)
  where
    by : (o : Option Thing) → IsValue o → IsScalarName o
    by (Some (Scalar p)) h = tt
    by (Some (Fixed value)) h = tt
    by (Some (ArrayAt p home)) h = h
    by None h = tt
value_scalar environment (Paren at inside) h s = value_scalar environment inside h s
value_scalar environment (Neg at operand) h s = value_scalar environment operand h s
value_scalar environment (Not at operand) h s = value_scalar environment operand h s
value_scalar environment (Abs at operand) h s = value_scalar environment operand h s
value_scalar environment (Pair at op left right) h s =
    let one = value_scalar environment left h.0 s.0 in
    let other = value_scalar environment right h.1 s.1 in
    ((one.0, other.0), (one.1, other.1))
value_scalar environment (Coord at k) h s = absurd h
value_scalar environment (Shifted at name shift) h s = absurd h
value_scalar environment (Around at name shift) h s = absurd h
value_scalar environment (Remap at name indices) h s = absurd h
value_scalar environment (Call at name actuals) h s = absurd h
value_scalar environment (Reduce at operator over operand) h s = absurd h
value_scalar environment (Scan at operator along operand) h s = absurd h
value_scalar environment (Flood at source operand) h s = absurd h

module _ (place : Place) (given : KnowsGiven place.setup.known place.scope) where
  dims_open : (rank : Rank) (dims : DimTexts) → AreProperDims place rank dims → HaveSmallDims dims
      → OpenDims place rank dims
  dims_open rank NoDim h s = tt
  dims_open rank (ThenDim (Blank at) rest) h s = (h.0, dims_open rank rest h.1 s.1)
  dims_open rank (ThenDim (Star at) rest) h s = (tt, dims_open rank rest h.1 s.1)
  dims_open rank (ThenDim (One index) rest) h s =
      (value_scalar place.environment index h.0 s.0, dims_open rank rest h.1 s.1)
  dims_open rank (ThenDim (Span low high) rest) h s = (
    (value_scalar place.environment low h.0.0 s.0.0, value_scalar place.environment high h.0.1 s.0.1),
    dims_open rank rest h.1 s.1,
  )

  pres_given : (rank : ℕ) (pre : List Pre) → ArePresOf place.scope (Some rank) pre
      → AreGivenPres place.setup.known pre
  pres_given rank [] h = tt
  pres_given rank (pre ∷ rest) h =
      (given.directions pre.dir rank h.0, pres_given rank rest h.1)

  name_opens : (index : Bool) (rank : ℕ) (pre : List Pre) (name : Name) (post : Posts)
      → (if index then Some 1 else option_map length (region_shape (kind_of place.scope name)))
      ≡ Some rank → IsProperName index place.environment name
      → ArePresOf place.scope (Some rank) pre → AreGivenPosts place.setup.known post
      → OpensName index place rank pre name post
  name_opens true rank pre name post e h p s = (
    one_is e,
    value_scalar place.environment (Named name.at name) h tt,
  )
    where
      one_is : {a b : ℕ} → Some a ≡ Some b → a ≡ b
      one_is e = cc
  name_opens false rank pre name post e h p s =
      by (region_shape (kind_of place.scope name)) (λ shape f. given.regions name shape f) e
    where
      rank_is : {a b : ℕ} → Some a ≡ Some b → a ≡ b
      rank_is e = cc

      by : (o : Option Shape)
          → ((shape : Shape) → o ≡ Some shape
          → (g : IsGivenRegion place.setup.known name)
          × (flood_of g.region ≡ shape))
          → option_map length o ≡ Some rank → OpensName false place rank pre name post
      by None f e = absurd (let no : ⊥ = cc in no)
      by (Some shape) f e =
          let g = f shape refl in (
            g.0,
            (
              flood_length g.0.region g.0.is g.0.three
                  ∙ ap (λ (bs : List Bool). length bs) g.1 ∙ rank_is e,
              pres_given rank pre p,
              s,
            ),
          )

  rank_from : (rank : ℕ) → IsArrayRank (Some rank) → 1 ≤ rank
  rank_from zero r = absurd r
  rank_from (suc rank) r = omega arith

  rank_to : (rank : ℕ) → IsArrayRank (Some rank) → rank ≤ 3
  rank_to zero r = omega arith
  rank_to (suc zero) r = omega arith
  rank_to (suc (suc zero)) r = omega arith
  rank_to (suc (suc (suc zero))) r = omega arith
  rank_to (suc (suc (suc (suc k)))) r = absurd r

  pub opens : (hint : Rank) (rank : ℕ) (inner : Inner)
      → inner_rank place.scope hint place.prefix inner ≡ Some rank → IsArrayRank (Some rank)
      → IsProperInner place (Some rank) inner → IsInnerOf place.scope (Some rank) inner
      → IsSound place.setup.known inner → Opens place rank inner
  opens hint rank (Rexpr pre (NamedRegion name) post) e r h k s =
      name_opens (is_index place.scope pre name post) rank pre name post e h k.0 s
  opens hint rank (Rexpr pre (Ditto at) post) e r h k s = (h, pres_given rank pre k.0, s)
  opens hint rank (Dims dims) e r h k s =
      (count_is k, rank_from rank r, rank_to rank r, dims_open (Some rank) dims h s)
    where
      count_is : {a b : ℕ} → Some a ≡ Some b → a ≡ b
      count_is e = cc

  pub prefix_opens : (prefix : Prefix) → IsProperPrefix place prefix → IsRankedPrefix place prefix
      → IsSound place.setup.known prefix.region → OpensPrefix prefix place
  prefix_opens prefix h k s =
      by (inner_rank place.scope (mask_rank place.scope prefix.mask) place.prefix prefix.region) refl
      h.2 h.0 k.0.1
    where
      hint : Rank
      hint = mask_rank place.scope prefix.mask

      by : (r : Rank) → inner_rank place.scope hint place.prefix prefix.region ≡ r → IsArrayRank r
          → IsProperInner place r prefix.region → IsInnerOf place.scope r prefix.region
          → OpensPrefix prefix place
      by None e a p i = absurd a
      by (Some rank) e a p i = record {
        rank = rank;
        ranked = e;
        is_rank = a;
        opens = opens hint rank prefix.region e a p i s;
      }
