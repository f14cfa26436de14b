-- The regions that are computed have the rank and the flood dimensions that the text says.
use Rattle.std.proofs.Common.{◌≡◌, ℕ, zero, suc, ◌-◌, ◌≤◌, Bool, true, false, cond, ℤ, pos}
use Rattle.std.proofs.Common.{List, [], ◌∷◌, length, Option, Some, None, refl, sym, ap, ◌∙◌, subst}
use Rattle.std.proofs.Common.{arith, if◌then◌else◌}
use Rattle.std.specs.Prelude.{int_lt, slice_index_or}
use Rattle.zpl_region.specs.declared.dims.Dim.{Dim}
use Rattle.zpl_region.specs.declared.dims.Dim.TheVariants.{Range, Flood}
use Rattle.zpl_region.specs.declared.regions.Region.{Region}
use Rattle.zpl_region.specs.Dim.{dim_outside_of, dim_inside_of, dim_moved, dim_strided}
use Rattle.zpl_region.specs.Hull.{all_from}
use Rattle.zpl_region.specs.Region.{dim_at, components, each, formed, outside_of, inside_of}
use Rattle.zpl_region.specs.Region.{moved, strided}
use Rattle.zpl_region.specs.Tests.{is_within_limit}
use Rattle.meaning_runs.specs.of_zpl_tree.Syntax.{Pre, Posts, NoPost, ThenPost, DimText, Blank, Star, One}
use Rattle.meaning_runs.specs.of_zpl_tree.Syntax.{Span, DimTexts, NoDim, ThenDim}
use Rattle.meaning_runs.specs.of_zpl_names.Kinds.{Shape}
use Rattle.meaning_runs.specs.of_zpl_names.Shapes.{Current, Absent, dim_of_current, dim_shape, with_dim, dims_shape}
use Rattle.meaning_runs.specs.of_zpl_binding.Outcome.{BindFault, Outcome, Gives, Fails, and_then}
use Rattle.meaning_runs.specs.of_zpl_binding.Outcome as bound
use Rattle.meaning_runs.specs.of_zpl_binding.Constants.{value_of}
use Rattle.meaning_runs.specs.of_zpl_binding.Vectors.{dir_of}
use Rattle.meaning_runs.specs.of_zpl_binding.Regions.{Known, dims_of, region_over, limited, dim_of, each_dim_of}
use Rattle.meaning_runs.specs.of_zpl_binding.Regions.{spanned, formed_by, behind, before}
use Rattle.meaning_runs.specs.of_zpl_meaning.Computed.{Computed, both_then, computed_then}
use Rattle.meaning_runs.specs.of_zpl_meaning.Computed as run
use Rattle.meaning_runs.specs.of_zpl_meaning.Store.{Environment, Store}
use Rattle.meaning_runs.specs.of_zpl_meaning.Value.{value_of as value_in}
use Rattle.meaning_runs.specs.of_zpl_meaning.Regions.{computed_of, dim_in, dims_in, span_in}
use Rattle.meaning_ranks.specs.Shaped.{is_flood, AreFloods, IsShaped}

-- ---- forms

abbrev IsKeeping : (ℤ → Dim → Dim) → Type 0
IsKeeping form = (d : ℤ) (dim : Dim) → is_flood (form d dim) ≡ is_flood dim

chosen_range : (a b : Bool) (one two three : Dim) → is_flood one ≡ false → is_flood two ≡ false
    → is_flood three ≡ false → is_flood (cond a one (cond b two three)) ≡ false
chosen_range true b one two three h k j = h
chosen_range false true one two three h k j = k
chosen_range false false one two three h k j = j

outside_keeps : IsKeeping dim_outside_of
outside_keeps d Flood = refl
outside_keeps d (Range lo hi step align) =
    chosen_range (int_lt (pos 0) d) (int_lt d (pos 0)) _ _ _ refl refl refl

inside_keeps : IsKeeping dim_inside_of
inside_keeps d Flood = refl
inside_keeps d (Range lo hi step align) =
    chosen_range (int_lt (pos 0) d) (int_lt d (pos 0)) _ _ _ refl refl refl

strided_keeps : IsKeeping dim_strided
strided_keeps d Flood = refl
strided_keeps d (Range lo hi step align) =
    chosen_range (int_lt (pos 0) d) (int_lt d (pos 0)) _ _ _ refl refl refl

moved_keeps : IsKeeping dim_moved
moved_keeps d Flood = refl
moved_keeps d (Range lo hi step align) = refl

each_keeps : (form : ℤ → Dim → Dim) → IsKeeping form → (v : List ℤ) (dims : List Dim)
    (shape : Shape) → AreFloods shape dims → AreFloods shape (each form v dims)
each_keeps form keeps v dims [] h = tt
each_keeps form keeps [] dims (flood ∷ shape) h = h
each_keeps form keeps (d ∷ v) [] (flood ∷ shape) h = h
each_keeps form keeps (d ∷ v) (dim ∷ dims) (flood ∷ shape) h =
    (keeps d dim ∙ h.0, each_keeps form keeps v dims shape h.1)

formed_keeps : (form : ℤ → Dim → Dim) → IsKeeping form → (d : List ℤ) (region : Region)
    (shape : Shape) → IsShaped shape region → IsShaped shape (formed form d region)
formed_keeps form keeps d region shape h = record {
  rank = h.rank;
  floods = each_keeps form keeps (components region.rank d) region.dims shape h.floods;
}

-- ---- outcomes, and computations in a run

abbrev pub Fits : Option Shape → Outcome Region → Type 0
Fits None outcome = Unit {0}
Fits (Some shape) (Gives region) = IsShaped shape region
Fits (Some shape) (Fails fault) = Unit {0}

abbrev pub FitsIn : Option Shape → Computed Region → Type 0
FitsIn None computed = Unit {0}
FitsIn (Some shape) (run.Gives region) = IsShaped shape region
FitsIn (Some shape) (run.Traps kind) = Unit {0}

limited_fits : (shape : Shape) (region : Region) → IsShaped shape region
    → Fits (Some shape) (limited region)
limited_fits shape region h = by (is_within_limit region)
  where
    by : (b : Bool) → Fits (Some shape) (cond b (Gives region) (Fails bound.RegionLimit))
    by true = h
    by false = tt

form_fits : (form : List ℤ → Region → Region) (shape : Option Shape) (vector : Outcome (List ℤ))
    (region : Outcome Region)
    → ((d : List ℤ) (r : Region) (s : Shape) → IsShaped s r → IsShaped s (form d r))
    → Fits shape region → Fits shape (formed_by form vector region)
form_fits form None vector region keeps h = tt
form_fits form (Some shape) vector (Fails fault) keeps h = tt
form_fits form (Some shape) (Fails fault) (Gives region) keeps h = tt
form_fits form (Some shape) (Gives d) (Gives region) keeps h =
    limited_fits shape (form d region) (keeps d region shape h)

behind_fits : (post : Posts) (known : Known) (shape : Option Shape) (region : Outcome Region)
    → Fits shape region → Fits shape (behind known region post)
behind_fits NoPost known shape region h = h
behind_fits (ThenPost stride dir rest) known shape region h =
    behind_fits rest known shape _
    (form_fits (if stride then strided else moved) shape (dir_of known.values known.directions dir)
    region (by stride) h)
  where
    by : (b : Bool) (d : List ℤ) (r : Region) (s : Shape) → IsShaped s r
        → IsShaped s ((if b then strided else moved) d r)
    by true d r s k = formed_keeps dim_strided strided_keeps d r s k
    by false d r s k = formed_keeps dim_moved moved_keeps d r s k

before_fits : (pre : List Pre) (known : Known) (shape : Option Shape) (region : Outcome Region)
    → Fits shape region → Fits shape (before known pre region)
before_fits [] known shape region h = h
before_fits (pre ∷ rest) known shape region h =
    form_fits (if pre.outside then outside_of else inside_of) shape _ (before known rest region)
    (by pre.outside) (before_fits rest known shape region h)
  where
    by : (b : Bool) (d : List ℤ) (r : Region) (s : Shape) → IsShaped s r
        → IsShaped s ((if b then outside_of else inside_of) d r)
    by true d r s k = formed_keeps dim_outside_of outside_keeps d r s k
    by false d r s k = formed_keeps dim_inside_of inside_keeps d r s k

-- both
pub forms_fit : (known : Known) (pre : List Pre) (post : Posts) (shape : Option Shape)
    (region : Outcome Region) → Fits shape region
    → Fits shape (before known pre (behind known region post))
forms_fit known pre post shape region h =
    before_fits pre known shape (behind known region post)
    (behind_fits post known shape region h)

pub posts_fit : (known : Known) (post : Posts) (shape : Option Shape) (region : Outcome Region)
    → Fits shape region → Fits shape (behind known region post)
posts_fit known post shape region h = behind_fits post known shape region h

pub computed_fits : (shape : Option Shape) (outcome : Outcome Region) → Fits shape outcome
    → FitsIn shape (computed_of outcome)
computed_fits None outcome h = tt
computed_fits (Some shape) (Gives region) h = h
computed_fits (Some shape) (Fails bound.BadConstant) h = tt
computed_fits (Some shape) (Fails bound.RegionLimit) h = tt
computed_fits (Some shape) (Fails bound.DirectionLimit) h = tt
computed_fits (Some shape) (Fails bound.UnknownConfig) h = tt
computed_fits (Some shape) (Fails bound.ConfigType) h = tt
computed_fits (Some shape) (Fails bound.TwiceSet) h = tt

-- ---- dimensions

-- as many as the shape has, and flood where it is
abbrev Match : Option Shape → List Dim → Type 0
Match None dims = Unit {0}
Match (Some shape) dims = AreFloods shape dims × (length dims ≡ length shape)

next_matches : (shape : Option Shape) (flood : Option Bool) (dim : Dim) (dims : List Dim)
    → ((b : Bool) → flood ≡ Some b → is_flood dim ≡ b) → Match shape dims
    → Match (with_dim flood shape) (dim ∷ dims)
next_matches None None dim dims e h = tt
next_matches None (Some b) dim dims e h = tt
next_matches (Some shape) None dim dims e h = tt
next_matches (Some shape) (Some b) dim dims e h = ((e b refl, h.0), ap suc h.1)

dims_of_floods : (n : ℕ) (dims : List Dim) (shape : Shape) → length shape ≤ n
    → AreFloods shape dims → AreFloods shape (dims_of n dims)
dims_of_floods n dims [] le h = tt
dims_of_floods zero dims (flood ∷ shape) le h = absurd (omega (arith, le))
dims_of_floods (suc n) [] (flood ∷ shape) le h = absurd h
dims_of_floods (suc n) (dim ∷ dims) (flood ∷ shape) le h =
    (h.0, dims_of_floods n dims shape (omega (arith, le)) h.1)

abbrev pub IsSmall : Option Shape → Type 0
IsSmall None = Unit {0}
IsSmall (Some shape) = length shape ≤ 3

region_fits : (shape : Option Shape) (dims : List Dim) → IsSmall shape → Match shape dims
    → Fits shape (limited (region_over dims))
region_fits None dims le h = tt
region_fits (Some shape) dims le h =
    limited_fits shape (region_over dims) (record {
      rank = h.1;
      floods = dims_of_floods 3 dims shape le h.0;
    })

-- ---- brackets of declarations

abbrev MatchOf : Option Shape → Outcome (List Dim) → Type 0
MatchOf shape (Gives dims) = Match shape dims
MatchOf shape (Fails fault) = Unit {0}

both_match : (shape : Option Shape) (flood : Option Bool) (first : Outcome Dim)
    (rest : Outcome (List Dim))
    → ((dim : Dim) → first ≡ Gives dim → (b : Bool) → flood ≡ Some b → is_flood dim ≡ b)
    → MatchOf shape rest
    → MatchOf (with_dim flood shape)
    (and_then first (λ dim. and_then rest (λ dims. Gives (dim ∷ dims))))
both_match shape flood (Fails fault) rest e h = tt
both_match shape flood (Gives dim) (Fails fault) e h = tt
both_match shape flood (Gives dim) (Gives dims) e h =
    next_matches shape flood dim dims (e dim refl) h

dim_matches : (dim : DimText) (known : Known) (k : ℕ) (found : Dim) → dim_of known dim ≡ Gives found
    → (b : Bool) → dim_shape Absent k dim ≡ Some b → is_flood found ≡ b
dim_matches (Blank at) known k found e b s = cc
dim_matches (Star at) known k found e b s = by e s
  where
    by : Gives Flood ≡ Gives found → Some true ≡ Some b → is_flood found ≡ b
    by e s = cc
dim_matches (One index) known k found e b s = by (value_of known.values index) e
  where
    by : (value : Outcome ℤ) → and_then value (λ v. Gives (all_from v v)) ≡ Gives found
        → is_flood found ≡ b
    by (Gives v) e = cc
    by (Fails fault) e = cc
dim_matches (Span low high) known k found e b s =
    by (value_of known.values low) (value_of known.values high) e
  where
    by : (one other : Outcome ℤ) → and_then one (λ first. and_then other (λ last.
        Gives (all_from first last))) ≡ Gives found → is_flood found ≡ b
    by (Gives v) (Gives w) e = cc
    by (Gives v) (Fails fault) e = cc
    by (Fails fault) other e = cc

dims_match : (dims : DimTexts) (known : Known) (k : ℕ)
    → MatchOf (dims_shape Absent k dims) (each_dim_of known dims)
dims_match NoDim known k = (tt, refl)
dims_match (ThenDim first rest) known k =
    both_match (dims_shape Absent (suc k) rest) (dim_shape Absent k first) (dim_of known first)
    (each_dim_of known rest) (dim_matches first known k) (dims_match rest known (suc k))

pub span_fits : (dims : DimTexts) (known : Known) → IsSmall (dims_shape Absent 0 dims)
    → Fits (dims_shape Absent 0 dims) (spanned known dims)
span_fits dims known le = by (each_dim_of known dims) (dims_match dims known 0)
  where
    failed : (shape : Option Shape) (fault : BindFault) → Fits shape (Fails fault)
    failed None fault = tt
    failed (Some shape) fault = tt

    by : (outcome : Outcome (List Dim)) → MatchOf (dims_shape Absent 0 dims) outcome
        → Fits (dims_shape Absent 0 dims) (and_then outcome (λ all. limited (region_over all)))
    by (Gives all) h = region_fits (dims_shape Absent 0 dims) all le h
    by (Fails fault) h = failed (dims_shape Absent 0 dims) fault

-- ---- brackets of a run

-- a current region is flood where it is told to be
abbrev pub IsToldFlood : Current → Region → Type 0
IsToldFlood current region =
    (k : ℕ) (b : Bool) → dim_of_current current k ≡ Some b
    → is_flood (slice_index_or region.dims k Flood) ≡ b

abbrev MatchIn : Option Shape → Computed (List Dim) → Type 0
MatchIn shape (run.Gives dims) = Match shape dims
MatchIn shape (run.Traps kind) = Unit {0}

both_match_in : (shape : Option Shape) (flood : Option Bool) (first : Computed Dim)
    (rest : Computed (List Dim))
    → ((dim : Dim) → first ≡ run.Gives dim → (b : Bool) → flood ≡ Some b → is_flood dim ≡ b)
    → MatchIn shape rest
    → MatchIn (with_dim flood shape) (both_then first rest (λ dim dims. run.Gives (dim ∷ dims)))
both_match_in shape flood (run.Traps kind) rest e h = tt
both_match_in shape flood (run.Gives dim) (run.Traps kind) e h = tt
both_match_in shape flood (run.Gives dim) (run.Gives dims) e h =
    next_matches shape flood dim dims (e dim refl) h

dim_matches_in : (dim : DimText) (environment : Environment) (store : Store) (current : Current)
    (region : Region) (k : ℕ) (found : Dim) → IsToldFlood current region
    → dim_in environment store (dim_at region (suc k)) dim ≡ run.Gives found
    → (b : Bool) → dim_shape current k dim ≡ Some b → is_flood found ≡ b
dim_matches_in (Blank at) environment store current region k found told e b s =
    subst (λ d. is_flood d ≡ b) (same e)
    (subst (λ j. is_flood (slice_index_or region.dims j Flood) ≡ b) (sym less) (told k b s))
  where
    less : suc k - 1 ≡ k
    less = omega arith

    same : run.Gives (dim_at region (suc k)) ≡ run.Gives found → dim_at region (suc k) ≡ found
    same e = cc
dim_matches_in (Star at) environment store current region k found told e b s = by e s
  where
    by : run.Gives Flood ≡ run.Gives found → Some true ≡ Some b → is_flood found ≡ b
    by e s = cc
dim_matches_in (One index) environment store current region k found told e b s =
    by (value_in environment store index) e
  where
    by : (value : Computed ℤ)
        → computed_then value (λ v. run.Gives (all_from v v)) ≡ run.Gives found → is_flood found ≡ b
    by (run.Gives v) e = cc
    by (run.Traps kind) e = cc
dim_matches_in (Span low high) environment store current region k found told e b s =
    by (value_in environment store low) (value_in environment store high) e
  where
    by : (one other : Computed ℤ) → both_then one other (λ first last.
        run.Gives (all_from first last)) ≡ run.Gives found → is_flood found ≡ b
    by (run.Gives v) (run.Gives w) e = cc
    by (run.Gives v) (run.Traps kind) e = cc
    by (run.Traps kind) other e = cc

dims_match_in : (dims : DimTexts) (environment : Environment) (store : Store) (current : Current)
    (region : Region) (k : ℕ) → IsToldFlood current region
    → MatchIn (dims_shape current k dims) (dims_in environment store region (suc k) dims)
dims_match_in NoDim environment store current region k told = (tt, refl)
dims_match_in (ThenDim first rest) environment store current region k told =
    both_match_in (dims_shape current (suc k) rest) (dim_shape current k first)
    (dim_in environment store (dim_at region (suc k)) first)
    (dims_in environment store region (suc (suc k)) rest)
    (λ found. dim_matches_in first environment store current region k found told)
    (dims_match_in rest environment store current region (suc k) told)

pub span_fits_in : (dims : DimTexts) (environment : Environment) (store : Store)
    (current : Current) (region : Region) → IsToldFlood current region
    → IsSmall (dims_shape current 0 dims)
    → FitsIn (dims_shape current 0 dims) (span_in environment store region dims)
span_fits_in dims environment store current region told le =
    by (dims_in environment store region 1 dims)
    (dims_match_in dims environment store current region 0 told)
  where
    trapped : (shape : Option Shape) (kind : _) → FitsIn shape (run.Traps kind)
    trapped None kind = tt
    trapped (Some shape) kind = tt

    by : (computed : Computed (List Dim)) → MatchIn (dims_shape current 0 dims) computed
        → FitsIn (dims_shape current 0 dims)
        (computed_then computed (λ all. computed_of (limited (region_over all))))
    by (run.Gives all) h =
        computed_fits (dims_shape current 0 dims) (limited (region_over all))
        (region_fits (dims_shape current 0 dims) all le h)
    by (run.Traps kind) h = trapped (dims_shape current 0 dims) kind

-- an index alone
pub index_fits : (value : ℤ)
    → Fits (Some (false ∷ [])) (limited (region_over (all_from value value ∷ [])))
index_fits value =
    limited_fits (false ∷ []) (region_over (all_from value value ∷ [])) (record {
      rank = refl;
      floods = (refl, tt);
    })
