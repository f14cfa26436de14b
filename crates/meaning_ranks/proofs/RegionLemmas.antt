-- Declared regions, as they are computed, have the rank and the flood dimensions that the text
-- says.
use Rattle.std.proofs.Common.{◌≡◌, ℕ, zero, suc, ◌≤◌, Bool, true, false, cond, not, ◌||◌, ℤ, pos}
use Rattle.std.proofs.Common.{inl, inr, List, [], ◌∷◌, ◌++◌, map, length, Option, Some, None}
use Rattle.std.proofs.Common.{option_map, refl, sym, ap, ◌∙◌, subst, true≢false}
use Rattle.std.proofs.Common.{append_assoc, append-nil, nat_le, Decides}
use Rattle.std.specs.List.{find, flat_map, list_any}
use Rattle.std.specs.Option.{option_or}
use Rattle.std.specs.Str.{bytes_eq}
use Rattle.std.proofs.lemmas.Bool.{leb-true}
use Rattle.std.proofs.lemmas.Slice.Eq.{bytes_eq-Decides}
use Rattle.zpl_region.specs.declared.regions.Region.{Region}
use Rattle.zpl_region.specs.Hull.{all_from}
use Rattle.meaning_runs.specs.of_zpl_tree.Syntax.{Name, Pre, NamedRegion, Ditto, Inner, Rexpr, Dims, Posts, NoPost}
use Rattle.meaning_runs.specs.of_zpl_tree.Syntax.{ThenPost, DimText, Blank, Star, One, Span, DimTexts, NoDim, ThenDim}
use Rattle.meaning_runs.specs.of_zpl_tree.Syntax.{Base, Define, RegionDef, DirDef, VarDef, Decl, Config, Constant}
use Rattle.meaning_runs.specs.of_zpl_tree.Syntax.{Regions, Directions, Vars, Defined, Program, Bracket, NoBracket}
use Rattle.meaning_runs.specs.of_zpl_tree.Syntax.{Bracketed, Param}
use Rattle.meaning_runs.specs.of_zpl_tree.Syntax as plain
use Rattle.meaning_runs.specs.of_zpl_names.Kinds as kind
use Rattle.meaning_runs.specs.of_zpl_names.Kinds.{Shape, Rank, Kind}
use Rattle.meaning_runs.specs.of_zpl_names.Scope.{Entry, Scope, kind_in, kind_of, in_reach, is_region}
use Rattle.meaning_runs.specs.of_zpl_names.Ranks.{inner_rank, is_index, region_shape, dims_count}
use Rattle.meaning_runs.specs.of_zpl_names.Shapes.{Current, Absent, Unknown, no_shapes, current_at, shape_of_current, dim_shape}
use Rattle.meaning_runs.specs.of_zpl_names.Shapes.{with_dim, dims_shape, inner_shape, declared_shape}
use Rattle.meaning_runs.specs.of_zpl_names.Shapes.{variable_kind}
use Rattle.meaning_runs.specs.of_zpl_names.Declared.{entry_for, declaring, with_define, with_region, with_direction}
use Rattle.meaning_runs.specs.of_zpl_names.Declared.{with_variables, with_each, with_decl, globals_of}
use Rattle.meaning_runs.specs.of_zpl_names.Declared.{region_entry, direction_entry, procedure_entry, Routine, scope_of}
use Rattle.meaning_runs.specs.of_zpl_names.Declared.{head_scope, own_entries}
use Rattle.meaning_runs.proofs.of_zpl_meaning.NamesLemmas.{IsSound}
use Rattle.meaning_runs.specs.of_zpl_names.Faults.{repeated}
use Rattle.meaning_runs.specs.of_zpl_names.Accepted.{IsFaultless, TwiceNamed, names_twice, in_text}
use Rattle.meaning_runs.specs.of_zpl_names.Faults.{twice_named}
use Rattle.meaning_runs.proofs.of_zpl_names.ListLemmas.{Among, Contains-from_among}
use Rattle.meaning_runs.proofs.of_zpl_names.FaultlessLemmas.{left-among}
use Rattle.meaning_runs.proofs.of_zpl_names.NameLemmas.{kind_in-none, kind_in-distinct, empty_parts}
use Rattle.meaning_runs.specs.of_zpl_binding.Outcome.{Outcome, Gives, Fails, and_then, Computed, outcome_of}
use Rattle.meaning_runs.specs.of_zpl_binding.Outcome.{outcome_or}
use Rattle.meaning_runs.specs.of_zpl_binding.Settings.{Setting}
use Rattle.meaning_runs.specs.of_zpl_binding.Regions.{Known, region_over, limited, no_region, is_region_name}
use Rattle.meaning_runs.specs.of_zpl_binding.Regions.{region_named, index_of, named_or_index, inner_of, region_of}
use Rattle.meaning_runs.specs.of_zpl_binding.Declarations as bind
use Rattle.meaning_runs.specs.of_zpl_binding.Declarations.{computed_for, with_all, nothing_known, known_of}
use Rattle.meaning_runs.proofs.of_zpl_meaning.VisitLemmas.{found_in, none_there}
use Rattle.meaning_ranks.proofs.ShapeLemmas.{Fits, IsSmall, forms_fit, posts_fit, span_fits}
use Rattle.meaning_ranks.proofs.ShapeLemmas.{index_fits}

-- ---- regions beside the entries that declare them

pub data Pairs : List Entry → List (Computed Region) → Type 0 where
  Nothing : Pairs [] []
  Skips : {entries : List Entry} {all : List (Computed Region)} (entry : Entry) →
      is_region (Some entry.kind) ≡ false → Pairs entries all → Pairs (entry ∷ entries) all
  Adds : {entries : List Entry} {all : List (Computed Region)} (name : Name)
      (shape : Option Shape) (outcome : Outcome Region) → Fits shape outcome →
      Pairs entries all →
      Pairs (entry_for (kind.Region shape) name ∷ entries) (computed_for name outcome ∷ all)

pairs_append : (xs ys : List Entry) (rs qs : List (Computed Region)) → Pairs xs rs → Pairs ys qs
    → Pairs (xs ++ ys) (rs ++ qs)
pairs_append [] ys [] qs Nothing k = k
pairs_append [] ys (r ∷ rs) qs h k = elim h [ ]
pairs_append (x ∷ xs) ys rs qs (Skips entry other h) k =
    Skips entry other (pairs_append xs ys rs qs h k)
pairs_append (x ∷ xs) ys (r ∷ rs) qs (Adds name shape outcome fits h) k =
    Adds name shape outcome fits (pairs_append xs ys rs qs h k)

pairs_skip : (xs : List Entry) (rs : List (Computed Region)) (ys : List Entry) → Pairs xs rs
    → Pairs ys [] → Pairs (xs ++ ys) rs
pairs_skip xs rs ys h k = subst (Pairs (xs ++ ys)) (append-nil rs) (pairs_append xs ys rs [] h k)

-- what isn't a region has no shape of one
none_fits : (found : Kind) (outcome : Outcome Region) → is_region (Some found) ≡ false
    → Fits (region_shape (Some found)) outcome
none_fits (kind.Region shape) outcome e = absurd (true≢false e)
none_fits (kind.Config base) outcome e = tt
none_fits (kind.Constant base) outcome e = tt
none_fits (kind.Direction rank) outcome e = tt
none_fits (kind.Scalar base) outcome e = tt
none_fits (kind.Array base shape) outcome e = tt
none_fits (kind.Procedure signature) outcome e = tt

pub found_fits : (xs : List Entry) (rs : List (Computed Region)) (text : List ℕ) → Pairs xs rs
    → Fits (region_shape (kind_in xs text)) (outcome_of no_region rs text)
found_fits [] [] text Nothing = tt
found_fits [] (r ∷ rs) text h = elim h [ ]
found_fits (x ∷ xs) rs text (Skips entry other h) =
    by (bytes_eq entry.name.text text) (found_fits xs rs text h)
  where
    by : (b : Bool) → Fits (region_shape (kind_in xs text)) (outcome_of no_region rs text)
        → Fits (region_shape (option_map (λ e. e.kind)
        (cond b (Some entry) (find (λ (e : Entry). bytes_eq e.name.text text) xs))))
        (outcome_of no_region rs text)
    by true later = none_fits entry.kind (outcome_of no_region rs text) other
    by false later = later
found_fits (x ∷ xs) (r ∷ rs) text (Adds name shape outcome fits h) =
    by (bytes_eq name.text text) (found_fits xs rs text h)
  where
    by : (b : Bool) → Fits (region_shape (kind_in xs text)) (outcome_of no_region rs text)
        → Fits (region_shape (option_map (λ e. e.kind)
        (cond b (Some (entry_for (kind.Region shape) name))
        (find (λ (e : Entry). bytes_eq e.name.text text) xs))))
        (outcome_or no_region (cond b (Some (computed_for name outcome))
        (find (λ (one : Computed Region). bytes_eq one.name text) rs)))
    by true later = fits
    by false later = later

-- a name of a region is listed
region_listed : (xs : List Entry) (rs : List (Computed Region)) (text : List ℕ) → Pairs xs rs
    → is_region (kind_in xs text) ≡ true → list_any (λ one. bytes_eq one.name text) rs ≡ true
region_listed [] rs text h e = absurd (true≢false (sym e))
region_listed (x ∷ xs) rs text (Skips entry other h) e =
    by (bytes_eq entry.name.text text) e (region_listed xs rs text h)
  where
    by : (b : Bool) → is_region (option_map (λ e. e.kind)
        (cond b (Some entry) (find (λ (e : Entry). bytes_eq e.name.text text) xs))) ≡ true
        → (is_region (kind_in xs text) ≡ true → list_any (λ one. bytes_eq one.name text) rs ≡ true)
        → list_any (λ one. bytes_eq one.name text) rs ≡ true
    by true e later = absurd (true≢false (sym e ∙ other))
    by false e later = later e
region_listed (x ∷ xs) (r ∷ rs) text (Adds name shape outcome fits h) e =
    by (bytes_eq name.text text) e (region_listed xs rs text h)
  where
    by : (b : Bool) → is_region (option_map (λ e. e.kind)
        (cond b (Some (entry_for (kind.Region shape) name))
        (find (λ (e : Entry). bytes_eq e.name.text text) xs))) ≡ true
        → (is_region (kind_in xs text) ≡ true → list_any (λ one. bytes_eq one.name text) rs ≡ true)
        → b || list_any (λ one. bytes_eq one.name text) rs ≡ true
    by true e later = refl
    by false e later = later e

-- the entry of a listed name
record IsEntered (xs : List Entry) (text : List ℕ) : Type 0 where
  entry : Entry
  there : Among xs entry
  named : entry.name.text ≡ text
  region : is_region (Some entry.kind) ≡ true

listed_entry : (xs : List Entry) (rs : List (Computed Region)) (text : List ℕ) → Pairs xs rs
    → list_any (λ one. bytes_eq one.name text) rs ≡ true → IsEntered xs text
listed_entry [] [] text Nothing e = absurd (true≢false (sym e))
listed_entry [] (r ∷ rs) text h e = elim h [ ]
listed_entry (x ∷ xs) rs text (Skips entry other h) e =
    let found = listed_entry xs rs text h e in
    record {
      entry = found.entry;
      there = inr found.there;
      named = found.named;
      region = found.region;
    }
listed_entry (x ∷ xs) (r ∷ rs) text (Adds name shape outcome fits h) e =
    by (bytes_eq name.text text) (bytes_eq-Decides name.text text) e
    (listed_entry xs rs text h)
  where
    by : (b : Bool) → Decides b (name.text ≡ text)
        → b || list_any (λ one. bytes_eq one.name text) rs ≡ true
        → (list_any (λ one. bytes_eq one.name text) rs ≡ true → IsEntered xs text)
        → IsEntered (entry_for (kind.Region shape) name ∷ xs) text
    by true same e later = record {
      entry = entry_for (kind.Region shape) name;
      there = inl refl;
      named = same.0 refl;
      region = refl;
    }
    by false same e later =
        let found = later e in record {
          entry = found.entry;
          there = inr found.there;
          named = found.named;
          region = found.region;
        }

variables_skip : (names : List Name) (scope : Scope) (shape : Bracket) (base : Base)
    → Pairs (map (entry_for (variable_kind scope shape base)) names) []
variables_skip [] scope shape base = Nothing
variables_skip (name ∷ names) scope NoBracket base =
    Skips (entry_for (kind.Scalar base) name) refl (variables_skip names scope NoBracket base)
variables_skip (name ∷ names) scope (Bracketed inner) base =
    Skips (entry_for (kind.Array base (declared_shape scope inner)) name) refl
    (variables_skip names scope (Bracketed inner) base)

-- ---- no region is current in a declaration

unknown_dim : (dim : DimText) (k : ℕ) → dim_shape Unknown k dim ≡ dim_shape Absent k dim
unknown_dim (Blank at) k = refl
unknown_dim (Star at) k = refl
unknown_dim (One index) k = refl
unknown_dim (Span low high) k = refl

unknown_dims : (dims : DimTexts) (k : ℕ) → dims_shape Unknown k dims ≡ dims_shape Absent k dims
unknown_dims NoDim k = refl
unknown_dims (ThenDim first rest) k =
    ap (λ flood. with_dim flood (dims_shape Unknown (suc k) rest)) (unknown_dim first k)
    ∙ ap (with_dim (dim_shape Absent k first)) (unknown_dims rest (suc k))

no_current : (n : ℕ) (dims : DimTexts)
    → dims_shape (current_at no_shapes n) 0 dims ≡ dims_shape Absent 0 dims
no_current zero dims = unknown_dims dims 0
no_current (suc zero) dims = refl
no_current (suc (suc zero)) dims = refl
no_current (suc (suc (suc zero))) dims = refl
no_current (suc (suc (suc (suc n)))) dims = unknown_dims dims 0

-- ---- names that stand for one thing

name_there : (xs : List Entry) (entry : Entry) → Among xs entry
    → Among (map (λ entry. entry.name.text) xs) entry.name.text
name_there [] entry m = absurd m
name_there (x ∷ xs) entry (inl e) = inl (ap (λ (entry : Entry). entry.name.text) e)
name_there (x ∷ xs) entry (inr m) = inr (name_there xs entry m)

module _ (globals : List Entry) (once : repeated [] (map (λ entry. entry.name) globals) ≡ []) where
  abbrev Extends : List Entry → Type 0
  Extends xs = (more : List Entry) × (globals ≡ xs ++ more)

  -- what is listed as a region is one
  listed_region : (xs : List Entry) (rs : List (Computed Region)) (text : List ℕ) → Pairs xs rs
      → Extends xs → list_any (λ one. bytes_eq one.name text) rs ≡ true
      → is_region (kind_in xs text) ≡ true
  listed_region xs rs text h front e =
      let found = listed_entry xs rs text h e in
      let member : Among globals found.entry =
      subst (λ all. Among all found.entry) (sym front.1)
      (left-among xs front.0 found.entry found.there) in
      let whole : kind_in globals text ≡ Some found.entry.kind =
      subst (λ t. kind_in globals t ≡ Some found.entry.kind) found.named
      (kind_in-distinct globals found.entry once
      (Contains-from_among globals found.entry member)) in
      let split : option_or (kind_in xs text) (kind_in front.0 text) ≡ Some found.entry.kind =
      sym (found_in xs front.0 text) ∙ subst (λ all. kind_in all text ≡ Some found.entry.kind)
      front.1 whole in
      by found (kind_in xs text) refl split
    where
      by : (found : IsEntered xs text) (here : Option Kind) → kind_in xs text ≡ here
          → option_or here (kind_in front.0 text) ≡ Some found.entry.kind
          → is_region here ≡ true
      by found (Some k) is e = subst (λ o. is_region o ≡ true) (sym e) found.region
      by found None is e =
          absurd ((kind_in-none xs text).0 is
          (Contains-from_among (map (λ entry. entry.name.text) xs) text
          (subst (Among (map (λ entry. entry.name.text) xs)) found.named
          (name_there xs found.entry found.there))))

  -- ---- brackets of declarations

  reach_shape : (found : Option Kind) → region_shape (in_reach true found) ≡ region_shape found
  reach_shape None = refl
  reach_shape (Some (kind.Config base)) = refl
  reach_shape (Some (kind.Constant base)) = refl
  reach_shape (Some (kind.Region shape)) = refl
  reach_shape (Some (kind.Direction rank)) = refl
  reach_shape (Some (kind.Scalar base)) = refl
  reach_shape (Some (kind.Array base shape)) = refl
  reach_shape (Some (kind.Procedure signature)) = refl

  reach_region : (found : Option Kind) → is_region (in_reach true found) ≡ is_region found
  reach_region None = refl
  reach_region (Some (kind.Config base)) = refl
  reach_region (Some (kind.Constant base)) = refl
  reach_region (Some (kind.Region shape)) = refl
  reach_region (Some (kind.Direction rank)) = refl
  reach_region (Some (kind.Scalar base)) = refl
  reach_region (Some (kind.Array base shape)) = refl
  reach_region (Some (kind.Procedure signature)) = refl

  named_fits : (earlier : List Entry) (known : Known) (name : Name) → Pairs earlier known.regions
      → Fits (region_shape (kind_of (declaring [] earlier) name)) (region_named known name)
  named_fits earlier known name h =
      subst (λ shape. Fits shape (region_named known name))
      (sym (reach_shape (kind_in earlier name.text)))
      (found_fits earlier known.regions name.text h)

  index_is : (known : Known) (name : Name) → Fits (Some (false ∷ [])) (index_of known name)
  index_is known name = by (outcome_of (pos 0) known.values name.text)
    where
      by : (value : Outcome ℤ) → Fits (Some (false ∷ [])) (and_then value (λ value.
          limited (region_over (all_from value value ∷ []))))
      by (Gives value) = index_fits value
      by (Fails fault) = tt

  -- a name alone
  alone_fits : (earlier : List Entry) (known : Known) (name : Name)
      → Pairs earlier known.regions → Extends earlier
      → Fits (cond (not (is_region (kind_of (declaring [] earlier) name))) (Some (false ∷ []))
      (region_shape (kind_of (declaring [] earlier) name)))
      (cond (is_region_name known name) (region_named known name) (index_of known name))
  alone_fits earlier known name h front =
      by (is_region (kind_of (declaring [] earlier) name)) refl (is_region_name known name) refl
    where
      by : (a : Bool) → is_region (kind_of (declaring [] earlier) name) ≡ a
          → (b : Bool) → is_region_name known name ≡ b
          → Fits (cond (not a) (Some (false ∷ []))
          (region_shape (kind_of (declaring [] earlier) name)))
          (cond b (region_named known name) (index_of known name))
      by true is true has = named_fits earlier known name h
      by false is false has = index_is known name
      by true is false has =
          absurd (true≢false
          (sym (region_listed earlier known.regions name.text h
          (sym (reach_region (kind_in earlier name.text)) ∙ is)) ∙ has))
      by false is true has =
          absurd (true≢false
          (sym (reach_region (kind_in earlier name.text)
          ∙ listed_region earlier known.regions name.text h front has) ∙ is))

  -- the shape of a bracket has as many dimensions as are written
  dims_length : (dims : DimTexts) (current : Current) (k : ℕ) → dims_count dims ≤ 3
      → IsSmall (dims_shape current k dims)
  dims_length dims current k le = small (dims_shape current k dims) (dims_count dims) le
      (counted dims current k)
    where
      Counts : Option Shape → ℕ → Type 0
      Counts None n = Unit {0}
      Counts (Some shape) n = length shape ≡ n

      small : (shape : Option Shape) (n : ℕ) → n ≤ 3 → Counts shape n → IsSmall shape
      small None n le h = tt
      small (Some shape) n le h = subst (λ m. m ≤ 3) (sym h) le

      next : (flood : Option Bool) (shape : Option Shape) (n : ℕ) → Counts shape n
          → Counts (with_dim flood shape) (suc n)
      next None None n h = tt
      next None (Some shape) n h = tt
      next (Some flood) None n h = tt
      next (Some flood) (Some shape) n h = ap suc h

      counted : (dims : DimTexts) (current : Current) (k : ℕ)
          → Counts (dims_shape current k dims) (dims_count dims)
      counted NoDim current k = refl
      counted (ThenDim first rest) current k =
          next (dim_shape current k first) (dims_shape current (suc k) rest) (dims_count rest)
          (counted rest current (suc k))

  pub inner_fits : (inner : Inner) (earlier : List Entry) (known : Known)
      → Pairs earlier known.regions → Extends earlier
      → Fits (declared_shape (declaring [] earlier) inner) (inner_of known inner)
  inner_fits (Rexpr pre (NamedRegion name) post) earlier known h front =
      let scope = declaring [] earlier in
      by (inner_rank scope (Some 0) (Some 0) (Rexpr pre (NamedRegion name) post))
    where
      name_fits : (pre : List Pre) (post : Posts)
          → Fits (cond (is_index (declaring [] earlier) pre name post) (Some (false ∷ []))
          (region_shape (kind_of (declaring [] earlier) name)))
          (named_or_index known pre name post)
      name_fits [] NoPost = alone_fits earlier known name h front
      name_fits [] (ThenPost stride dir rest) =
          forms_fit known [] (ThenPost stride dir rest) _ (region_named known name)
          (named_fits earlier known name h)
      name_fits (first ∷ rest) post =
          forms_fit known (first ∷ rest) post _ (region_named known name)
          (named_fits earlier known name h)

      by : (rank : Rank) → Fits (inner_shape (declaring [] earlier) no_shapes rank
          (Rexpr pre (NamedRegion name) post)) (named_or_index known pre name post)
      by None = tt
      by (Some n) = name_fits pre post
  inner_fits (Rexpr pre (Ditto at) post) earlier known h front =
      by (inner_rank (declaring [] earlier) (Some 0) (Some 0) (Rexpr pre (Ditto at) post))
    where
      none : (n : ℕ) → Fits (shape_of_current (current_at no_shapes n)) (Gives no_region)
      none zero = tt
      none (suc zero) = tt
      none (suc (suc zero)) = tt
      none (suc (suc (suc zero))) = tt
      none (suc (suc (suc (suc n)))) = tt

      by : (rank : Rank) → Fits (inner_shape (declaring [] earlier) no_shapes rank
          (Rexpr pre (Ditto at) post)) (Gives no_region)
      by None = tt
      by (Some n) = none n
  inner_fits (Dims dims) earlier known h front =
      by (nat_le (dims_count dims) 3) refl
    where
      by : (b : Bool) → nat_le (dims_count dims) 3 ≡ b
          → Fits (inner_shape (declaring [] earlier) no_shapes
          (cond b (Some (dims_count dims)) None) (Dims dims)) (inner_of known (Dims dims))
      by true e =
          subst (λ shape. Fits shape (inner_of known (Dims dims)))
          (sym (no_current (dims_count dims) dims))
          (span_fits dims known (dims_length dims Absent 0 (leb-true (dims_count dims) 3 e)))
      by false e = tt

  -- ---- declarations

  front_of : (xs ys : List Entry) → (more : List Entry) × (ys ≡ xs ++ more) → Extends ys
      → Extends xs
  front_of xs ys one other = (
    one.0 ++ other.0,
    other.1 ∙ ap (λ zs. zs ++ other.0) one.1 ∙ append_assoc xs one.0 other.0,
  )

  abbrev Adds-to : List Entry → List Entry → Type 0
  Adds-to xs ys = (more : List Entry) × (ys ≡ xs ++ more)

  adds_each : {A : Type 0} (adds : List Entry → A → List Entry)
      → ((xs : List Entry) (a : A) → Adds-to xs (adds xs a)) → (list : List A) (xs : List Entry)
      → Adds-to xs (with_each adds xs list)
  adds_each adds one [] xs = ([], sym (append-nil xs))
  adds_each adds one (a ∷ rest) xs =
      let first = one xs a in
      let later = adds_each adds one rest (adds xs a) in (
        first.0 ++ later.0,
        later.1 ∙ ap (λ zs. zs ++ later.0) first.1 ∙ append_assoc xs first.0 later.0,
      )

  adds_decl : (xs : List Entry) (decl : Decl) → Adds-to xs (with_decl xs decl)
  adds_decl xs (Config defines) =
      adds_each (with_define kind.Config) (λ ys define. (_, refl)) defines xs
  adds_decl xs (Constant defines) =
      adds_each (with_define kind.Constant) (λ ys define. (_, refl)) defines xs
  adds_decl xs (Regions regions) = adds_each with_region (λ ys region. (_, refl)) regions xs
  adds_decl xs (Directions directions) =
      adds_each with_direction (λ ys direction. (_, refl)) directions xs
  adds_decl xs (Vars vars) = adds_each with_variables (λ ys var. (_, refl)) vars xs
  adds_decl xs (Defined procedure) = (_, refl)

  -- the region that a declaration adds
  region_pair : (earlier : List Entry) (known : Known) (region : RegionDef)
      → Pairs earlier known.regions → Extends earlier
      → Pairs (with_region earlier region) (bind.with_region known region).regions
  region_pair earlier known region h front =
      pairs_append earlier (region_entry earlier region ∷ []) known.regions
      (computed_for region.name (region_of known region) ∷ []) h
      (Adds region.name (declared_shape (declaring [] earlier) region.body) (region_of known region)
      (posts_fit known region.posts (declared_shape (declaring [] earlier) region.body)
      (inner_of known region.body) (inner_fits region.body earlier known h front)) Nothing)

  regions_pair : (regions : List RegionDef) (earlier : List Entry) (known : Known)
      → Pairs earlier known.regions → Extends (with_each with_region earlier regions)
      → Pairs (with_each with_region earlier regions)
      (with_all bind.with_region known regions).regions
  regions_pair [] earlier known h front = h
  regions_pair (region ∷ rest) earlier known h front =
      regions_pair rest (with_region earlier region) (bind.with_region known region)
      (region_pair earlier known region h
      (front_of earlier _ (adds_each with_region (λ ys region. (_, refl)) (region ∷ rest) earlier)
      front)) front

  -- definitions that add no region
  plain_pair : {A : Type 0} (adds : List Entry → A → List Entry) (keeps : Known → A → Known)
      → ((xs : List Entry) (rs : List (Computed Region)) (a : A) → Pairs xs rs
      → Pairs (adds xs a) rs)
      → ((known : Known) (a : A) → (keeps known a).regions ≡ known.regions)
      → (list : List A) (earlier : List Entry) (known : Known) → Pairs earlier known.regions
      → Pairs (with_each adds earlier list) (with_all keeps known list).regions
  plain_pair adds keeps one same [] earlier known h = h
  plain_pair adds keeps one same (a ∷ rest) earlier known h =
      plain_pair adds keeps one same rest (adds earlier a) (keeps known a)
      (subst (Pairs (adds earlier a)) (sym (same known a)) (one earlier known.regions a h))

  vars_pair : (vars : List VarDef) (earlier : List Entry) (rs : List (Computed Region))
      → Pairs earlier rs → Pairs (with_each with_variables earlier vars) rs
  vars_pair [] earlier rs h = h
  vars_pair (var ∷ rest) earlier rs h =
      vars_pair rest (with_variables earlier var) rs
      (pairs_skip earlier rs _ h
      (variables_skip var.names (declaring [] earlier) var.shape var.base))

  decl_pair : (settings : List Setting) (decl : Decl) (earlier : List Entry) (known : Known)
      → Pairs earlier known.regions → Extends (with_decl earlier decl)
      → Pairs (with_decl earlier decl) (bind.with_decl settings known decl).regions
  decl_pair settings (Config defines) earlier known h front =
      plain_pair (with_define kind.Config) (bind.with_config settings)
      (λ xs rs define k. pairs_skip xs rs (entry_for (kind.Config define.base) define.name ∷ []) k
      (Skips (entry_for (kind.Config define.base) define.name) refl Nothing))
      (λ known define. refl) defines earlier known h
  decl_pair settings (Constant defines) earlier known h front =
      plain_pair (with_define kind.Constant) bind.with_constant
      (λ xs rs define k. pairs_skip xs rs (entry_for (kind.Constant define.base) define.name ∷ []) k
      (Skips (entry_for (kind.Constant define.base) define.name) refl Nothing))
      (λ known define. refl) defines earlier known h
  decl_pair settings (Regions regions) earlier known h front =
      regions_pair regions earlier known h front
  decl_pair settings (Directions directions) earlier known h front =
      plain_pair with_direction bind.with_direction
      (λ xs rs direction k. pairs_skip xs rs (direction_entry direction ∷ []) k
      (Skips (direction_entry direction) refl Nothing))
      (λ known direction. refl) directions earlier known h
  decl_pair settings (Vars vars) earlier known h front = vars_pair vars earlier known.regions h
  decl_pair settings (Defined procedure) earlier known h front =
      pairs_skip earlier known.regions (procedure_entry earlier procedure ∷ []) h
      (Skips (procedure_entry earlier procedure) refl Nothing)

  decls_pair : (settings : List Setting) (decls : List Decl) (earlier : List Entry)
      (known : Known) → Pairs earlier known.regions → Extends (with_each with_decl earlier decls)
      → Pairs (with_each with_decl earlier decls)
      (with_all (bind.with_decl settings) known decls).regions
  decls_pair settings [] earlier known h front = h
  decls_pair settings (decl ∷ decls) earlier known h front =
      decls_pair settings decls (with_decl earlier decl) (bind.with_decl settings known decl)
      (decl_pair settings decl earlier known h
      (front_of (with_decl earlier decl) _ (adds_each with_decl adds_decl decls
      (with_decl earlier decl)) front)) front

-- ---- names in reach of a procedure's statements

own_none : (entries : List Entry) (text : List ℕ) (rs : List (Computed Region))
    → Pairs entries [] → region_shape (kind_in entries text) ≡ None
own_none [] text rs h = refl
own_none (x ∷ xs) text rs (Skips entry other h) =
    by (bytes_eq entry.name.text text) (own_none xs text rs h)
  where
    none : (found : Kind) → is_region (Some found) ≡ false → region_shape (Some found) ≡ None
    none (kind.Region shape) e = absurd (true≢false e)
    none (kind.Config base) e = refl
    none (kind.Constant base) e = refl
    none (kind.Direction rank) e = refl
    none (kind.Scalar base) e = refl
    none (kind.Array base shape) e = refl
    none (kind.Procedure signature) e = refl

    by : (b : Bool) → region_shape (kind_in xs text) ≡ None
        → region_shape (option_map (λ e. e.kind)
        (cond b (Some entry) (find (λ (e : Entry). bytes_eq e.name.text text) xs))) ≡ None
    by true later = none entry.kind other
    by false later = later

or_fits : (one other : Option Kind) (outcome : Outcome Region) → region_shape one ≡ None
    → Fits (region_shape other) outcome → Fits (region_shape (option_or one other)) outcome
or_fits None other outcome e h = h
or_fits (Some found) other outcome e h = subst (λ shape. Fits shape outcome) (sym e) tt

pub names_once : (program : Program) → IsFaultless program
    → repeated [] (map (λ entry. entry.name) (globals_of program)) ≡ []
names_once program clean =
    (empty_parts (repeated [] (map (λ entry. entry.name) (globals_of program)))
    (in_text twice_named program)
    (none_there (names_twice program) (λ at. clean TwiceNamed at))).0

pub globals_fit : (program : Program) (settings : List Setting) → IsFaultless program
    → Pairs (globals_of program) (known_of program settings).regions
globals_fit program settings clean =
    decls_pair (globals_of program) (names_once program clean) settings program.decls []
    nothing_known Nothing ([], sym (append-nil (globals_of program)))

-- own names are those of variables
own_skip : (earlier : List Entry) (procedure : plain.Procedure)
    → Pairs (own_entries earlier procedure) []
own_skip earlier procedure =
    let scope = head_scope earlier procedure in
    pairs_append
    (flat_map (λ param. map (entry_for (variable_kind scope param.shape param.base)) param.names)
    procedure.params) _ [] []
    (skip_flat (λ (param : Param). map (entry_for (variable_kind scope param.shape param.base))
    param.names) (λ param. variables_skip param.names scope param.shape param.base)
    procedure.params)
    (skip_flat (λ (var : VarDef). map (entry_for (variable_kind scope var.shape var.base))
    var.names) (λ var. variables_skip var.names scope var.shape var.base) procedure.locals)
  where
    skip_flat : {A : Type 0} (f : A → List Entry) → ((a : A) → Pairs (f a) []) → (list : List A)
        → Pairs (flat_map f list) []
    skip_flat f h [] = Nothing
    skip_flat f h (a ∷ rest) = pairs_append (f a) (flat_map f rest) [] [] (h a) (skip_flat f h rest)

pub reach_fits : (program : Program) (settings : List Setting) → IsFaultless program
    → (routine : Routine) → IsSound routine → (name : Name)
    → Fits (region_shape (kind_of (scope_of program routine) name))
    (region_named (known_of program settings) name)
reach_fits program settings clean routine sound name =
    or_fits (kind_in routine.own name.text) (kind_in (globals_of program) name.text)
    (region_named (known_of program settings) name)
    (own_none routine.own name.text []
    (subst (λ entries. Pairs entries []) (sym sound.own)
    (own_skip sound.earlier routine.procedure)))
    (found_fits (globals_of program) (known_of program settings).regions name.text
    (globals_fit program settings clean))
