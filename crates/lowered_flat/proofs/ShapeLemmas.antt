-- A bracket of a declaration has the same shape where it stands and at the end of the declarations.
use Rattle.std.proofs.Common.{◌≡◌, ℕ, zero, suc, Bool, true, false, cond, not, ◌||◌, ◌⊎◌, inl, inr, List, [], ◌∷◌, ◌++◌, map, length, refl, sym, ap, ◌∙◌, subst}
use Rattle.std.specs.Prelude.{Option, Some, None, option_map, find}
use Rattle.std.specs.Option.{option_or}
use Rattle.std.specs.List.{flat_map}
use Rattle.std.specs.Str.{bytes_eq}
use Rattle.zpl_tree.specs.Syntax.{Name, Pre, NamedRegion, Ditto, Inner, Rexpr, Dims, Posts, NoPost, ThenPost, Named, Integer}
use Rattle.zpl_names.specs.Kinds as kind
use Rattle.zpl_names.specs.Kinds.{Shape, Rank, Kind}
use Rattle.zpl_names.specs.Scope.{Entry, Scope, kind_in, kind_of, in_reach, is_direction, is_region, is_value}
use Rattle.zpl_names.specs.Ranks.{at_most_three, dims_count, inner_rank, is_index, region_shape}
use Rattle.zpl_names.specs.Shapes.{no_shapes, current_at, shape_of_current, inner_shape, declared_shape}
use Rattle.zpl_names.specs.Declared.{declaring, entry_for}
use Rattle.zpl_names.specs.Sites.{Site, AtWhole, AtExpr, AtRegion, Bound, in_declaration, index_sites, posts_sites, region_sites, whole_rank}
use Rattle.zpl_names.specs.Faults.{at_if, unknown_base, unless_taken}
use Rattle.zpl_names.specs.Accepted.{HasNoFault}
use Rattle.zpl_names.proofs.ListLemmas.{Among}
use Rattle.zpl_names.proofs.NameLemmas.{empty_parts}
use Rattle.zpl_names.proofs.FaultlessLemmas.{left-among}
use Rattle.lowering_fits.proofs.of_zpl_meaning.VisitLemmas.{found_in}
use Rattle.lowered_flat.proofs.ListLemmas.{right_there}

-- ---- brackets whose names stand for the same

abbrev pub SameName : Scope → Scope → Inner → Type 0
SameName scope other (Rexpr pre (NamedRegion name) post) =
    kind_of scope name ≡ kind_of other name
SameName scope other (Rexpr pre (Ditto at) post) = Unit {0}
SameName scope other (Dims dims) = Unit {0}

abbrev picked : Rank → Option Shape → Option Shape
picked None shape = None
picked (Some rank) shape = shape

picked_shape : (scope : Scope) (pre : List Pre) (name : Name) (post : Posts) →
    declared_shape scope (Rexpr pre (NamedRegion name) post) ≡
    picked (inner_rank scope (Some 0) (Some 0) (Rexpr pre (NamedRegion name) post))
    (cond (is_index scope pre name post) (Some (false ∷ []))
    (region_shape (kind_of scope name)))
picked_shape scope pre name post =
    by (inner_rank scope (Some 0) (Some 0) (Rexpr pre (NamedRegion name) post))
  where
    by : (rank : Rank) →
        inner_shape scope no_shapes rank (Rexpr pre (NamedRegion name) post) ≡
        picked rank (cond (is_index scope pre name post) (Some (false ∷ []))
        (region_shape (kind_of scope name)))
    by None = refl
    by (Some rank) = refl

-- the shape by what the name stands for
abbrev shape_by : List Pre → Posts → Option Kind → Option Shape
shape_by [] NoPost found =
    picked
    (cond (not (is_region found)) (Some 1) (option_map length (region_shape found)))
    (cond (not (is_region found)) (Some (false ∷ [])) (region_shape found))
shape_by [] (ThenPost stride dir rest) found =
    picked (option_map length (region_shape found)) (region_shape found)
shape_by (first ∷ more) post found =
    picked (option_map length (region_shape found)) (region_shape found)

named_shape : (scope : Scope) (pre : List Pre) (name : Name) (post : Posts) →
    declared_shape scope (Rexpr pre (NamedRegion name) post) ≡
    shape_by pre post (kind_of scope name)
named_shape scope [] name NoPost = picked_shape scope [] name NoPost
named_shape scope [] name (ThenPost stride dir rest) =
    picked_shape scope [] name (ThenPost stride dir rest)
named_shape scope (first ∷ more) name post = picked_shape scope (first ∷ more) name post

ditto_shape : (scope : Scope) (pre : List Pre) (at : ℕ) (post : Posts) →
    declared_shape scope (Rexpr pre (Ditto at) post) ≡ None
ditto_shape scope pre at post =
    by (inner_rank scope (Some 0) (Some 0) (Rexpr pre (Ditto at) post))
  where
    none : (n : ℕ) → shape_of_current (current_at no_shapes n) ≡ None
    none zero = refl
    none (suc zero) = refl
    none (suc (suc zero)) = refl
    none (suc (suc (suc zero))) = refl
    none (suc (suc (suc (suc n)))) = refl

    by : (rank : Rank) → inner_shape scope no_shapes rank (Rexpr pre (Ditto at) post) ≡ None
    by None = refl
    by (Some n) = none n

pub same_shape : (scope other : Scope) (inner : Inner) → SameName scope other inner →
    declared_shape scope inner ≡ declared_shape other inner
same_shape scope other (Rexpr pre (NamedRegion name) post) same =
    named_shape scope pre name post
    ∙ (ap (shape_by pre post) same ∙ sym (named_shape other pre name post))
same_shape scope other (Rexpr pre (Ditto at) post) same =
    ditto_shape scope pre at post ∙ sym (ditto_shape other pre at post)
same_shape scope other (Dims dims) same = by (at_most_three (dims_count dims))
  where
    by : (rank : Rank) →
        inner_shape scope no_shapes rank (Dims dims) ≡ inner_shape other no_shapes rank (Dims dims)
    by None = refl
    by (Some rank) = refl

-- ---- names of brackets without faults are known

-- no site has a fault
abbrev pub Clean : List Site → Type 0
Clean sites = (site : Site) → Among sites site → HasNoFault site

pub clean_left : (xs ys : List Site) → Clean (xs ++ ys) → Clean xs
clean_left xs ys clean site m = clean site (left-among xs ys site m)

pub clean_right : (xs ys : List Site) → Clean (xs ++ ys) → Clean ys
clean_right xs ys clean site m = clean site (right_there xs ys site m)

-- what the names of one scope stand for, they do in another
abbrev pub Knows : Scope → Scope → Type 0
Knows scope other =
    (name : Name) (one : Kind) → kind_of scope name ≡ Some one → kind_of other name ≡ Some one

no_place : (at : ℕ) → at ∷ [] ≡ [] → ⊥
no_place at e = cc

named_known : (scope : Scope) (pre : List Pre) (name : Name) (post : Posts) →
    Clean (region_sites (in_declaration scope) (Some 0) (Rexpr pre (NamedRegion name) post)) →
    (one : Kind) × (kind_of scope name ≡ Some one)
named_known scope pre name post clean =
    by (kind_of scope name) (is_index scope pre name post) refl refl base value
  where
    index : Site
    index = AtExpr (in_declaration scope)
        (whole_rank (in_declaration scope) Bound (Named name.at name)) (Named name.at name)

    base : unknown_base (in_declaration scope) pre (NamedRegion name) post ≡ []
    base = (empty_parts
        (flat_map (λ pre. unless_taken (in_declaration scope) is_direction pre.dir) pre)
        (unknown_base (in_declaration scope) pre (NamedRegion name) post)
        (clean (AtRegion (in_declaration scope) (Some 0) (Rexpr pre (NamedRegion name) post))
        (inl refl)).known).1

    there : is_index scope pre name post ≡ true →
        Among (index_sites (in_declaration scope) pre (NamedRegion name) post) index
    there is =
        subst (λ b. Among (cond b
        (AtWhole (in_declaration scope) Bound (Named name.at name) ∷ index ∷ []) []) index)
        (sym is) (inr (inl refl))

    value : is_index scope pre name post ≡ true → at_if (not (is_value (kind_of scope name))) name.at ≡ []
    value is =
        (clean index (inr (left-among
        (index_sites (in_declaration scope) pre (NamedRegion name) post)
        (posts_sites (in_declaration scope) post) index (there is)))).known

    by : (found : Option Kind) (b : Bool) → kind_of scope name ≡ found →
        is_index scope pre name post ≡ b →
        at_if (not (is_region found || b)) name.at ≡ [] →
        (b ≡ true → at_if (not (is_value found)) name.at ≡ []) →
        (one : Kind) × (kind_of scope name ≡ Some one)
    by (Some one) b is index base value = (one, is)
    by None true is index base value = absurd (no_place name.at (value refl))
    by None false is index base value = absurd (no_place name.at base)

pub known_name : (scope other : Scope) → Knows scope other → (inner : Inner) →
    Clean (region_sites (in_declaration scope) (Some 0) inner) → SameName scope other inner
known_name scope other knows (Rexpr pre (NamedRegion name) post) clean =
    let found = named_known scope pre name post clean in
    found.1 ∙ sym (knows name found.0 found.1)
known_name scope other knows (Rexpr pre (Ditto at) post) clean = tt
known_name scope other knows (Dims dims) clean = tt

-- ---- what stands earlier, and own names before it

no_kind : (one : Kind) → None ≡ Some one → ⊥
no_kind one e = cc

reach_keeps : (here later : Option Kind) (one : Kind) → in_reach true here ≡ Some one →
    in_reach true (option_or here later) ≡ Some one
reach_keeps None later one is = absurd (no_kind one is)
reach_keeps (Some found) later one is = is

pub front_knows : (xs ys globals : List Entry) → globals ≡ xs ++ ys →
    Knows (declaring [] xs) (declaring [] globals)
front_knows xs ys globals front name one is =
    subst (λ all. in_reach true (kind_in all name.text) ≡ Some one) (sym front)
    (subst (λ found. in_reach true found ≡ Some one) (sym (found_in xs ys name.text))
    (reach_keeps (kind_in xs name.text) (kind_in ys name.text) one is))

own_scalar : (names : List Name) (text : List ℕ) →
    (kind_in (map (entry_for (kind.Scalar Integer)) names) text ≡ None)
    ⊎ (kind_in (map (entry_for (kind.Scalar Integer)) names) text ≡ Some (kind.Scalar Integer))
own_scalar [] text = inl refl
own_scalar (name ∷ names) text = by (bytes_eq name.text text) (own_scalar names text)
  where
    rest : List Entry
    rest = map (entry_for (kind.Scalar Integer)) names

    by : (b : Bool) →
        (kind_in rest text ≡ None) ⊎ (kind_in rest text ≡ Some (kind.Scalar Integer)) →
        (option_map (λ entry. entry.kind)
        (cond b (Some (entry_for (kind.Scalar Integer) name))
        (find (λ entry. bytes_eq entry.name.text text) rest)) ≡ None)
        ⊎ (option_map (λ entry. entry.kind)
        (cond b (Some (entry_for (kind.Scalar Integer) name))
        (find (λ entry. bytes_eq entry.name.text text) rest)) ≡ Some (kind.Scalar Integer))
    by true later = inr refl
    by false later = later

pub own_knows : (names : List Name) (xs : List Entry) →
    Knows (declaring (map (entry_for (kind.Scalar Integer)) names) xs) (declaring [] xs)
own_knows names xs name one is =
    by (kind_in (map (entry_for (kind.Scalar Integer)) names) name.text)
    (own_scalar names name.text) is
  where
    by : (own : Option Kind) → (own ≡ None) ⊎ (own ≡ Some (kind.Scalar Integer)) →
        in_reach true (option_or own (kind_in xs name.text)) ≡ Some one →
        in_reach true (kind_in xs name.text) ≡ Some one
    by None which is = is
    by (Some found) (inl e) is = let no : ⊥ = cc in absurd no
    by (Some found) (inr e) is =
        absurd (no_kind one (subst (λ o. in_reach true o ≡ Some one) e is))

pub both_know : (scope other last : Scope) → Knows scope other → Knows other last →
    Knows scope last
both_know scope other last first rest name one is = rest name one (first name one is)
