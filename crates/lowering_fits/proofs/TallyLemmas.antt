-- What the sites of a text ask for: a copy for each read that wraps round, and what calls have.
use Rattle.std.proofs.Common.{◌≡◌, ℕ, suc, ◌+◌, Bool, true, false, List, [], ◌∷◌, ◌++◌, length, refl, ap, ◌∙◌, arith, cond}
use Rattle.std.specs.Prelude.{Option, Some, None}
use Rattle.std.specs.List.{flat_map}
use Rattle.meaning_ranks.specs.of_zpl_tree.Syntax.{Name, Pre, RegionBase, NamedRegion, Ditto, Expr, Number, Truth, Coord, Named, Shifted, Around, Remap, Call, Paren, Neg, Not, Abs, Pair, Reduce, Scan, Flood, Exprs, NoExpr, ThenExpr, Dir, NamedDir, Vector, Inner, Rexpr, Dims, NoBracket, Bracketed, Posts, NoPost, ThenPost, DimText, Blank, Star, One, Span, DimTexts, NoDim, ThenDim}
use Rattle.meaning_ranks.specs.of_zpl_names.Kinds as kind
use Rattle.meaning_ranks.specs.of_zpl_names.Kinds.{Rank, Kind}
use Rattle.meaning_ranks.specs.of_zpl_names.Scope.{kind_in, kind_of, in_reach, is_array}
use Rattle.std.specs.Option.{option_or}
use Rattle.meaning_ranks.specs.of_zpl_names.Ranks.{own_rank, inner_rank, is_index}
use Rattle.meaning_ranks.specs.of_zpl_names.Sites.{Reach, Bound, Component, Operand, whole_rank, in_vector, over_source, Site, AtWhole, AtExpr, AtCall, AtNamed, AtDir, AtRegion, AtMask, AtStmt, AtBase, AtPosts, AtProcedure, index_sites, expr_sites, dir_sites, components_sites, region_sites, posts_sites, dims_sites, dim_sites}
use Rattle.meaning_ranks.specs.of_zpl_names.Accepted.{HasNoFault}
use Rattle.meaning_ranks.specs.of_zpl_meaning.Store.{Environment}
use Rattle.meaning_ranks.specs.of_zpl_meaning.Proper.{HasValue}
use Rattle.meaning_ranks.proofs.of_zpl_meaning.DepthLemmas.{Each, each_left, each_right}
use Rattle.meaning_ranks.proofs.of_zpl_meaning.ProperLemmas.{taken}
use Rattle.lower_numbers.specs.of_zpl_lowering.Program.{reads_at}

-- ---- tallies

-- a read that wraps round, and what comes behind it
abbrev pub round : Site → ℕ → ℕ
round (AtExpr reach rank (Around at name shift)) count = suc count
round site count = count

-- what is called, by its name
abbrev pub called : (List ℕ → ℕ) → Site → ℕ → ℕ
called n (AtCall reach place name actuals) count = n name.text + count
called n site count = count

abbrev pub tally : (Site → ℕ → ℕ) → List Site → ℕ
tally f [] = 0
tally f (site ∷ sites) = f site (tally f sites)

round_adds : (site : Site) (a b : ℕ) → round site (a + b) ≡ round site a + b
round_adds (AtExpr reach rank (Number at value)) a b = refl
round_adds (AtExpr reach rank (Truth at value)) a b = refl
round_adds (AtExpr reach rank (Coord at k)) a b = refl
round_adds (AtExpr reach rank (Named at name)) a b = refl
round_adds (AtExpr reach rank (Shifted at name shift)) a b = refl
round_adds (AtExpr reach rank (Around at name shift)) a b = omega arith
round_adds (AtExpr reach rank (Remap at name indices)) a b = refl
round_adds (AtExpr reach rank (Call at name actuals)) a b = refl
round_adds (AtExpr reach rank (Paren at inside)) a b = refl
round_adds (AtExpr reach rank (Neg at operand)) a b = refl
round_adds (AtExpr reach rank (Not at operand)) a b = refl
round_adds (AtExpr reach rank (Abs at operand)) a b = refl
round_adds (AtExpr reach rank (Pair at op left right)) a b = refl
round_adds (AtExpr reach rank (Reduce at operator over operand)) a b = refl
round_adds (AtExpr reach rank (Scan at operator along operand)) a b = refl
round_adds (AtExpr reach rank (Flood at source operand)) a b = refl
round_adds (AtWhole reach role one) a b = refl
round_adds (AtCall reach place name actuals) a b = refl
round_adds (AtNamed reach name) a b = refl
round_adds (AtDir reach dir) a b = refl
round_adds (AtRegion reach hint region) a b = refl
round_adds (AtMask reach prefix mask) a b = refl
round_adds (AtStmt reach at prefixes form) a b = refl
round_adds (AtBase base) a b = refl
round_adds (AtPosts reach region posts) a b = refl
round_adds (AtProcedure procedure) a b = refl

called_adds : (n : List ℕ → ℕ) (site : Site) (a b : ℕ) →
    called n site (a + b) ≡ called n site a + b
called_adds n (AtExpr reach rank one) a b = refl
called_adds n (AtWhole reach role one) a b = refl
called_adds n (AtCall reach place name actuals) a b = omega arith
called_adds n (AtNamed reach name) a b = refl
called_adds n (AtDir reach dir) a b = refl
called_adds n (AtRegion reach hint region) a b = refl
called_adds n (AtMask reach prefix mask) a b = refl
called_adds n (AtStmt reach at prefixes form) a b = refl
called_adds n (AtBase base) a b = refl
called_adds n (AtPosts reach region posts) a b = refl
called_adds n (AtProcedure procedure) a b = refl

pub rounds_append : (xs ys : List Site) →
    tally round (xs ++ ys) ≡ tally round xs + tally round ys
rounds_append [] ys = omega arith
rounds_append (x ∷ xs) ys =
    ap (round x) (rounds_append xs ys) ∙ round_adds x (tally round xs) (tally round ys)

pub calls_append : (n : List ℕ → ℕ) (xs ys : List Site) →
    tally (called n) (xs ++ ys) ≡ tally (called n) xs + tally (called n) ys
calls_append n [] ys = omega arith
calls_append n (x ∷ xs) ys =
    ap (called n x) (calls_append n xs ys)
    ∙ called_adds n x (tally (called n) xs) (tally (called n) ys)

-- a read that wraps round is one, and so many are read at a site
pub reads_are : (sites : List Site) → length (flat_map reads_at sites) ≡ tally round sites
reads_are [] = refl
reads_are (site ∷ sites) = by site (reads_are sites)
  where
    by : (site : Site) → length (flat_map reads_at sites) ≡ tally round sites →
        length (reads_at site ++ flat_map reads_at sites) ≡ round site (tally round sites)
    by (AtExpr reach rank (Number at value)) later = later
    by (AtExpr reach rank (Truth at value)) later = later
    by (AtExpr reach rank (Coord at k)) later = later
    by (AtExpr reach rank (Named at name)) later = later
    by (AtExpr reach rank (Shifted at name shift)) later = later
    by (AtExpr reach rank (Around at name shift)) later = ap suc later
    by (AtExpr reach rank (Remap at name indices)) later = later
    by (AtExpr reach rank (Call at name actuals)) later = later
    by (AtExpr reach rank (Paren at inside)) later = later
    by (AtExpr reach rank (Neg at operand)) later = later
    by (AtExpr reach rank (Not at operand)) later = later
    by (AtExpr reach rank (Abs at operand)) later = later
    by (AtExpr reach rank (Pair at op left right)) later = later
    by (AtExpr reach rank (Reduce at operator over operand)) later = later
    by (AtExpr reach rank (Scan at operator along operand)) later = later
    by (AtExpr reach rank (Flood at source operand)) later = later
    by (AtWhole reach role one) later = later
    by (AtCall reach place name actuals) later = later
    by (AtNamed reach name) later = later
    by (AtDir reach dir) later = later
    by (AtRegion reach hint region) later = later
    by (AtMask reach prefix mask) later = later
    by (AtStmt reach at prefixes form) later = later
    by (AtBase base) later = later
    by (AtPosts reach region posts) later = later
    by (AtProcedure procedure) later = later

-- the sites ask for nothing
pub record IsSilent (sites : List Site) : Type 0 where
  pub reads : tally round sites ≡ 0
  pub calls : (n : List ℕ → ℕ) → tally (called n) sites ≡ 0

pub no_sites : IsSilent []
no_sites = record { reads = refl; calls = λ n. refl }

pub silent_both : (xs ys : List Site) → IsSilent xs → IsSilent ys → IsSilent (xs ++ ys)
silent_both xs ys first rest = record {
  reads = rounds_append xs ys ∙ omega (arith, first.reads, rest.reads);
  calls = λ n. calls_append n xs ys ∙ omega (arith, first.calls n, rest.calls n);
}

-- ---- values by themselves

index_silent : (reach : Reach) (pre : List Pre) (base : RegionBase) (post : Posts) →
    IsSilent (index_sites reach pre base post)
index_silent reach pre (Ditto at) post = no_sites
index_silent reach pre (NamedRegion name) post = by (is_index reach.scope pre name post)
  where
    by : (b : Bool) → IsSilent (cond b
        (AtWhole reach Bound (Named name.at name) ∷
        AtExpr reach (whole_rank reach Bound (Named name.at name)) (Named name.at name) ∷ []) [])
    by true = record { reads = refl; calls = λ n. refl }
    by false = no_sites

pub value_silent : (environment : Environment) (reach : Reach) (rank : Rank) (one : Expr) →
    HasValue environment one → IsSilent (expr_sites reach rank one)
value_silent environment reach rank (Number at value) is =
    record { reads = refl; calls = λ n. refl }
value_silent environment reach rank (Truth at value) is =
    record { reads = refl; calls = λ n. refl }
value_silent environment reach rank (Named at name) is =
    record { reads = refl; calls = λ n. refl }
value_silent environment reach rank (Paren at inside) is =
    let later = value_silent environment reach rank inside is in
    record { reads = later.reads; calls = later.calls }
value_silent environment reach rank (Neg at operand) is =
    let later = value_silent environment reach rank operand is in
    record { reads = later.reads; calls = later.calls }
value_silent environment reach rank (Not at operand) is =
    let later = value_silent environment reach rank operand is in
    record { reads = later.reads; calls = later.calls }
value_silent environment reach rank (Abs at operand) is =
    let later = value_silent environment reach rank operand is in
    record { reads = later.reads; calls = later.calls }
value_silent environment reach rank (Pair at op left right) is =
    let later = silent_both (expr_sites reach rank left) (expr_sites reach rank right)
    (value_silent environment reach rank left is.0)
    (value_silent environment reach rank right is.1) in
    record { reads = later.reads; calls = later.calls }
value_silent environment reach rank (Coord at k) is = absurd is
value_silent environment reach rank (Shifted at name shift) is = absurd is
value_silent environment reach rank (Around at name shift) is = absurd is
value_silent environment reach rank (Remap at name indices) is = absurd is
value_silent environment reach rank (Call at name actuals) is = absurd is
value_silent environment reach rank (Reduce at operator over operand) is = absurd is
value_silent environment reach rank (Scan at operator along operand) is = absurd is
value_silent environment reach rank (Flood at source operand) is = absurd is

-- ---- expressions without variables

no_array : (constants : Bool) (one : Option Kind) → constants ≡ true →
    is_array (in_reach constants one) ≡ true → ⊥
no_array false one is array = let no : ⊥ = cc in no
no_array true None is array = let no : ⊥ = cc in no
no_array true (Some (kind.Config base)) is array = let no : ⊥ = cc in no
no_array true (Some (kind.Constant base)) is array = let no : ⊥ = cc in no
no_array true (Some (kind.Region shape)) is array = let no : ⊥ = cc in no
no_array true (Some (kind.Direction rank)) is array = let no : ⊥ = cc in no
no_array true (Some (kind.Scalar base)) is array = let no : ⊥ = cc in no
no_array true (Some (kind.Array base shape)) is array = let no : ⊥ = cc in no
no_array true (Some (kind.Procedure signature)) is array = let no : ⊥ = cc in no

constant_read : (reach : Reach) (name : Name) → reach.scope.constants ≡ true →
    is_array (kind_of reach.scope name) ≡ true → ⊥
constant_read reach name is array =
    no_array reach.scope.constants
    (option_or (kind_in reach.scope.own name.text) (kind_in reach.scope.globals name.text)) is
    array

no_call : (at : ℕ) → at ∷ [] ≡ [] → ⊥
no_call at is = cc

mutual
  constant_expr : (reach : Reach) → reach.scope.constants ≡ true → (rank : Rank) (one : Expr) →
      Each HasNoFault (expr_sites reach rank one) → IsSilent (expr_sites reach rank one)
  constant_expr reach is rank (Number at value) clean =
      record { reads = refl; calls = λ n. refl }
  constant_expr reach is rank (Truth at value) clean =
      record { reads = refl; calls = λ n. refl }
  constant_expr reach is rank (Coord at k) clean = record { reads = refl; calls = λ n. refl }
  constant_expr reach is rank (Named at name) clean = record { reads = refl; calls = λ n. refl }
  constant_expr reach is rank (Shifted at name shift) clean =
      absurd (constant_read reach name is (taken reach is_array name clean.0.known))
  constant_expr reach is rank (Around at name shift) clean =
      absurd (constant_read reach name is (taken reach is_array name clean.0.known))
  constant_expr reach is rank (Remap at name indices) clean =
      absurd (constant_read reach name is (taken reach is_array name clean.0.known))
  constant_expr reach is rank (Call at name actuals) clean =
      absurd (no_call name.at clean.0.calls)
  constant_expr reach is rank (Paren at inside) clean =
      let later = constant_expr reach is rank inside clean.1 in
      record { reads = later.reads; calls = later.calls }
  constant_expr reach is rank (Neg at operand) clean =
      let later = constant_expr reach is rank operand clean.1 in
      record { reads = later.reads; calls = later.calls }
  constant_expr reach is rank (Not at operand) clean =
      let later = constant_expr reach is rank operand clean.1 in
      record { reads = later.reads; calls = later.calls }
  constant_expr reach is rank (Abs at operand) clean =
      let later = constant_expr reach is rank operand clean.1 in
      record { reads = later.reads; calls = later.calls }
  constant_expr reach is rank (Pair at op left right) clean =
      let one = expr_sites reach rank left in
      let other = expr_sites reach rank right in
      let later = silent_both one other
      (constant_expr reach is rank left (each_left HasNoFault one other clean.1))
      (constant_expr reach is rank right (each_right HasNoFault one other clean.1)) in
      record { reads = later.reads; calls = later.calls }
  constant_expr reach is rank (Reduce at operator NoBracket operand) clean =
      let later = constant_expr reach is (whole_rank reach Operand operand) operand clean.1.1 in
      record { reads = later.reads; calls = later.calls }
  constant_expr reach is rank (Reduce at operator (Bracketed source) operand) clean =
      let hint = own_rank reach.scope reach.prefix operand in
      let over = inner_rank reach.scope hint reach.prefix source in
      let one = region_sites reach hint source in
      let other = expr_sites (over_source reach over source) over operand in
      let later = silent_both one other
      (constant_region reach is hint source (each_left HasNoFault one other clean.1))
      (constant_expr (over_source reach over source) is over operand
      (each_right HasNoFault one other clean.1)) in
      record { reads = later.reads; calls = later.calls }
  constant_expr reach is rank (Scan at operator along operand) clean =
      let later = constant_expr reach is rank operand clean.1 in
      record { reads = later.reads; calls = later.calls }
  constant_expr reach is rank (Flood at source operand) clean =
      let hint = own_rank reach.scope reach.prefix operand in
      let over = inner_rank reach.scope hint reach.prefix source in
      let one = region_sites reach hint source in
      let other = expr_sites (over_source reach over source) over operand in
      let later = silent_both one other
      (constant_region reach is hint source (each_left HasNoFault one other clean.1))
      (constant_expr (over_source reach over source) is over operand
      (each_right HasNoFault one other clean.1)) in
      record { reads = later.reads; calls = later.calls }

  constant_region : (reach : Reach) → reach.scope.constants ≡ true → (hint : Rank)
      (inner : Inner) → Each HasNoFault (region_sites reach hint inner) →
      IsSilent (region_sites reach hint inner)
  constant_region reach is hint (Rexpr pre base post) clean =
      let one = index_sites reach pre base post in
      let later = silent_both one (posts_sites reach post) (index_silent reach pre base post)
      (posts_silent reach post (each_right HasNoFault one (posts_sites reach post) clean.1)) in
      record { reads = later.reads; calls = later.calls }
  constant_region reach is hint (Dims dims) clean =
      let later = constant_dims reach is dims clean.1 in
      record { reads = later.reads; calls = later.calls }

  constant_dims : (reach : Reach) → reach.scope.constants ≡ true → (dims : DimTexts) →
      Each HasNoFault (dims_sites reach dims) → IsSilent (dims_sites reach dims)
  constant_dims reach is NoDim clean = no_sites
  constant_dims reach is (ThenDim first rest) clean =
      silent_both (dim_sites reach first) (dims_sites reach rest)
      (constant_dim reach is first
      (each_left HasNoFault (dim_sites reach first) (dims_sites reach rest) clean))
      (constant_dims reach is rest
      (each_right HasNoFault (dim_sites reach first) (dims_sites reach rest) clean))

  constant_dim : (reach : Reach) → reach.scope.constants ≡ true → (one : DimText) →
      Each HasNoFault (dim_sites reach one) → IsSilent (dim_sites reach one)
  constant_dim reach is (Blank at) clean = no_sites
  constant_dim reach is (Star at) clean = no_sites
  constant_dim reach is (One index) clean =
      let later = constant_expr reach is (whole_rank reach Bound index) index clean.1 in
      record { reads = later.reads; calls = later.calls }
  constant_dim reach is (Span low high) clean =
      let one = expr_sites reach (whole_rank reach Bound low) low in
      let behind = expr_sites reach (whole_rank reach Bound high) high in
      let second = AtWhole reach Bound high ∷ behind in
      let far = constant_expr reach is (whole_rank reach Bound high) high
      (each_right HasNoFault one second clean.1).1 in
      let later = silent_both one second
      (constant_expr reach is (whole_rank reach Bound low) low
      (each_left HasNoFault one second clean.1))
      (record { reads = far.reads; calls = far.calls }) in
      record { reads = later.reads; calls = later.calls }

  pub posts_silent : (reach : Reach) (posts : Posts) → Each HasNoFault (posts_sites reach posts) →
      IsSilent (posts_sites reach posts)
  posts_silent reach NoPost clean = no_sites
  posts_silent reach (ThenPost stride dir rest) clean =
      silent_both (dir_sites reach dir) (posts_sites reach rest)
      (dir_silent reach dir
      (each_left HasNoFault (dir_sites reach dir) (posts_sites reach rest) clean))
      (posts_silent reach rest
      (each_right HasNoFault (dir_sites reach dir) (posts_sites reach rest) clean))

  pub dir_silent : (reach : Reach) (dir : Dir) → Each HasNoFault (dir_sites reach dir) →
      IsSilent (dir_sites reach dir)
  dir_silent reach (NamedDir name) clean = record { reads = refl; calls = λ n. refl }
  dir_silent reach (Vector parts) clean =
      let later = components_silent (in_vector reach) refl parts clean.1 in
      record { reads = later.reads; calls = later.calls }

  components_silent : (reach : Reach) → reach.scope.constants ≡ true → (parts : Exprs) →
      Each HasNoFault (components_sites reach parts) → IsSilent (components_sites reach parts)
  components_silent reach is NoExpr clean = no_sites
  components_silent reach is (ThenExpr first rest) clean =
      let one = expr_sites reach (whole_rank reach Component first) first in
      let others = components_sites reach rest in
      let later = silent_both one others
      (constant_expr reach is (whole_rank reach Component first) first
      (each_left HasNoFault one others clean.1))
      (components_silent reach is rest (each_right HasNoFault one others clean.1)) in
      record { reads = later.reads; calls = later.calls }

-- ---- brackets, whose bounds have values

abbrev pub IsTameDim : Environment → DimText → Type 0
IsTameDim environment (Blank at) = Unit {0}
IsTameDim environment (Star at) = Unit {0}
IsTameDim environment (One index) = HasValue environment index
IsTameDim environment (Span low high) = HasValue environment low × HasValue environment high

abbrev pub AreTameDims : Environment → DimTexts → Type 0
AreTameDims environment NoDim = Unit {0}
AreTameDims environment (ThenDim first rest) =
    IsTameDim environment first × AreTameDims environment rest

abbrev pub IsTameInner : Environment → Inner → Type 0
IsTameInner environment (Rexpr pre base post) = Unit {0}
IsTameInner environment (Dims dims) = AreTameDims environment dims

dim_silent : (environment : Environment) (reach : Reach) (one : DimText) →
    IsTameDim environment one → IsSilent (dim_sites reach one)
dim_silent environment reach (Blank at) is = no_sites
dim_silent environment reach (Star at) is = no_sites
dim_silent environment reach (One index) is =
    let later = value_silent environment reach (whole_rank reach Bound index) index is in
    record { reads = later.reads; calls = later.calls }
dim_silent environment reach (Span low high) is =
    let far = value_silent environment reach (whole_rank reach Bound high) high is.1 in
    let later = silent_both (expr_sites reach (whole_rank reach Bound low) low)
    (AtWhole reach Bound high ∷ expr_sites reach (whole_rank reach Bound high) high)
    (value_silent environment reach (whole_rank reach Bound low) low is.0)
    (record { reads = far.reads; calls = far.calls }) in
    record { reads = later.reads; calls = later.calls }

dims_silent : (environment : Environment) (reach : Reach) (dims : DimTexts) →
    AreTameDims environment dims → IsSilent (dims_sites reach dims)
dims_silent environment reach NoDim is = no_sites
dims_silent environment reach (ThenDim first rest) is =
    silent_both (dim_sites reach first) (dims_sites reach rest)
    (dim_silent environment reach first is.0) (dims_silent environment reach rest is.1)

pub region_silent : (environment : Environment) (reach : Reach) (hint : Rank) (inner : Inner) →
    IsTameInner environment inner → Each HasNoFault (region_sites reach hint inner) →
    IsSilent (region_sites reach hint inner)
region_silent environment reach hint (Rexpr pre base post) is clean =
    let one = index_sites reach pre base post in
    let later = silent_both one (posts_sites reach post) (index_silent reach pre base post)
    (posts_silent reach post (each_right HasNoFault one (posts_sites reach post) clean.1)) in
    record { reads = later.reads; calls = later.calls }
region_silent environment reach hint (Dims dims) is clean =
    let later = dims_silent environment reach dims is in
    record { reads = later.reads; calls = later.calls }
