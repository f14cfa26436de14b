-- The faults of a site, one function for each fault: the offsets of its places.
use Rattle.std.specs.Prelude.{ℕ, zero, suc, Bool, true, false, not, ◌&&◌, ◌||◌, ◌==◌, nat_lt, if◌then◌else◌, ℤ, pos, int_lt, List, [], ◌∷◌, ◌++◌, map, flat_map, Option, Some, None, is_some, is_none}
use Rattle.std.specs.List.{list_any}
use Rattle.std.specs.Str.{bytes_eq}
use Rattle.zpl_tree.specs.of_zpl_nums.declared.operators.Op.{Op}
use Rattle.zpl_tree.specs.Syntax.{Name, Pre, RegionBase, NamedRegion, Ditto, Expr, Coord, Named, Shifted, Around, Remap, Not, Pair, Reduce, Scan, Flood, Exprs, NoExpr, ThenExpr, Dir, NamedDir, Vector, Inner, Rexpr, Dims, NoBracket, Bracketed, Posts, NoPost, ThenPost, DimText, Blank, Star, One, Span, DimTexts, NoDim, ThenDim, Prefix, Item, Str, Value, Stmt, Prefixed, Stmts, NoStmt, ThenStmt, Form, Assign, Block, If, While, Repeat, For, Border, Write, Return, Tested, Arms, NoArm, ThenArm, Base, Other, at_of}
use Rattle.zpl_names.specs.Kinds as kind
use Rattle.zpl_names.specs.Kinds.{Shape, Rank, Kind, Formal, ScalarFormal, ArrayFormal, Signature}
use Rattle.zpl_names.specs.Scope.{kind_of, is_value, is_array, is_scalar, is_fixed, is_region, is_direction, is_procedure}
use Rattle.zpl_names.specs.Ranks.{first_rank, both_ranks, ranks_clash, is_above_zero, is_zero, exprs_count, dims_count, at_most_three, direction_rank, dir_rank, is_index, ditto_rank, inner_rank, own_rank, is_open, operand_rank, lacks_rank, array_shape, array_rank}
use Rattle.zpl_names.specs.Types.{kind_base, result_base, takes_booleans, fold_base, type_of, is_integer, is_boolean, types_differ, has_parallel, is_elementwise}
use Rattle.zpl_names.specs.Shapes.{Current, Absent, Over, current_of, shape_of_current, inner_shape, prefix_rank}
use Rattle.zpl_names.specs.Declared.{own_names}
use Rattle.zpl_names.specs.Sites.{Reach, Role, Bound, Component, Limit, Initial, Result, Test, Printed, Actual, Operand, Assigned, handed, whole_rank, AsStatement, AsValue, Elsewhere, Site, AtWhole, AtExpr, AtCall, AtNamed, AtDir, AtRegion, AtMask, AtStmt, AtBase, AtPosts, AtProcedure, test_rank, tests_rank}

-- the place, where the test holds
abbrev pub at_if : Bool → ℕ → List ℕ
at_if test at = if test then at ∷ [] else []

abbrev pub kind_at : Reach → Name → Option Kind
kind_at reach name = kind_of reach.scope name

-- ---- UnknownName: a name isn't declared in reach, or stands for what its place doesn't take; at
-- the name

abbrev pub unless_taken : Reach → (Option Kind → Bool) → Name → List ℕ
unless_taken reach takes name = at_if (not (takes (kind_at reach name))) name.at

abbrev pub unknown_base : Reach → List Pre → RegionBase → Posts → List ℕ
unknown_base reach pre (Ditto at) post = []
unknown_base reach pre (NamedRegion name) post =
    at_if (not (is_region (kind_at reach name) || is_index reach.scope pre name post)) name.at

abbrev pub unknown_names : Site → List ℕ
unknown_names (AtExpr reach rank (Named at name)) = unless_taken reach is_value name
unknown_names (AtExpr reach rank (Shifted at name shift)) = unless_taken reach is_array name
unknown_names (AtExpr reach rank (Around at name shift)) = unless_taken reach is_array name
unknown_names (AtExpr reach rank (Remap at name indices)) = unless_taken reach is_array name
unknown_names (AtCall reach place name actuals) = unless_taken reach is_procedure name
unknown_names (AtNamed reach name) = unless_taken reach is_value name
unknown_names (AtDir reach (NamedDir name)) = unless_taken reach is_direction name
unknown_names (AtRegion reach hint (Rexpr pre base post)) =
    flat_map (λ pre. unless_taken reach is_direction pre.dir) pre ++
    unknown_base reach pre base post
unknown_names (AtMask reach prefix mask) = unless_taken reach is_array mask.name
unknown_names (AtStmt reach at prefixes (Assign name op value)) = unless_taken reach is_value name
unknown_names (AtStmt reach at prefixes (For head body)) = unless_taken reach is_scalar head.name
unknown_names (AtStmt reach at prefixes (Border border names)) =
    flat_map (unless_taken reach is_array) names
unknown_names site = []

-- ---- TwiceNamed: a global has an earlier global's name, or what a procedure declares has that of
-- an earlier parameter or local variable; its place is the later name's

abbrev pub repeated : List Name → List Name → List ℕ
repeated before [] = []
repeated before (name ∷ rest) =
    at_if (list_any (λ earlier. bytes_eq earlier.text name.text) before) name.at ++
    repeated (name ∷ before) rest

abbrev pub twice_named : Site → List ℕ
twice_named (AtProcedure procedure) = repeated [] (own_names procedure)
twice_named site = []

-- ---- UnknownType: a type is neither `integer` nor `boolean`; at the type

abbrev pub unknown_types : Site → List ℕ
unknown_types (AtBase (Other name)) = name.at ∷ []
unknown_types site = []

-- ---- TypeClash: what must be a boolean is an integer, a `for` counts with a boolean, or the bound
-- of a dimension holds an operator over a region or a remap read; its place is that part's own

abbrev pub is_integer_in : Reach → Expr → Bool
is_integer_in reach expr = is_integer (type_of reach.scope expr)

abbrev pub unless_boolean : Reach → Expr → List ℕ
unless_boolean reach expr = at_if (is_integer_in reach expr) (at_of expr)

abbrev pub value_base : Reach → Name → Option Base
value_base reach name = kind_base (kind_at reach name)

abbrev pub wants_boolean : Option Base → Bool
wants_boolean (Some base) = is_boolean base
wants_boolean None = false

-- `A op= e` is `A := A op e`
abbrev pub assigns_integer : Option Base → Option Op → Bool → Bool
assigns_integer target None integer = wants_boolean target && integer
assigns_integer target (Some op) integer =
    if takes_booleans op then integer else wants_boolean target

abbrev pub is_wrong_type : Reach → Role → Expr → Bool
is_wrong_type reach Bound expr = has_parallel expr
is_wrong_type reach Test expr = is_integer_in reach expr
is_wrong_type reach (Initial base) expr = is_boolean base && is_integer_in reach expr
is_wrong_type reach (Result base) expr = wants_boolean base && is_integer_in reach expr
is_wrong_type reach (Assigned name op) expr =
    assigns_integer (value_base reach name) op (is_integer_in reach expr)
is_wrong_type reach role expr = false

-- the variable is an operand of `&=` and `|=`
abbrev pub assigned_operand : Reach → Name → Option Op → List ℕ
assigned_operand reach name None = []
assigned_operand reach name (Some op) =
    at_if (takes_booleans op && is_integer (value_base reach name)) name.at

abbrev pub type_clashes : Site → List ℕ
type_clashes (AtWhole reach role expr) = at_if (is_wrong_type reach role expr) (at_of expr)
type_clashes (AtExpr reach rank (Not at operand)) = unless_boolean reach operand
type_clashes (AtExpr reach rank (Pair at op left right)) =
    if takes_booleans op then unless_boolean reach left ++ unless_boolean reach right else []
type_clashes (AtExpr reach rank (Reduce at operator over operand)) =
    if is_boolean (fold_base operator) then unless_boolean reach operand else []
type_clashes (AtExpr reach rank (Scan at operator along operand)) =
    if is_boolean (fold_base operator) then unless_boolean reach operand else []
type_clashes (AtStmt reach at prefixes (Assign name op value)) = assigned_operand reach name op
type_clashes (AtStmt reach at prefixes (For head body)) =
    at_if (is_scalar (kind_at reach head.name) && wants_boolean (value_base reach head.name))
    head.name.at
type_clashes site = []

-- ---- RankClash: two ranks meet that differ, a region or a vector has a fourth part, or a
-- coordinate stands in an expression of too low a rank; at the second of the two, at the fourth
-- part, or at the coordinate

abbrev pub dir_at : Dir → ℕ
dir_at (NamedDir name) = name.at
dir_at (Vector (ThenExpr first rest)) = at_of first
dir_at (Vector NoExpr) = 0

abbrev pub base_at : RegionBase → ℕ
base_at (NamedRegion name) = name.at
base_at (Ditto at) = at

abbrev pub dim_at : DimText → ℕ
dim_at (Blank at) = at
dim_at (Star at) = at
dim_at (One index) = at_of index
dim_at (Span low high) = at_of low

abbrev pub fourth_dim : DimTexts → List ℕ
fourth_dim (ThenDim one (ThenDim two (ThenDim three (ThenDim four rest)))) = dim_at four ∷ []
fourth_dim dims = []

abbrev pub fourth_part : Exprs → List ℕ
fourth_part (ThenExpr one (ThenExpr two (ThenExpr three (ThenExpr four rest)))) = at_of four ∷ []
fourth_part parts = []

-- a place that takes a scalar alone
abbrev pub takes_scalar : Role → Bool
takes_scalar Bound = true
takes_scalar Component = true
takes_scalar Limit = true
takes_scalar (Initial base) = true
takes_scalar (Result base) = true
takes_scalar role = false

-- a scalar goes into every array
abbrev pub cannot_hold : Option Kind → Rank → Bool
cannot_hold (Some (kind.Array base shape)) rank =
    ranks_clash (array_rank (Some (kind.Array base shape))) rank
cannot_hold kind rank = is_scalar kind && is_above_zero rank

abbrev pub is_wrong_rank : Reach → Role → Expr → Bool
is_wrong_rank reach (Assigned name op) expr =
    cannot_hold (kind_at reach name) (whole_rank reach (Assigned name op) expr)
is_wrong_rank reach role expr = takes_scalar role && is_above_zero (whole_rank reach role expr)

abbrev pub own_rank_in : Reach → Expr → Rank
own_rank_in reach expr = own_rank reach.scope reach.prefix expr

-- the region that an operator with an operand is over
abbrev pub source_rank : Reach → Inner → Expr → Rank
source_rank reach source operand =
    inner_rank reach.scope (own_rank_in reach operand) reach.prefix source

abbrev pub is_past : Rank → ℕ → Bool
is_past None dimension = false
is_past (Some rank) dimension = nat_lt rank dimension

abbrev pub no_dimension : Rank → Option ℤ → Bool
no_dimension None along = false
no_dimension rank None = false
no_dimension (Some rank) (Some along) = int_lt along (pos 1) || int_lt (pos rank) along

abbrev pub is_other_count : Rank → ℕ → Bool
is_other_count None count = false
is_other_count (Some rank) count = not (rank == count)

-- each index against those before it
abbrev pub index_clashes : Reach → Rank → Exprs → List ℕ
index_clashes reach before NoExpr = []
index_clashes reach before (ThenExpr first rest) =
    at_if (ranks_clash before (own_rank_in reach first)) (at_of first) ++
    index_clashes reach (both_ranks before (own_rank_in reach first)) rest

-- each direction before a region against what follows it
abbrev pub pre_clashes : Reach → Rank → List Pre → ℕ → List ℕ
pre_clashes reach rank [] base = []
pre_clashes reach rank (pre ∷ []) base =
    at_if (ranks_clash (direction_rank (kind_at reach pre.dir)) rank) base
pre_clashes reach rank (pre ∷ next ∷ rest) base =
    at_if (ranks_clash (direction_rank (kind_at reach pre.dir)) rank) next.dir.at ++
    pre_clashes reach rank (next ∷ rest) base

abbrev pub post_clashes : Reach → Rank → Posts → List ℕ
post_clashes reach rank NoPost = []
post_clashes reach rank (ThenPost stride dir rest) =
    at_if (ranks_clash rank (dir_rank reach.scope dir)) (dir_at dir) ++ post_clashes reach rank rest

abbrev pub region_rank_in : Reach → Rank → Inner → Rank
region_rank_in reach hint region = inner_rank reach.scope hint reach.prefix region

abbrev pub rank_clashes : Site → List ℕ
rank_clashes (AtWhole reach role expr) = at_if (is_wrong_rank reach role expr) (at_of expr)
rank_clashes (AtExpr reach rank (Coord at dimension)) = at_if (is_past rank dimension) at
rank_clashes (AtExpr reach rank (Shifted at name shift)) =
    at_if (ranks_clash (array_rank (kind_at reach name)) (dir_rank reach.scope shift))
    (dir_at shift)
rank_clashes (AtExpr reach rank (Around at name shift)) =
    at_if (ranks_clash (array_rank (kind_at reach name)) (dir_rank reach.scope shift))
    (dir_at shift)
rank_clashes (AtExpr reach rank (Remap at name indices)) =
    at_if (is_other_count (array_rank (kind_at reach name)) (exprs_count indices)) at ++
    index_clashes reach (Some 0) indices
rank_clashes (AtExpr reach rank (Pair at op left right)) =
    at_if (ranks_clash (own_rank_in reach left) (own_rank_in reach right)) (at_of right)
rank_clashes (AtExpr reach rank (Reduce at operator (Bracketed source) operand)) =
    at_if (ranks_clash (source_rank reach source operand) (own_rank_in reach operand))
    (at_of operand)
rank_clashes (AtExpr reach rank (Flood at source operand)) =
    at_if (ranks_clash (source_rank reach source operand) (own_rank_in reach operand))
    (at_of operand)
rank_clashes (AtExpr reach rank (Scan at operator along operand)) =
    at_if (no_dimension rank along) (at_of operand)
rank_clashes (AtDir reach (Vector parts)) = fourth_part parts
rank_clashes (AtRegion reach hint (Dims dims)) = fourth_dim dims
rank_clashes (AtRegion reach hint (Rexpr pre base post)) =
    let rank = region_rank_in reach hint (Rexpr pre base post) in
    pre_clashes reach rank pre (base_at base) ++ post_clashes reach rank post
rank_clashes (AtPosts reach region posts) =
    post_clashes reach (region_rank_in reach (Some 0) region) posts
rank_clashes (AtMask reach prefix mask) =
    let rank = prefix_rank reach.scope reach.prefix prefix in
    at_if (ranks_clash rank (array_rank (kind_at reach mask.name))) mask.name.at
rank_clashes (AtStmt reach at prefixes (Border border names)) =
    flat_map (λ name. at_if (ranks_clash reach.prefix (array_rank (kind_at reach name))) name.at)
    names
rank_clashes site = []

-- ---- NoRegion: the current region of a rank is asked for where there is none, by a statement on
-- arrays, an operator over regions, a blank or a ditto; a region's or a variable's declaration
-- never has one. Its place is that of what asks

abbrev pub is_absent : Current → Bool
is_absent Absent = true
is_absent current = false

abbrev pub lacks_region : Reach → Rank → Bool
lacks_region reach rank = is_absent (current_of reach.shapes rank)

abbrev pub blanks : DimTexts → List ℕ
blanks NoDim = []
blanks (ThenDim (Blank at) rest) = at ∷ blanks rest
blanks (ThenDim first rest) = blanks rest

abbrev pub item_rank : Reach → Item → Rank
item_rank reach (Str bytes) = Some 0
item_rank reach (Value value) = whole_rank reach Printed value

-- the ranks at which a statement is one of arrays: of a `while`, a `repeat` or an `if` that of its
-- tests, of a border statement that of its prefix
abbrev pub form_ranks : Reach → Form → List Rank
form_ranks reach (Assign name op value) = array_rank (kind_at reach name) ∷ []
form_ranks reach (Write line items) = map (item_rank reach) items
form_ranks reach (Border border names) = reach.prefix ∷ []
form_ranks reach form = tests_rank reach form ∷ []

abbrev pub no_regions : Site → List ℕ
no_regions (AtExpr reach rank (Reduce at operator NoBracket operand)) =
    at_if (lacks_region reach (operand_rank reach.scope reach.prefix operand)) at
no_regions (AtExpr reach rank (Reduce at operator (Bracketed source) operand)) =
    at_if (lacks_region reach (source_rank reach source operand)) at
no_regions (AtExpr reach rank (Flood at source operand)) =
    at_if (lacks_region reach (source_rank reach source operand)) at
no_regions (AtExpr reach rank (Scan at operator along operand)) = at_if (lacks_region reach rank) at
no_regions (AtRegion reach hint (Dims dims)) =
    if reach.declared || lacks_region reach (at_most_three (dims_count dims)) then blanks dims else []
no_regions (AtRegion reach hint (Rexpr pre (Ditto at) post)) =
    let rank = region_rank_in reach hint (Rexpr pre (Ditto at) post) in
    at_if (reach.declared || lacks_region reach rank) at
no_regions (AtStmt reach at prefixes form) =
    at_if (list_any (lacks_region reach) (form_ranks reach form)) at
no_regions site = []

-- ---- FloodClash: an array, a coordinate or an operator meets a flood dimension that it can't
-- have; at the reference, operator or statement

-- a region has a flood dimension that an array lacks
abbrev pub reaches_beyond : Shape → Shape → Bool
reaches_beyond (flood ∷ region) (own ∷ array) = (flood && not own) || reaches_beyond region array
reaches_beyond region array = false

abbrev pub both_known : (Shape → Shape → Bool) → Option Shape → Option Shape → Bool
both_known test (Some shape) (Some other) = test shape other
both_known test shape other = false

abbrev pub has_flood : Option Shape → Bool
has_flood None = false
has_flood (Some shape) = list_any (λ flood. flood) shape

abbrev pub floods_at : Option Shape → ℕ → Bool
floods_at (Some (one ∷ rest)) (suc zero) = one
floods_at (Some (one ∷ two ∷ rest)) (suc (suc zero)) = two
floods_at (Some (one ∷ two ∷ three ∷ rest)) (suc (suc (suc zero))) = three
floods_at shape dimension = false

-- the shape of the current region of a rank, where it is known
abbrev pub shape_at : Reach → Rank → Option Shape
shape_at reach rank = shape_of_current (current_of reach.shapes rank)

-- an array without a flood dimension is read under a region that has it
abbrev pub flood_read : Reach → ℕ → Name → List ℕ
flood_read reach at name =
    let kind = kind_at reach name in
    at_if (both_known reaches_beyond (shape_at reach (array_rank kind)) (array_shape kind)) at

-- an array is written under a region with other flood dimensions
abbrev pub is_flood_written : Reach → Name → Bool
is_flood_written reach name =
    let kind = kind_at reach name in
    both_known reaches_beyond (shape_at reach (array_rank kind)) (array_shape kind) ||
    both_known reaches_beyond (array_shape kind) (shape_at reach (array_rank kind))

abbrev pub flood_clashes : Site → List ℕ
flood_clashes (AtExpr reach rank (Named at name)) = flood_read reach at name
flood_clashes (AtExpr reach rank (Shifted at name shift)) = flood_read reach at name
flood_clashes (AtExpr reach rank (Around at name shift)) = flood_read reach at name
flood_clashes (AtExpr reach rank (Remap at name indices)) =
    at_if (has_flood (array_shape (kind_at reach name)) || has_flood (shape_at reach rank)) at
flood_clashes (AtExpr reach rank (Coord at dimension)) =
    at_if (floods_at (shape_at reach rank) dimension) at
flood_clashes (AtExpr reach rank (Reduce at operator NoBracket operand)) =
    at_if (has_flood (shape_at reach (operand_rank reach.scope reach.prefix operand))) at
flood_clashes (AtExpr reach rank (Reduce at operator (Bracketed source) operand)) =
    at_if
    (has_flood (inner_shape reach.scope reach.shapes (source_rank reach source operand) source))
    at
flood_clashes (AtExpr reach rank (Flood at source operand)) =
    at_if
    (has_flood (inner_shape reach.scope reach.shapes (source_rank reach source operand) source))
    at
flood_clashes (AtExpr reach rank (Scan at operator along operand)) =
    at_if (has_flood (shape_at reach rank)) at
flood_clashes (AtMask reach prefix mask) =
    let rank = prefix_rank reach.scope reach.prefix prefix in
    let shape = inner_shape reach.scope reach.shapes rank prefix.region in
    at_if (both_known reaches_beyond shape (array_shape (kind_at reach mask.name))) mask.name.at
flood_clashes (AtStmt reach at prefixes (Assign name op value)) =
    at_if (is_flood_written reach name) at
flood_clashes (AtStmt reach at prefixes (Write line items)) =
    at_if (list_any (λ item. has_flood (shape_at reach (item_rank reach item))) items) at
flood_clashes (AtStmt reach at prefixes (Border border names)) =
    at_if (has_flood (shape_at reach reach.prefix) || list_any (is_flood_written reach) names) at
flood_clashes site = []

-- ---- ShatterBody: what a shattered statement can't have stands in it; at the statement or the
-- expression

-- in a shattered statement a test is elementwise, and a scalar or of its rank
abbrev pub broken_test : Reach → Rank → Expr → List ℕ
broken_test reach rank test =
    at_if
    (is_above_zero rank && (not (is_elementwise test) ||
    ranks_clash rank (test_rank reach test)))
    (at_of test)

abbrev pub broken_arms : Reach → Rank → Arms → List ℕ
broken_arms reach rank NoArm = []
broken_arms reach rank (ThenArm (Tested at test body) rest) =
    broken_test reach rank test ++ broken_arms reach rank rest

-- the tests of a statement, in a shattered one of this rank
abbrev pub broken_tests : Reach → Rank → Form → List ℕ
broken_tests reach rank (If arms otherwise) = broken_arms reach rank arms
broken_tests reach rank (While test body) = broken_test reach rank test
broken_tests reach rank (Repeat body until test) = broken_test reach rank test
broken_tests reach rank form = []

-- an array of another rank, or no array
abbrev pub is_other_target : Option Kind → Rank → Bool
is_other_target (Some (kind.Array base shape)) rank =
    ranks_clash (array_rank (Some (kind.Array base shape))) rank
is_other_target kind rank = is_scalar kind

-- a statement in a shattered one assigns an array of its rank elementwise, branches, loops or is a
-- block
abbrev pub broken_form : Reach → ℕ → Form → List ℕ
broken_form reach at (Assign name op value) =
    at_if (is_other_target (kind_at reach name) reach.shattered) at ++
    at_if (not (is_elementwise value)) (at_of value)
broken_form reach at (Block body) = []
broken_form reach at (If arms otherwise) = []
broken_form reach at (While test body) = []
broken_form reach at (Repeat body until test) = []
broken_form reach at form = at ∷ []

-- and has no prefix
abbrev pub has_prefix : List Prefix → Bool
has_prefix [] = false
has_prefix (prefix ∷ rest) = true

abbrev pub shatter_bodies : Site → List ℕ
shatter_bodies (AtStmt reach at prefixes form) =
    (if is_above_zero reach.shattered then at_if (has_prefix prefixes) at ++
    broken_form reach at form else []) ++
    broken_tests reach (first_rank reach.shattered (tests_rank reach form)) form
shatter_bodies site = []

-- ---- NotAssignable: a config or a constant is assigned, is a `for` variable or the actual of a
-- `var` parameter; at the name

abbrev pub fixed_at : Reach → Name → List ℕ
fixed_at reach name = at_if (is_fixed (kind_at reach name)) name.at

abbrev pub is_by_ref : Formal → Bool
is_by_ref (ScalarFormal by_ref base) = by_ref
is_by_ref (ArrayFormal by_ref base shape) = by_ref

abbrev pub fixed_actual : Reach → Formal → Expr → List ℕ
fixed_actual reach formal (Named at name) = if is_by_ref formal then fixed_at reach name else []
fixed_actual reach formal actual = []

abbrev pub fixed_actuals : Reach → List Formal → Exprs → List ℕ
fixed_actuals reach (formal ∷ formals) (ThenExpr actual rest) =
    fixed_actual reach formal actual ++ fixed_actuals reach formals rest
fixed_actuals reach formals actuals = []

abbrev pub formals_in : Option Kind → List Formal
formals_in (Some (kind.Procedure signature)) = signature.formals
formals_in kind = []

abbrev pub not_assignable : Site → List ℕ
not_assignable (AtStmt reach at prefixes (Assign name op value)) = fixed_at reach name
not_assignable (AtStmt reach at prefixes (For head body)) = fixed_at reach head.name
not_assignable (AtCall reach place name actuals) =
    fixed_actuals reach (formals_in (kind_at reach name)) actuals
not_assignable site = []

-- ---- Arguments: a call hands on more or fewer actuals than there are parameters, or one that its
-- parameter doesn't take: for its type, its shape or its form. Its place is that of the call's name

-- a shape differs from another in its rank or a flood dimension
abbrev pub is_other_shape : Shape → Shape → Bool
is_other_shape [] [] = false
is_other_shape (one ∷ shape) (two ∷ other) =
    (one && not two) || (two && not one) || is_other_shape shape other
is_other_shape shape other = true

-- The actual of a `var` parameter is a variable's name. A config or a constant there is
-- NotAssignable.
abbrev pub fits_reference : Base → Option Kind → Bool
fits_reference base (Some (kind.Scalar other)) = not (types_differ base (Some other))
fits_reference base kind = not (is_array kind)

-- that of an array is an array's name
abbrev pub fits_array : Base → Option Shape → Option Kind → Bool
fits_array base shape (Some (kind.Array other own)) =
    not (types_differ base (Some other)) && not (both_known is_other_shape shape own)
fits_array base shape kind = not (is_scalar kind)

-- an integer parameter takes a boolean
abbrev pub fits : Reach → Formal → Expr → Bool
fits reach (ScalarFormal true base) (Named at name) = fits_reference base (kind_at reach name)
fits reach (ScalarFormal true base) actual = false
fits reach (ArrayFormal by_ref base shape) (Named at name) =
    fits_array base shape (kind_at reach name)
fits reach (ArrayFormal by_ref base shape) actual = false
fits reach (ScalarFormal false base) actual =
    not (is_above_zero (whole_rank reach Actual actual)) &&
    not (is_boolean base && is_integer_in reach actual)

abbrev pub all_fit : Reach → List Formal → Exprs → Bool
all_fit reach [] NoExpr = true
all_fit reach (formal ∷ formals) (ThenExpr actual rest) =
    fits reach formal actual && all_fit reach formals rest
all_fit reach formals actuals = false

abbrev pub arguments : Site → List ℕ
arguments (AtCall reach place name actuals) =
    at_if (is_procedure (kind_at reach name) &&
    not (all_fit reach (formals_in (kind_at reach name)) actuals)) name.at
arguments site = []

-- ---- ReturnPlace: a `return` that isn't the last statement of the body of a procedure with a
-- result, or such a body that doesn't end with one; at the `return` or the procedure's name

abbrev pub ends_in_return : Stmts → Bool
ends_in_return NoStmt = false
ends_in_return (ThenStmt (Prefixed at prefixes (Return value)) NoStmt) = true
ends_in_return (ThenStmt first rest) = ends_in_return rest

abbrev pub body_returns : Stmt → Bool
body_returns (Prefixed at prefixes (Block body)) = ends_in_return body
body_returns stmt = false

abbrev pub return_places : Site → List ℕ
return_places (AtStmt reach at prefixes (Return value)) = at_if (is_none reach.result) at
return_places (AtProcedure procedure) =
    at_if (is_some procedure.result && not (body_returns procedure.body)) procedure.name.at
return_places site = []

-- ---- CallPlace: a call of a procedure with a result is the whole right side of a `:=` to a
-- scalar, one of a procedure without a result a statement; at the call's name

abbrev pub answers : Option Kind → Bool
answers kind = is_some (result_base kind)

abbrev pub call_places : Site → List ℕ
call_places (AtCall reach Elsewhere name actuals) = name.at ∷ []
call_places (AtCall reach AsStatement name actuals) = at_if (answers (kind_at reach name)) name.at
call_places (AtCall reach AsValue name actuals) =
    at_if (is_procedure (kind_at reach name) && not (answers (kind_at reach name))) name.at
call_places site = []

-- ---- MaskPlace: a mask isn't a boolean array, at the mask; or an array is printed, or a border
-- statement stands, under a mask of its rank, at the statement

abbrev pub is_mask : Option Kind → Bool
is_mask (Some (kind.Array base shape)) = not (is_integer (Some base))
is_mask kind = false

abbrev pub mask_places : Site → List ℕ
mask_places (AtMask reach prefix mask) = unless_taken reach is_mask mask.name
mask_places site = []

abbrev pub is_masked : Current → Bool
is_masked (Over shape masked) = masked
is_masked current = false

abbrev pub is_under_mask : Reach → Rank → Bool
is_under_mask reach rank = is_masked (current_of reach.shapes rank)

abbrev pub takes_no_mask : Form → Bool
takes_no_mask (Write line items) = true
takes_no_mask (Border border names) = true
takes_no_mask form = false

abbrev pub masked_statements : Site → List ℕ
masked_statements (AtStmt reach at prefixes form) =
    at_if (takes_no_mask form && list_any (is_under_mask reach) (form_ranks reach form)) at
masked_statements site = []

-- ---- BorderForm: the prefix directly before a `wrap` or `reflect` is `d of N` or `d of "`,
-- without mask, `at` and `by`; at the statement

abbrev pub is_border_region : Inner → Bool
is_border_region (Rexpr (pre ∷ []) base NoPost) = pre.outside
is_border_region region = false

abbrev pub ends_in_border : List Prefix → Bool
ends_in_border [] = false
ends_in_border (last ∷ []) = is_border_region last.region && is_none last.mask
ends_in_border (first ∷ rest) = ends_in_border rest

abbrev pub border_forms : Site → List ℕ
border_forms (AtStmt reach at prefixes (Border border names)) =
    at_if (not (ends_in_border prefixes)) at
border_forms site = []

-- ---- RankUnknown: no rule gives an expression or a ditto a rank; at it

abbrev pub is_rankless : Reach → Role → Expr → Bool
is_rankless reach Operand operand = lacks_rank true reach.prefix (own_rank_in reach operand)
is_rankless reach role expr = lacks_rank (is_open expr) (handed reach role) (own_rank_in reach expr)

abbrev pub unknown_ranks : Site → List ℕ
unknown_ranks (AtWhole reach role expr) = at_if (is_rankless reach role expr) (at_of expr)
unknown_ranks (AtRegion reach hint (Rexpr pre (Ditto at) post)) =
    at_if (is_zero (ditto_rank reach.scope hint reach.prefix pre post)) at
unknown_ranks site = []
