-- Declared regions may stand in rows, and have slots of their ranks.
use Rattle.std.proofs.Common.{◌≡◌, ℕ, suc, ◌+◌, ◌<◌, Bool, true, false, if◌then◌else◌, ℤ, List, [], ◌∷◌, ◌++◌, map, length, refl, sym, ◌∙◌, subst, arith}
use Rattle.std.specs.Prelude.{pos, cond, find, not, nat_lt, Option, Some, None, IsTrue, ◌≤ℤ◌}
use Rattle.std.specs.Option.{option_or}
use Rattle.std.specs.List.{AllByRecursion, position_or_len}
use Rattle.std.proofs.lemmas.Bool.Decides.{nat_tests}
use Rattle.std.specs.Str.{bytes_eq}
use Rattle.std.proofs.lemmas.Int.{ints}
use Rattle.zpl_region.specs.declared.dims.Dim.{Dim}
use Rattle.zpl_region.specs.declared.regions.Region.{Region}
use Rattle.zpl_region.specs.Dim.{HasStep}
use Rattle.zpl_region.specs.Hull.{all_from}
use Rattle.zpl_region.specs.Tests.{is_within_limit}
use Rattle.meaning_ranks.specs.of_zpl_tree.Syntax.{Name, Pre, NamedRegion, Ditto, Inner, Rexpr, Dims, Posts, NoPost, ThenPost, DimText, Blank, Star, One, Span, DimTexts, NoDim, ThenDim, Bracket, NoBracket, Bracketed, Base, Define, RegionDef, DirDef, VarDef, Decl, Config, Constant, Regions, Directions, Vars, Defined, Program}
use Rattle.meaning_ranks.specs.of_zpl_names.Kinds as kind
use Rattle.meaning_ranks.specs.of_zpl_names.Kinds.{Kind}
use Rattle.meaning_ranks.specs.of_zpl_names.Scope.{Entry, Scope}
use Rattle.meaning_ranks.specs.of_zpl_names.Ranks.{exprs_count, at_most_three}
use Rattle.meaning_ranks.specs.of_zpl_names.Shapes.{declared_shape, variable_kind}
use Rattle.meaning_ranks.specs.of_zpl_names.Declared.{declaring, with_define, with_region, with_direction, with_variables, with_each, with_decl, signature_of, globals_of}
use Rattle.meaning_ranks.specs.of_zpl_binding.Outcome.{Outcome, Gives, Fails, and_then, Computed, outcome_or, outcome_of}
use Rattle.meaning_ranks.specs.of_zpl_binding.Constants.{value_of}
use Rattle.meaning_ranks.specs.of_zpl_binding.Regions.{Known, region_over, limited, dim_of, each_dim_of, spanned, behind, before, no_region, is_region_name, region_named, index_of, inner_of, region_of}
use Rattle.meaning_ranks.specs.of_zpl_binding.Settings.{Setting}
use Rattle.meaning_ranks.specs.of_zpl_binding.Declarations.{with_all, with_config, with_constant, with_direction as known_direction, with_region as known_region, with_decl as known_decl, nothing_known, known_of}
use Rattle.stored_shifts.specs.of_node_form.declared.tables.Tables.{Tables}
use Rattle.stored_shifts.specs.of_node_form.Fits.{HasSlot}
use Rattle.lower_numbers.specs.of_zpl_lowering.Bracket.{region_slot}
use Rattle.lowering_fits.specs.Slates.{SlotsAt}
use Rattle.lowering_fits.specs.Reach.{IsBox, IsGivenBox}
use Rattle.lowering_fits.specs.Lowerings.{region_rank}
use Rattle.lowering_fits.proofs.BracketLemmas.{HoldsFixed, behind_box, before_box, limited_box, over_box}
use Rattle.lowering_fits.proofs.KnownLemmas.{AreAligned, push_both, push_one, push_names, nothing_aligned}

-- ---- regions of any rank

abbrev pub IsGoodRegion : Outcome Region → Type 0
IsGoodRegion (Gives region) = IsBox region.rank region × IsTrue (is_within_limit region)
IsGoodRegion (Fails fault) = Unit {0}

fixed_good : (rank : ℕ) (outcome : Outcome Region) → HoldsFixed rank outcome → IsGoodRegion outcome
fixed_good rank (Gives region) holds =
    (subst (λ n. IsBox n region) (sym holds.0.same) holds.0, holds.1)
fixed_good rank (Fails fault) holds = tt

behind_good : (known : Known) (post : Posts) (region : Outcome Region) → IsGoodRegion region →
    IsGoodRegion (behind known region post)
behind_good known post (Gives region) good =
    fixed_good region.rank (behind known (Gives region) post)
    (behind_box region.rank known post (Gives region) good)
behind_good known post (Fails fault) good =
    fixed_good 1 (behind known (Fails fault) post) (behind_box 1 known post (Fails fault) tt)

before_good : (known : Known) (pre : List Pre) (region : Outcome Region) → IsGoodRegion region →
    IsGoodRegion (before known pre region)
before_good known pre (Gives region) good =
    fixed_good region.rank (before known pre (Gives region))
    (before_box region.rank known pre (Gives region) good)
before_good known pre (Fails fault) good =
    fixed_good 1 (before known pre (Fails fault)) (before_box 1 known pre (Fails fault) tt)

one_step : pos 1 ≤ℤ pos 1
one_step = omega (arith, ints)

over_good : (dims : List Dim) → AllByRecursion HasStep dims → IsGoodRegion (limited (region_over dims))
over_good dims steps =
    fixed_good (length dims) (limited (region_over dims))
    (limited_box (length dims) (region_over dims) (over_box dims steps))

pub no_region_good : IsGoodRegion (Gives no_region)
no_region_good = (over_box (all_from (pos 1) (pos 0) ∷ []) (one_step, tt), refl)

-- ---- spans

abbrev HasSteps : Outcome (List Dim) → Type 0
HasSteps (Gives dims) = AllByRecursion HasStep dims
HasSteps (Fails fault) = Unit {0}

abbrev StepOf : Outcome Dim → Type 0
StepOf (Gives one) = HasStep one
StepOf (Fails fault) = Unit {0}

dim_steps : (known : Known) (one : DimText) → StepOf (dim_of known one)
dim_steps known (Blank at) = one_step
dim_steps known (Star at) = tt
dim_steps known (One index) = by (value_of known.values index)
  where
    by : (value : Outcome ℤ) → StepOf (and_then value (λ value. Gives (all_from value value)))
    by (Gives value) = one_step
    by (Fails fault) = tt
dim_steps known (Span low high) = by (value_of known.values low) (value_of known.values high)
  where
    by : (low high : Outcome ℤ) →
        StepOf (and_then low (λ first. and_then high (λ last. Gives (all_from first last))))
    by (Gives low) (Gives high) = one_step
    by (Gives low) (Fails fault) = tt
    by (Fails fault) high = tt

dims_steps : (known : Known) (dims : DimTexts) → HasSteps (each_dim_of known dims)
dims_steps known NoDim = tt
dims_steps known (ThenDim first rest) =
    by (dim_of known first) (each_dim_of known rest) (dim_steps known first)
    (dims_steps known rest)
  where
    by : (one : Outcome Dim) (others : Outcome (List Dim)) → StepOf one → HasSteps others →
        HasSteps (and_then one (λ dim. and_then others (λ dims. Gives (dim ∷ dims))))
    by (Gives one) (Gives others) is are = (is, are)
    by (Gives one) (Fails fault) is are = tt
    by (Fails fault) others is are = tt

spanned_good : (known : Known) (dims : DimTexts) → IsGoodRegion (spanned known dims)
spanned_good known dims = by (each_dim_of known dims) (dims_steps known dims)
  where
    by : (all : Outcome (List Dim)) → HasSteps all →
        IsGoodRegion (and_then all (λ all. limited (region_over all)))
    by (Gives all) steps = over_good all steps
    by (Fails fault) steps = tt

-- ---- all declared regions

abbrev pub AreGood : List (Computed Region) → Type 0
AreGood [] = Unit {0}
AreGood (one ∷ rest) = IsGoodRegion one.outcome × AreGood rest

good_push : (xs : List (Computed Region)) (one : Computed Region) → AreGood xs →
    IsGoodRegion one.outcome → AreGood (xs ++ one ∷ [])
good_push [] one are is = (is, tt)
good_push (x ∷ xs) one are is = (are.0, good_push xs one are.1 is)

good_found : (all : List (Computed Region)) (text : List ℕ) → AreGood all →
    IsGoodRegion (outcome_of no_region all text)
good_found [] text are = no_region_good
good_found (one ∷ rest) text are = by (bytes_eq one.name text) (good_found rest text are.1)
  where
    by : (b : Bool) → IsGoodRegion (outcome_of no_region rest text) →
        IsGoodRegion (outcome_or no_region
        (cond b (Some one) (find (λ one. bytes_eq one.name text) rest)))
    by true later = are.0
    by false later = later

index_good : (known : Known) (name : Name) → IsGoodRegion (index_of known name)
index_good known name = by (outcome_of (pos 0) known.values name.text)
  where
    by : (value : Outcome ℤ) →
        IsGoodRegion (and_then value (λ value. limited (region_over (all_from value value ∷ []))))
    by (Gives value) = over_good (all_from value value ∷ []) (one_step, tt)
    by (Fails fault) = tt

pub inner_good : (known : Known) (inner : Inner) → AreGood known.regions →
    IsGoodRegion (inner_of known inner)
inner_good known (Rexpr [] (NamedRegion name) NoPost) are = by (is_region_name known name)
  where
    by : (b : Bool) →
        IsGoodRegion (if b then region_named known name else index_of known name)
    by true = good_found known.regions name.text are
    by false = index_good known name
inner_good known (Rexpr [] (NamedRegion name) (ThenPost stride dir rest)) are =
    before_good known [] (behind known (region_named known name) (ThenPost stride dir rest))
    (behind_good known (ThenPost stride dir rest) (region_named known name)
    (good_found known.regions name.text are))
inner_good known (Rexpr (pre ∷ more) (NamedRegion name) post) are =
    before_good known (pre ∷ more) (behind known (region_named known name) post)
    (behind_good known post (region_named known name) (good_found known.regions name.text are))
inner_good known (Rexpr pre (Ditto at) post) are = no_region_good
inner_good known (Dims dims) are = spanned_good known dims

regions_good : (regions : List RegionDef) (known : Known) → AreGood known.regions →
    AreGood (with_all known_region known regions).regions
regions_good [] known are = are
regions_good (region ∷ regions) known are =
    regions_good regions (known_region known region)
    (good_push known.regions _ are
    (behind_good known region.posts (inner_of known region.body)
    (inner_good known region.body are)))

others_good : {A : Type 0} (adds : Known → A → Known) →
    ((known : Known) (one : A) → (adds known one).regions ≡ known.regions) → (all : List A)
    (known : Known) → (with_all adds known all).regions ≡ known.regions
others_good adds keeps [] known = refl
others_good adds keeps (one ∷ all) known =
    others_good adds keeps all (adds known one) ∙ keeps known one

decls_good : (settings : List Setting) (decls : List Decl) (known : Known) →
    AreGood known.regions → AreGood (with_all (known_decl settings) known decls).regions
decls_good settings [] known are = are
decls_good settings (Config defines ∷ decls) known are =
    decls_good settings decls (with_all (with_config settings) known defines)
    (subst AreGood (sym (others_good (with_config settings) (λ known one. refl) defines known)) are)
decls_good settings (Constant defines ∷ decls) known are =
    decls_good settings decls (with_all with_constant known defines)
    (subst AreGood (sym (others_good with_constant (λ known one. refl) defines known)) are)
decls_good settings (Regions regions ∷ decls) known are =
    decls_good settings decls (with_all known_region known regions)
    (regions_good regions known are)
decls_good settings (Directions directions ∷ decls) known are =
    decls_good settings decls (with_all known_direction known directions)
    (subst AreGood (sym (others_good known_direction (λ known one. refl) directions known)) are)
decls_good settings (Vars vars ∷ decls) known are = decls_good settings decls known are
decls_good settings (Defined procedure ∷ decls) known are = decls_good settings decls known are

pub known_good : (program : Program) (settings : List Setting) →
    AreGood (known_of program settings).regions
known_good program settings = decls_good settings program.decls nothing_known tt

-- a region of a name, which has a value and a rank
pub given_box : (rank : ℕ) (all : List (Computed Region)) (text : List ℕ) → AreGood all →
    (region : Region) → outcome_of no_region all text ≡ Gives region → region.rank ≡ rank →
    IsGivenBox rank (outcome_of no_region all text)
given_box rank all text are region is same =
    subst (IsGivenBox rank) (sym is)
    (by (subst IsGoodRegion is (good_found all text are)))
  where
    by : IsGoodRegion (Gives region) → IsGivenBox rank (Gives region)
    by good = (subst (λ n. IsBox n region) same good.0, good.1)

-- ---- slots of declared regions

slot_found : (base : Tables) (n : ℕ) (all : List (Computed Region)) (text : List ℕ)
    (one : Computed Region) → SlotsAt base n (map region_rank all) →
    find (λ one. bytes_eq one.name text) all ≡ Some one →
    (position_or_len (λ one. bytes_eq one.name text) all < length all)
    × HasSlot base (region_rank one)
    (n + position_or_len (λ one. bytes_eq one.name text) all)
slot_found base n [] text one at found = let no : ⊥ = cc in absurd no
slot_found base n (first ∷ rest) text one at found =
    by (bytes_eq first.name text) (slot_found base (suc n) rest text one at.1) found
  where
    later_at : ℕ
    later_at = position_or_len (λ (one : Computed Region). bytes_eq one.name text) rest

    by : (b : Bool) →
        (find (λ one. bytes_eq one.name text) rest ≡ Some one →
        (position_or_len (λ one. bytes_eq one.name text) rest < length rest)
        × HasSlot base (region_rank one)
        (suc n + position_or_len (λ one. bytes_eq one.name text) rest)) →
        cond b (Some first) (find (λ one. bytes_eq one.name text) rest) ≡ Some one →
        (cond (not b) (1 + position_or_len (λ one. bytes_eq one.name text) rest) 0
        < length (first ∷ rest))
        × HasSlot base (region_rank one)
        (n + cond (not b) (1 + position_or_len (λ one. bytes_eq one.name text) rest) 0)
    by true later e =
        let same : first ≡ one = cc in
        let here : n ≡ n + 0 = omega arith in (
          omega arith,
          subst (λ k. HasSlot base (region_rank one) k) here
              (subst (λ found. HasSlot base (region_rank found) n) same at.0),
        )
    by false later e =
        let there = later e in
        let below = there.0 in
        let same : suc n + position_or_len (λ (one : Computed Region). bytes_eq one.name text) rest
        ≡ n + (1 + position_or_len (λ (one : Computed Region). bytes_eq one.name text) rest) =
        omega arith in
        (omega arith, subst (λ k. HasSlot base (region_rank one) k) same there.1)

is_less : (m n : ℕ) → m < n → nat_lt m n ≡ true
is_less m n below = grind (arith, nat_tests)

slot_at : (known : Known) (name : Name) →
    position_or_len (λ one. bytes_eq one.name name.text) known.regions < length known.regions →
    region_slot known name ≡ position_or_len (λ one. bytes_eq one.name name.text) known.regions
slot_at known name below =
    let less = is_less
    (position_or_len (λ (one : Computed Region). bytes_eq one.name name.text) known.regions)
    (length known.regions) below in
    rw less refl

pub has_slot : (base : Tables) (known : Known) (name : Name) (one : Computed Region) →
    SlotsAt base 0 (map region_rank known.regions) →
    find (λ one. bytes_eq one.name name.text) known.regions ≡ Some one →
    HasSlot base (region_rank one) (region_slot known name)
has_slot base known name one at found =
    let there = slot_found base 0 known.regions name.text one at found in
    let m : ℕ = position_or_len (λ (one : Computed Region). bytes_eq one.name name.text)
    known.regions in
    let zero_more : 0 + m ≡ m = omega arith in
    subst (λ k. HasSlot base (region_rank one) k) (zero_more ∙ sym (slot_at known name there.0))
    there.1

-- ---- entries of regions

abbrev pub IsEntered : Kind → Option (Computed Region) → Type 0
IsEntered (kind.Region shape) None = ⊥
IsEntered (kind.Region shape) (Some found) = Unit {0}
IsEntered (kind.Config base) found = Unit {0}
IsEntered (kind.Constant base) found = Unit {0}
IsEntered (kind.Direction rank) found = Unit {0}
IsEntered (kind.Scalar base) found = Unit {0}
IsEntered (kind.Array base shape) found = Unit {0}
IsEntered (kind.Procedure signature) found = Unit {0}

pub entered_stays : (one : Kind) (found more : Option (Computed Region)) → IsEntered one found →
    IsEntered one (option_or found more)
entered_stays (kind.Region shape) None more is = absurd is
entered_stays (kind.Region shape) (Some found) more is = tt
entered_stays (kind.Config base) found more is = tt
entered_stays (kind.Constant base) found more is = tt
entered_stays (kind.Direction rank) found more is = tt
entered_stays (kind.Scalar base) found more is = tt
entered_stays (kind.Array base shape) found more is = tt
entered_stays (kind.Procedure signature) found more is = tt

abbrev pub Entered : List Entry → List (Computed Region) → Type 0
Entered xs all = AreAligned IsEntered entered_stays xs all

variable_unentered : (scope : Scope) (shape : Bracket) (base : Base) →
    IsEntered (variable_kind scope shape base) None
variable_unentered scope NoBracket base = tt
variable_unentered scope (Bracketed inner) base = tt

values_entered : (of_base : Base → Kind) → ((base : Base) → IsEntered (of_base base) None) →
    (adds : Known → Define → Known) →
    ((known : Known) (define : Define) → (adds known define).regions ≡ known.regions) →
    (defines : List Define) (xs : List Entry) (known : Known) → Entered xs known.regions →
    Entered (with_each (with_define of_base) xs defines) (with_all adds known defines).regions
values_entered of_base none adds keeps [] xs known are = are
values_entered of_base none adds keeps (define ∷ defines) xs known are =
    values_entered of_base none adds keeps defines (with_define of_base xs define)
    (adds known define)
    (subst (Entered (with_define of_base xs define)) (sym (keeps known define))
    (push_one IsEntered entered_stays xs known.regions define.name (of_base define.base)
    (none define.base) are))

regions_entered : (regions : List RegionDef) (xs : List Entry) (known : Known) →
    Entered xs known.regions →
    Entered (with_each with_region xs regions) (with_all known_region known regions).regions
regions_entered [] xs known are = are
regions_entered (region ∷ regions) xs known are =
    regions_entered regions (with_region xs region) (known_region known region)
    (push_both IsEntered entered_stays xs known.regions region.name
    (kind.Region (declared_shape (declaring [] xs) region.body)) (region_of known region) tt are)

directions_entered : (directions : List DirDef) (xs : List Entry) (known : Known) →
    Entered xs known.regions →
    Entered (with_each with_direction xs directions)
    (with_all known_direction known directions).regions
directions_entered [] xs known are = are
directions_entered (direction ∷ directions) xs known are =
    directions_entered directions (with_direction xs direction) (known_direction known direction)
    (push_one IsEntered entered_stays xs known.regions direction.name
    (kind.Direction (at_most_three (exprs_count direction.parts))) tt are)

variables_entered : (vars : List VarDef) (xs : List Entry) (all : List (Computed Region)) →
    Entered xs all → Entered (with_each with_variables xs vars) all
variables_entered [] xs all are = are
variables_entered (var ∷ vars) xs all are =
    variables_entered vars (with_variables xs var) all
    (push_names IsEntered entered_stays xs all var.names
    (variable_kind (declaring [] xs) var.shape var.base)
    (variable_unentered (declaring [] xs) var.shape var.base) are)

decls_entered : (settings : List Setting) (decls : List Decl) (xs : List Entry) (known : Known) →
    Entered xs known.regions →
    Entered (with_each with_decl xs decls) (with_all (known_decl settings) known decls).regions
decls_entered settings [] xs known are = are
decls_entered settings (Config defines ∷ decls) xs known are =
    decls_entered settings decls (with_decl xs (Config defines))
    (known_decl settings known (Config defines))
    (values_entered kind.Config (λ base. tt) (with_config settings) (λ known define. refl) defines
    xs known are)
decls_entered settings (Constant defines ∷ decls) xs known are =
    decls_entered settings decls (with_decl xs (Constant defines))
    (known_decl settings known (Constant defines))
    (values_entered kind.Constant (λ base. tt) with_constant (λ known define. refl) defines xs
    known are)
decls_entered settings (Regions regions ∷ decls) xs known are =
    decls_entered settings decls (with_decl xs (Regions regions))
    (known_decl settings known (Regions regions)) (regions_entered regions xs known are)
decls_entered settings (Directions directions ∷ decls) xs known are =
    decls_entered settings decls (with_decl xs (Directions directions))
    (known_decl settings known (Directions directions))
    (directions_entered directions xs known are)
decls_entered settings (Vars vars ∷ decls) xs known are =
    decls_entered settings decls (with_decl xs (Vars vars)) known
    (variables_entered vars xs known.regions are)
decls_entered settings (Defined procedure ∷ decls) xs known are =
    decls_entered settings decls (with_decl xs (Defined procedure)) known
    (push_one IsEntered entered_stays xs known.regions procedure.name
    (kind.Procedure (signature_of xs procedure)) tt are)

pub globals_entered : (program : Program) (settings : List Setting) →
    Entered (globals_of program) (known_of program settings).regions
globals_entered program settings =
    decls_entered settings program.decls [] nothing_known
    (nothing_aligned IsEntered entered_stays)
