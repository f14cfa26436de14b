-- Each vector that is computed before the run has three components.
use Rattle.std.proofs.Common.{◌≡◌, ℕ, zero, suc, Bool, true, false, if◌then◌else◌, ℤ, List, [], ◌∷◌, ◌++◌, length, refl, ap}
use Rattle.std.specs.Prelude.{Some, find, cond}
use Rattle.std.specs.List.{list_all}
use Rattle.std.specs.Str.{bytes_eq}
use Rattle.zpl_tree.specs.Syntax.{Exprs, Dir, NamedDir, Vector, Decl, Config, Constant, Regions, Directions, Vars, Defined, Program}
use Rattle.zpl_binding.specs.Outcome.{DirectionLimit, Outcome, Gives, Fails, and_then, value_or, Computed, outcome_or, outcome_of}
use Rattle.zpl_binding.specs.Vectors.{components_of, three_components, values_of, limited_vector, is_component, vector_of, dir_of}
use Rattle.zpl_binding.specs.Regions.{Known}
use Rattle.zpl_binding.specs.Settings.{Setting}
use Rattle.zpl_binding.specs.Declarations.{with_region, with_direction, with_config, with_constant, with_all, with_decl, nothing_known, known_of}
use Rattle.zpl_meaning.specs.Regions.{vector_in}

abbrev IsThree : Outcome (List ℤ) → Type 0
IsThree (Gives vector) = length vector ≡ 3
IsThree (Fails fault) = Unit {0}

abbrev AllThree : List (Computed (List ℤ)) → Type 0
AllThree [] = Unit {0}
AllThree (one ∷ rest) = IsThree one.outcome × AllThree rest

vector_found : (all : List (Computed (List ℤ))) (text : List ℕ) → AllThree all →
    IsThree (outcome_of (three_components []) all text)
vector_found [] text are = refl
vector_found (one ∷ rest) text are = by (bytes_eq one.name text) (vector_found rest text are.1)
  where
    by : (b : Bool) → IsThree (outcome_of (three_components []) rest text) →
        IsThree (outcome_or (three_components [])
        (cond b (Some one) (find (λ one. bytes_eq one.name text) rest)))
    by true later = are.0
    by false later = later

components_count : (n : ℕ) (parts : List ℤ) → length (components_of n parts) ≡ n
components_count zero parts = refl
components_count (suc n) [] = ap suc (components_count n [])
components_count (suc n) (part ∷ parts) = ap suc (components_count n parts)

vector_three : (values : List (Computed ℤ)) (parts : Exprs) → IsThree (vector_of values parts)
vector_three values parts = by (values_of values parts)
  where
    limit : (parts : List ℤ) (b : Bool) →
        IsThree (if b then Gives (three_components parts) else Fails DirectionLimit)
    limit parts true = components_count 3 parts
    limit parts false = tt

    by : (outcome : Outcome (List ℤ)) → IsThree (and_then outcome limited_vector)
    by (Fails fault) = tt
    by (Gives parts) = limit parts (list_all is_component parts)

dir_three : (known : Known) (dir : Dir) → AllThree known.directions →
    IsThree (dir_of known.values known.directions dir)
dir_three known (NamedDir name) are = vector_found known.directions name.text are
dir_three known (Vector parts) are = vector_three known.values parts

in_three : (known : Known) (dir : Dir) → AllThree known.directions →
    length (vector_in known dir) ≡ 3
in_three known dir are =
    by (dir_of known.values known.directions dir) (dir_three known dir are)
  where
    by : (outcome : Outcome (List ℤ)) → IsThree outcome →
        length (value_or (three_components []) outcome) ≡ 3
    by (Gives vector) is = is
    by (Fails fault) is = refl

-- ---- all that is declared

one_more : (all : List (Computed (List ℤ))) (one : Computed (List ℤ)) → AllThree all →
    IsThree one.outcome → AllThree (all ++ one ∷ [])
one_more [] one are is = (is, tt)
one_more (first ∷ all) one are is = (are.0, one_more all one are.1 is)

all_keep : {A : Type 0} (adds : Known → A → Known) →
    ((known : Known) (one : A) → AllThree known.directions → AllThree (adds known one).directions) →
    (known : Known) (all : List A) → AllThree known.directions →
    AllThree (with_all adds known all).directions
all_keep adds keeps known [] are = are
all_keep adds keeps known (one ∷ rest) are =
    all_keep adds keeps (adds known one) rest (keeps known one are)

decl_keeps : (settings : List Setting) (known : Known) (decl : Decl) → AllThree known.directions →
    AllThree (with_decl settings known decl).directions
decl_keeps settings known (Config configs) are =
    all_keep (with_config settings) (λ known config are. are) known configs are
decl_keeps settings known (Constant constants) are =
    all_keep with_constant (λ known constant are. are) known constants are
decl_keeps settings known (Regions regions) are =
    all_keep with_region (λ known region are. are) known regions are
decl_keeps settings known (Directions directions) are =
    all_keep with_direction
    (λ known direction are. one_more known.directions _ are
    (vector_three known.values direction.parts)) known directions are
decl_keeps settings known (Vars vars) are = are
decl_keeps settings known (Defined procedure) are = are

pub vectors_are : (program : Program) (settings : List Setting) (dir : Dir) →
    length (vector_in (known_of program settings) dir) ≡ 3
vectors_are program settings dir =
    in_three (known_of program settings) dir
    (all_keep (with_decl settings) (decl_keeps settings) nothing_known program.decls tt)
