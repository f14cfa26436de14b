-- The walk over all statements, one procedure after the other.
use Rattle.std.proofs.Common.{◌≡◌, ℕ, zero, suc, ◌+◌, ◌<◌, ◌≤◌, length, get_or, take, false, List, [], ◌∷◌, ◌++◌, map, Option, Vec, refl, sym, ◌∙◌, ap, ap₂, append-nil, arith}
use Rattle.std.specs.List.{flat_map, filter_map, fold}
use Rattle.std.specs.declared.alloc.Global.{Global}
use Rattle.std.proofs.lemmas.List.{map-append, take_more}
use Rattle.std.proofs.lemmas.Grind.{flat_map-append}
use Rattle.zpl_tree.specs.View.{syntax_of}
use Rattle.zpl_names.specs.Shapes.{unknown_shapes}
use Rattle.zpl_names.specs.Scope.{Entry}
use Rattle.zpl_names.specs.Declared as spec
use Rattle.zpl_names.specs.Declared.{routines_of}
use Rattle.zpl_names.specs.Sites.{Site, call_of, routine_sites}
use Rattle.site_faults.specs.Findings.{Found, State, after}
use Rattle.site_faults.specs.Reach.{call_site_of}
use Rattle.site_faults.specs.declared.findings.Called.{Called}
use Rattle.text_routines.proofs.of_text_walk.Meaning.{walked-calls}
use Rattle.text_routines.specs.of_text_names.Found.{goes_on}
use Rattle.text_routines.proofs.of_text_names.DeclareLemmas.{goes-append}
use Rattle.call_heights.specs.declared.graph.Edge.{Edge}
use Rattle.text_routines.specs.of_routine_walks.declared.texts.Routine.{Routine}
use Rattle.text_routines.specs.of_routine_walks.declared.texts.Text.{Text}
use Rattle.text_routines.specs.of_routine_walks.Texts.{IsText, names_in, routine_of, sites_over}
use Rattle.text_routines.specs.of_routine_walks.Numbers.{node_of}
use Rattle.text_routines.proofs.of_routine_walks.TextLemmas.{sites-are}
use Rattle.rank_types.specs.Calls.{IsGraph, edge_for, edges_for, statement_sites}

pub take-all : {A : Type 0} (xs : List A) (n : ℕ) → length xs ≤ n → take n xs ≡ xs
take-all [] zero h = refl
take-all [] (suc n) h = refl
take-all (x ∷ xs) zero h = absurd (omega arith)
take-all {A} (x ∷ xs) (suc n) h = ap (λ l. x ∷ l) (take-all xs n (omega arith))

-- ---- calls

pub edges-step : (names : List (List ℕ)) (calls : List Called) (k : ℕ) (d : Called)
    (old new : List Edge) (to : ℕ) → k < length calls →
    old ≡ map (edge_for names) (map call_site_of (take k calls)) →
    to ≡ node_of names (get_or calls k d).name.text.now →
    new ≡ old ++ record { to = to; at = (get_or calls k d).name.at } ∷ [] →
    new ≡ map (edge_for names) (map call_site_of (take (k + 1) calls))
edges-step names calls k d old new to less had is more =
    more ∙
    ap₂ (λ old to. old ++ record { to = to; at = (get_or calls k d).name.at } ∷ []) had is ∙
    sym (ap (λ calls. map (edge_for names) (map call_site_of calls)) (take_more calls k d less) ∙
    ap (map (edge_for names)) (map-append call_site_of (take k calls) (get_or calls k d ∷ [])) ∙
    map-append (edge_for names) (map call_site_of (take k calls))
    (call_site_of (get_or calls k d) ∷ []))

-- a walk with no call before it finds the calls of its sites
pub calls-are : (old new : State) (found : Option Found) (sites : List Site) →
    old ≡ record { fault = found; calls = []; reached = false } →
    new ≡ fold after old sites → new.calls ≡ filter_map call_of sites
calls-are old new found sites is walked =
    ap (λ s. s.calls) walked ∙ walked-calls old sites ∙
    ap (λ (s : State). s.calls ++ filter_map call_of sites) is

-- ---- procedures

abbrev pub front : List Routine → ℕ → List spec.Routine
front routines k = map routine_of (take k routines)

front-more : (routines : List Routine) (k : ℕ) (d : Routine) → k < length routines →
    front routines (k + 1) ≡ front routines k ++ routine_of (get_or routines k d) ∷ []
front-more routines k d less =
    ap (map routine_of) (take_more routines k d less) ∙
    map-append routine_of (take k routines) (get_or routines k d ∷ [])

-- one more procedure is looked at
pub found-step : (globals : List Entry) (routines : List Routine) (k : ℕ) (d : Routine)
    (first old new : Option Found) → k < length routines →
    old ≡ goes_on first (flat_map (sites_over globals unknown_shapes) (front routines k)) →
    new ≡ goes_on old (sites_over globals unknown_shapes (routine_of (get_or routines k d))) →
    new ≡ goes_on first (flat_map (sites_over globals unknown_shapes) (front routines (k + 1)))
found-step globals routines k d first old new less had is =
    let sites = sites_over globals unknown_shapes in
    let one = routine_of (get_or routines k d) in
    is ∙ ap (λ old. goes_on old (sites one)) had ∙
    sym (goes-append first (flat_map sites (front routines k)) (sites one)) ∙
    ap (goes_on first)
    (ap (λ more. flat_map sites (front routines k) ++ more) (sym (append-nil (sites one))) ∙
    sym (flat_map-append sites (front routines k) (one ∷ [])) ∙
    ap (flat_map sites) (sym (front-more routines k d less)))

abbrev pub rows_for : List Entry → List (List ℕ) → spec.Routine → List Edge
rows_for globals names routine =
    map (edge_for names) (filter_map call_of (sites_over globals unknown_shapes routine))

abbrev pub rows_in : List (Vec Edge Global) → List (List Edge)
rows_in graph = map (λ edges. edges.items) graph

pub graph-step : (globals : List Entry) (names : List (List ℕ)) (routines : List Routine) (k : ℕ)
    (d : Routine) (old new : List (Vec Edge Global)) (edges : Vec Edge Global) →
    k < length routines →
    rows_in old ≡ map (rows_for globals names) (front routines k) →
    edges.items ≡ rows_for globals names (routine_of (get_or routines k d)) →
    new ≡ old ++ edges ∷ [] →
    rows_in new ≡ map (rows_for globals names) (front routines (k + 1))
graph-step globals names routines k d old new edges less had is more =
    ap rows_in more ∙ map-append (λ edges. edges.items) old (edges ∷ []) ∙
    ap₂ (λ old row. old ++ row ∷ []) had is ∙
    sym (ap (map (rows_for globals names)) (front-more routines k d less) ∙
    map-append (rows_for globals names) (front routines k)
    (routine_of (get_or routines k d) ∷ []))

-- ---- all procedures

front-all : (text : Text) → IsText text → (k : ℕ) → length text.routines.items ≤ k →
    front text.routines.items k ≡ routines_of (syntax_of text.program.now)
front-all text is k past =
    ap (map routine_of) (take-all text.routines.items k past) ∙ is.routines

all-sites : (text : Text) → IsText text → (routines : List spec.Routine) →
    flat_map (sites_over text.globals unknown_shapes) routines ≡
    flat_map (routine_sites (syntax_of text.program.now) unknown_shapes) routines
all-sites text is [] = refl
all-sites text is (routine ∷ routines) =
    ap₂ (λ a b. a ++ b) (sites-are text is unknown_shapes routine) (all-sites text is routines)

pub found-all : (text : Text) → IsText text → (k : ℕ) (first found : Option Found) →
    length text.routines.items ≤ k →
    found ≡ goes_on first
    (flat_map (sites_over text.globals unknown_shapes) (front text.routines.items k)) →
    found ≡ goes_on first (statement_sites (syntax_of text.program.now))
found-all text is k first found past told =
    told ∙ ap (goes_on first)
    (ap (flat_map (sites_over text.globals unknown_shapes)) (front-all text is k past) ∙
    all-sites text is (routines_of (syntax_of text.program.now)))

all-rows : (text : Text) → IsText text → (names : List (List ℕ)) →
    (routines : List spec.Routine) →
    map (rows_for text.globals names) routines ≡
    map (edges_for (syntax_of text.program.now) names) routines
all-rows text is names [] = refl
all-rows text is names (routine ∷ routines) =
    ap₂ (λ a b. a ∷ b)
    (ap (λ sites. map (edge_for names) (filter_map call_of sites))
    (sites-are text is unknown_shapes routine))
    (all-rows text is names routines)

pub graph-all : (text : Text) → IsText text → (k : ℕ) (old new : List (Vec Edge Global))
    (last : Vec Edge Global) → length text.routines.items ≤ k →
    rows_in old ≡
    map (rows_for text.globals (names_in text)) (front text.routines.items k) →
    new ≡ old ++ last ∷ [] → last.items ≡ [] →
    IsGraph (syntax_of text.program.now) (names_in text) new
graph-all text is k old new last past had more none =
    ap rows_in more ∙ map-append (λ edges. edges.items) old (last ∷ []) ∙
    ap₂ (λ old row. old ++ row ∷ [])
    (had ∙ ap (map (rows_for text.globals (names_in text))) (front-all text is k past) ∙
    all-rows text is (names_in text) (routines_of (syntax_of text.program.now))) none
