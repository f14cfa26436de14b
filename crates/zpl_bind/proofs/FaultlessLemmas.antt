-- A program without faults is one that binding can rest on.
use Rattle.std.proofs.Common.{◌≡◌, ℕ, nat_le, Bool, true, false, ◌&&◌, List, [], ◌∷◌, ◌++◌, map, refl, sym, ◌∙◌, Some, option_to_list}
use Rattle.std.specs.List.{flat_map, list_all}
use Rattle.std.proofs.lemmas.List.Concat.{flat_map-append}
use Rattle.std.proofs.lemmas.List.Elements.{Contains-append_left}
use Rattle.zpl_tree.specs.Syntax.{Inner, Rexpr, Dims, Bracket, NoBracket, Bracketed, DimTexts, NoDim, ThenDim, RegionDef, VarDef, Decl, Config, Constant, Regions, Directions, Vars, Defined, Program}
use Rattle.zpl_parts.specs.of_zpl_names.Scope.{Entry, Scope}
use Rattle.zpl_parts.specs.of_zpl_names.Ranks.{dims_count}
use Rattle.zpl_parts.specs.of_zpl_names.Declared.{declaring, head_scope, globals_of, routine_of, with_region, with_variables, with_decl}
use Rattle.zpl_parts.specs.of_zpl_names.Shapes.{unknown_shapes}
use Rattle.zpl_parts.specs.of_zpl_names.Sites.{in_declaration, Site, AtPosts, AtBase, AtProcedure, region_sites, dims_sites, posts_sites, shape_sites, region_def_sites, variable_sites, param_sites, head_sites, routine_sites, each_sites, decl_sites}
use Rattle.zpl_parts.specs.of_zpl_names.Faults.{rank_clashes, fourth_dim, repeated}
use Rattle.zpl_parts.specs.of_zpl_names.Accepted.{IsFaultless, TwiceNamed, RankClash, in_text}
use Rattle.zpl_parts.proofs.of_zpl_binding.OutcomeLemmas.{no_member, empty-left, empty-right}
use Rattle.zpl_bind.specs.Few.{is_few, is_few_bracket, are_few_vars, is_few_decl}
use Rattle.zpl_bind.specs.Once.{IsBindable}

abbrev clashes : List Site → List ℕ
clashes sites = flat_map rank_clashes sites

front : (xs ys : List Site) → clashes (xs ++ ys) ≡ [] → clashes xs ≡ []
front xs ys h =
    empty-left (clashes xs) (clashes ys) (sym (flat_map-append rank_clashes xs ys) ∙ h)

back : (xs ys : List Site) → clashes (xs ++ ys) ≡ [] → clashes ys ≡ []
back xs ys h =
    empty-right (clashes xs) (clashes ys) (sym (flat_map-append rank_clashes xs ys) ∙ h)

few-dims : (dims : DimTexts) → fourth_dim dims ≡ [] → nat_le (dims_count dims) 3 ≡ true
few-dims NoDim h = refl
few-dims (ThenDim a NoDim) h = refl
few-dims (ThenDim a (ThenDim b NoDim)) h = refl
few-dims (ThenDim a (ThenDim b (ThenDim c NoDim))) h = refl
few-dims (ThenDim a (ThenDim b (ThenDim c (ThenDim d rest)))) h = cc

few-inner : (scope : Scope) (inner : Inner) →
    clashes (region_sites (in_declaration scope) (Some 0) inner) ≡ [] → is_few inner ≡ true
few-inner scope (Rexpr pre base post) h = refl
few-inner scope (Dims dims) h =
    few-dims dims
    (empty-left (fourth_dim dims) (clashes (dims_sites (in_declaration scope) dims)) h)

few-bracket : (scope : Scope) (shape : Bracket) → clashes (shape_sites scope shape) ≡ [] →
    is_few_bracket shape ≡ true
few-bracket scope NoBracket h = refl
few-bracket scope (Bracketed inner) h = few-inner scope inner h

both : (a b : Bool) → a ≡ true → b ≡ true → a && b ≡ true
both true b e f = f
both false b e f = e

few-vars : (scope : Scope) (vars : List VarDef) →
    clashes (flat_map (variable_sites scope) vars) ≡ [] → are_few_vars vars ≡ true
few-vars scope [] h = refl
few-vars scope (var ∷ vars) h =
    both (is_few_bracket var.shape) (are_few_vars vars)
    (few-bracket scope var.shape
    (front (shape_sites scope var.shape) (AtBase var.base ∷ [])
    (front (variable_sites scope var) (flat_map (variable_sites scope) vars) h)))
    (few-vars scope vars
    (back (variable_sites scope var) (flat_map (variable_sites scope) vars) h))

few-globals : (earlier : List Entry) (vars : List VarDef) →
    clashes (each_sites with_variables
    (λ earlier var. variable_sites (declaring [] earlier) var) earlier vars) ≡ [] →
    are_few_vars vars ≡ true
few-globals earlier [] h = refl
few-globals earlier (var ∷ vars) h =
    let scope = declaring [] earlier in
    both (is_few_bracket var.shape) (are_few_vars vars)
    (few-bracket scope var.shape
    (front (shape_sites scope var.shape) (AtBase var.base ∷ [])
    (front (variable_sites scope var) _ h)))
    (few-globals (with_variables earlier var) vars (back (variable_sites scope var) _ h))

few-regions : (earlier : List Entry) (regions : List RegionDef) →
    clashes (each_sites with_region region_def_sites earlier regions) ≡ [] →
    list_all (λ region. is_few region.body) regions ≡ true
few-regions earlier [] h = refl
few-regions earlier (region ∷ regions) h =
    let reach = in_declaration (declaring [] earlier) in
    both (is_few region.body) (list_all (λ region. is_few region.body) regions)
    (few-inner (declaring [] earlier) region.body
    (front (region_sites reach (Some 0) region.body)
    (AtPosts reach region.body region.posts ∷ posts_sites reach region.posts)
    (front (region_def_sites earlier region) _ h)))
    (few-regions (with_region earlier region) regions (back (region_def_sites earlier region) _ h))

few-decl : (program : Program) (earlier : List Entry) (decl : Decl) →
    clashes (decl_sites program earlier decl) ≡ [] → is_few_decl decl ≡ true
few-decl program earlier (Regions regions) h = few-regions earlier regions h
few-decl program earlier (Vars vars) h = few-globals earlier vars h
few-decl program earlier (Defined procedure) h =
    let scope = head_scope earlier procedure in
    few-vars scope procedure.locals
    (back
    (AtProcedure procedure ∷ flat_map (param_sites scope) procedure.params ++
    map AtBase (option_to_list procedure.result)) (flat_map (variable_sites scope) procedure.locals)
    (front (head_sites earlier procedure)
    (routine_sites program unknown_shapes (routine_of earlier procedure)) h))
few-decl program earlier (Config defines) h = refl
few-decl program earlier (Constant defines) h = refl
few-decl program earlier (Directions directions) h = refl

few-decls : (program : Program) (earlier : List Entry) (decls : List Decl) →
    clashes (each_sites with_decl (decl_sites program) earlier decls) ≡ [] →
    list_all is_few_decl decls ≡ true
few-decls program earlier [] h = refl
few-decls program earlier (decl ∷ decls) h =
    both (is_few_decl decl) (list_all is_few_decl decls)
    (few-decl program earlier decl (front (decl_sites program earlier decl) _ h))
    (few-decls program (with_decl earlier decl) decls
    (back (decl_sites program earlier decl) _ h))

pub faultless-bindable : (program : Program) → IsFaultless program → IsBindable program
faultless-bindable program faultless = record {
  once =
      no_member (repeated [] (map (λ entry. entry.name) (globals_of program)))
      (λ at there. faultless TwiceNamed at (Contains-append_left _ _ at there));
  few =
      few-decls program [] program.decls
      (no_member (in_text rank_clashes program) (faultless RankClash));
}
