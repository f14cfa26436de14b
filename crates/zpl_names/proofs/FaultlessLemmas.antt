-- Faults of the text don't speak of current regions; a program without faults has none at any site.
use Rattle.std.proofs.Common.{◌≡◌, ℕ, ◌⊎◌, inl, inr, List, [], ◌∷◌, ◌++◌, map, Option, Some, None, Bool, true, false, cond, Contains, refl, sym, ◌∙◌, ap, ap₂, subst}
use Rattle.std.specs.List.{flat_map, find}
use Rattle.std.specs.Str.{bytes_eq}
use Rattle.zpl_tree.specs.Syntax.{Coord, Named, Shifted, Around, Remap, Not, Pair, Reduce, Scan, Flood, NamedDir, Vector, Ditto, Rexpr, Dims, Bracketed, Assign, For, Border, Return, Other, Decl, Config, Constant, Regions, Directions, Vars, Defined, Program}
use Rattle.zpl_names.specs.Scope.{Entry}
use Rattle.zpl_names.specs.Shapes.{Shapes, unknown_shapes}
use Rattle.zpl_names.specs.Declared.{globals_of, Routine, routine_of, routines_behind, routines_of, routine_named, with_decl, with_procedure}
use Rattle.zpl_names.specs.Sites.{Site, AtWhole, AtExpr, AtCall, AtNamed, AtDir, AtRegion, AtMask, AtStmt, AtBase, AtPosts, AtProcedure, AsStatement, AsValue, Elsewhere, routine_sites, text_sites, decl_sites, each_sites, head_sites}
use Rattle.zpl_names.specs.Faults.{repeated, unknown_names, twice_named, unknown_types, type_clashes, rank_clashes, shatter_bodies, not_assignable, arguments, return_places, call_places, mask_places, border_forms, unknown_ranks, no_regions, flood_clashes, masked_statements}
use Rattle.zpl_names.specs.Reached.{IsReached, sites_of, sites_at}
use Rattle.zpl_names.specs.Accepted.{UnknownName, TwiceNamed, UnknownType, TypeClash, RankClash, NoRegion, FloodClash, ShatterBody, NotAssignable, Arguments, ReturnPlace, CallPlace, MaskPlace, BorderForm, RankUnknown, in_text, names_twice, IsFaultless, HasNoFault, HasNoFaultUnder}
use Rattle.zpl_names.proofs.ListLemmas.{Among, among_from_Contains, Contains-from_among}
use Rattle.zpl_names.proofs.WalkLemmas.{erase, Same, routine-same}

unknown_names-erase : (site : Site) → unknown_names (erase site) ≡ unknown_names site
unknown_names-erase (AtExpr reach rank (Named at name)) = refl
unknown_names-erase (AtExpr reach rank (Shifted at name shift)) = refl
unknown_names-erase (AtExpr reach rank (Around at name shift)) = refl
unknown_names-erase (AtExpr reach rank (Remap at name indices)) = refl
unknown_names-erase (AtCall reach place name actuals) = refl
unknown_names-erase (AtNamed reach name) = refl
unknown_names-erase (AtDir reach (NamedDir name)) = refl
unknown_names-erase (AtRegion reach hint (Rexpr pre base post)) = refl
unknown_names-erase (AtMask reach prefix mask) = refl
unknown_names-erase (AtStmt reach at prefixes (Assign name op value)) = refl
unknown_names-erase (AtStmt reach at prefixes (For head body)) = refl
unknown_names-erase (AtStmt reach at prefixes (Border border names)) = refl
unknown_names-erase site = refl

twice_named-erase : (site : Site) → twice_named (erase site) ≡ twice_named site
twice_named-erase (AtProcedure procedure) = refl
twice_named-erase site = refl

unknown_types-erase : (site : Site) → unknown_types (erase site) ≡ unknown_types site
unknown_types-erase (AtBase (Other name)) = refl
unknown_types-erase site = refl

type_clashes-erase : (site : Site) → type_clashes (erase site) ≡ type_clashes site
type_clashes-erase (AtWhole reach role expr) = refl
type_clashes-erase (AtExpr reach rank (Not at operand)) = refl
type_clashes-erase (AtExpr reach rank (Pair at op left right)) = refl
type_clashes-erase (AtExpr reach rank (Reduce at operator over operand)) = refl
type_clashes-erase (AtExpr reach rank (Scan at operator along operand)) = refl
type_clashes-erase (AtStmt reach at prefixes (Assign name op value)) = refl
type_clashes-erase (AtStmt reach at prefixes (For head body)) = refl
type_clashes-erase site = refl

rank_clashes-erase : (site : Site) → rank_clashes (erase site) ≡ rank_clashes site
rank_clashes-erase (AtWhole reach role expr) = refl
rank_clashes-erase (AtExpr reach rank (Coord at dimension)) = refl
rank_clashes-erase (AtExpr reach rank (Shifted at name shift)) = refl
rank_clashes-erase (AtExpr reach rank (Around at name shift)) = refl
rank_clashes-erase (AtExpr reach rank (Remap at name indices)) = refl
rank_clashes-erase (AtExpr reach rank (Pair at op left right)) = refl
rank_clashes-erase (AtExpr reach rank (Reduce at operator (Bracketed source) operand)) = refl
rank_clashes-erase (AtExpr reach rank (Flood at source operand)) = refl
rank_clashes-erase (AtExpr reach rank (Scan at operator along operand)) = refl
rank_clashes-erase (AtDir reach (Vector parts)) = refl
rank_clashes-erase (AtRegion reach hint (Dims dims)) = refl
rank_clashes-erase (AtRegion reach hint (Rexpr pre base post)) = refl
rank_clashes-erase (AtPosts reach region posts) = refl
rank_clashes-erase (AtMask reach prefix mask) = refl
rank_clashes-erase (AtStmt reach at prefixes (Border border names)) = refl
rank_clashes-erase site = refl

shatter_bodies-erase : (site : Site) → shatter_bodies (erase site) ≡ shatter_bodies site
shatter_bodies-erase (AtStmt reach at prefixes form) = refl
shatter_bodies-erase site = refl

not_assignable-erase : (site : Site) → not_assignable (erase site) ≡ not_assignable site
not_assignable-erase (AtStmt reach at prefixes (Assign name op value)) = refl
not_assignable-erase (AtStmt reach at prefixes (For head body)) = refl
not_assignable-erase (AtCall reach place name actuals) = refl
not_assignable-erase site = refl

arguments-erase : (site : Site) → arguments (erase site) ≡ arguments site
arguments-erase (AtCall reach place name actuals) = refl
arguments-erase site = refl

return_places-erase : (site : Site) → return_places (erase site) ≡ return_places site
return_places-erase (AtStmt reach at prefixes (Return value)) = refl
return_places-erase (AtProcedure procedure) = refl
return_places-erase site = refl

call_places-erase : (site : Site) → call_places (erase site) ≡ call_places site
call_places-erase (AtCall reach Elsewhere name actuals) = refl
call_places-erase (AtCall reach AsStatement name actuals) = refl
call_places-erase (AtCall reach AsValue name actuals) = refl
call_places-erase site = refl

mask_places-erase : (site : Site) → mask_places (erase site) ≡ mask_places site
mask_places-erase (AtMask reach prefix mask) = refl
mask_places-erase site = refl

border_forms-erase : (site : Site) → border_forms (erase site) ≡ border_forms site
border_forms-erase (AtStmt reach at prefixes (Border border names)) = refl
border_forms-erase site = refl

unknown_ranks-erase : (site : Site) → unknown_ranks (erase site) ≡ unknown_ranks site
unknown_ranks-erase (AtWhole reach role expr) = refl
unknown_ranks-erase (AtRegion reach hint (Rexpr pre (Ditto at) post)) = refl
unknown_ranks-erase site = refl

-- ---- from a list's faults to a site's

pub flat_among : {A B : Type 0} (f : A → List B) (xs : List A) (x : A) (y : B) → Among xs x →
    Among (f x) y → Among (flat_map f xs) y
flat_among f [] x y m n = absurd m
flat_among {A} {B} f (z ∷ zs) x y (inl e) n =
    let P : A → Type 0 = λ x. Among (f x) y in left (f z) (subst P (sym e) n)
  where
    left : (ys : List B) → Among ys y → Among (ys ++ flat_map f zs) y
    left [] n = absurd n
    left (w ∷ ws) (inl e) = inl e
    left (w ∷ ws) (inr n) = inr (left ws n)
flat_among {A} {B} f (z ∷ zs) x y (inr m) n = right (f z) (flat_among f zs x y m n)
  where
    right : (ys : List B) → Among (flat_map f zs) y → Among (ys ++ flat_map f zs) y
    right [] n = n
    right (w ∷ ws) n = inr (right ws n)

pub split : {A : Type 0} (xs ys : List A) (x : A) → Among (xs ++ ys) x → Among xs x ⊎ Among ys x
split [] ys x m = inr m
split (z ∷ zs) ys x (inl e) = inl (inl e)
split (z ∷ zs) ys x (inr m) = elim (split zs ys x m) [ inl h ↦ inl (inr h) | inr h ↦ inr h ]

pub flat_parts : {A B : Type 0} (f : A → List B) (xs : List A) (y : B) → Among (flat_map f xs) y →
    (x : A) × Among xs x × Among (f x) y
flat_parts f [] y m = absurd m
flat_parts f (x ∷ xs) y m =
    elim (split (f x) (flat_map f xs) y m) [
      | inl h ↦ (x, inl refl, h)
      | inr h ↦ let found =
          flat_parts f xs y h in (found.0, inr found.1, found.2)
    ]

-- a list without elements is empty
no_element : {A : Type 0} (xs : List A) → ((x : A) → Among xs x → ⊥) → xs ≡ []
no_element [] h = refl
no_element (x ∷ xs) h = absurd (h x (inl refl))

-- a site has no places of a fault that the list has none of
pub none-at : (fault : Site → List ℕ) (sites : List Site) →
    ((at : ℕ) → Contains (flat_map fault sites) at → ⊥) →
    (site : Site) → Among sites site → fault site ≡ []
none-at fault sites none site m =
    no_element (fault site)
    (λ at n. none at (Contains-from_among (flat_map fault sites) at
    (flat_among fault sites site at m n)))

-- the same places, where no current region is known
erased : (fault : Site → List ℕ) → ((site : Site) → fault (erase site) ≡ fault site) →
    (sites : List Site) →
    flat_map fault (map erase sites) ≡ flat_map fault sites
erased fault same [] = refl
erased fault same (site ∷ sites) = ap₂ (λ a b. a ++ b) (same site) (erased fault same sites)

same-places : (fault : Site → List ℕ) → ((site : Site) → fault (erase site) ≡ fault site) →
    (xs ys : List Site) →
    Same xs ys → flat_map fault xs ≡ flat_map fault ys
same-places fault same xs ys alike =
    sym (erased fault same xs) ∙ ap (flat_map fault) alike.is ∙ erased fault same ys

-- ---- the sites of a procedure are among those of the text

pub left-among : {A : Type 0} (xs ys : List A) (x : A) → Among xs x → Among (xs ++ ys) x
left-among [] ys x m = absurd m
left-among (z ∷ zs) ys x (inl e) = inl e
left-among (z ∷ zs) ys x (inr m) = inr (left-among zs ys x m)

pub right-among : {A : Type 0} (xs ys : List A) (x : A) → Among ys x → Among (xs ++ ys) x
right-among [] ys x m = m
right-among (z ∷ zs) ys x m = inr (right-among zs ys x m)

find-among : {A : Type 0} (p : A → Bool) (xs : List A) (x : A) → find p xs ≡ Some x → Among xs x
find-among p [] x e = absurd (let none : None ≡ Some x = e in cc)
find-among {A} p (y ∷ ys) x e = by (p y) e (find-among p ys x)
  where
    by : (b : Bool) → cond b (Some y) (find p ys) ≡ Some x → (find p ys ≡ Some x → Among ys x) →
        Among (y ∷ ys) x
    by true e later = inl (let some : Some y ≡ Some x = e in cc)
    by false e later = inr (later e)

abbrev sites_behind : Program → List Entry → List Decl → List Site
sites_behind program earlier decls = each_sites with_decl (decl_sites program) earlier decls

-- those of one of the procedures behind earlier names
in-text : (program : Program) (earlier : List Entry) (decls : List Decl) (routine : Routine)
    (site : Site) →
    Among (routines_behind earlier decls) routine →
    Among (routine_sites program unknown_shapes routine) site →
    Among (sites_behind program earlier decls) site
in-text program earlier [] routine site m n = absurd m
in-text program earlier (Defined procedure ∷ decls) routine site (inl e) n =
    let P : Routine → Type 0 =
    λ routine. Among (routine_sites program unknown_shapes routine) site in
    left-among (decl_sites program earlier (Defined procedure))
    (sites_behind program (with_procedure earlier procedure) decls) site
    (right-among (head_sites earlier procedure)
    (routine_sites program unknown_shapes (routine_of earlier procedure)) site
    (subst P (sym e) n))
in-text program earlier (Defined procedure ∷ decls) routine site (inr m) n =
    right-among (decl_sites program earlier (Defined procedure))
    (sites_behind program (with_procedure earlier procedure) decls) site
    (in-text program (with_procedure earlier procedure) decls routine site m n)
in-text program earlier (Config defines ∷ decls) routine site m n =
    right-among (decl_sites program earlier (Config defines))
    (sites_behind program (with_decl earlier (Config defines)) decls) site
    (in-text program (with_decl earlier (Config defines)) decls routine site m n)
in-text program earlier (Constant defines ∷ decls) routine site m n =
    right-among (decl_sites program earlier (Constant defines))
    (sites_behind program (with_decl earlier (Constant defines)) decls) site
    (in-text program (with_decl earlier (Constant defines)) decls routine site m n)
in-text program earlier (Regions regions ∷ decls) routine site m n =
    right-among (decl_sites program earlier (Regions regions))
    (sites_behind program (with_decl earlier (Regions regions)) decls) site
    (in-text program (with_decl earlier (Regions regions)) decls routine site m n)
in-text program earlier (Directions directions ∷ decls) routine site m n =
    right-among (decl_sites program earlier (Directions directions))
    (sites_behind program (with_decl earlier (Directions directions)) decls) site
    (in-text program (with_decl earlier (Directions directions)) decls routine site m n)
in-text program earlier (Vars vars ∷ decls) routine site m n =
    right-among (decl_sites program earlier (Vars vars))
    (sites_behind program (with_decl earlier (Vars vars)) decls) site
    (in-text program (with_decl earlier (Vars vars)) decls routine site m n)

-- the places of a fault of the text, under any current regions, are places in the text
under-callers : (fault : Site → List ℕ) → ((site : Site) → fault (erase site) ≡ fault site) →
    (program : Program) (shapes : Shapes) (routine : Routine) →
    Among (routines_of program) routine →
    ((at : ℕ) → Contains (in_text fault program) at → ⊥) →
    (at : ℕ) → Contains (flat_map fault (routine_sites program shapes routine)) at → ⊥
under-callers fault same program shapes routine m none at c =
    let alike = same-places fault same (routine_sites program shapes routine)
    (routine_sites program unknown_shapes routine) (routine-same program shapes routine) in
    let P : List ℕ → Type 0 = λ places. Contains places at in
    let there =
    flat_from
    (among_from_Contains (flat_map fault (routine_sites program unknown_shapes routine)) at
    (subst P alike c)) in
    none at (Contains-from_among (in_text fault program) at
    (flat_among fault (text_sites program) there.0 at
    (in-text program [] program.decls routine there.0 m there.1) there.2))
  where
    flat_from : Among (flat_map fault (routine_sites program unknown_shapes routine)) at →
        (site : Site) × Among (routine_sites program unknown_shapes routine) site ×
        Among (fault site) at
    flat_from h = flat_parts fault (routine_sites program unknown_shapes routine) at h

-- ---- programs without faults

clean-site : (sites : List Site) →
    ((at : ℕ) → Contains (flat_map unknown_names sites) at → ⊥) →
    ((at : ℕ) → Contains (flat_map twice_named sites) at → ⊥) →
    ((at : ℕ) → Contains (flat_map unknown_types sites) at → ⊥) →
    ((at : ℕ) → Contains (flat_map type_clashes sites) at → ⊥) →
    ((at : ℕ) → Contains (flat_map rank_clashes sites) at → ⊥) →
    ((at : ℕ) → Contains (flat_map shatter_bodies sites) at → ⊥) →
    ((at : ℕ) → Contains (flat_map not_assignable sites) at → ⊥) →
    ((at : ℕ) → Contains (flat_map arguments sites) at → ⊥) →
    ((at : ℕ) → Contains (flat_map return_places sites) at → ⊥) →
    ((at : ℕ) → Contains (flat_map call_places sites) at → ⊥) →
    ((at : ℕ) → Contains (flat_map mask_places sites) at → ⊥) →
    ((at : ℕ) → Contains (flat_map border_forms sites) at → ⊥) →
    ((at : ℕ) → Contains (flat_map unknown_ranks sites) at → ⊥) →
    (site : Site) → Among sites site → HasNoFault site
clean-site sites h0 h1 h2 h3 h4 h5 h6 h7 h8 h9 h10 h11 h12 site m = record {
  known = none-at unknown_names sites h0 site m;
  once = none-at twice_named sites h1 site m;
  typed = none-at unknown_types sites h2 site m;
  types = none-at type_clashes sites h3 site m;
  ranks = none-at rank_clashes sites h4 site m;
  shattered = none-at shatter_bodies sites h5 site m;
  assignable = none-at not_assignable sites h6 site m;
  fitting = none-at arguments sites h7 site m;
  returns = none-at return_places sites h8 site m;
  calls = none-at call_places sites h9 site m;
  masks = none-at mask_places sites h10 site m;
  borders = none-at border_forms sites h11 site m;
  ranked = none-at unknown_ranks sites h12 site m;
}

pub twice-in : (program : Program) (at : ℕ) → Contains (in_text twice_named program) at →
    Contains (names_twice program) at
twice-in program at c =
    Contains-from_among (names_twice program) at
    (right-among (repeated [] (map (λ entry. entry.name) (globals_of program)))
    (in_text twice_named program) at
    (among_from_Contains (in_text twice_named program) at c))

pub clean_text : (program : Program) → IsFaultless program → (site : Site) →
    Contains (text_sites program) site → HasNoFault site
clean_text program clean site c =
    clean-site (text_sites program)
    (λ at c. clean UnknownName at c)
    (λ at c. clean TwiceNamed at (twice-in program at c))
    (λ at c. clean UnknownType at c)
    (λ at c. clean TypeClash at c)
    (λ at c. clean RankClash at c)
    (λ at c. clean ShatterBody at c)
    (λ at c. clean NotAssignable at c)
    (λ at c. clean Arguments at c)
    (λ at c. clean ReturnPlace at c)
    (λ at c. clean CallPlace at c)
    (λ at c. clean MaskPlace at (inl c))
    (λ at c. clean BorderForm at c)
    (λ at c. clean RankUnknown at c)
    site (among_from_Contains (text_sites program) site c)

pub clean-routine : (program : Program) → IsFaultless program → (shapes : Shapes) (routine : Routine) →
    Among (routines_of program) routine → (site : Site) →
    Among (routine_sites program shapes routine) site → HasNoFault site
clean-routine program clean shapes routine m site n =
    clean-site (routine_sites program shapes routine)
    (under-callers unknown_names unknown_names-erase program shapes routine m
    (λ at c. clean UnknownName at c))
    (under-callers twice_named twice_named-erase program shapes routine m
    (λ at c. clean TwiceNamed at (twice-in program at c)))
    (under-callers unknown_types unknown_types-erase program shapes routine m
    (λ at c. clean UnknownType at c))
    (under-callers type_clashes type_clashes-erase program shapes routine m
    (λ at c. clean TypeClash at c))
    (under-callers rank_clashes rank_clashes-erase program shapes routine m
    (λ at c. clean RankClash at c))
    (under-callers shatter_bodies shatter_bodies-erase program shapes routine m
    (λ at c. clean ShatterBody at c))
    (under-callers not_assignable not_assignable-erase program shapes routine m
    (λ at c. clean NotAssignable at c))
    (under-callers arguments arguments-erase program shapes routine m
    (λ at c. clean Arguments at c))
    (under-callers return_places return_places-erase program shapes routine m
    (λ at c. clean ReturnPlace at c))
    (under-callers call_places call_places-erase program shapes routine m
    (λ at c. clean CallPlace at c))
    (under-callers mask_places mask_places-erase program shapes routine m
    (λ at c. clean MaskPlace at (inl c)))
    (under-callers border_forms border_forms-erase program shapes routine m
    (λ at c. clean BorderForm at c))
    (under-callers unknown_ranks unknown_ranks-erase program shapes routine m
    (λ at c. clean RankUnknown at c))
    site n

pub clean_reached : (program : Program) → IsFaultless program → (text : List ℕ) (shapes : Shapes) →
    IsReached program text shapes → (site : Site) → Contains (sites_at program text shapes) site →
    HasNoFault site
clean_reached program clean text shapes reached site c =
    by (routine_named program text) refl (among_from_Contains (sites_at program text shapes) site c)
  where
    by : (routine : Option Routine) → routine_named program text ≡ routine →
        Among (sites_of program shapes routine) site → HasNoFault site
    by None e m = absurd m
    by (Some routine) e m =
        clean-routine program clean shapes routine
        (find-among (λ routine. bytes_eq routine.procedure.name.text text) (routines_of program)
        routine e) site m

pub clean_under : (program : Program) → IsFaultless program → (text : List ℕ) (shapes : Shapes) →
    IsReached program text shapes → (site : Site) → Contains (sites_at program text shapes) site →
    HasNoFaultUnder site
clean_under program clean text shapes reached site c =
    let m = among_from_Contains (sites_at program text shapes) site c in record {
      regions = none-at no_regions (sites_at program text shapes)
          (λ at c. clean NoRegion at
          (inr (record { text = text; shapes = shapes; reached = reached; there = c }))) site m;
      floods = none-at flood_clashes (sites_at program text shapes)
          (λ at c. clean FloodClash at (record
          { text = text; shapes = shapes; reached = reached; there = c })) site m;
      unmasked = none-at masked_statements (sites_at program text shapes)
          (λ at c. clean MaskPlace at
          (inr (record { text = text; shapes = shapes; reached = reached; there = c }))) site m;
    }
