-- Binding, list by list.
use Rattle.std.proofs.Common.{◌≡◌, ℤ, Bool, true, false, if◌then◌else◌, ◌&&◌, List, [], ◌∷◌, ◌++◌, map, All, Contains, refl, sym, ap, ap₂, ◌∙◌, subst, ⊎_elim, arith}
use Rattle.std.specs.List.{flat_map, list_all, AllByRecursion}
use Rattle.std.proofs.lemmas.List.{map-append}
use Rattle.std.proofs.lemmas.List.Elements.{All-from_recursion, Contains-append_left, Contains-append_right, Contains-append_cases}
use Rattle.zpl_region.specs.declared.regions.Region.{Region}
use Rattle.zpl_tree.specs.Syntax.{NamedRegion, Ditto, Number, Truth, Coord, Named, Shifted, Around, Remap, Call, Paren, Neg, Not, Abs, Pair, Reduce, Scan, Flood, Exprs, NamedDir, Vector, Inner, Rexpr, Dims, Bracket, NoBracket, Bracketed, NoPost, ThenPost, Decl, Config, Constant, Regions, Directions, Vars, Defined, VarDef, RegionDef, Program}
use Rattle.zpl_tree.specs.View.{decl_of}
use Rattle.zpl_tree.specs.declared.declarations.Decl.{Decl as Arena}
use Rattle.zpl_parts.specs.of_zpl_names.Scope.{Entry}
use Rattle.zpl_parts.specs.of_zpl_names.Declared.{Routine, routines_of, routines_behind, with_decl, with_procedure}
use Rattle.zpl_parts.specs.of_zpl_names.Sites.{Site, AtWhole, AtExpr, AtCall, AtNamed, AtDir, AtRegion, AtMask, AtStmt, AtBase, AtPosts, AtProcedure, text_sites}
use Rattle.zpl_parts.specs.of_zpl_binding.Outcome as plain
use Rattle.zpl_parts.specs.of_zpl_binding.Outcome.{Outcome, Gives, failures}
use Rattle.zpl_parts.specs.of_zpl_binding.Settings.{Setting}
use Rattle.zpl_parts.specs.of_zpl_binding.Regions.{Known}
use Rattle.zpl_parts.specs.of_zpl_binding.Declarations.{known_of}
use Rattle.zpl_parts.specs.of_zpl_binding.Vectors.{vector_of}
use Rattle.zpl_parts.specs.of_zpl_binding.Storages.{Border, borders_at, borders_of, innermost, shaped_by, shaped_in, storages_of}
use Rattle.zpl_parts.specs.of_zpl_binding.Bound.{Bound, Binds, vectors_at, vectors_in, computed_values, computed_regions, computed_vectors, computed_storages, faults_of, faults_of_settings}
use Rattle.zpl_parts.specs.of_zpl_binding.Settings.{twice_set}
use Rattle.zpl_parts.proofs.of_zpl_binding.OutcomeLemmas.{given-none}
use Rattle.zpl_parts.specs.of_zpl_names.Declared.{globals_of}
use Rattle.zpl_parts.specs.of_zpl_names.Faults.{repeated}
use Rattle.zpl_bind.specs.declared.faults.BindFault.{BindFault as Code}
use Rattle.zpl_bind.specs.Fault.{IsAmong}
use Rattle.zpl_bind.specs.Known.{known_failures}
use Rattle.zpl_bind.specs.Texts.{all_text_faults, config_bases}
use Rattle.zpl_bind.proofs.GlobalLemmas.{texts-are}
use Rattle.zpl_bind.proofs.StorageFaults.{among-more, failures-append}
use Rattle.zpl_parts.specs.Part.{Part, VectorPart, BorderPart, AroundPart, CallPart, parts_at}
use Rattle.zpl_parts.specs.Walk.{text_parts}
use Rattle.zpl_parts.proofs.SiteLemmas.{text-have}
use Rattle.zpl_bind.specs.Few.{IsFew, IsFewBracket, AreFewVars, IsFewDecl, is_few, is_few_bracket, are_few_vars, is_few_decl}
use Rattle.zpl_bind.specs.Storages.{borders_among, vectors_among, shaped_locals, storages_over}

-- ---- the borders and the vectors of sites are those of their parts

borders-append : (xs ys : List Part) →
    borders_among (xs ++ ys) ≡ borders_among xs ++ borders_among ys
borders-append [] ys = refl
borders-append (BorderPart border ∷ xs) ys = ap (λ l. border ∷ l) (borders-append xs ys)
borders-append (VectorPart parts ∷ xs) ys = borders-append xs ys
borders-append (AroundPart array shift ∷ xs) ys = borders-append xs ys
borders-append (CallPart name actuals ∷ xs) ys = borders-append xs ys

vectors-append : (xs ys : List Part) →
    vectors_among (xs ++ ys) ≡ vectors_among xs ++ vectors_among ys
vectors-append [] ys = refl
vectors-append (VectorPart parts ∷ xs) ys = ap (λ l. parts ∷ l) (vectors-append xs ys)
vectors-append (BorderPart border ∷ xs) ys = vectors-append xs ys
vectors-append (AroundPart array shift ∷ xs) ys = vectors-append xs ys
vectors-append (CallPart name actuals ∷ xs) ys = vectors-append xs ys

all-borders : (borders : List Border) → borders_among (map BorderPart borders) ≡ borders
all-borders [] = refl
all-borders (border ∷ rest) = ap (λ l. border ∷ l) (all-borders rest)

no-vectors : (borders : List Border) → vectors_among (map BorderPart borders) ≡ []
no-vectors [] = refl
no-vectors (border ∷ rest) = no-vectors rest

-- what one site has
pub record Tells (site : Site) : Type 0 where
  pub borders : borders_among (parts_at site) ≡ borders_at site
  pub vectors : vectors_among (parts_at site) ≡ vectors_at site

plainly : (site : Site) → borders_among (parts_at site) ≡ borders_at site →
    vectors_among (parts_at site) ≡ vectors_at site → Tells site
plainly site e f = record { borders = e; vectors = f }

by_if : (b : Bool) (parts : Exprs) →
    (borders_among (if b then [] else VectorPart parts ∷ []) ≡ []) ×
    (vectors_among (if b then [] else VectorPart parts ∷ []) ≡ (if b then [] else parts ∷ []))
by_if true parts = (refl, refl)
by_if false parts = (refl, refl)

tells : (site : Site) → Tells site
tells (AtWhole reach role expr) = plainly (AtWhole reach role expr) refl refl
tells (AtExpr reach rank (Number at value)) = plainly _ refl refl
tells (AtExpr reach rank (Truth at value)) = plainly _ refl refl
tells (AtExpr reach rank (Coord at dimension)) = plainly _ refl refl
tells (AtExpr reach rank (Named at name)) = plainly _ refl refl
tells (AtExpr reach rank (Shifted at name shift)) = plainly _ refl refl
tells (AtExpr reach rank (Around at name shift)) = plainly _ refl refl
tells (AtExpr reach rank (Remap at name indices)) = plainly _ refl refl
tells (AtExpr reach rank (Call at name actuals)) = plainly _ refl refl
tells (AtExpr reach rank (Paren at inside)) = plainly _ refl refl
tells (AtExpr reach rank (Neg at operand)) = plainly _ refl refl
tells (AtExpr reach rank (Not at operand)) = plainly _ refl refl
tells (AtExpr reach rank (Abs at operand)) = plainly _ refl refl
tells (AtExpr reach rank (Pair at op left right)) = plainly _ refl refl
tells (AtExpr reach rank (Reduce at operator over operand)) = plainly _ refl refl
tells (AtExpr reach rank (Scan at operator along operand)) = plainly _ refl refl
tells (AtExpr reach rank (Flood at source operand)) = plainly _ refl refl
tells (AtCall reach place name actuals) = plainly _ refl refl
tells (AtNamed reach name) = plainly _ refl refl
tells (AtDir reach (NamedDir name)) = plainly _ refl refl
tells (AtDir reach (Vector parts)) =
    plainly (AtDir reach (Vector parts)) (by_if reach.declared parts).0 (by_if reach.declared parts).1
tells (AtRegion reach hint (Rexpr pre (NamedRegion region) NoPost)) =
    plainly (AtRegion reach hint (Rexpr pre (NamedRegion region) NoPost))
    (all-borders (innermost pre region)) (no-vectors (innermost pre region))
tells (AtRegion reach hint (Rexpr pre (NamedRegion region) (ThenPost stride dir rest))) =
    plainly _ refl refl
tells (AtRegion reach hint (Rexpr pre (Ditto at) NoPost)) = plainly _ refl refl
tells (AtRegion reach hint (Rexpr pre (Ditto at) (ThenPost stride dir rest))) =
    plainly _ refl refl
tells (AtRegion reach hint (Dims dims)) = plainly _ refl refl
tells (AtMask reach prefix mask) = plainly _ refl refl
tells (AtStmt reach at prefixes form) = plainly _ refl refl
tells (AtBase base) = plainly _ refl refl
tells (AtPosts reach region posts) = plainly _ refl refl
tells (AtProcedure procedure) = plainly _ refl refl

site-borders : (sites : List Site) →
    borders_among (flat_map parts_at sites) ≡ flat_map borders_at sites
site-borders [] = refl
site-borders (site ∷ sites) =
    borders-append (parts_at site) (flat_map parts_at sites) ∙
    ap₂ (λ a b. a ++ b) (tells site).borders (site-borders sites)

site-vectors : (sites : List Site) →
    vectors_among (flat_map parts_at sites) ≡ flat_map vectors_at sites
site-vectors [] = refl
site-vectors (site ∷ sites) =
    vectors-append (parts_at site) (flat_map parts_at sites) ∙
    ap₂ (λ a b. a ++ b) (tells site).vectors (site-vectors sites)

pub text-borders : (program : Program) → borders_among (text_parts program) ≡ borders_of program
text-borders program =
    ap borders_among (sym (text-have program).is) ∙ site-borders (text_sites program)

pub text-vectors : (program : Program) → vectors_among (text_parts program) ≡ vectors_in program
text-vectors program =
    ap vectors_among (sym (text-have program).is) ∙ site-vectors (text_sites program)

-- ---- the local arrays, declaration by declaration

locals-behind : (earlier : List Entry) (decls : List Decl) →
    flat_map (λ (routine : Routine). flat_map shaped_by routine.procedure.locals)
    (routines_behind earlier decls) ≡ flat_map shaped_locals decls
locals-behind earlier [] = refl
locals-behind earlier (Defined procedure ∷ decls) =
    ap (λ l. flat_map shaped_by procedure.locals ++ l)
    (locals-behind (with_procedure earlier procedure) decls)
locals-behind earlier (Config defines ∷ decls) = locals-behind (with_decl earlier (Config defines)) decls
locals-behind earlier (Constant defines ∷ decls) = locals-behind (with_decl earlier (Constant defines)) decls
locals-behind earlier (Regions regions ∷ decls) = locals-behind (with_decl earlier (Regions regions)) decls
locals-behind earlier (Directions directions ∷ decls) = locals-behind (with_decl earlier (Directions directions)) decls
locals-behind earlier (Vars vars ∷ decls) = locals-behind (with_decl earlier (Vars vars)) decls

pub storages-are : (program : Program) (known : Known) (parts : List Part) →
    parts ≡ text_parts program →
    storages_over known (borders_among parts) (flat_map shaped_in program.decls) ++
    storages_over known (borders_among parts) (flat_map shaped_locals program.decls)
    ≡ storages_of program known
storages-are program known parts is =
    ap (λ b. storages_over known b (flat_map shaped_in program.decls) ++
    storages_over known b (flat_map shaped_locals program.decls))
    (ap borders_among is ∙ text-borders program) ∙
    ap (λ l. storages_over known (borders_of program) (flat_map shaped_in program.decls) ++
    storages_over known (borders_of program) l) (sym (locals-behind [] program.decls)) ∙
    sym (map-append _ (flat_map shaped_in program.decls)
    (flat_map (λ (routine : Routine). flat_map shaped_by routine.procedure.locals) (routines_of program)))

-- ---- the four lists

abbrev pub bound_with : List ℤ → List Region → List (List ℤ) → List Region → Bound
bound_with values regions vectors storages =
    record { values = values; regions = regions; vectors = vectors; storages = storages }

pub bound-lists : (program : Program) (settings : List Setting) (known : Known)
    (parts others : List Part) (values : List ℤ) (regions : List Region)
    (vectors : List (List ℤ)) (storages : List Region) → known ≡ known_of program settings →
    parts ≡ text_parts program → others ≡ text_parts program →
    map Gives values ≡ map (λ one. one.outcome) known.values →
    map Gives regions ≡ map (λ one. one.outcome) known.regions →
    map Gives vectors ≡ map (λ one. one.outcome) known.directions ++
    map (vector_of known.values) (vectors_among parts) →
    map Gives storages ≡ storages_over known (borders_among others) (flat_map shaped_in program.decls) ++
    storages_over known (borders_among others) (flat_map shaped_locals program.decls) →
    Binds program settings (bound_with values regions vectors storages)
bound-lists program settings known parts others values regions vectors storages is text same a b c d =
    record {
      values = sym (a ∙ ap (λ (k : Known). map (λ one. one.outcome) k.values) is);
      regions = sym (b ∙ ap (λ (k : Known). map (λ one. one.outcome) k.regions) is);
      vectors =
          sym (c ∙ ap (λ l. map (λ one. one.outcome) known.directions ++ map (vector_of known.values) l)
          (ap vectors_among text ∙ text-vectors program) ∙
          ap (λ (k : Known). map (λ one. one.outcome) k.directions ++
          map (vector_of k.values) (vectors_in program)) is);
      storages =
          sym (d ∙ storages-are program known others same ∙ ap (storages_of program) is);
    }

pub bound-same : (program : Program) (settings : List Setting) (a a' : List ℤ)
    (b b' : List Region) (c c' : List (List ℤ)) (d d' : List Region) →
    Binds program settings (bound_with a b c d) → a' ≡ a → b' ≡ b → c' ≡ c → d' ≡ d →
    Binds program settings (bound_with a' b' c' d')
bound-same program settings a a' b b' c c' d d' binds e f g h =
    subst (λ d. Binds program settings (bound_with a' b' c' d)) (sym h)
    (subst (λ c. Binds program settings (bound_with a' b' c d)) (sym g)
    (subst (λ b. Binds program settings (bound_with a' b c d)) (sym f)
    (subst (λ a. Binds program settings (bound_with a b c d)) (sym e) binds)))

-- ---- the faults

pub settings-are : (program : Program) (settings : List Setting) →
    repeated [] (map (λ entry. entry.name) (globals_of program)) ≡ [] →
    all_text_faults (flat_map config_bases program.decls) settings
    ≡ faults_of_settings program settings
settings-are program settings once =
    ap (λ l. l ++ twice_set settings) (texts-are program settings once)

pub bound-accepts : (program : Program) (settings : List Setting) (bound : Bound) →
    Binds program settings bound →
    repeated [] (map (λ entry. entry.name) (globals_of program)) ≡ [] →
    all_text_faults (flat_map config_bases program.decls) settings ≡ [] →
    faults_of program settings ≡ []
bound-accepts program settings bound binds once none =
    ap₂ (λ front last. front ++ last)
    (ap₂ (λ front last. front ++ last)
    (ap₂ (λ front last. front ++ last)
    (ap₂ (λ front last. front ++ last) (sym (settings-are program settings once) ∙ none)
    (given-none (computed_values program settings) bound.values binds.values))
    (given-none (computed_regions program settings) bound.regions binds.regions))
    (given-none (computed_vectors program settings) bound.vectors binds.vectors))
    (given-none (computed_storages program settings) bound.storages binds.storages)

module _ (program : Program) (settings : List Setting) where
  abbrev one : List plain.BindFault
  one = faults_of_settings program settings

  abbrev two : List plain.BindFault
  two = failures (computed_values program settings)

  abbrev three : List plain.BindFault
  three = failures (computed_regions program settings)

  abbrev four : List plain.BindFault
  four = failures (computed_vectors program settings)

  abbrev five : List plain.BindFault
  five = failures (computed_storages program settings)

  in-one : (f : plain.BindFault) → Contains one f → Contains (faults_of program settings) f
  in-one f h =
      Contains-append_left (one ++ two ++ three ++ four) five f
      (Contains-append_left (one ++ two ++ three) four f
      (Contains-append_left (one ++ two) three f (Contains-append_left one two f h)))

  in-two : (f : plain.BindFault) → Contains two f → Contains (faults_of program settings) f
  in-two f h =
      Contains-append_left (one ++ two ++ three ++ four) five f
      (Contains-append_left (one ++ two ++ three) four f
      (Contains-append_left (one ++ two) three f (Contains-append_right one two f h)))

  in-three : (f : plain.BindFault) → Contains three f → Contains (faults_of program settings) f
  in-three f h =
      Contains-append_left (one ++ two ++ three ++ four) five f
      (Contains-append_left (one ++ two ++ three) four f
      (Contains-append_right (one ++ two) three f h))

  in-four : (f : plain.BindFault) → Contains four f → Contains (faults_of program settings) f
  in-four f h =
      Contains-append_left (one ++ two ++ three ++ four) five f
      (Contains-append_right (one ++ two ++ three) four f h)

  in-five : (f : plain.BindFault) → Contains five f → Contains (faults_of program settings) f
  in-five f h = Contains-append_right (one ++ two ++ three ++ four) five f h

  in-known : (f : plain.BindFault) → Contains (known_failures (known_of program settings)) f →
      Contains (faults_of program settings) f
  in-known f h =
      ⊎_elim
      (λ front. ⊎_elim (in-two f) (in-three f) (Contains-append_cases two three f front))
      (λ last. in-four f
      (subst (λ l. Contains l f)
      (sym (failures-append (map (λ one. one.outcome) (known_of program settings).directions)
      (map (vector_of (known_of program settings).values) (vectors_in program))))
      (Contains-append_left
      (failures (map (λ one. one.outcome) (known_of program settings).directions)) _ f last)))
      (Contains-append_cases (two ++ three)
      (failures (map (λ one. one.outcome) (known_of program settings).directions)) f h)

  pub known-fault : (fault : Code) →
      repeated [] (map (λ entry. entry.name) (globals_of program)) ≡ [] →
      IsAmong fault (all_text_faults (flat_map config_bases program.decls) settings ++
      known_failures (known_of program settings)) → IsAmong fault (faults_of program settings)
  known-fault fault once h =
      among-more fault _ (faults_of program settings)
      (λ f there. ⊎_elim (λ text. in-one f (subst (λ l. Contains l f)
      (settings-are program settings once) text)) (in-known f)
      (Contains-append_cases (all_text_faults (flat_map config_bases program.decls) settings)
      (known_failures (known_of program settings)) f there)) h

  pub vectors-fault : (known : Known) (parts : List Part) (fault : Code) →
      known ≡ known_of program settings → parts ≡ text_parts program →
      IsAmong fault (failures (map (vector_of known.values) (vectors_among parts))) →
      IsAmong fault (faults_of program settings)
  vectors-fault known parts fault is text h =
      among-more fault (failures (map (vector_of known.values) (vectors_among parts)))
      (faults_of program settings)
      (λ f there. in-four f
      (subst (λ l. Contains l f)
      (sym (failures-append (map (λ one. one.outcome) (known_of program settings).directions)
      (map (vector_of (known_of program settings).values) (vectors_in program))))
      (Contains-append_right
      (failures (map (λ one. one.outcome) (known_of program settings).directions)) _ f
      (subst (λ l. Contains l f)
      (ap (λ (k : Known). failures (map (vector_of k.values) (vectors_among parts))) is ∙
      ap (λ l. failures (map (vector_of (known_of program settings).values) l))
      (ap vectors_among text ∙ text-vectors program)) there)))) h

  pub storages-fault : (known : Known) (parts : List Part) (fault : Code) →
      known ≡ known_of program settings → parts ≡ text_parts program →
      IsAmong fault
      (failures (storages_over known (borders_among parts) (flat_map shaped_in program.decls)) ++
      failures (storages_over known (borders_among parts) (flat_map shaped_locals program.decls))) →
      IsAmong fault (faults_of program settings)
  storages-fault known parts fault is text h =
      among-more fault _ (faults_of program settings)
      (λ f there. in-five f
      (subst (λ l. Contains l f)
      (sym (failures-append
      (storages_over known (borders_among parts) (flat_map shaped_in program.decls))
      (storages_over known (borders_among parts) (flat_map shaped_locals program.decls))) ∙
      ap failures (storages-are program known parts text ∙ ap (storages_of program) is)) there)) h

-- ---- few dimensions

false-true : false ≡ true → ⊥
false-true e = cc

each-true : {X : Type 0} (P : X → Type 0) (test : X → Bool) →
    ((x : X) → test x ≡ true → P x) → (xs : List X) → list_all test xs ≡ true →
    AllByRecursion P xs
each-true P test holds [] h = tt
each-true P test holds (x ∷ xs) h =
    let parts = both (test x) (list_all test xs) h in
    (holds x parts.0, each-true P test holds xs parts.1)
  where
    both : (a b : Bool) → a && b ≡ true → (a ≡ true) × (b ≡ true)
    both true b h = (refl, h)
    both false b h = absurd (false-true h)

few-inner : (inner : Inner) → is_few inner ≡ true → IsFew inner
few-inner (Rexpr pre base post) h = tt
few-inner (Dims dims) h = grind arith

few-bracket : (bracket : Bracket) → is_few_bracket bracket ≡ true → IsFewBracket bracket
few-bracket NoBracket h = tt
few-bracket (Bracketed inner) h = few-inner inner h

few-vars : (vars : List VarDef) → are_few_vars vars ≡ true → AreFewVars vars
few-vars vars h =
    All-from_recursion (λ (var : VarDef). IsFewBracket var.shape) vars
    (each-true (λ (var : VarDef). IsFewBracket var.shape) (λ var. is_few_bracket var.shape)
    (λ var. few-bracket var.shape) vars h)

few-decl : (decl : Decl) → is_few_decl decl ≡ true → IsFewDecl decl
few-decl (Regions regions) h =
    All-from_recursion (λ (region : RegionDef). IsFew region.body) regions
    (each-true (λ (region : RegionDef). IsFew region.body) (λ region. is_few region.body)
    (λ region. few-inner region.body) regions h)
few-decl (Vars vars) h = few-vars vars h
few-decl (Defined procedure) h = few-vars procedure.locals h
few-decl (Config defines) h = tt
few-decl (Constant defines) h = tt
few-decl (Directions directions) h = tt

pub few-decls : (decls : List Arena) → list_all is_few_decl (map decl_of decls) ≡ true →
    All (λ decl. IsFewDecl (decl_of decl)) decls
few-decls decls h =
    All-from_recursion (λ decl. IsFewDecl (decl_of decl)) decls
    (by decls (each-true IsFewDecl is_few_decl few-decl (map decl_of decls) h))
  where
    by : (decls : List Arena) → AllByRecursion IsFewDecl (map decl_of decls) →
        AllByRecursion (λ decl. IsFewDecl (decl_of decl)) decls
    by [] h = tt
    by (decl ∷ decls) h = (h.0, by decls h.1)
