-- What is computed of the declarations, one after the other.
use Rattle.std.proofs.Common.{◌≡◌, ◌+◌, ℕ, List, [], ◌∷◌, ◌++◌, map, length, Contains, refl, sym, ◌∙◌, ap, ap₂}
use Rattle.std.specs.List.{flat_map}
use Rattle.std.proofs.lemmas.List.{map-append, append-nil, append_assoc, length-append, length-map}
use Rattle.std.proofs.lemmas.List.Concat.{flat_map_single}
use Rattle.zpl_tree.specs.Syntax.{Define, RegionDef, DirDef, Decl, Config, Constant, Regions, Directions, Vars, Defined, Program}
use Rattle.zpl_binding.specs.Outcome.{Outcome, Gives}
use Rattle.zpl_binding.specs.Settings.{Setting, setting_of}
use Rattle.zpl_binding.specs.Constants.{config_value}
use Rattle.zpl_binding.specs.Regions.{Known}
use Rattle.zpl_binding.specs.Declarations.{with_value, with_region, with_direction, with_config, with_constant, with_all, with_decl, nothing_known, known_of, config_names, value_names, region_names, direction_names, names_of}
use Rattle.zpl_binding.specs.Vectors.{vector_of}
use Rattle.zpl_binding.specs.Storages.{arrays_of, storages_of}
use Rattle.zpl_binding.specs.Bound.{Bound, Binds, HasEntries, vectors_in}
use Rattle.zpl_binding.proofs.ListLemmas.{head-member, tail-member, map-member, flat-member}

-- ---- what each addition keeps

pub all-keep : {A : Type 0} (P : Known → Type 0) (adds : Known → A → Known) →
    ((known : Known) (item : A) → P known → P (adds known item)) →
    (items : List A) (known : Known) → P known → P (with_all adds known items)
all-keep P adds keeps [] known h = h
all-keep P adds keeps (item ∷ items) known h =
    all-keep P adds keeps items (adds known item) (keeps known item h)

pub known-keeps : (P : Known → Type 0) (settings : List Setting) →
    ((known : Known) (config : Define) → P known → P (with_config settings known config)) →
    ((known : Known) (constant : Define) → P known → P (with_constant known constant)) →
    ((known : Known) (region : RegionDef) → P known → P (with_region known region)) →
    ((known : Known) (direction : DirDef) → P known → P (with_direction known direction)) →
    P nothing_known → (program : Program) → P (known_of program settings)
known-keeps P settings config constant region direction start program =
    all-keep P (with_decl settings) decl program.decls nothing_known start
  where
    decl : (known : Known) (decl : Decl) → P known → P (with_decl settings known decl)
    decl known (Config configs) h = all-keep P (with_config settings) config configs known h
    decl known (Constant constants) h = all-keep P with_constant constant constants known h
    decl known (Regions regions) h = all-keep P with_region region regions known h
    decl known (Directions directions) h =
        all-keep P with_direction direction directions known h
    decl known (Vars vars) h = h
    decl known (Defined procedure) h = h

-- ---- what each addition adds

pub all-add : {A X : Type 0} (view : Known → List X) (own : A → List X)
    (adds : Known → A → Known) →
    ((known : Known) (item : A) → view (adds known item) ≡ view known ++ own item) →
    (items : List A) (known : Known) →
    view (with_all adds known items) ≡ view known ++ flat_map own items
all-add view own adds step [] known = sym (append-nil (view known))
all-add view own adds step (item ∷ items) known =
    all-add view own adds step items (adds known item) ∙
    ap (λ front. front ++ flat_map own items) (step known item) ∙
    append_assoc (view known) (own item) (flat_map own items)

-- one name for each
all-named : {A : Type 0} (view : Known → List (List ℕ)) (name : A → List ℕ)
    (adds : Known → A → Known) →
    ((known : Known) (item : A) → view (adds known item) ≡ view known ++ name item ∷ []) →
    (items : List A) (known : Known) →
    view (with_all adds known items) ≡ view known ++ map name items
all-named view name adds step items known =
    all-add view (λ item. name item ∷ []) adds step items known ∙
    ap (λ names. view known ++ names) (flat_map_single name items)

-- nothing
all-other : {A X : Type 0} (view : Known → List X) (adds : Known → A → Known) →
    ((known : Known) (item : A) → view (adds known item) ≡ view known) →
    (items : List A) (known : Known) → view (with_all adds known items) ≡ view known
all-other view adds step [] known = refl
all-other view adds step (item ∷ items) known =
    all-other view adds step items (adds known item) ∙ step known item

pub value-names : (program : Program) (settings : List Setting) →
    names_of (known_of program settings).values ≡ flat_map value_names program.decls
value-names program settings =
    all-add view value_names (with_decl settings) decl program.decls nothing_known
  where
    view : Known → List (List ℕ)
    view known = names_of known.values

    decl : (known : Known) (decl : Decl) →
        view (with_decl settings known decl) ≡ view known ++ value_names decl
    decl known (Config configs) =
        all-named view (λ config. config.name.text) (with_config settings)
        (λ known config. map-append (λ one. one.name) known.values _) configs known
    decl known (Constant constants) =
        all-named view (λ constant. constant.name.text) with_constant
        (λ known constant. map-append (λ one. one.name) known.values _) constants known
    decl known (Regions regions) =
        all-other view with_region (λ known region. refl) regions known ∙
        sym (append-nil (view known))
    decl known (Directions directions) =
        all-other view with_direction (λ known direction. refl) directions known ∙
        sym (append-nil (view known))
    decl known (Vars vars) = sym (append-nil (view known))
    decl known (Defined procedure) = sym (append-nil (view known))

pub region-names : (program : Program) (settings : List Setting) →
    names_of (known_of program settings).regions ≡ flat_map region_names program.decls
region-names program settings =
    all-add view region_names (with_decl settings) decl program.decls nothing_known
  where
    view : Known → List (List ℕ)
    view known = names_of known.regions

    decl : (known : Known) (decl : Decl) →
        view (with_decl settings known decl) ≡ view known ++ region_names decl
    decl known (Config configs) =
        all-other view (with_config settings) (λ known config. refl) configs known ∙
        sym (append-nil (view known))
    decl known (Constant constants) =
        all-other view with_constant (λ known constant. refl) constants known ∙
        sym (append-nil (view known))
    decl known (Regions regions) =
        all-named view (λ region. region.name.text) with_region
        (λ known region. map-append (λ one. one.name) known.regions _) regions known
    decl known (Directions directions) =
        all-other view with_direction (λ known direction. refl) directions known ∙
        sym (append-nil (view known))
    decl known (Vars vars) = sym (append-nil (view known))
    decl known (Defined procedure) = sym (append-nil (view known))

pub direction-names : (program : Program) (settings : List Setting) →
    names_of (known_of program settings).directions ≡ flat_map direction_names program.decls
direction-names program settings =
    all-add view direction_names (with_decl settings) decl program.decls nothing_known
  where
    view : Known → List (List ℕ)
    view known = names_of known.directions

    decl : (known : Known) (decl : Decl) →
        view (with_decl settings known decl) ≡ view known ++ direction_names decl
    decl known (Config configs) =
        all-other view (with_config settings) (λ known config. refl) configs known ∙
        sym (append-nil (view known))
    decl known (Constant constants) =
        all-other view with_constant (λ known constant. refl) constants known ∙
        sym (append-nil (view known))
    decl known (Regions regions) =
        all-other view with_region (λ known region. refl) regions known ∙
        sym (append-nil (view known))
    decl known (Directions directions) =
        all-named view (λ direction. direction.name.text) with_direction
        (λ known direction. map-append (λ one. one.name) known.directions _) directions known
    decl known (Vars vars) = sym (append-nil (view known))
    decl known (Defined procedure) = sym (append-nil (view known))

-- ---- settings that give each config the same text

all-alike : {A : Type 0} (adds others : Known → A → Known) (items : List A) →
    ((known : Known) (item : A) → Contains items item → adds known item ≡ others known item) →
    (known : Known) → with_all adds known items ≡ with_all others known items
all-alike adds others [] same known = refl
all-alike adds others (item ∷ items) same known =
    all-alike adds others items (λ known one h. same known one (tail-member item items one h))
    (adds known item) ∙
    ap (λ next. with_all others next items) (same known item (head-member item items))

config-alike : (settings others : List Setting) (config : Define) →
    setting_of settings config.name.text ≡ setting_of others config.name.text →
    (known : Known) → with_config settings known config ≡ with_config others known config
config-alike settings others config same known =
    ap (λ text. with_value known config.name (config_value text known.values config)) same

pub known-alike : (program : Program) (settings others : List Setting) →
    ((name : List ℕ) → Contains (flat_map config_names program.decls) name →
    setting_of settings name ≡ setting_of others name) →
    known_of program settings ≡ known_of program others
known-alike program settings others same =
    all-alike (with_decl settings) (with_decl others) program.decls
    (λ known decl there. each decl
    (λ name h. same name (flat-member config_names program.decls decl name there h)) known)
    nothing_known
  where
    each : (decl : Decl) →
        ((name : List ℕ) → Contains (config_names decl) name →
        setting_of settings name ≡ setting_of others name) →
        (known : Known) → with_decl settings known decl ≡ with_decl others known decl
    each (Config configs) same known =
        all-alike (with_config settings) (with_config others) configs
        (λ known config there. config-alike settings others config
        (same config.name.text (map-member (λ config. config.name.text) configs config there))
        known) known
    each (Constant constants) same known = refl
    each (Regions regions) same known = refl
    each (Directions directions) same known = refl
    each (Vars vars) same known = refl
    each (Defined procedure) same known = refl

-- ---- the lengths of what is bound

counted : {A B X : Type 0} (f : A → X) (g : A → B) (all : List A) (xs : List X) (ys : List B) →
    map f all ≡ xs → map g all ≡ ys → length ys ≡ length xs
counted f g all xs ys e h =
    ap length (sym h) ∙ length-map all g ∙ sym (length-map all f) ∙ ap length e

given-length : {A : Type 0} (xs : List (Outcome A)) (ys : List A) → xs ≡ map Gives ys →
    length ys ≡ length xs
given-length xs ys is = sym (length-map ys Gives) ∙ ap length (sym is)

pub bound-entries : (program : Program) (settings : List Setting) (bound : Bound) →
    Binds program settings bound → HasEntries program bound
bound-entries program settings bound binds = record {
  values =
      given-length _ bound.values binds.values ∙
      counted (λ one. one.name) (λ one. one.outcome) known.values _ _
      (value-names program settings) refl;
  regions =
      given-length _ bound.regions binds.regions ∙
      counted (λ one. one.name) (λ one. one.outcome) known.regions _ _
      (region-names program settings) refl;
  vectors =
      given-length _ bound.vectors binds.vectors ∙ length-append _ _ ∙
      ap₂ (λ m n. m + n)
      (counted (λ one. one.name) (λ one. one.outcome) known.directions _ _
      (direction-names program settings) refl)
      (length-map (vectors_in program) (vector_of known.values));
  storages =
      given-length _ bound.storages binds.storages ∙
      length-map (arrays_of program) _;
}
  where
    known : Known
    known = known_of program settings

-- ---- what is bound depends on what is known

pub bound-alike : (program : Program) (settings others : List Setting) (bound : Bound) →
    ((name : List ℕ) → Contains (flat_map config_names program.decls) name →
    setting_of settings name ≡ setting_of others name) →
    Binds program settings bound → Binds program others bound
bound-alike program settings others bound same binds =
    let alike = sym (known-alike program settings others same) in
    record {
      values = ap (λ known. map (λ one. one.outcome) known.values) alike ∙ binds.values;
      regions = ap (λ known. map (λ one. one.outcome) known.regions) alike ∙ binds.regions;
      vectors =
          ap
          (λ known.
          map (λ one. one.outcome) known.directions ++
          map (vector_of known.values) (vectors_in program)) alike ∙ binds.vectors;
      storages = ap (storages_of program) alike ∙ binds.storages;
    }
