-- The names of a call: each that stands for an array may do so by the text.
use Rattle.std.proofs.Common.{◌≡◌, ℕ, Bool, true, false, cond, List, [], ◌∷◌, ◌++◌, map, length, refl, sym, ap, ap₂, ◌∙◌, subst, append-nil, append_assoc}
use Rattle.std.specs.Prelude.{Option, Some, None, option_map, find}
use Rattle.std.specs.Option.{option_or}
use Rattle.std.specs.List.{flat_map}
use Rattle.std.specs.Str.{bytes_eq}
use Rattle.zpl_region.specs.declared.regions.Region.{Region}
use Rattle.zpl_tree.specs.Syntax.{Name, Base, Bracket, NoBracket, Bracketed, Param, VarDef, Program}
use Rattle.zpl_names.specs.Kinds as kind
use Rattle.zpl_names.specs.Kinds.{Kind}
use Rattle.zpl_names.specs.Scope.{Entry, Scope, is_array, kind_in}
use Rattle.zpl_names.specs.Faults.{repeated}
use Rattle.zpl_names.specs.Shapes.{declared_shape, variable_kind}
use Rattle.zpl_names.specs.Declared.{Routine, entry_for, globals_of, routine_named}
use Rattle.zpl_names.specs.Expansion.{Binding, FormalName, array_at, bound_in, formal_named, formal_names, global_array, local_arrays}
use Rattle.zpl_names.proofs.ListLemmas.{Among, Contains-from_among}
use Rattle.zpl_names.proofs.NameLemmas.{kind_in-distinct}
use Rattle.zpl_binding.specs.Formals.{is_array_name}
use Rattle.zpl_binding.specs.Regions.{Known}
use Rattle.lowering_fits.specs.of_zpl_meaning.Context.{Setup}
use Rattle.lowering_fits.specs.of_zpl_meaning.Store.{Thing, Scalar, ArrayAt, Names}
use Rattle.lowering_fits.specs.of_zpl_meaning.Variables.{home_box}
use Rattle.lowering_fits.proofs.of_zpl_meaning.VisitLemmas.{found_in}
use Rattle.lowering_fits.specs.of_zpl_lowering.Where.{Next}
use Rattle.lowering_fits.specs.of_zpl_lowering.Statement.{Given, Valued, Copied, Referring}
use Rattle.lowering_fits.specs.of_zpl_lowering.Program.{Framed, Entry as CallEntry}
use Rattle.lowering_fits.specs.Reach.{named_thing}
use Rattle.lowering_fits.specs.Whole.{given_frame, given_frames, local_frame, local_frames, name_frames}
use Rattle.lowered_flat.proofs.HomeLemmas.{AreLocal, AreTaken, IsHomeAt, IsLocal, IsToldHome, IsToldThing, LocalAs, TakenAs, global_declared, global_told, local_declared, local_found, push_count, push_store, push_take, stands_itself, taken_found}

abbrev pub param_entries : Scope → Param → List Entry
param_entries scope param = map (entry_for (variable_kind scope param.shape param.base)) param.names

abbrev pub var_entries : Scope → VarDef → List Entry
var_entries scope var = map (entry_for (variable_kind scope var.shape var.base)) var.names

-- ---- names that are found

thing_or : (ns ms : Names) (text : List ℕ) →
    named_thing (ns ++ ms) text ≡ option_or (named_thing ns text) (named_thing ms text)
thing_or [] ms text = refl
thing_or (n ∷ ns) ms text = by (bytes_eq n.0 text) (thing_or ns ms text)
  where
    by : (b : Bool) →
        named_thing (ns ++ ms) text ≡ option_or (named_thing ns text) (named_thing ms text) →
        option_map (λ entry. entry.1)
        (cond b (Some n) (find (λ entry. bytes_eq entry.0 text) (ns ++ ms))) ≡
        option_or (option_map (λ entry. entry.1)
        (cond b (Some n) (find (λ entry. bytes_eq entry.0 text) ns))) (named_thing ms text)
    by true later = refl
    by false later = later

some_none : {A : Type 0} (x : A) → Some x ≡ None → ⊥
some_none x e = cc

names_none : (one : Kind) (by_ref : Bool) (names : List Name) (fs : List FormalName)
    (es : List Entry) (text : List ℕ) →
    (formal_named fs text ≡ None → kind_in es text ≡ None) →
    formal_named (map (λ (name : Name). record { by_ref = by_ref; name = name }) names ++ fs) text
    ≡ None →
    kind_in (map (entry_for one) names ++ es) text ≡ None
names_none one by_ref [] fs es text later e = later e
names_none one by_ref (name ∷ names) fs es text later e =
    by (bytes_eq name.text text) (names_none one by_ref names fs es text later) e
  where
    formals : List FormalName
    formals = map (λ (name : Name). record { by_ref = by_ref; name = name }) names ++ fs

    by : (b : Bool) →
        (formal_named formals text ≡ None → kind_in (map (entry_for one) names ++ es) text ≡ None) →
        cond b (Some (record { by_ref = by_ref; name = name }))
        (find (λ formal. bytes_eq formal.name.text text) formals) ≡ None →
        option_map (λ entry. entry.kind)
        (cond b (Some (entry_for one name))
        (find (λ entry. bytes_eq entry.name.text text) (map (entry_for one) names ++ es))) ≡ None
    by true later e = absurd (some_none _ e)
    by false later e = later e

-- a text that is no parameter has no entry of one
params_none : (scope : Scope) (params : List Param) (text : List ℕ) →
    formal_named (formal_names params) text ≡ None →
    kind_in (flat_map (param_entries scope) params) text ≡ None
params_none scope [] text e = refl
params_none scope (param ∷ params) text e =
    names_none (variable_kind scope param.shape param.base) param.by_ref param.names
    (formal_names params) (flat_map (param_entries scope) params) text
    (params_none scope params text) e

array_or : (one other : Option Kind) → is_array one ≡ true → is_array (option_or one other) ≡ true
array_or None other is = let no : ⊥ = cc in absurd no
array_or (Some one) other is = is

-- a global array that is told by its offset
pub record IsGlobalHome (program : Program) (known : Known) (name : List ℕ) (home : Region)
    : Type 0 where
  pub entry : Entry
  pub there : Among (globals_of program) entry
  pub named : entry.name.text ≡ name
  pub array_kind : is_array (Some entry.kind) ≡ true
  pub is : IsHomeAt program known entry.name.at home

-- ---- parameters

module _ (program : Program) (known : Known) (text : List ℕ) where
  abbrev pub IsGivenTold : List ℕ → Given → Type 0
  IsGivenTold name (Valued scalar) = Unit {0}
  IsGivenTold name (Copied stored home) = IsToldHome program known text name home
  IsGivenTold name (Referring thing) = IsToldThing program known text name thing

  abbrev pub AreGiven : List FormalName → List Given → Type 0
  AreGiven [] givens = Unit {0}
  AreGiven (formal ∷ formals) [] = ⊥
  AreGiven (formal ∷ formals) (given ∷ givens) =
      IsGivenTold formal.name.text given × AreGiven formals givens

  given_taken : (line : ℕ) (formal : FormalName) (given : Given) (frame : Framed) (next : Next)
      (before : List FormalName) → IsGivenTold formal.name.text given →
      AreTaken program known text frame.names before →
      AreTaken program known text (given_frame line formal.name given frame next).frame.names
      (before ++ formal ∷ [])
  given_taken line formal (Valued scalar) frame next before told are =
      push_take program known text frame.names before formal
      (Scalar (length frame.numbers.scalars)) tt are
  given_taken line formal (Copied stored home) frame next before told are =
      push_take program known text frame.names before formal
      (ArrayAt (length frame.numbers.arrays) home) told are
  given_taken line formal (Referring thing) frame next before told are =
      push_take program known text frame.names before formal thing told are

  pub givens_taken : (line : ℕ) (formals : List FormalName) (givens : List Given) (frame : Framed)
      (next : Next) (before : List FormalName) → AreGiven formals givens →
      AreTaken program known text frame.names before →
      AreTaken program known text (given_frames line formals givens frame next).frame.names
      (before ++ formals)
  givens_taken line [] givens frame next before told are =
      subst (AreTaken program known text frame.names) (sym (append-nil before)) are
  givens_taken line (formal ∷ formals) [] frame next before told are = absurd told
  givens_taken line (formal ∷ formals) (given ∷ givens) frame next before told are =
      let one = given_frame line formal.name given frame next in
      subst (AreTaken program known text
      (given_frames line formals givens one.frame one.next).frame.names)
      (append_assoc before (formal ∷ []) formals)
      (givens_taken line formals givens one.frame one.next (before ++ formal ∷ []) told.1
      (given_taken line formal given frame next before told.0 are))

  -- ---- local variables

  abbrev pub HomesAt : Bracket → List Name → Type 0
  HomesAt NoBracket names = Unit {0}
  HomesAt (Bracketed inner) [] = Unit {0}
  HomesAt (Bracketed inner) (name ∷ names) =
      IsHomeAt program known name.at (home_box known inner) × HomesAt (Bracketed inner) names

  abbrev pub AllHomes : List VarDef → Type 0
  AllHomes [] = Unit {0}
  AllHomes (var ∷ vars) = HomesAt var.shape var.names × AllHomes vars

  abbrev shape_bindings : Bracket → List Name → List Binding
  shape_bindings NoBracket names = []
  shape_bindings (Bracketed inner) names =
      map (λ (name : Name). record { name = name.text; array = array_at [] name }) names

  bindings_are : (names : List Name) (shape : Bracket) (base : Base) (vars : List VarDef) →
      shape_bindings shape names ++ local_arrays [] vars ≡
      local_arrays [] (record { names = names; shape = shape; base = base } ∷ vars)
  bindings_are names NoBracket base vars = refl
  bindings_are names (Bracketed inner) base vars = refl

  -- names behind others, with the arrays and the entries of local variables
  pub record IsFrame (names first : Names) (bs : List Binding) (es : List Entry) : Type 0 where
    pub rest : Names
    pub split : names ≡ first ++ rest
    pub local : AreLocal program known text rest bs es

  frame_as : (names first : Names) (bs cs : List Binding) (es ds : List Entry) → bs ≡ cs →
      es ≡ ds → IsFrame names first bs es → IsFrame names first cs ds
  frame_as names first bs cs es ds same are is =
      subst (λ bs. IsFrame names first bs ds) same (subst (IsFrame names first bs) are is)

  split_more : (names first rest more : Names) → names ≡ first ++ rest →
      names ++ more ≡ first ++ (rest ++ more)
  split_more names first rest more split =
      ap (λ (ns : Names). ns ++ more) split ∙ append_assoc first rest more

  module _ (setup : Setup) (same : setup.known ≡ known) (entry : CallEntry) (scope : Scope)
      (first : Names) where
    names_framed : (names : List Name) (shape : Bracket) (base : Base) (frame : Framed)
        (next : Next) (bs : List Binding) (es : List Entry) → HomesAt shape names →
        IsFrame frame.names first bs es →
        IsFrame (name_frames setup entry shape names frame next).frame.names first
        (bs ++ shape_bindings shape names)
        (es ++ map (entry_for (variable_kind scope shape base)) names)
    names_framed [] NoBracket base frame next bs es homes is =
        frame_as frame.names first bs (bs ++ []) es (es ++ []) (sym (append-nil bs))
        (sym (append-nil es)) is
    names_framed [] (Bracketed inner) base frame next bs es homes is =
        frame_as frame.names first bs (bs ++ []) es (es ++ []) (sym (append-nil bs))
        (sym (append-nil es)) is
    names_framed (name ∷ names) NoBracket base frame next bs es homes is =
        let one = local_frame setup entry NoBracket name frame next in
        let here = entry_for (kind.Scalar base) name ∷ [] in
        let place = length frame.numbers.scalars in
        frame_as (name_frames setup entry NoBracket names one.frame one.next).frame.names first
        (bs ++ []) (bs ++ []) ((es ++ here) ++ map (entry_for (kind.Scalar base)) names)
        (es ++ (here ++ map (entry_for (kind.Scalar base)) names)) refl
        (append_assoc es here (map (entry_for (kind.Scalar base)) names))
        (names_framed names NoBracket base one.frame one.next bs (es ++ here) homes (record {
          rest = is.rest ++ (name.text, Scalar place) ∷ [];
          split = split_more frame.names first is.rest ((name.text, Scalar place) ∷ []) is.split;
          local = push_count program known text is.rest bs es name base place is.local;
        }))
    names_framed (name ∷ names) (Bracketed inner) base frame next bs es homes is =
        let one = local_frame setup entry (Bracketed inner) name frame next in
        let form = declared_shape scope inner in
        let array = kind.Array base form in
        let here = entry_for array name ∷ [] in
        let binding : List Binding =
        record { name = name.text; array = array_at [] name } ∷ [] in
        let place = length frame.numbers.arrays in
        let home = home_box setup.known inner in
        let told : IsHomeAt program known name.at home =
        subst (λ k. IsHomeAt program known name.at (home_box k inner)) (sym same) homes.0 in
        frame_as (name_frames setup entry (Bracketed inner) names one.frame one.next).frame.names
        first ((bs ++ binding) ++ shape_bindings (Bracketed inner) names)
        (bs ++ (binding ++ shape_bindings (Bracketed inner) names))
        ((es ++ here) ++ map (entry_for array) names) (es ++ (here ++ map (entry_for array) names))
        (append_assoc bs binding (shape_bindings (Bracketed inner) names))
        (append_assoc es here (map (entry_for array) names))
        (names_framed names (Bracketed inner) base one.frame one.next (bs ++ binding) (es ++ here)
        homes.1 (record {
          rest = is.rest ++ (name.text, ArrayAt place home) ∷ [];
          split = split_more frame.names first is.rest ((name.text, ArrayAt place home) ∷ [])
              is.split;
          local = push_store program known text is.rest bs es name base form place home told
              is.local;
        }))

    pub locals_framed : (vars : List VarDef) (frame : Framed) (next : Next) (bs : List Binding)
        (es : List Entry) → AllHomes vars → IsFrame frame.names first bs es →
        IsFrame (local_frames setup entry vars frame next).frame.names first
        (bs ++ local_arrays [] vars) (es ++ flat_map (var_entries scope) vars)
    locals_framed [] frame next bs es homes is =
        frame_as frame.names first bs (bs ++ []) es (es ++ []) (sym (append-nil bs))
        (sym (append-nil es)) is
    locals_framed (var ∷ vars) frame next bs es homes is =
        let one = name_frames setup entry var.shape var.names frame next in
        let binding = shape_bindings var.shape var.names in
        let here = var_entries scope var in
        frame_as (local_frames setup entry vars one.frame one.next).frame.names first
        ((bs ++ binding) ++ local_arrays [] vars) (bs ++ local_arrays [] (var ∷ vars))
        ((es ++ here) ++ flat_map (var_entries scope) vars)
        (es ++ (here ++ flat_map (var_entries scope) vars))
        (append_assoc bs binding (local_arrays [] vars)
        ∙ ap (λ cs. bs ++ cs) (bindings_are var.names var.shape var.base vars))
        (append_assoc es here (flat_map (var_entries scope) vars))
        (locals_framed vars one.frame one.next (bs ++ binding) (es ++ here) homes.1
        (names_framed var.names var.shape var.base frame next bs es homes.0 is))

  -- ---- names in reach

  some_thing : (one other : Thing) → Some one ≡ Some other → one ≡ other
  some_thing one other e = cc

  pub reached_home : (routine : Routine) → routine_named program text ≡ Some routine →
      repeated [] (map (λ entry. entry.name) (globals_of program)) ≡ [] → (scope : Scope) →
      routine.own ≡ flat_map (param_entries scope) routine.procedure.params
      ++ flat_map (var_entries scope) routine.procedure.locals →
      (names first globals : Names) →
      AreTaken program known text first (formal_names routine.procedure.params) →
      IsFrame names first (local_arrays [] routine.procedure.locals)
      (flat_map (var_entries scope) routine.procedure.locals) →
      ((name : List ℕ) (place : ℕ) (home : Region) →
      named_thing globals name ≡ Some (ArrayAt place home) →
      IsGlobalHome program known name home) →
      (name : List ℕ) (place : ℕ) (home : Region) →
      named_thing (names ++ globals) name ≡ Some (ArrayAt place home) →
      IsToldHome program known text name home
  reached_home routine named once scope own names first globals taken frame others name place home
      is =
      by (named_thing first name) (named_thing frame.rest name)
      (taken_found program known text first formals name taken)
      (local_found program known text frame.rest bindings entries name frame.local)
      (sym (ap (λ found. option_or found (named_thing globals name))
      (thing_or first frame.rest name))
      ∙ (sym (thing_or (first ++ frame.rest) globals name)
      ∙ (ap (λ (ns : Names). named_thing (ns ++ globals) name) (sym frame.split) ∙ is)))
    where
      formals : List FormalName
      formals = formal_names routine.procedure.params

      bindings : List Binding
      bindings = local_arrays [] routine.procedure.locals

      params : List Entry
      params = flat_map (param_entries scope) routine.procedure.params

      entries : List Entry
      entries = flat_map (var_entries scope) routine.procedure.locals

      own_kind : formal_named formals name ≡ None → kind_in routine.own name ≡ kind_in entries name
      own_kind none =
          ap (λ (all : List Entry). kind_in all name) own
          ∙ (found_in params entries name
          ∙ ap (λ found. option_or found (kind_in entries name))
          (params_none scope routine.procedure.params name none))

      local : (home : Region) → formal_named formals name ≡ None →
          IsLocal program known text home (bound_in bindings name) (kind_in entries name) →
          IsToldHome program known text name home
      local home none one =
          let array_kind : is_array_name program routine name ≡ true =
          array_or (kind_in routine.own name) (kind_in (globals_of program) name)
          (ap is_array (own_kind none) ∙ one.array_kind) in
          record {
            variable = one.array.storage;
            stands = stands_itself program text name routine one.array.storage named
                (local_declared program routine name one.array array_kind one.bound);
            is = one.is;
          }

      global : formal_named formals name ≡ None → bound_in bindings name ≡ None →
          kind_in entries name ≡ None → IsGlobalHome program known name home →
          IsToldHome program known text name home
      global none bound no_kind one =
          let kinds : kind_in (globals_of program) name ≡ Some one.entry.kind =
          subst (λ t. kind_in (globals_of program) t ≡ Some one.entry.kind) one.named
          (kind_in-distinct (globals_of program) one.entry once
          (Contains-from_among (globals_of program) one.entry one.there)) in
          let array_kind : is_array_name program routine name ≡ true =
          ap₂ (λ a b. is_array (option_or a b)) (own_kind none ∙ no_kind) kinds ∙ one.array_kind in
          record {
            variable = one.entry.name.at;
            stands = stands_itself program text name routine one.entry.name.at named
                (global_declared program routine name one.entry.name.at array_kind bound none
                (subst (λ t. option_map (λ array. array.storage)
                (global_array program t) ≡ Some one.entry.name.at) one.named
                (global_told program once one.entry one.there)));
            is = one.is;
          }

      by : (found later : Option Thing) → TakenAs program known text name found (formal_named formals name) →
          LocalAs program known text later (bound_in bindings name) (kind_in entries name) →
          option_or (option_or found later) (named_thing globals name) ≡ Some (ArrayAt place home) →
          IsToldHome program known text name home
      by (Some thing) later told here is =
          subst (IsToldThing program known text name) (some_thing thing (ArrayAt place home) is) told
      by None (Some thing) none here is =
          local home none
          (subst (λ thing. LocalAs program known text (Some thing) (bound_in bindings name)
          (kind_in entries name)) (some_thing thing (ArrayAt place home) is) here)
      by None None none here is = global none here.0 here.1 (others name place home is)
