-- Global names stand for the arrays of the expanded program.
use Rattle.std.proofs.Common.{◌≡◌, ℕ, zero, suc, ◌+◌, Bool, true, false, ◌||◌, cond, ℤ, pos, List, [], ◌∷◌, ◌++◌, map, length, Option, Some, None, option_map, refl, sym, ap, ◌∙◌, subst, arith, Decides, append-nil, append_assoc, length-append}
use Rattle.std.proofs.lemmas.List.{map-append}
use Rattle.std.proofs.lemmas.List.Elements.{filter_map-append}
use Rattle.std.specs.List.{cons_option}
use Rattle.std.specs.Prelude.{filter_map, find, slice_get}
use Rattle.std.specs.Str.{bytes_eq}
use Rattle.std.proofs.lemmas.Slice.Eq.{bytes_eq-Decides}
use Rattle.zpl_region.specs.declared.regions.Region.{Region}
use Rattle.zpl_arrays.specs.Array.{Array}
use Rattle.zpl_tree.specs.Syntax.{Name, Bracket, NoBracket, Bracketed, Base, Define, VarDef, Decl, Config, Constant, Regions, Directions, Vars, Defined, Program}
use Rattle.zpl_names.specs.Kinds as kind
use Rattle.zpl_names.specs.Kinds.{Kind, Shape}
use Rattle.zpl_names.specs.Scope.{Entry, Scope, kind_in}
use Rattle.zpl_names.specs.Faults.{repeated}
use Rattle.zpl_names.specs.Shapes.{variable_kind}
use Rattle.zpl_names.specs.Declared.{declaring, entry_for, globals_of, region_entry, direction_entry, procedure_entry, with_each, with_decl, with_define, with_region, with_direction, with_variables as with_vars}
use Rattle.zpl_names.specs.Expansion.{Binding, ExpandedArray, array_at, array_of_entry, global_array}
use Rattle.zpl_meaning.specs.Context.{Setup}
use Rattle.zpl_meaning.specs.Store.{Thing, Scalar, ArrayAt, Fixed, Names}
use Rattle.zpl_meaning.specs.Variables.{Frame, home_box, storage_box, zero_array, with_thing, with_scalar_named, with_array_named, with_name, with_names, with_variables, with_values, with_declarations, empty_frame}
use Rattle.lowering_fits.specs.of_zpl_lowering.Where.{Stored}
use Rattle.lowering_fits.specs.of_zpl_lowering.Program.{arrays_from, global_numbers}
use Rattle.lowering_fits.specs.Reach.{named_thing}
use Rattle.array_numbers.specs.Numbering.{Numbering, IsNumber, IsLater, IsFixedKind, IsGlobal, GlobalScalar, GlobalArray, GlobalOther, SoundOver, SoundVars, SoundDecls}
use Rattle.array_numbers.proofs.FoundLemmas.{binding_for, number_stays, has_name, once_first}
use Rattle.array_numbers.proofs.WalkLemmas.{AreInOrder, extended, extended_below, extended_at, ordered_more}

-- ---- numbers of global arrays

arrays_front : (k : ℕ) (xs ys : List Array) (place : ℕ) (stored : Stored) →
    slice_get (arrays_from k xs) place ≡ Some stored →
    slice_get (arrays_from k (xs ++ ys)) place ≡ Some stored
arrays_front k [] ys place stored is = let no : ⊥ = cc in absurd no
arrays_front k (x ∷ xs) ys zero stored is = is
arrays_front k (x ∷ xs) ys (suc place) stored is = arrays_front (suc k) xs ys place stored is

arrays_end : (k : ℕ) (xs : List Array) (array : Array) →
    slice_get (arrays_from k (xs ++ array ∷ [])) (length xs) ≡
    Some (record { array = k + length xs; storage = array.storage })
arrays_end k [] array = ap (λ n. Some (record { array = n; storage = array.storage })) (omega arith)
arrays_end k (x ∷ xs) array =
    arrays_end (suc k) xs array
    ∙ ap (λ n. Some (record { array = n; storage = array.storage })) (omega arith)

-- ---- which names are arrays

abbrev kept : Entry → Kind → Option Entry
kept entry (kind.Array base shape) = Some entry
kept entry kind = None

abbrev pub array_entry : Entry → Option Entry
array_entry entry = kept entry entry.kind

abbrev pub bound_entry : Entry → Binding
bound_entry entry = binding_for entry.name.text (array_of_entry entry)

-- those of names that are arrays, in order
abbrev pub bindings_of : List Entry → List Binding
bindings_of entries = map bound_entry (filter_map array_entry entries)

bindings_both : (xs ys : List Entry) → bindings_of (xs ++ ys) ≡ bindings_of xs ++ bindings_of ys
bindings_both xs ys =
    ap (map bound_entry) (filter_map-append array_entry xs ys)
    ∙ map-append bound_entry (filter_map array_entry xs) (filter_map array_entry ys)

none_bound : (one : Entry) → IsFixedKind (Some one.kind) → bindings_of (one ∷ []) ≡ []
none_bound one fixed = by one.kind fixed
  where
    by : (k : Kind) → IsFixedKind (Some k) → map bound_entry (cons_option (kept one k) []) ≡ []
    by (kind.Config base) is = refl
    by (kind.Constant base) is = refl
    by (kind.Region shape) is = refl
    by (kind.Direction rank) is = refl
    by (kind.Scalar base) is = absurd is
    by (kind.Array base shape) is = absurd is
    by (kind.Procedure signature) is = refl

bindings_same : (xs : List Entry) (one : Entry) → bindings_of (one ∷ []) ≡ [] →
    bindings_of xs ≡ bindings_of (xs ++ one ∷ [])
bindings_same xs one none =
    sym (bindings_both xs (one ∷ []) ∙ ap (λ more. bindings_of xs ++ more) none
    ∙ append-nil (bindings_of xs))

module _ (Sound : ℕ → Region → Region → Type 0) where
  -- ---- names, with their entries; others have an entry alone

  data AreMade (numbering : Numbering) : List Entry → Names → Type 0 where
    NoneMade : AreMade numbering [] []
    Alone : {entries : List Entry} {names : Names} (one : Entry) → IsFixedKind (Some one.kind) →
        AreMade numbering entries names → AreMade numbering (one ∷ entries) names
    AFixed : {entries : List Entry} {names : Names} (one : Entry) (value : ℤ) →
        IsFixedKind (Some one.kind) → AreMade numbering entries names →
        AreMade numbering (one ∷ entries) ((one.name.text, Fixed value) ∷ names)
    AScalar : {entries : List Entry} {names : Names} (name : Name) (base : Base) (place : ℕ) →
        AreMade numbering entries names →
        AreMade numbering (entry_for (kind.Scalar base) name ∷ entries)
        ((name.text, Scalar place) ∷ names)
    AnArray : {entries : List Entry} {names : Names} (name : Name) (base : Base)
        (shape : Option Shape) (place : ℕ) (home : Region) →
        IsNumber Sound numbering place home (array_at [] name) → AreMade numbering entries names →
        AreMade numbering (entry_for (kind.Array base shape) name ∷ entries)
        ((name.text, ArrayAt place home) ∷ names)

  made_stays : (few more : Numbering) → IsLater few more → (xs : List Entry) (ns : Names) →
      AreMade few xs ns → AreMade more xs ns
  made_stays few more later xs ns NoneMade = NoneMade
  made_stays few more later xs ns (Alone {entries} {names} one fixed are) =
      Alone one fixed (made_stays few more later entries names are)
  made_stays few more later xs ns (AFixed {entries} {names} one value fixed are) =
      AFixed one value fixed (made_stays few more later entries names are)
  made_stays few more later xs ns (AScalar {entries} {names} name base place are) =
      AScalar name base place (made_stays few more later entries names are)
  made_stays few more later xs ns (AnArray {entries} {names} name base shape place home is are) =
      AnArray name base shape place home (number_stays Sound few more later place home (array_at [] name) is)
      (made_stays few more later entries names are)

  made_both : (numbering : Numbering) (xs ys : List Entry) (ns ms : Names) →
      AreMade numbering xs ns → AreMade numbering ys ms → AreMade numbering (xs ++ ys) (ns ++ ms)
  made_both numbering xs ys ns ms NoneMade rest = rest
  made_both numbering xs ys ns ms (Alone {entries} {names} one fixed are) rest =
      Alone one fixed (made_both numbering entries ys names ms are rest)
  made_both numbering xs ys ns ms (AFixed {entries} {names} one value fixed are) rest =
      AFixed one value fixed (made_both numbering entries ys names ms are rest)
  made_both numbering xs ys ns ms (AScalar {entries} {names} name base place are) rest =
      AScalar name base place (made_both numbering entries ys names ms are rest)
  made_both numbering xs ys ns ms (AnArray {entries} {names} name base shape place home is are) rest =
      AnArray name base shape place home is (made_both numbering entries ys names ms are rest)

  -- ---- what is found

  -- a name that was there isn't found behind it
  not_again : (before : List Name) (xs : List Entry) (text : List ℕ) → has_name before text ≡ true →
      repeated before (map (λ entry. entry.name) xs) ≡ [] → kind_in xs text ≡ None
  not_again before [] text there once = refl
  not_again before (x ∷ xs) text there once =
      let parts = once_first before x.name (map (λ entry. entry.name) xs) once in
      by (bytes_eq x.name.text text) (bytes_eq-Decides x.name.text text) parts.0
      (not_again (x.name ∷ before) xs text (more (bytes_eq x.name.text text)) parts.1)
    where
      more : (b : Bool) → (b || has_name before text) ≡ true
      more true = refl
      more false = there

      by : (b : Bool) → Decides b (x.name.text ≡ text) → has_name before x.name.text ≡ false →
          kind_in xs text ≡ None →
          option_map (λ entry. entry.kind)
          (cond b (Some x) (find (λ entry. bytes_eq entry.name.text text) xs)) ≡ None
      by true same new later =
          let no : has_name before text ≡ false =
          subst (λ t. has_name before t ≡ false) (same.0 refl) new in
          let wrong : true ≡ false = sym there ∙ no in cc
      by false same new later = later

  none_of : (entries : List Entry) (names : Names) (name : Name) (one : Kind) (thing : Thing)
      (text : List ℕ) → kind_in (entry_for one name ∷ entries) text ≡ None →
      (kind_in entries text ≡ None → named_thing names text ≡ None) →
      named_thing ((name.text, thing) ∷ names) text ≡ None
  none_of entries names name one thing text e later = by (bytes_eq name.text text) e
    where
      by : (b : Bool) → option_map (λ entry. entry.kind)
          (cond b (Some (entry_for one name))
          (find (λ entry. bytes_eq entry.name.text text) entries)) ≡ None →
          option_map (λ entry. entry.1)
          (cond b (Some (name.text, thing)) (find (λ entry. bytes_eq entry.0 text) names)) ≡ None
      by true e = cc
      by false e = later e

  none_made : (numbering : Numbering) (xs : List Entry) (ns : Names) (text : List ℕ) →
      AreMade numbering xs ns → kind_in xs text ≡ None → named_thing ns text ≡ None
  none_made numbering xs ns text NoneMade e = refl
  none_made numbering xs ns text (Alone {entries} {names} one fixed are) e =
      by (bytes_eq one.name.text text) e (none_made numbering entries names text are)
    where
      by : (b : Bool) → option_map (λ entry. entry.kind)
          (cond b (Some one) (find (λ entry. bytes_eq entry.name.text text) entries)) ≡ None →
          (kind_in entries text ≡ None → named_thing names text ≡ None) →
          named_thing names text ≡ None
      by true e later = cc
      by false e later = later e
  none_made numbering xs ns text (AFixed {entries} {names} one value fixed are) e =
      none_of entries names one.name one.kind (Fixed value) text e
      (none_made numbering entries names text are)
  none_made numbering xs ns text (AScalar {entries} {names} name base place are) e =
      none_of entries names name (kind.Scalar base) (Scalar place) text e
      (none_made numbering entries names text are)
  none_made numbering xs ns text (AnArray {entries} {names} name base shape place home is are) e =
      none_of entries names name (kind.Array base shape) (ArrayAt place home) text e
      (none_made numbering entries names text are)

  abbrev array_found : List Entry → List ℕ → Option ExpandedArray
  array_found xs text =
      option_map array_of_entry (find (λ entry. bytes_eq entry.name.text text) xs)

  -- with one entry more in front, whose name has a thing
  one_found : (numbering : Numbering) (entries : List Entry) (names : Names) (name : Name)
      (one : Kind) (thing : Thing) (text : List ℕ) →
      IsGlobal Sound numbering (Some one) (Some thing) (Some (array_at [] name)) →
      IsGlobal Sound numbering (kind_in entries text) (named_thing names text) (array_found entries text) →
      IsGlobal Sound numbering (kind_in (entry_for one name ∷ entries) text)
      (named_thing ((name.text, thing) ∷ names) text)
      (array_found (entry_for one name ∷ entries) text)
  one_found numbering entries names name one thing text here later = by (bytes_eq name.text text)
    where
      by : (b : Bool) → IsGlobal Sound numbering
          (option_map (λ entry. entry.kind) (cond b (Some (entry_for one name))
          (find (λ entry. bytes_eq entry.name.text text) entries)))
          (option_map (λ entry. entry.1)
          (cond b (Some (name.text, thing)) (find (λ entry. bytes_eq entry.0 text) names)))
          (option_map array_of_entry (cond b (Some (entry_for one name))
          (find (λ entry. bytes_eq entry.name.text text) entries)))
      by true = here
      by false = later

  made_found : (numbering : Numbering) (before : List Name) (xs : List Entry) (ns : Names)
      (text : List ℕ) → repeated before (map (λ entry. entry.name) xs) ≡ [] →
      AreMade numbering xs ns →
      IsGlobal Sound numbering (kind_in xs text) (named_thing ns text) (array_found xs text)
  made_found numbering before xs ns text once NoneMade = GlobalOther None None None tt tt
  made_found numbering before xs ns text once (Alone {entries} {names} one fixed are) =
      let parts = once_first before one.name (map (λ entry. entry.name) entries) once in
      by (bytes_eq one.name.text text) refl
      (made_found numbering (one.name ∷ before) entries names text parts.1 are) parts.1
    where
      by : (b : Bool) → bytes_eq one.name.text text ≡ b →
          IsGlobal Sound numbering (kind_in entries text) (named_thing names text)
          (array_found entries text) →
          repeated (one.name ∷ before) (map (λ entry. entry.name) entries) ≡ [] →
          IsGlobal Sound numbering (option_map (λ entry. entry.kind)
          (cond b (Some one) (find (λ entry. bytes_eq entry.name.text text) entries)))
          (named_thing names text)
          (option_map array_of_entry
          (cond b (Some one) (find (λ entry. bytes_eq entry.name.text text) entries)))
      by true same later once =
          subst (λ thing. IsGlobal Sound numbering (Some one.kind) thing (Some (array_of_entry one)))
          (sym (none_made numbering entries names text are
          (not_again (one.name ∷ before) entries text
          (ap (λ b. b || has_name before text) same) once)))
          (GlobalOther (Some one.kind) None (Some (array_of_entry one)) fixed tt)
      by false same later once = later
  made_found numbering before xs ns text once (AFixed {entries} {names} one value fixed are) =
      one_found numbering entries names one.name one.kind (Fixed value) text
      (GlobalOther (Some one.kind) (Some (Fixed value)) (Some (array_at [] one.name)) fixed tt)
      (made_found numbering (one.name ∷ before) entries names text
      (once_first before one.name (map (λ entry. entry.name) entries) once).1 are)
  made_found numbering before xs ns text once (AScalar {entries} {names} name base place are) =
      one_found numbering entries names name (kind.Scalar base) (Scalar place) text
      (GlobalScalar base place (Some (array_at [] name)))
      (made_found numbering (name ∷ before) entries names text
      (once_first before name (map (λ entry. entry.name) entries) once).1 are)
  made_found numbering before xs ns text once
      (AnArray {entries} {names} name base shape place home is are) =
      one_found numbering entries names name (kind.Array base shape) (ArrayAt place home) text
      (GlobalArray base shape place home (array_at [] name) is)
      (made_found numbering (name ∷ before) entries names text
      (once_first before name (map (λ entry. entry.name) entries) once).1 are)

  -- ---- declarations

  abbrev numbering_with : (ℕ → ExpandedArray) → Frame → Numbering
  numbering_with of frame = record {
    arrays = (global_numbers frame).arrays;
    of = of;
    bound = length frame.store.arrays;
  }

  record IsMade (xs : List Entry) (frame : Frame) : Type 0 where
    of : ℕ → ExpandedArray
    are : AreMade (numbering_with of frame) xs frame.names
    ordered : AreInOrder 0 of (bindings_of xs) (length frame.store.arrays)

  alone_made : (xs : List Entry) (one : Entry) (frame : Frame) → IsFixedKind (Some one.kind) →
      IsMade xs frame → IsMade (xs ++ one ∷ []) frame
  alone_made xs one frame fixed made = record {
    of = made.of;
    are = subst (AreMade (numbering_with made.of frame) (xs ++ one ∷ [])) (append-nil frame.names)
        (made_both (numbering_with made.of frame) xs (one ∷ []) frame.names [] made.are
        (Alone one fixed NoneMade));
    ordered = subst (λ own. AreInOrder 0 made.of own (length frame.store.arrays))
        (bindings_same xs one (none_bound one fixed)) made.ordered;
  }

  fixed_made : (xs : List Entry) (one : Entry) (value : ℤ) (frame : Frame) →
      IsFixedKind (Some one.kind) → IsMade xs frame →
      IsMade (xs ++ one ∷ []) (with_thing frame one.name (Fixed value))
  fixed_made xs one value frame fixed made = record {
    of = made.of;
    are = made_both (numbering_with made.of frame) xs (one ∷ []) frame.names _ made.are
        (AFixed one value fixed NoneMade);
    ordered = subst (λ own. AreInOrder 0 made.of own (length frame.store.arrays))
        (bindings_same xs one (none_bound one fixed)) made.ordered;
  }

  scalar_made : (xs : List Entry) (name : Name) (base : Base) (value : ℤ) (frame : Frame) →
      IsMade xs frame →
      IsMade (xs ++ entry_for (kind.Scalar base) name ∷ []) (with_scalar_named frame name value)
  scalar_made xs name base value frame made = record {
    of = made.of;
    are = made_both (numbering_with made.of frame) xs (entry_for (kind.Scalar base) name ∷ [])
        frame.names _ made.are (AScalar name base (length frame.store.scalars) NoneMade);
    ordered = subst (λ own. AreInOrder 0 made.of own (length frame.store.arrays))
        (bindings_same xs (entry_for (kind.Scalar base) name) refl) made.ordered;
  }

  array_made : (xs : List Entry) (name : Name) (base : Base) (shape : Option Shape) (home : Region)
      (array : Array) (frame : Frame) → Sound name.at home array.storage → IsMade xs frame →
      IsMade (xs ++ entry_for (kind.Array base shape) name ∷ [])
      (with_array_named frame name home array)
  array_made xs name base shape home array frame sound made =
      let inner = with_array_named frame name home array in
      let bound = length frame.store.arrays in
      let of = extended made.of bound (array_at [] name) in
      let longer = length-append frame.store.arrays (array ∷ []) in
      let few = numbering_with made.of frame in
      let more = numbering_with of inner in
      let later : IsLater few more = record {
        arrays = λ place stored is. arrays_front 0 frame.store.arrays (array ∷ []) place stored is;
        of = λ number below. extended_below made.of bound (array_at [] name) number below;
        bound = omega (arith, longer);
      } in
      record {
        of = of;
        are = made_both more xs (entry_for (kind.Array base shape) name ∷ []) frame.names _
            (made_stays few more later xs frame.names made.are)
            (AnArray name base shape bound home
            (record {
              stored = record { array = bound; storage = array.storage };
              there = arrays_end 0 frame.store.arrays array
                  ∙ ap (λ n. Some (record { array = n; storage = array.storage })) (omega arith);
              below = omega (arith, longer);
              stands = extended_at made.of bound (array_at [] name);
              sound = sound;
            }) NoneMade);
        ordered = subst (λ own. AreInOrder 0 of own (length inner.store.arrays))
            (sym (bindings_both xs (entry_for (kind.Array base shape) name ∷ [])))
            (subst (AreInOrder 0 of (bindings_of xs ++ binding_for name.text (array_at [] name) ∷ []))
            (sym longer)
            (ordered_more 0 made.of (bindings_of xs) bound
            (binding_for name.text (array_at [] name)) made.ordered));
      }

  module _ (setup : Setup) where
    names_made : (names : List Name) (shape : Bracket) (base : Base) (scope : Scope)
        (frame : Frame) (xs : List Entry) → SoundOver Sound setup.known setup.borders shape names →
        IsMade xs frame →
        IsMade (xs ++ map (entry_for (variable_kind scope shape base)) names)
        (with_names setup.known setup.borders shape frame names)
    names_made [] shape base scope frame xs sound made =
        subst (λ ys. IsMade ys frame) (sym (append-nil xs)) made
    names_made (name ∷ names) NoBracket base scope frame xs sound made =
        let one = entry_for (kind.Scalar base) name ∷ [] in
        let inner = with_name setup.known setup.borders NoBracket frame name in
        subst (λ ys. IsMade ys (with_names setup.known setup.borders NoBracket inner names))
        (append_assoc xs one (map (entry_for (kind.Scalar base)) names))
        (names_made names NoBracket base scope inner (xs ++ one) tt
        (scalar_made xs name base (pos 0) frame made))
    names_made (name ∷ names) (Bracketed region) base scope frame xs sound made =
        let one = entry_for (variable_kind scope (Bracketed region) base) name ∷ [] in
        let inner = with_name setup.known setup.borders (Bracketed region) frame name in
        subst
        (λ ys. IsMade ys (with_names setup.known setup.borders (Bracketed region) inner names))
        (append_assoc xs one (map (entry_for (variable_kind scope (Bracketed region) base)) names))
        (names_made names (Bracketed region) base scope inner (xs ++ one) sound.1
        (array_made xs name base _ (home_box setup.known region)
        (zero_array (storage_box setup.known setup.borders region)) frame sound.0 made))

    vars_made : (vars : List VarDef) (frame : Frame) (xs : List Entry) →
        SoundVars Sound setup.known setup.borders vars → IsMade xs frame →
        IsMade (with_each with_vars xs vars) (with_variables setup.known setup.borders frame vars)
    vars_made [] frame xs sound made = made
    vars_made (var ∷ vars) frame xs sound made =
        vars_made vars (with_names setup.known setup.borders var.shape frame var.names)
        (with_vars xs var) sound.1
        (names_made var.names var.shape var.base (declaring [] xs) frame xs sound.0 made)

    values_made : (of_base : Base → Kind) → ((base : Base) → IsFixedKind (Some (of_base base))) →
        (defines : List Define) (frame : Frame) (xs : List Entry) → IsMade xs frame →
        IsMade (with_each (with_define of_base) xs defines) (with_values setup.known frame defines)
    values_made of_base is [] frame xs made = made
    values_made of_base is (define ∷ defines) frame xs made =
        values_made of_base is defines _ (with_define of_base xs define)
        (fixed_made xs (entry_for (of_base define.base) define.name) _ frame (is define.base) made)

    skipped : {A : Type 0} (adds : List Entry → A → List Entry) (frame : Frame) →
        ((earlier : List Entry) (a : A) → IsMade earlier frame → IsMade (adds earlier a) frame) →
        (list : List A) (xs : List Entry) → IsMade xs frame → IsMade (with_each adds xs list) frame
    skipped adds frame skips [] xs made = made
    skipped adds frame skips (a ∷ rest) xs made =
        skipped adds frame skips rest (adds xs a) (skips xs a made)

    decls_made : (decls : List Decl) (frame : Frame) (xs : List Entry) →
        SoundDecls Sound setup.known setup.borders decls → IsMade xs frame →
        IsMade (with_each with_decl xs decls)
        (with_declarations setup.known setup.borders frame decls)
    decls_made [] frame xs sound made = made
    decls_made (Config defines ∷ decls) frame xs sound made =
        decls_made decls (with_values setup.known frame defines) (with_decl xs (Config defines)) sound
        (values_made kind.Config (λ base. tt) defines frame xs made)
    decls_made (Constant defines ∷ decls) frame xs sound made =
        decls_made decls (with_values setup.known frame defines) (with_decl xs (Constant defines))
        sound (values_made kind.Constant (λ base. tt) defines frame xs made)
    decls_made (Regions regions ∷ decls) frame xs sound made =
        decls_made decls frame (with_decl xs (Regions regions)) sound
        (skipped with_region frame
        (λ earlier region made. alone_made earlier (region_entry earlier region) frame tt made)
        regions xs made)
    decls_made (Directions directions ∷ decls) frame xs sound made =
        decls_made decls frame (with_decl xs (Directions directions)) sound
        (skipped with_direction frame
        (λ earlier direction made.
        alone_made earlier (direction_entry direction) frame tt made) directions xs made)
    decls_made (Vars vars ∷ decls) frame xs sound made =
        decls_made decls (with_variables setup.known setup.borders frame vars)
        (with_decl xs (Vars vars)) sound.1 (vars_made vars frame xs sound.0 made)
    decls_made (Defined procedure ∷ decls) frame xs sound made =
        decls_made decls frame (with_decl xs (Defined procedure)) sound
        (alone_made xs (procedure_entry xs procedure) frame tt made)

  pub globals_stand : (program : Program) →
      repeated [] (map (λ entry. entry.name) (globals_of program)) ≡ [] → (setup : Setup) →
      SoundDecls Sound setup.known setup.borders program.decls →
      (let frame = with_declarations setup.known setup.borders empty_frame program.decls in
      (of : ℕ → ExpandedArray) × ((text : List ℕ) → IsGlobal Sound
      (record {
        arrays = (global_numbers frame).arrays;
        of = of;
        bound = length frame.store.arrays;
      }) (kind_in (globals_of program) text) (named_thing frame.names text)
      (global_array program text))
      × AreInOrder 0 of (bindings_of (globals_of program)) (length frame.store.arrays))
  globals_stand program once setup sound =
      let frame = with_declarations setup.known setup.borders empty_frame program.decls in
      let made = decls_made setup program.decls empty_frame [] sound
      (record {
        of = λ number. array_at [] program.name;
        are = NoneMade;
        ordered = record {
          many = omega arith;
          placed = λ i one is. let no : ⊥ = cc in absurd no;
        };
      }) in (
        made.of,
        λ text. made_found (numbering_with made.of frame) [] (globals_of program) frame.names text
            once made.are,
        made.ordered,
      )
