-- A store has what names stand for, and the arrays of masks, at each statement that a run comes to.
use Rattle.std.proofs.Common.{◌≡◌, ℕ, zero, suc, ◌+◌, Bool, true, false, cond, ℤ, pos, List}
use Rattle.std.proofs.Common.{[], ◌∷◌, ◌++◌, length, Option, Some, None, option_map}
use Rattle.std.proofs.Common.{subst, arith, length-append}
use Rattle.std.specs.Prelude.{find}
use Rattle.std.specs.List.{AllByRecursion}
use Rattle.std.specs.Str.{bytes_eq}
use Rattle.std.proofs.lemmas.List.Elements.{All-from_recursion}
use Rattle.zpl_meaning.specs.of_zpl_arrays.Array.{Array}
use Rattle.zpl_region.specs.declared.regions.Region.{Region}
use Rattle.zpl_meaning.specs.of_zpl_tree.Syntax.{Name, Expr, Number, Truth, Coord, Named, Shifted, Around, Remap}
use Rattle.zpl_meaning.specs.of_zpl_tree.Syntax.{Call, Paren, Neg, Not, Abs, Pair, Reduce, Scan, Flood, Exprs}
use Rattle.zpl_meaning.specs.of_zpl_tree.Syntax.{NoExpr, ThenExpr, Bracket, NoBracket, Bracketed, Define, VarDef}
use Rattle.zpl_meaning.specs.of_zpl_tree.Syntax.{Decl, Config, Constant, Regions, Directions, Vars, Defined}
use Rattle.zpl_meaning.specs.of_zpl_tree.Syntax.{Mask as MaskText, Prefix}
use Rattle.zpl_meaning.specs.of_zpl_names.Kinds.{Rank, Formal, ScalarFormal, ArrayFormal}
use Rattle.zpl_meaning.specs.of_zpl_names.Ranks.{mask_rank}
use Rattle.zpl_meaning.specs.of_zpl_names.Shapes.{prefix_rank}
use Rattle.zpl_meaning.specs.of_zpl_names.Declared.{Routine}
use Rattle.zpl_meaning.specs.of_zpl_names.Expansion.{FormalName, formal_names}
use Rattle.zpl_meaning.specs.of_zpl_binding.Regions.{Known}
use Rattle.zpl_meaning.specs.of_zpl_binding.Storages.{Border}
use Rattle.zpl_meaning.specs.Computed.{Computed, Gives, Traps, computed_then}
use Rattle.zpl_meaning.specs.Store.{Thing, Scalar, ArrayAt, Fixed, Names, Environment, Store}
use Rattle.zpl_meaning.specs.Store.{thing_of}
use Rattle.zpl_meaning.specs.Context.{Mask, Over, Currents, with_over, Setup, Place}
use Rattle.zpl_meaning.specs.Regions.{region_in, mask_thing, mask_in, over_in, under_prefix}
use Rattle.zpl_meaning.specs.Variables.{Frame, with_thing, with_scalar_named, with_array_named}
use Rattle.zpl_meaning.specs.Variables.{with_name, with_names, with_variables, with_values}
use Rattle.zpl_meaning.specs.Variables.{with_declared, with_declarations}
use Rattle.zpl_meaning.specs.Calls.{Handed, Copied, CopiedArray, Referred, Called, actual_thing}
use Rattle.zpl_meaning.specs.Calls.{referred, copied_array, handed_on, with_handed, with_formals}
use Rattle.zpl_meaning.specs.Calls.{entered}
use Rattle.zpl_meaning.specs.Visited.{body_place}
use Rattle.meaning_runs.specs.Held.{HasThing, HasMask, HasMaskOf, HasMasks, HasPlaces}
use Rattle.meaning_runs.specs.Met.{ComesUnder, body_store}
use Rattle.meaning_runs.specs.Kept.{IsNoShorter}
use Rattle.meaning_runs.proofs.KeepLemmas.{same_store, and_then}

pub gives_same : {A : Type 0} (a b : A) → Gives a ≡ Gives b → a ≡ b
gives_same a b e = cc

pub trap_no_value : {A B : Type 0} (kind : _) (b : B) → Traps kind ≡ Gives b → A
trap_no_value kind b e = cc

-- ---- names

abbrev pub HasEach : Store → Names → Type 0
HasEach store names = AllByRecursion (λ entry. HasThing store entry.1) names

later_thing : (thing : Thing) (before after : Store) → IsNoShorter before after
    → HasThing before thing → HasThing after thing
later_thing (Scalar place) before after h has = omega (arith, h.scalars, has)
later_thing (ArrayAt place home) before after h has = omega (arith, h.arrays, has)
later_thing (Fixed value) before after h has = tt

pub later_names : (names : Names) (before after : Store) → IsNoShorter before after
    → HasEach before names → HasEach after names
later_names [] before after h has = tt
later_names (entry ∷ names) before after h has =
    (later_thing entry.1 before after h has.0, later_names names before after h has.1)

pub append_names : (store : Store) (xs ys : Names) → HasEach store xs → HasEach store ys
    → HasEach store (xs ++ ys)
append_names store [] ys h k = k
append_names store (x ∷ xs) ys h k = (h.0, append_names store xs ys h.1 k)

abbrev OptHas : Store → Option Thing → Type 0
OptHas store None = Unit {0}
OptHas store (Some thing) = HasThing store thing

found_has : (store : Store) (names : Names) (text : List ℕ) → HasEach store names
    → OptHas store (thing_of (record { names = names }) text)
found_has store [] text has = tt
found_has store (entry ∷ names) text has =
    by (bytes_eq entry.0 text) (found_has store names text has.1)
  where
    by : (b : Bool) → OptHas store (thing_of (record { names = names }) text)
        → OptHas store (option_map (λ (e : List ℕ × Thing). e.1)
        (cond b (Some entry) (find (λ (e : List ℕ × Thing). bytes_eq e.0 text) names)))
    by true later = has.0
    by false later = later

-- ---- masks

later_mask : (mask : Option Mask) (before after : Store) → IsNoShorter before after
    → HasMask before mask → HasMask after mask
later_mask None before after h has = tt
later_mask (Some mask) before after h has = omega (arith, h.arrays, has)

later_over : (over : Option Over) (before after : Store) → IsNoShorter before after
    → HasMaskOf before over → HasMaskOf after over
later_over None before after h has = tt
later_over (Some over) before after h has = later_mask over.mask before after h has

pub later_masks : (currents : Currents) (before after : Store) → IsNoShorter before after
    → HasMasks before currents → HasMasks after currents
later_masks currents before after h has = record {
  one = later_over currents.one before after h has.one;
  two = later_over currents.two before after h has.two;
  three = later_over currents.three before after h has.three;
}

thing_mask : (store : Store) (without : Bool) (thing : Option Thing) → OptHas store thing
    → HasMask store (mask_thing without thing)
thing_mask store without (Some (ArrayAt place home)) has = has
thing_mask store without (Some (Scalar place)) has = tt
thing_mask store without (Some (Fixed value)) has = tt
thing_mask store without None has = tt

read_mask : (store : Store) (environment : Environment) (mask : Option MaskText)
    → HasEach store environment.names → HasMask store (mask_in environment mask)
read_mask store environment None has = tt
read_mask store environment (Some mask) has =
    thing_mask store mask.without (thing_of environment mask.name.text)
    (found_has store environment.names mask.name.text has)

over_mask : (place : Place) (store : Store) (prefix : Prefix) (over : Over)
    → over_in place store prefix ≡ Gives over → HasEach store place.environment.names
    → HasMask store over.mask
over_mask place store prefix over e has =
    by (region_in place store (mask_rank place.scope prefix.mask) prefix.region) e
  where
    by : (computed : Computed Region)
        → computed_then computed (λ region.
        Gives (record { region = region; mask = mask_in place.environment prefix.mask }))
        ≡ Gives over
        → HasMask store over.mask
    by (Gives region) e =
        let from : Over =
        record { region = region; mask = mask_in place.environment prefix.mask } in
        subst (λ (o : Over). HasMask store o.mask) (gives_same from over e)
        (read_mask store place.environment prefix.mask has)
    by (Traps kind) e = trap_no_value kind over e

with_over_masks : (store : Store) (currents : Currents) (rank : Rank) (over : Over)
    → HasMasks store currents → HasMask store over.mask
    → HasMasks store (with_over currents rank over)
with_over_masks store currents None over has mask = has
with_over_masks store currents (Some zero) over has mask = has
with_over_masks store currents (Some (suc zero)) over has mask =
    record { one = mask; two = has.two; three = has.three }
with_over_masks store currents (Some (suc (suc zero))) over has mask =
    record { one = has.one; two = mask; three = has.three }
with_over_masks store currents (Some (suc (suc (suc zero)))) over has mask =
    record { one = has.one; two = has.two; three = mask }
with_over_masks store currents (Some (suc (suc (suc (suc rank))))) over has mask = has

-- ---- places

pub record Has (store : Store) (globals : Names) (place : Place) : Type 0 where
  pub names : HasEach store place.environment.names
  pub masks : HasMasks store place.currents
  pub globals_there : HasEach store globals

pub has_places : (store : Store) (globals : Names) (place : Place) → Has store globals place
    → HasPlaces store place
has_places store globals place has = record {
  names = All-from_recursion (λ (entry : List ℕ × Thing). HasThing store entry.1)
      place.environment.names has.names;
  masks = has.masks;
}

pub later_has : (before after : Store) (globals : Names) (place : Place)
    → IsNoShorter before after → Has before globals place → Has after globals place
later_has before after globals place h has = record {
  names = later_names place.environment.names before after h has.names;
  masks = later_masks place.currents before after h has.masks;
  globals_there = later_names globals before after h has.globals_there;
}

pub later_places : (before after : Store) (place : Place) → IsNoShorter before after
    → HasPlaces before place → HasPlaces after place
later_places before after place h has = record {
  names = λ k entry below. later_thing _ before after h (has.names k entry below);
  masks = later_masks place.currents before after h has.masks;
}

pub under_has : (store : Store) (globals : Names) (prefixes : List Prefix) (place inner : Place)
    → ComesUnder store prefixes place inner → Has store globals place → Has store globals inner
under_has store globals prefixes place inner (ComesUnder.Bare same) has = has
under_has store globals prefixes place inner
    (ComesUnder.Behind prefix rest outer last over is comes) has =
    under_has store globals rest (under_prefix outer prefix over) last comes (record {
      names = has.names;
      masks = with_over_masks store outer.currents
          (prefix_rank outer.scope outer.prefix prefix) over has.masks
          (over_mask outer store prefix over is has.names);
      globals_there = has.globals_there;
    })

-- ---- frames

-- a frame above a store: it has what its names stand for
pub record IsAbove (before : Store) (frame : Frame) : Type 0 where
  pub names : HasEach frame.store frame.names
  pub longer : IsNoShorter before frame.store

thing_above : (before : Store) (frame : Frame) (name : Name) (thing : Thing)
    → IsAbove before frame → HasThing frame.store thing
    → IsAbove before (with_thing frame name thing)
thing_above before frame name thing h has = record {
  names = append_names frame.store frame.names ((name.text, thing) ∷ []) h.names (has, tt);
  longer = h.longer;
}

scalar_above : (before : Store) (frame : Frame) (name : Name) (value : ℤ)
    → IsAbove before frame → IsAbove before (with_scalar_named frame name value)
scalar_above before frame name value h =
    let after = (with_scalar_named frame name value).store in
    let many : length (frame.store.scalars ++ value ∷ []) ≡ length frame.store.scalars + 1 =
    length-append frame.store.scalars (value ∷ []) in
    let longer : IsNoShorter frame.store after =
    record { scalars = omega (arith, many); arrays = omega arith } in record {
      names = append_names after frame.names
          ((name.text, Scalar (length frame.store.scalars)) ∷ [])
          (later_names frame.names frame.store after longer h.names) (omega (arith, many), tt);
      longer = and_then before frame.store after h.longer longer;
    }

array_above : (before : Store) (frame : Frame) (name : Name) (home : Region) (array : Array)
    → IsAbove before frame → IsAbove before (with_array_named frame name home array)
array_above before frame name home array h =
    let after = (with_array_named frame name home array).store in
    let many : length (frame.store.arrays ++ array ∷ []) ≡ length frame.store.arrays + 1 =
    length-append frame.store.arrays (array ∷ []) in
    let longer : IsNoShorter frame.store after =
    record { scalars = omega arith; arrays = omega (arith, many) } in record {
      names = append_names after frame.names
          ((name.text, ArrayAt (length frame.store.arrays) home) ∷ [])
          (later_names frame.names frame.store after longer h.names) (omega (arith, many), tt);
      longer = and_then before frame.store after h.longer longer;
    }

module _ (known : Known) (borders : List Border) (before : Store) where
  name_above : (shape : Bracket) (frame : Frame) (name : Name) → IsAbove before frame
      → IsAbove before (with_name known borders shape frame name)
  name_above NoBracket frame name h = scalar_above before frame name (pos 0) h
  name_above (Bracketed inner) frame name h = array_above before frame name _ _ h

  names_above : (shape : Bracket) (names : List Name) (frame : Frame) → IsAbove before frame
      → IsAbove before (with_names known borders shape frame names)
  names_above shape [] frame h = h
  names_above shape (name ∷ names) frame h =
      names_above shape names (with_name known borders shape frame name)
      (name_above shape frame name h)

  variables_above : (vars : List VarDef) (frame : Frame) → IsAbove before frame
      → IsAbove before (with_variables known borders frame vars)
  variables_above [] frame h = h
  variables_above (var ∷ vars) frame h =
      variables_above vars (with_names known borders var.shape frame var.names)
      (names_above var.shape var.names frame h)

  values_above : (defines : List Define) (frame : Frame) → IsAbove before frame
      → IsAbove before (with_values known frame defines)
  values_above [] frame h = h
  values_above (define ∷ defines) frame h =
      values_above defines (with_thing frame define.name (Fixed _))
      (thing_above before frame define.name (Fixed _) h tt)

  declared_above : (decl : Decl) (frame : Frame) → IsAbove before frame
      → IsAbove before (with_declared known borders frame decl)
  declared_above (Config configs) frame h = values_above configs frame h
  declared_above (Constant constants) frame h = values_above constants frame h
  declared_above (Vars vars) frame h = variables_above vars frame h
  declared_above (Regions regions) frame h = h
  declared_above (Directions directions) frame h = h
  declared_above (Defined procedure) frame h = h

  pub declarations_above : (decls : List Decl) (frame : Frame) → IsAbove before frame
      → IsAbove before (with_declarations known borders frame decls)
  declarations_above [] frame h = h
  declarations_above (decl ∷ decls) frame h =
      declarations_above decls (with_declared known borders frame decl)
      (declared_above decl frame h)

-- ---- what is handed on

abbrev pub HasHanded : Store → Handed → Type 0
HasHanded store (Copied value) = Unit {0}
HasHanded store (CopiedArray array home) = Unit {0}
HasHanded store (Referred thing) = HasThing store thing

abbrev pub HasAllHanded : Store → List Handed → Type 0
HasAllHanded store handed = AllByRecursion (HasHanded store) handed

later_handed : (handed : Handed) (before after : Store) → IsNoShorter before after
    → HasHanded before handed → HasHanded after handed
later_handed (Copied value) before after h has = tt
later_handed (CopiedArray array home) before after h has = tt
later_handed (Referred thing) before after h has = later_thing thing before after h has

pub later_all_handed : (handed : List Handed) (before after : Store) → IsNoShorter before after
    → HasAllHanded before handed → HasAllHanded after handed
later_all_handed [] before after h has = tt
later_all_handed (one ∷ rest) before after h has =
    (later_handed one before after h has.0, later_all_handed rest before after h has.1)

referred_has : (store : Store) (thing : Option Thing) → OptHas store thing
    → HasHanded store (referred thing)
referred_has store (Some thing) has = has
referred_has store None has = tt

copied_has : (store other : Store) (thing : Option Thing)
    → HasHanded store (copied_array other thing)
copied_has store other (Some (ArrayAt place home)) = tt
copied_has store other (Some (Scalar place)) = tt
copied_has store other (Some (Fixed value)) = tt
copied_has store other None = tt

actual_has : (store : Store) (environment : Environment) (actual : Expr)
    → HasEach store environment.names → OptHas store (actual_thing environment actual)
actual_has store environment (Named at name) has =
    found_has store environment.names name.text has
actual_has store environment (Number at value) has = tt
actual_has store environment (Truth at value) has = tt
actual_has store environment (Coord at k) has = tt
actual_has store environment (Shifted at name shift) has = tt
actual_has store environment (Around at name shift) has = tt
actual_has store environment (Remap at name indices) has = tt
actual_has store environment (Call at name actuals) has = tt
actual_has store environment (Paren at inside) has = tt
actual_has store environment (Neg at operand) has = tt
actual_has store environment (Not at operand) has = tt
actual_has store environment (Abs at operand) has = tt
actual_has store environment (Pair at op left right) has = tt
actual_has store environment (Reduce at operator over operand) has = tt
actual_has store environment (Scan at operator along operand) has = tt
actual_has store environment (Flood at source operand) has = tt

pub handed_has : (store : Store) (environment : Environment) (formals : List Formal)
    (actuals : Exprs) (values : List ℤ) → HasEach store environment.names
    → HasAllHanded store (handed_on environment store formals actuals values)
handed_has store environment [] actuals values has = tt
handed_has store environment (formal ∷ formals) NoExpr values has = tt
handed_has store environment (ScalarFormal false base ∷ formals) (ThenExpr actual rest) [] has = tt
handed_has store environment (ScalarFormal false base ∷ formals) (ThenExpr actual rest)
    (value ∷ values) has = (tt, handed_has store environment formals rest values has)
handed_has store environment (ScalarFormal true base ∷ formals) (ThenExpr actual rest) values
    has = (
      referred_has store _ (actual_has store environment actual has),
      handed_has store environment formals rest values has,
    )
handed_has store environment (ArrayFormal true base shape ∷ formals) (ThenExpr actual rest) values
    has = (
      referred_has store _ (actual_has store environment actual has),
      handed_has store environment formals rest values has,
    )
handed_has store environment (ArrayFormal false base shape ∷ formals) (ThenExpr actual rest) values
    has = (
      copied_has store store (actual_thing environment actual),
      handed_has store environment formals rest values has,
    )

handed_above : (before : Store) (frame : Frame) (name : Name) (handed : Handed)
    → HasHanded before handed → IsAbove before frame
    → IsAbove before (with_handed frame name handed)
handed_above before frame name (Copied value) has h = scalar_above before frame name value h
handed_above before frame name (CopiedArray array home) has h =
    array_above before frame name home array h
handed_above before frame name (Referred thing) has h =
    thing_above before frame name thing h (later_thing thing before frame.store h.longer has)

formals_above : (before : Store) (formals : List FormalName) (handed : List Handed)
    (frame : Frame) → HasAllHanded before handed → IsAbove before frame
    → IsAbove before (with_formals frame formals handed)
formals_above before [] handed frame has h = h
formals_above before (formal ∷ formals) [] frame has h = h
formals_above before (formal ∷ formals) (one ∷ rest) frame has h =
    formals_above before formals rest (with_handed frame formal.name one) has.1
    (handed_above before frame formal.name one has.0 h)

-- ---- a procedure's body

pub entered_above : (setup : Setup) (routine : Routine) (handed : List Handed) (before : Store)
    → HasAllHanded before handed → IsAbove before (entered setup routine handed before)
entered_above setup routine handed before has =
    let empty : Frame = record { names = []; store = before } in
    variables_above setup.known setup.borders before routine.procedure.locals _
    (formals_above before (formal_names routine.procedure.params) handed empty has
    (record { names = tt; longer = same_store before }))

pub body_has : (setup : Setup) (routine : Routine) (called : Called) (before : Store)
    → HasAllHanded before called.actuals → HasMasks before called.currents
    → HasEach before setup.globals
    → Has (body_store setup routine called before) setup.globals
    (body_place setup routine called before)
body_has setup routine called before handed masks globals =
    let above = entered_above setup routine called.actuals before handed in
    let after = body_store setup routine called before in
    let there = later_names setup.globals before after above.longer globals in record {
      names = append_names after (entered setup routine called.actuals before).names setup.globals
          above.names there;
      masks = later_masks called.currents before after above.longer masks;
      globals_there = there;
    }
