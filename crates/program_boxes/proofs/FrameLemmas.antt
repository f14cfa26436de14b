-- What the code of a procedure that is called has before its body: copies of its parameters, and
-- its
-- local arrays, which are those of the expanded call, in order.
use Rattle.std.proofs.Common.{◌≡◌, ℕ, ◌+◌, Bool, true, false, not, cond, List, [], ◌∷◌, ◌++◌, map, length, Option, Some, None, refl, sym, ap, ap₂, ◌∙◌, subst, arith, append_assoc, length-append}
use Rattle.std.proofs.lemmas.List.{map-append}
use Rattle.zpl_region.specs.declared.regions.Region.{Region}
use Rattle.zpl_tree.specs.Syntax.{Name, Exprs, NoExpr, ThenExpr, Bracket, NoBracket, Bracketed, VarDef, Program}
use Rattle.zpl_names.specs.Declared.{Routine}
use Rattle.zpl_names.specs.Expansion.{Binding, ExpandedArray, FormalName, Instance, actual_array, actual_arrays, copy_of, formal_names, local_arrays}
use Rattle.zpl_binding.specs.Regions.{Known}
use Rattle.zpl_meaning.specs.Context.{Setup}
use Rattle.zpl_meaning.specs.Variables.{home_box, storage_box}
use Rattle.zpl_lowering.specs.Where.{Next}
use Rattle.zpl_lowering.specs.Lowered.{Lowered, behind, rows_alone}
use Rattle.zpl_lowering.specs.Statement.{Calling, Given, Valued, Copied, Referring, lowered}
use Rattle.zpl_lowering.specs.Program.{Entry, Framed, body_code, clear_row, givens_code, locals_code, made_copy, names_code, where_in, with_array, with_scalar, zero_row}
use Rattle.lowered_flat.specs.of_lowering_fits.Whole.{body_frames, given_frames, local_frames, name_frames}
use Rattle.stored_boxes.specs.of_array_numbers.Numbering.{Numbering, SoundVars, SoundOver}
use Rattle.stored_boxes.proofs.of_array_numbers.WalkLemmas.{AreGiven, ByArray, ByCopy, ByName, ByValue, IsGiven, Parameter, formal_of}
use Rattle.stored_boxes.specs.Declared.{IsDeclared, declared_storage}
use Rattle.program_boxes.specs.Own.{storages_of}

-- code has these storages before what other code has
pub record IsBefore (storages : List Region) (inner outer : Lowered) : Type 0 where
  pub copies : outer.copies ≡ inner.copies
  pub arrays : outer.arrays ≡ storages ++ inner.arrays
  pub later : outer.later ≡ inner.later
  pub shifts : outer.shifts ≡ inner.shifts

-- numbers that are free behind so many arrays
pub record IsBehind (many : ℕ) (next last : Next) : Type 0 where
  pub copies : last.copies ≡ next.copies
  pub later : last.later ≡ next.later
  pub arrays : last.arrays ≡ next.arrays + many

before_none : (code : Lowered) → IsBefore [] code code
before_none code = record { copies = refl; arrays = refl; later = refl; shifts = refl }

before_both : (xs ys : List Region) (inner middle outer : Lowered) → IsBefore xs middle outer →
    IsBefore ys inner middle → IsBefore (xs ++ ys) inner outer
before_both xs ys inner middle outer first rest = record {
  copies = first.copies ∙ rest.copies;
  arrays = first.arrays ∙ ap (λ back. xs ++ back) rest.arrays
      ∙ sym (append_assoc xs ys inner.arrays);
  later = first.later ∙ rest.later;
  shifts = first.shifts ∙ rest.shifts;
}

behind_none : (next : Next) → IsBehind 0 next next
behind_none next = record { copies = refl; later = refl; arrays = omega arith }

behind_both : (few more : ℕ) (next middle last : Next) → IsBehind few next middle →
    IsBehind more middle last → IsBehind (few + more) next last
behind_both few more next middle last first rest = record {
  copies = rest.copies ∙ first.copies;
  later = rest.later ∙ first.later;
  arrays = omega (arith, rest.arrays, first.arrays);
}

-- ---- parameters that are copies

abbrev pub given_storages : List FormalName → List Given → List Region
given_storages [] actuals = []
given_storages (formal ∷ formals) [] = []
given_storages (formal ∷ formals) (Valued scalar ∷ actuals) = given_storages formals actuals
given_storages (formal ∷ formals) (Referring thing ∷ actuals) = given_storages formals actuals
given_storages (formal ∷ formals) (Copied from home ∷ actuals) =
    from.storage ∷ given_storages formals actuals

givens_before : (line : ℕ) (formals : List FormalName) (actuals : List Given) (frame : Framed)
    (next : Next) (rest : Framed → Next → Lowered) →
    (let last = given_frames line formals actuals frame next in
    IsBefore (given_storages formals actuals) (rest last.frame last.next)
    (givens_code line formals actuals frame next rest))
givens_before line [] actuals frame next rest = before_none (rest frame next)
givens_before line (formal ∷ formals) [] frame next rest = before_none (rest frame next)
givens_before line (formal ∷ formals) (Valued scalar ∷ actuals) frame next rest =
    givens_before line formals actuals (with_scalar frame formal.name scalar) next rest
givens_before line (formal ∷ formals) (Referring thing ∷ actuals) frame next rest =
    givens_before line formals actuals
    (record frame { names = frame.names ++ (formal.name.text, thing) ∷ [] }) next rest
givens_before line (formal ∷ formals) (Copied from home ∷ actuals) frame next rest =
    let first : Lowered = made_copy line next from in
    let inner : Framed = with_array frame formal.name home
    (record { array = next.arrays; storage = from.storage }) in
    let is = givens_before line formals actuals inner (behind next first) rest in
    record {
      copies = is.copies;
      arrays = ap (λ back. from.storage ∷ back) is.arrays;
      later = is.later;
      shifts = is.shifts;
    }

givens_behind : (line : ℕ) (formals : List FormalName) (actuals : List Given) (frame : Framed)
    (next : Next) →
    IsBehind (length (given_storages formals actuals)) next
    (given_frames line formals actuals frame next).next
givens_behind line [] actuals frame next = behind_none next
givens_behind line (formal ∷ formals) [] frame next = behind_none next
givens_behind line (formal ∷ formals) (Valued scalar ∷ actuals) frame next =
    givens_behind line formals actuals (with_scalar frame formal.name scalar) next
givens_behind line (formal ∷ formals) (Referring thing ∷ actuals) frame next =
    givens_behind line formals actuals
    (record frame { names = frame.names ++ (formal.name.text, thing) ∷ [] }) next
givens_behind line (formal ∷ formals) (Copied from home ∷ actuals) frame next =
    let inner : Framed = with_array frame formal.name home
    (record { array = next.arrays; storage = from.storage }) in
    let is = givens_behind line formals actuals inner (behind next (made_copy line next from)) in
    record {
      copies = omega (arith, is.copies);
      later = omega (arith, is.later);
      arrays = omega (arith, is.arrays);
    }

-- ---- local arrays

abbrev pub name_storages : Setup → Bracket → List Name → List Region
name_storages setup NoBracket names = []
name_storages setup (Bracketed inner) [] = []
name_storages setup (Bracketed inner) (name ∷ names) =
    storage_box setup.known setup.borders inner ∷ name_storages setup (Bracketed inner) names

abbrev pub var_storages : Setup → List VarDef → List Region
var_storages setup [] = []
var_storages setup (var ∷ vars) =
    name_storages setup var.shape var.names ++ var_storages setup vars

module _ (setup : Setup) (entry : Entry) where
  names_before : (shape : Bracket) (names : List Name) (frame : Framed) (next : Next)
      (rest : Framed → Next → Lowered) →
      (let last = name_frames setup entry shape names frame next in
      IsBefore (name_storages setup shape names) (rest last.frame last.next)
      (names_code setup entry shape names frame next rest))
  names_before NoBracket [] frame next rest = before_none (rest frame next)
  names_before (Bracketed inner) [] frame next rest = before_none (rest frame next)
  names_before NoBracket (name ∷ names) frame next rest =
      let first : Lowered = record (rows_alone (zero_row entry next.scalars)) { scalars = 1 } in
      let is = names_before NoBracket names (with_scalar frame name next.scalars)
      (behind next first) rest in
      record { copies = is.copies; arrays = is.arrays; later = is.later; shifts = is.shifts }
  names_before (Bracketed region) (name ∷ names) frame next rest =
      let storage : Region = storage_box setup.known setup.borders region in
      let first : Lowered =
      record (rows_alone (clear_row entry next.arrays)) { arrays = storage ∷ [] } in
      let inner : Framed = with_array frame name (home_box setup.known region)
      (record { array = next.arrays; storage = storage }) in
      let is = names_before (Bracketed region) names inner (behind next first) rest in
      record {
        copies = is.copies;
        arrays = ap (λ back. storage ∷ back) is.arrays;
        later = is.later;
        shifts = is.shifts;
      }

  names_behind : (shape : Bracket) (names : List Name) (frame : Framed) (next : Next) →
      IsBehind (length (name_storages setup shape names)) next
      (name_frames setup entry shape names frame next).next
  names_behind NoBracket [] frame next = behind_none next
  names_behind (Bracketed inner) [] frame next = behind_none next
  names_behind NoBracket (name ∷ names) frame next =
      let first : Lowered = record (rows_alone (zero_row entry next.scalars)) { scalars = 1 } in
      let is = names_behind NoBracket names (with_scalar frame name next.scalars)
      (behind next first) in
      record {
        copies = omega (arith, is.copies);
        later = omega (arith, is.later);
        arrays = omega (arith, is.arrays);
      }
  names_behind (Bracketed region) (name ∷ names) frame next =
      let storage : Region = storage_box setup.known setup.borders region in
      let first : Lowered =
      record (rows_alone (clear_row entry next.arrays)) { arrays = storage ∷ [] } in
      let inner : Framed = with_array frame name (home_box setup.known region)
      (record { array = next.arrays; storage = storage }) in
      let is = names_behind (Bracketed region) names inner (behind next first) in
      record {
        copies = omega (arith, is.copies);
        later = omega (arith, is.later);
        arrays = omega (arith, is.arrays);
      }

  locals_before : (vars : List VarDef) (frame : Framed) (next : Next)
      (rest : Framed → Next → Lowered) →
      (let last = local_frames setup entry vars frame next in
      IsBefore (var_storages setup vars) (rest last.frame last.next)
      (locals_code setup entry vars frame next rest))
  locals_before [] frame next rest = before_none (rest frame next)
  locals_before (var ∷ vars) frame next rest =
      let one = name_frames setup entry var.shape var.names frame next in
      let last = local_frames setup entry vars one.frame one.next in
      before_both (name_storages setup var.shape var.names) (var_storages setup vars)
      (rest last.frame last.next) (locals_code setup entry vars one.frame one.next rest)
      (locals_code setup entry (var ∷ vars) frame next rest)
      (names_before var.shape var.names frame next
      (λ frame after. locals_code setup entry vars frame after rest))
      (locals_before vars one.frame one.next rest)

  locals_behind : (vars : List VarDef) (frame : Framed) (next : Next) →
      IsBehind (length (var_storages setup vars)) next
      (local_frames setup entry vars frame next).next
  locals_behind [] frame next = behind_none next
  locals_behind (var ∷ vars) frame next =
      let one = name_frames setup entry var.shape var.names frame next in
      let last = local_frames setup entry vars one.frame one.next in
      subst (λ n. IsBehind n next last.next)
      (sym (length-append (name_storages setup var.shape var.names) (var_storages setup vars)))
      (behind_both (length (name_storages setup var.shape var.names))
      (length (var_storages setup vars)) next one.next last.next
      (names_behind var.shape var.names frame next) (locals_behind vars one.frame one.next))

  -- ---- both

  abbrev pub body_storages : Routine → Calling → List Region
  body_storages routine calling =
      given_storages (formal_names routine.procedure.params) calling.actuals
      ++ var_storages setup routine.procedure.locals

  pub body_before : (call : Calling → Next → Lowered) (routine : Routine) (calling : Calling)
      (next : Next) →
      (let last = body_frames setup entry routine calling next in
      IsBefore (body_storages routine calling)
      (lowered (record { place = where_in setup routine calling last.frame; call = call }) last.next
      routine.procedure.body)
      (body_code setup entry call routine calling next))
  body_before call routine calling next =
      let params = formal_names routine.procedure.params in
      let first : Framed = record { names = []; numbers = calling.numbers } in
      let given = given_frames entry.line params calling.actuals first next in
      let last = local_frames setup entry routine.procedure.locals given.frame given.next in
      let body : Framed → Next → Lowered =
      λ frame last. lowered
      (record { place = where_in setup routine calling frame; call = call }) last
      routine.procedure.body in
      before_both (given_storages params calling.actuals)
      (var_storages setup routine.procedure.locals) (body last.frame last.next)
      (locals_code setup entry routine.procedure.locals given.frame given.next body)
      (body_code setup entry call routine calling next)
      (givens_before entry.line params calling.actuals first next
      (λ frame after. locals_code setup entry routine.procedure.locals frame after body))
      (locals_before routine.procedure.locals given.frame given.next body)

  pub body_behind : (routine : Routine) (calling : Calling) (next : Next) →
      IsBehind (length (body_storages routine calling)) next
      (body_frames setup entry routine calling next).next
  body_behind routine calling next =
      let params = formal_names routine.procedure.params in
      let first : Framed = record { names = []; numbers = calling.numbers } in
      let given = given_frames entry.line params calling.actuals first next in
      let last = local_frames setup entry routine.procedure.locals given.frame given.next in
      subst (λ n. IsBehind n next last.next)
      (sym (length-append (given_storages params calling.actuals)
      (var_storages setup routine.procedure.locals)))
      (behind_both (length (given_storages params calling.actuals))
      (length (var_storages setup routine.procedure.locals)) next given.next last.next
      (givens_behind entry.line params calling.actuals first next)
      (locals_behind routine.procedure.locals given.frame given.next))

-- ---- they are those of the expanded call

module _ (program : Program) (known : Known) (number : ExpandedArray → ℕ) where
  abbrev storages : List Binding → List Region
  storages bindings = storages_of program known number (map (λ binding. binding.array) bindings)

  abbrev Sound : ℕ → Region → Region → Type 0
  Sound at home storage = IsDeclared program known at home storage

  pub locals_are : (setup : Setup) (path : List ℕ) (vars : List VarDef) →
      SoundVars Sound setup.known setup.borders vars →
      var_storages setup vars ≡ storages (local_arrays path vars)
  locals_are setup path [] sound = refl
  locals_are setup path (var ∷ vars) sound =
      by var.shape var.names sound.0 (locals_are setup path vars sound.1)
    where
      by : (shape : Bracket) (names : List Name) →
          SoundOver Sound setup.known setup.borders shape names →
          var_storages setup vars ≡ storages (local_arrays path vars) →
          name_storages setup shape names ++ var_storages setup vars ≡
          storages (local_arrays path (record var { shape = shape; names = names } ∷ vars))
      by NoBracket names sound later = later
      by (Bracketed inner) [] sound later = later
      by (Bracketed inner) (name ∷ names) sound later =
          ap₂ (λ storage rest. storage ∷ rest) sound.0.1 (by (Bracketed inner) names sound.1 later)

  copies_are : (path : List ℕ) (all : List FormalName) (bindings : List Binding) →
      storages (map (copy_of path all) bindings) ≡ storages bindings
  copies_are path all [] = refl
  copies_are path all (binding ∷ bindings) =
      ap (λ rest. declared_storage program known binding.array.storage ∷ rest)
      (copies_are path all bindings)

  module _ (caller : Instance) (first : Numbering) where
    abbrev taken : List FormalName → Exprs → List Binding
    taken formals actuals = actual_arrays program caller false formals actuals

    abbrev listed : Option Binding → List Binding
    listed None = []
    listed (Some binding) = binding ∷ []

    none_taken : (b : Bool) (found : Option Binding) (rest : List Binding) → found ≡ None →
        storages (cond b (listed found) [] ++ rest) ≡ storages rest
    none_taken true found rest e = ap (λ o. storages (listed o ++ rest)) e
    none_taken false found rest e = refl

    not_taken : (b : Bool) (found : Option Binding) (rest : List Binding) → b ≡ false →
        storages (cond b (listed found) [] ++ rest) ≡ storages rest
    not_taken true found rest e = cc
    not_taken false found rest e = refl

    one_taken : (b : Bool) (found : Option Binding) (one : Binding) (rest : List Binding) →
        b ≡ true → found ≡ Some one →
        storages (cond b (listed found) [] ++ rest) ≡ storages (one ∷ rest)
    one_taken true found one rest t e = ap (λ o. storages (listed o ++ rest)) e
    one_taken false found one rest t e = cc

    givens_taken : (parameters : List Parameter) (actuals : Exprs) (givens : List Given) →
        AreGiven Sound program caller first parameters actuals givens →
        given_storages (map formal_of parameters) givens ≡
        storages (taken (map formal_of parameters) actuals)
    givens_taken [] NoExpr [] are = refl
    givens_taken [] (ThenExpr actual actuals) givens are = absurd are
    givens_taken [] NoExpr (given ∷ givens) are = absurd are
    givens_taken (one ∷ rest) NoExpr givens are = absurd are
    givens_taken (one ∷ rest) (ThenExpr actual actuals) [] are = absurd are
    givens_taken (one ∷ rest) (ThenExpr actual actuals) (given ∷ givens) are =
        by given are.0 (givens_taken rest actuals givens are.1)
      where
        found : Option Binding
        found = actual_array program caller one.name actual

        behind_it : List Binding
        behind_it = taken (map formal_of rest) actuals

        by : (given : Given) → IsGiven Sound program caller first one actual given →
            given_storages (map formal_of rest) givens ≡ storages behind_it →
            given_storages (map formal_of (one ∷ rest)) (given ∷ givens) ≡
            storages (taken (map formal_of (one ∷ rest)) (ThenExpr actual actuals))
        by (Valued scalar) (ByValue base number is none) later =
            later ∙ sym (none_taken (not one.name.by_ref) found behind_it none)
        by (Referring thing) (ByName base place is none) later =
            later ∙ sym (none_taken (not one.name.by_ref) found behind_it none)
        by (Referring thing) (ByArray base shape place home array is by_ref some number) later =
            later ∙ sym (not_taken (not one.name.by_ref) found behind_it (ap not by_ref))
        by (Copied from home) (ByCopy base shape stored box array is by_ref some sound) later =
            ap₂ (λ storage back. storage ∷ back) sound.1 later
            ∙ sym (one_taken (not one.name.by_ref) found
            (record { name = one.name.name.text; array = array }) behind_it (ap not by_ref) some)

    pub givens_are : (path : List ℕ) (all : List FormalName) (parameters : List Parameter)
        (formals : List FormalName) (actuals : Exprs) (givens : List Given) →
        map formal_of parameters ≡ formals →
        AreGiven Sound program caller first parameters actuals givens →
        given_storages formals givens ≡ storages (map (copy_of path all) (taken formals actuals))
    givens_are path all parameters formals actuals givens same are =
        subst (λ fs. given_storages fs givens ≡ storages (taken fs actuals)) same
        (givens_taken parameters actuals givens are)
        ∙ sym (copies_are path all (taken formals actuals))

  pub both_are : (xs ys : List Binding) → storages (xs ++ ys) ≡ storages xs ++ storages ys
  both_are xs ys =
      ap (storages_of program known number)
      (map-append (λ (binding : Binding). binding.array) xs ys)
      ∙ map-append (λ (array : ExpandedArray). declared_storage program known array.storage)
      (map (λ binding. binding.array) xs) (map (λ binding. binding.array) ys)
