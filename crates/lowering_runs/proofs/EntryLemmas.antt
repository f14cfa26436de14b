-- The start of a run: global variables, declared regions, and the entry procedure.
use Rattle.std.proofs.Common.{◌≡◌, ℕ, zero, suc, ◌+◌, ◌≤◌, ◌<◌, true, false, ℤ, pos, List, [], ◌∷◌}
use Rattle.std.proofs.Common.{◌++◌, map, length, Option, None, refl, sym, ap, ◌∙◌, subst, arith}
use Rattle.std.proofs.Common.{length-append}
use Rattle.std.specs.Prelude.{replicate, slice_get, slice_set, slice_index_or, option_and_then, is_none}
use Rattle.zpl_nums.specs.Integer.{IsInteger}
use Rattle.zpl_nums.proofs.IntegerLemmas.{IsInteger-truth}
use Rattle.zpl_nums.specs.declared.folds.Fold.{Fold}
use Rattle.zpl_region.specs.declared.regions.Region.{Region}
use Rattle.zpl_region.specs.Region.{members}
use Rattle.zpl_arrays.specs.Array.{array_of}
use Rattle.zpl_tree.specs.Syntax.{Name, Bracket, NoBracket, Bracketed, Define, VarDef, Decl, Vars, Config, Constant, Regions, Directions, Defined}
use Rattle.lowering_fits.specs.of_zpl_binding.Outcome.{Computed, value_or, outcome_of}
use Rattle.lowering_fits.specs.of_zpl_binding.Regions.{Known, no_region}
use Rattle.lowering_fits.specs.of_zpl_binding.Storages.{Border}
use Rattle.lowering_fits.specs.of_zpl_meaning.Store.{Thing, Scalar, ArrayAt, Fixed, Names, no_array}
use Rattle.lowering_fits.specs.of_zpl_meaning.Variables.{Frame, empty_frame, with_name, with_names, with_variables, with_values, with_declarations}
use Rattle.node_form.specs.declared.arrays.ArrayRow.{ArrayRow}
use Rattle.node_form.specs.declared.tables.Tables.{Tables}
use Rattle.node_form.specs.declared.instructions.Instr.TheVariants as instr
use Rattle.row_runs.specs.Run.{Step, Goes}
use Rattle.row_runs.specs.Straight.{Every}
use Rattle.row_runs.specs.Structured as code
use Rattle.row_runs.specs.Structured.{Course, rows_do, by_step}
use Rattle.lowering_fits.specs.of_flat_form.Row as row
use Rattle.lowering_fits.specs.of_flat_form.Whole.{Whole, start_places, start_whole}
use Rattle.lowering_fits.proofs.of_flat_form.WholeLemmas.{begin_whole}
use Rattle.lowering_fits.specs.of_zpl_lowering.Program as low
use Rattle.lowering_runs.specs.Seen.{scalar_in, Spot, At, seen_spot, seen_names, seen_thing, numbered, place_of}
use Rattle.lowering_runs.specs.Run.{straight, step, decide}
use Rattle.lowering_runs.specs.Stands.{Rises, AreKnown, AreDeclared, IsSound}
use Rattle.lowering_runs.specs.Frames.{IsScalarShape, AreScalarLocals}
use Rattle.lowering_runs.specs.ScalarText.{AreScalarDecls}
use Rattle.lowering_runs.proofs.NumberLemmas.{length_set, get_same, get_other}
use Rattle.lowering_runs.proofs.FrameLemmas.{known_more, known_both}
use Rattle.lowering_runs.proofs.RowLemmas.{settled_act}

-- ---- global variables

abbrev pub AreZero : List ℤ → Type 0
AreZero [] = Unit {0}
AreZero (x ∷ xs) = (x ≡ pos 0) × AreZero xs

zero_more : (xs : List ℤ) → AreZero xs → AreZero (xs ++ pos 0 ∷ [])
zero_more [] h = (refl, tt)
zero_more (x ∷ xs) h = (h.0, zero_more xs h.1)

-- scalars that are 0, and no array
pub record IsGlobal (frame : Frame) : Type 0 where
  pub zeros : AreZero frame.store.scalars
  pub none : frame.store.arrays ≡ []
  pub known : AreKnown (length frame.store.scalars) 0 frame.names

module _ (known : Known) (borders : List Border)
    (integers : (text : List ℕ) → IsInteger (value_or (pos 0) (outcome_of (pos 0) known.values text)))
  where
    name_global : (shape : Bracket) (frame : Frame) (name : Name) → IsScalarShape shape
        → IsGlobal frame → IsGlobal (with_name known borders shape frame name)
    name_global (Bracketed inner) frame name s h = absurd s
    name_global NoBracket frame name s h =
        let longer = length-append frame.store.scalars (pos 0 ∷ []) in
        record {
          zeros = zero_more frame.store.scalars h.zeros;
          none = h.none;
          known = known_both (length (frame.store.scalars ++ pos 0 ∷ [])) 0 frame.names _
              (known_more (length frame.store.scalars) (length (frame.store.scalars ++ pos 0 ∷ [])) 0
              frame.names (omega (arith, longer)) h.known)
              (omega (arith, longer), tt);
        }

    names_global : (shape : Bracket) (names : List Name) (frame : Frame) → IsScalarShape shape
        → IsGlobal frame → IsGlobal (with_names known borders shape frame names)
    names_global shape [] frame s h = h
    names_global shape (name ∷ names) frame s h =
        names_global shape names (with_name known borders shape frame name) s
        (name_global shape frame name s h)

    variables_global : (vars : List VarDef) (frame : Frame) → AreScalarLocals vars → IsGlobal frame
        → IsGlobal (with_variables known borders frame vars)
    variables_global [] frame s h = h
    variables_global (var ∷ vars) frame s h =
        variables_global vars (with_names known borders var.shape frame var.names) s.1
        (names_global var.shape var.names frame s.0 h)

    values_global : (defines : List Define) (frame : Frame) → IsGlobal frame
        → IsGlobal (with_values known frame defines)
    values_global [] frame h = h
    values_global (define ∷ defines) frame h =
        let value = value_or (pos 0) (outcome_of (pos 0) known.values define.name.text) in
        values_global defines
        (record frame { names = frame.names ++ (define.name.text, Fixed value) ∷ [] })
        (record {
          zeros = h.zeros;
          none = h.none;
          known = known_both (length frame.store.scalars) 0 frame.names _ h.known
              (integers define.name.text, tt);
        })

    pub declarations_global : (decls : List Decl) (frame : Frame) → AreScalarDecls decls
        → IsGlobal frame → IsGlobal (with_declarations known borders frame decls)
    declarations_global [] frame s h = h
    declarations_global (Vars vars ∷ decls) frame s h =
        declarations_global decls (with_variables known borders frame vars) s.1
        (variables_global vars frame s.0 h)
    declarations_global (Config configs ∷ decls) frame s h =
        declarations_global decls (with_values known frame configs) s (values_global configs frame h)
    declarations_global (Constant constants ∷ decls) frame s h =
        declarations_global decls (with_values known frame constants) s
        (values_global constants frame h)
    declarations_global (Regions regions ∷ decls) frame s h = declarations_global decls frame s h
    declarations_global (Directions directions ∷ decls) frame s h = declarations_global decls frame s h
    declarations_global (Defined procedure ∷ decls) frame s h = declarations_global decls frame s h

    pub first_global : (decls : List Decl) → AreScalarDecls decls
        → IsGlobal (with_declarations known borders empty_frame decls)
    first_global decls s =
        declarations_global decls empty_frame s (record { zeros = tt; none = refl; known = tt })

-- ---- their spots

abbrev pub spots_from : ℕ → List ℤ → List Spot
spots_from k [] = []
spots_from k (value ∷ values) = At k ∷ spots_from (suc k) values

pub spots_numbered : (k : ℕ) (values : List ℤ)
    → numbered (spots_from k values) ≡ low.scalars_from k values
spots_numbered k [] = refl
spots_numbered k (value ∷ values) = ap (λ ks. k ∷ ks) (spots_numbered (suc k) values)

pub spots_rise : (k : ℕ) (values : List ℤ) (to : ℕ) → k + length values ≤ to
    → Rises k (numbered (spots_from k values)) to
spots_rise k [] to le = omega (arith, le)
spots_rise k (value ∷ values) to le =
    (omega arith, spots_rise (suc k) values to (omega (arith, le)))

pub spots_length : (k : ℕ) (values : List ℤ)
    → length (numbered (spots_from k values)) ≡ length values
spots_length k [] = refl
spots_length k (value ∷ values) = ap suc (spots_length (suc k) values)

spots_place : (k : ℕ) (values : List ℤ) (p : ℕ) → place_of (spots_from k values) p ≡ p
spots_place k [] p = refl
spots_place k (value ∷ values) zero = refl
spots_place k (value ∷ values) (suc p) = ap suc (spots_place (suc k) values p)

spots_thing : (k : ℕ) (values : List ℤ) (thing : Thing)
    → seen_thing (spots_from k values) thing ≡ thing
spots_thing k values (Scalar p) = ap (λ q. Scalar q) (spots_place k values p)
spots_thing k values (ArrayAt p home) = refl
spots_thing k values (Fixed value) = refl

pub spots_names : (k : ℕ) (values : List ℤ) (names : Names)
    → seen_names (spots_from k values) names ≡ names
spots_names k values [] = refl
spots_names k values (entry ∷ names) =
    ap (λ t. (entry.0, t) ∷ seen_names (spots_from k values) names)
    (spots_thing k values entry.1)
    ∙ ap (λ ns. entry ∷ ns) (spots_names k values names)

pub spots_zero : (k : ℕ) (values : List ℤ) (now : Whole)
    → ((j : ℕ) → scalar_in now j ≡ pos 0) → AreZero values
    → values ≡ map (seen_spot now) (spots_from k values)
spots_zero k [] now z h = refl
spots_zero k (value ∷ values) now z h =
    ap (λ v. v ∷ values) (h.0 ∙ sym (z k))
    ∙ ap (λ vs. scalar_in now k ∷ vs) (spots_zero (suc k) values now z h.1)

-- ---- the first state

zero_at : (m k : ℕ) → slice_index_or (replicate m (pos 0)) k (pos 0) ≡ pos 0
zero_at zero k = refl
zero_at (suc m) zero = refl
zero_at (suc m) (suc k) = zero_at m k

none_at : (m k : ℕ) → is_none (option_and_then (λ awaited. awaited)
    (slice_get (let all : List (Option Fold) = replicate m None in all) k)) ≡ true
none_at zero k = refl
none_at (suc m) zero = refl
none_at (suc m) (suc k) = none_at m k

pub start_zero : (tables : Tables) (k : ℕ) → scalar_in (start_whole tables) k ≡ pos 0
start_zero tables k = zero_at tables.scalars k

zeros_of : (ts : List (List ℤ)) → Every IsInteger (map (λ t. pos 0) ts)
zeros_of [] = tt
zeros_of (t ∷ ts) = (IsInteger-truth false, zeros_of ts)

-- an array of zeros has integers of 64 bits
pub zeros_integers : (region : Region) → Every IsInteger (array_of region (λ t. pos 0)).values
zeros_integers region = zeros_of (members region)

zeros_in : (rows : List ArrayRow) (k : ℕ) → Every IsInteger (slice_index_or (map (λ row.
    array_of (start_places row row.stored) (λ t. pos 0)) rows) k no_array).values
zeros_in [] zero = tt
zeros_in [] (suc k) = tt
zeros_in (row ∷ rows) zero = zeros_integers (start_places row row.stored)
zeros_in (row ∷ rows) (suc k) = zeros_in rows k

pub start_sound : (tables : Tables) → IsSound tables (start_whole tables)
start_sound tables = record {
  filled = begin_whole tables;
  settled = λ k. none_at tables.scalars k;
  integers = λ k. subst (λ (v : ℤ). IsInteger v) (sym (start_zero tables k)) (IsInteger-truth false);
  elements = λ k row e stored. zeros_in tables.arrays k;
}

-- ---- declared regions

module _ (tables : Tables) (n : ℕ) where
  abbrev pub fixed : Whole → ℕ → Region → Whole
  fixed whole slot region = record whole { slots = slice_set whole.slots slot region }

  pub fix_step : (whole : Whole) → IsSound tables whole → (slot : ℕ) (region : Region)
      → step tables n (row.Plain (instr.Fix slot region)) whole ≡ Goes [] (fixed whole slot region)
  fix_step whole sound slot region =
      ap straight (settled_act tables n whole sound.settled (row.Plain (instr.Fix slot region)))

  fixed_sound : (whole : Whole) → IsSound tables whole → (slot : ℕ) (region : Region)
      → IsSound tables (fixed whole slot region)
  fixed_sound whole h slot region = record {
    filled = record {
      scalars = h.filled.scalars;
      awaited = h.filled.awaited;
      slots = length_set whole.slots slot region ∙ h.filled.slots;
      stores = h.filled.stores;
    };
    settled = h.settled;
    integers = h.integers;
    elements = h.elements;
  }

  -- behind the rows of declared regions, which change slots alone
  pub record AreFixed (slot : ℕ) (regions : List (Computed Region)) (whole : Whole) : Type 0 where
    pub after : Whole
    pub course : rows_do (step tables n) (decide tables n) (low.region_rows slot regions) whole
        ≡ code.goes_on after
    pub sound : IsSound tables after
    pub scalars : after.scalars ≡ whole.scalars
    pub stores : after.stores ≡ whole.stores
    pub many : length after.slots ≡ length whole.slots
    pub below : (k : ℕ) → k < slot → slice_get after.slots k ≡ slice_get whole.slots k
    pub declared : AreDeclared slot regions after.slots

  pub regions_fixed : (slot : ℕ) (regions : List (Computed Region)) (whole : Whole)
      → IsSound tables whole → slot + length regions ≤ length whole.slots
      → AreFixed slot regions whole
  regions_fixed slot [] whole sound le = record {
    after = whole;
    course = refl;
    sound = sound;
    scalars = refl;
    stores = refl;
    many = refl;
    below = λ k l. refl;
    declared = tt;
  }
  regions_fixed slot (one ∷ rest) whole sound le =
      let region = value_or no_region one.outcome in
      let same = length_set whole.slots slot region in
      let r = regions_fixed (suc slot) rest (fixed whole slot region)
      (fixed_sound whole sound slot region) (omega (arith, le, same)) in
      record {
        after = r.after;
        course =
            ap (λ (s : Step Whole). by_step whole s
            (rows_do (step tables n) (decide tables n) (low.region_rows (suc slot) rest)))
            (fix_step whole sound slot region)
            ∙ r.course;
        sound = r.sound;
        scalars = r.scalars;
        stores = r.stores;
        many = r.many ∙ same;
        below = λ k l. r.below k (omega (arith, l))
            ∙ get_other whole.slots slot k region (λ e. absurd (omega (arith, l, e)));
        declared = (
          r.below slot (omega arith) ∙ get_same whole.slots slot region (omega (arith, le)),
          r.declared,
        );
      }
