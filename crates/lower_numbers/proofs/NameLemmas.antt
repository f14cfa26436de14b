-- What the names of a procedure stand for, and what actuals of a call are.
use Rattle.std.proofs.Common.{◌≡◌, ℕ, Bool, true, false, cond, List, [], ◌∷◌, ◌++◌, length, Option, Some, None, option_map, refl, sym, ◌∙◌, ap₂, subst, true≢false}
use Rattle.std.specs.List.{AllByRecursion, find}
use Rattle.std.specs.Option.{option_or}
use Rattle.std.specs.Str.{bytes_eq}
use Rattle.zpl_tree.specs.Syntax.{Name, Expr, Number, Truth, Coord, Named, Shifted, Around, Remap, Call, Paren, Neg, Not, Abs, Pair, Reduce, Scan, Flood, Exprs, ThenExpr, Base, Integer, Program}
use Rattle.expanded_counts.specs.of_zpl_names.Kinds as kind
use Rattle.expanded_counts.specs.of_zpl_names.Kinds.{Shape, Rank, Kind, Formal, ScalarFormal, ArrayFormal, Signature}
use Rattle.expanded_counts.specs.of_zpl_names.Accepted.{HasNoFault}
use Rattle.expanded_counts.specs.of_zpl_names.Ranks.{IsKnownKind, first_rank, is_above_zero, value_rank}
use Rattle.expanded_counts.specs.of_zpl_names.Scope.{Entry, in_reach, kind_in, kind_of, is_array, is_procedure, is_value}
use Rattle.expanded_counts.specs.of_zpl_names.Declared.{Routine, globals_of, scope_of}
use Rattle.expanded_counts.specs.of_zpl_names.Faults.{fits_array, fits_reference}
use Rattle.expanded_counts.specs.of_zpl_names.Sites.{Reach, AtWhole, Actual, actuals_sites, expr_sites, whole_rank}
use Rattle.lower_reads.proofs.of_zpl_meaning.DepthLemmas.{Each, each_right}
use Rattle.lower_reads.proofs.of_zpl_meaning.NamesLemmas.{HasShape, Shaped}
use Rattle.lower_reads.proofs.of_zpl_meaning.ProperLemmas.{taken}
use Rattle.lower_reads.proofs.of_zpl_meaning.VisitLemmas.{AllOwn, own_in, global_procedure}
use Rattle.lower_numbers.proofs.SiteLemmas.{IsIn}

-- ---- kinds in reach

array_reached : (constants : Bool) (thing : Option Kind) →
    is_array (in_reach constants thing) ≡ true → is_array thing ≡ true
array_reached false thing e = e
array_reached true None e = e
array_reached true (Some (kind.Config base)) e = e
array_reached true (Some (kind.Constant base)) e = e
array_reached true (Some (kind.Region shape)) e = e
array_reached true (Some (kind.Direction rank)) e = e
array_reached true (Some (kind.Scalar base)) e = absurd (true≢false (sym e))
array_reached true (Some (kind.Array own shape)) e = absurd (true≢false (sym e))
array_reached true (Some (kind.Procedure signature)) e = e

value_reached : (constants : Bool) (thing : Option Kind) →
    is_value (in_reach constants thing) ≡ true → in_reach constants thing ≡ thing
value_reached false thing e = refl
value_reached true None e = refl
value_reached true (Some (kind.Config base)) e = refl
value_reached true (Some (kind.Constant base)) e = refl
value_reached true (Some (kind.Region shape)) e = refl
value_reached true (Some (kind.Direction rank)) e = refl
value_reached true (Some (kind.Scalar base)) e = absurd (true≢false (sym e))
value_reached true (Some (kind.Array own shape)) e = absurd (true≢false (sym e))
value_reached true (Some (kind.Procedure signature)) e = refl

procedure_found : (constants : Bool) (thing : Option Kind) →
    is_procedure (in_reach constants thing) ≡ true →
    (signature : Signature) × (in_reach constants thing ≡ Some (kind.Procedure signature)) ×
    (thing ≡ Some (kind.Procedure signature))
procedure_found true None e = absurd (true≢false (sym e))
procedure_found true (Some (kind.Config base)) e = absurd (true≢false (sym e))
procedure_found true (Some (kind.Constant base)) e = absurd (true≢false (sym e))
procedure_found true (Some (kind.Region shape)) e = absurd (true≢false (sym e))
procedure_found true (Some (kind.Direction rank)) e = absurd (true≢false (sym e))
procedure_found true (Some (kind.Scalar base)) e = absurd (true≢false (sym e))
procedure_found true (Some (kind.Array own shape)) e = absurd (true≢false (sym e))
procedure_found true (Some (kind.Procedure signature)) e = (signature, refl, refl)
procedure_found false None e = absurd (true≢false (sym e))
procedure_found false (Some (kind.Config base)) e = absurd (true≢false (sym e))
procedure_found false (Some (kind.Constant base)) e = absurd (true≢false (sym e))
procedure_found false (Some (kind.Region shape)) e = absurd (true≢false (sym e))
procedure_found false (Some (kind.Direction rank)) e = absurd (true≢false (sym e))
procedure_found false (Some (kind.Scalar base)) e = absurd (true≢false (sym e))
procedure_found false (Some (kind.Array own shape)) e = absurd (true≢false (sym e))
procedure_found false (Some (kind.Procedure signature)) e = (signature, refl, refl)

-- ---- arrays have a rank above 0

abbrev pub OptFirm : Option Kind → Type 0
OptFirm None = Unit {0}
OptFirm (Some thing) = IsKnownKind thing × HasShape thing

firm_in : (entries : List Entry) (text : List ℕ) →
    AllByRecursion (λ entry. IsKnownKind entry.kind) entries → Shaped entries →
    OptFirm (kind_in entries text)
firm_in [] text k h = tt
firm_in (first ∷ rest) text k h =
    by (bytes_eq first.name.text text) (firm_in rest text k.1 h.1)
  where
    by : (b : Bool) → OptFirm (kind_in rest text) →
        OptFirm (option_map (λ entry. entry.kind)
        (cond b (Some first) (find (λ entry. bytes_eq entry.name.text text) rest)))
    by true later = (k.0, h.0)
    by false later = later

firm_or : (one other : Option Kind) → OptFirm one → OptFirm other → OptFirm (option_or one other)
firm_or None other h k = k
firm_or (Some thing) other h k = h

pub firm_kind : (own globals : List Entry) (name : Name) →
    AllByRecursion (λ entry. IsKnownKind entry.kind) own → Shaped own →
    AllByRecursion (λ entry. IsKnownKind entry.kind) globals → Shaped globals →
    OptFirm (option_or (kind_in own name.text) (kind_in globals name.text))
firm_kind own globals name k h j g =
    firm_or (kind_in own name.text) (kind_in globals name.text) (firm_in own name.text k h)
    (firm_in globals name.text j g)

-- ---- actuals

pub array_actual : (base : Base) (shape : Option Shape) (thing : Option Kind) →
    is_value thing ≡ true → fits_array base shape thing ≡ true → is_array thing ≡ true
array_actual base other None v e = absurd (true≢false (sym v))
array_actual base other (Some (kind.Config one)) v e = absurd (true≢false (sym e))
array_actual base other (Some (kind.Constant one)) v e = absurd (true≢false (sym e))
array_actual base other (Some (kind.Region shape)) v e = absurd (true≢false (sym v))
array_actual base other (Some (kind.Direction rank)) v e = absurd (true≢false (sym v))
array_actual base other (Some (kind.Scalar one)) v e = absurd (true≢false (sym e))
array_actual base other (Some (kind.Array own shape)) v e = refl
array_actual base other (Some (kind.Procedure signature)) v e = absurd (true≢false (sym v))

pub reference_actual : (base : Base) (thing : Option Kind) → fits_reference base thing ≡ true →
    is_array thing ≡ false
reference_actual base None e = refl
reference_actual base (Some (kind.Config one)) e = refl
reference_actual base (Some (kind.Constant one)) e = refl
reference_actual base (Some (kind.Region shape)) e = refl
reference_actual base (Some (kind.Direction rank)) e = refl
reference_actual base (Some (kind.Scalar one)) e = refl
reference_actual base (Some (kind.Array own shape)) e = absurd (true≢false (sym e))
reference_actual base (Some (kind.Procedure signature)) e = refl

above_zero : (shape : Option Shape) → IsKnownKind (kind.Array Integer shape) →
    HasShape (kind.Array Integer shape) →
    is_above_zero (first_rank (option_map length shape) (Some 0)) ≡ true
above_zero None k h = absurd (true≢false (sym k))
above_zero (Some []) k h = absurd h
above_zero (Some (flood ∷ shape)) k h = refl

pub value_actual : (thing : Option Kind) → OptFirm thing →
    is_above_zero (first_rank (value_rank thing) (Some 0)) ≡ false → is_array thing ≡ false
value_actual None h e = refl
value_actual (Some (kind.Config base)) h e = refl
value_actual (Some (kind.Constant base)) h e = refl
value_actual (Some (kind.Region shape)) h e = refl
value_actual (Some (kind.Direction rank)) h e = refl
value_actual (Some (kind.Scalar base)) h e = refl
value_actual (Some (kind.Array own shape)) h e = absurd (true≢false (sym (above_zero shape h.0 h.1) ∙ e))
value_actual (Some (kind.Procedure signature)) h e = refl

abbrev pub is_array_formal : Formal → Bool
is_array_formal (ScalarFormal by_ref base) = false
is_array_formal (ArrayFormal by_ref base shape) = true

module _ (program : Program) (routine : Routine) (reach : Reach)
    (k : IsIn program routine reach) where
  abbrev thing_at : Name → Option Kind
  thing_at name = kind_of (scope_of program routine) name

  names_are : (name : Name) →
      option_or (kind_in reach.scope.own name.text) (kind_in reach.scope.globals name.text) ≡
      thing_at name
  names_are name =
      ap₂ (λ own globals. option_or (kind_in own name.text) (kind_in globals name.text))
      k.own k.globals

  pub array_here : (name : Name) → is_array (kind_of reach.scope name) ≡ true →
      is_array (thing_at name) ≡ true
  array_here name e =
      subst (λ thing. is_array thing ≡ true) (names_are name)
      (array_reached reach.scope.constants
      (option_or (kind_in reach.scope.own name.text) (kind_in reach.scope.globals name.text)) e)

  pub value_here : (name : Name) → is_value (kind_of reach.scope name) ≡ true →
      kind_of reach.scope name ≡ thing_at name
  value_here name e =
      value_reached reach.scope.constants
      (option_or (kind_in reach.scope.own name.text) (kind_in reach.scope.globals name.text)) e
      ∙ names_are name

  pub procedure_here : (name : Name) → AllOwn routine.own →
      is_procedure (kind_of reach.scope name) ≡ true →
      (signature : Signature) × (kind_of reach.scope name ≡ Some (kind.Procedure signature)) ×
      (kind_in (globals_of program) name.text ≡ Some (kind.Procedure signature))
  procedure_here name own e =
      let found = procedure_found reach.scope.constants
      (option_or (kind_in reach.scope.own name.text) (kind_in reach.scope.globals name.text)) e in (
        found.0,
        found.1,
        global_procedure (kind_in routine.own name.text)
            (kind_in (globals_of program) name.text) found.0 (own_in routine.own name.text own)
            (sym (names_are name) ∙ found.2),
      )

-- a name that is an actual has a value
abbrev pub Taken : Reach → Expr → Type 0
Taken reach (Named at name) = is_value (kind_of reach.scope name) ≡ true
Taken reach actual = Unit {0}

split_other : (reach : Reach) (actual : Expr) (rest : Exprs) →
    Each HasNoFault (AtWhole reach Actual actual ∷
    expr_sites reach (whole_rank reach Actual actual) actual ++ actuals_sites reach rest) →
    Each HasNoFault (actuals_sites reach rest)
split_other reach actual rest h =
    each_right HasNoFault (expr_sites reach (whole_rank reach Actual actual) actual)
    (actuals_sites reach rest) h.1

pub split_actual : (reach : Reach) (actual : Expr) (rest : Exprs) →
    Each HasNoFault (actuals_sites reach (ThenExpr actual rest)) →
    Taken reach actual × Each HasNoFault (actuals_sites reach rest)
split_actual reach (Number at value) rest h = (tt, split_other reach (Number at value) rest h)
split_actual reach (Truth at value) rest h = (tt, split_other reach (Truth at value) rest h)
split_actual reach (Coord at k) rest h = (tt, split_other reach (Coord at k) rest h)
split_actual reach (Named at name) rest h = (taken reach is_value name h.0.known, h.1)
split_actual reach (Shifted at read shift) rest h = (tt, split_other reach (Shifted at read shift) rest h)
split_actual reach (Around at read shift) rest h = (tt, split_other reach (Around at read shift) rest h)
split_actual reach (Remap at read indices) rest h = (tt, split_other reach (Remap at read indices) rest h)
split_actual reach (Call at callee inner) rest h = (tt, split_other reach (Call at callee inner) rest h)
split_actual reach (Paren at inside) rest h = (tt, split_other reach (Paren at inside) rest h)
split_actual reach (Neg at operand) rest h = (tt, split_other reach (Neg at operand) rest h)
split_actual reach (Not at operand) rest h = (tt, split_other reach (Not at operand) rest h)
split_actual reach (Abs at operand) rest h = (tt, split_other reach (Abs at operand) rest h)
split_actual reach (Pair at op left right) rest h = (tt, split_other reach (Pair at op left right) rest h)
split_actual reach (Reduce at operator over operand) rest h = (tt, split_other reach (Reduce at operator over operand) rest h)
split_actual reach (Scan at operator along operand) rest h = (tt, split_other reach (Scan at operator along operand) rest h)
split_actual reach (Flood at source operand) rest h = (tt, split_other reach (Flood at source operand) rest h)
