-- Of numbers, scalars and operators, a statement's values are those that they have by themselves.
use Rattle.std.proofs.Common.{◌≡◌, true, ◌&&◌, ℤ, List, [], ◌∷◌, Option, Some, None, refl, ap, ◌∙◌}
use Rattle.zpl_binding.specs.of_zpl_nums.declared.operators.Op.{Op}
use Rattle.zpl_binding.specs.of_zpl_nums.declared.operators.UnaryOp.{UnaryOp}
use Rattle.zpl_binding.specs.of_zpl_nums.declared.operators.UnaryOp.TheVariants as unary
use Rattle.zpl_binding.specs.of_zpl_nums.declared.ends.TrapKind.TheVariants.{OutsideStorage, RegionMismatch}
use Rattle.zpl_binding.specs.of_zpl_nums.Op.{applied}
use Rattle.zpl_binding.specs.of_zpl_nums.UnaryOp.{applied_unary}
use Rattle.zpl_binding.specs.of_zpl_tree.Syntax.{Expr, Number, Truth, Named, Paren, Neg, Not, Abs, Pair}
use Rattle.zpl_binding.specs.of_zpl_names.Kinds.{Rank}
use Rattle.zpl_binding.specs.of_zpl_names.Sites.{Role}
use Rattle.zpl_meaning.specs.Computed.{Computed, Gives, Traps, computed_then, both_then, provided}
use Rattle.zpl_meaning.specs.Computed.{given}
use Rattle.zpl_meaning.specs.Store.{Thing, Scalar, ArrayAt, Fixed, Environment, Store, thing_of}
use Rattle.zpl_meaning.specs.Value.{thing_value, value_of}
use Rattle.zpl_meaning.specs.Context.{Over, over_at, Place}
use Rattle.zpl_meaning.specs.Term.{Term, Constant, Unary, Binary, Terms, NoTerm, ThenTerm}
use Rattle.zpl_meaning.specs.Settled.{named_term, settled, Placed, settled_each}
use Rattle.zpl_meaning.specs.Checks.{conforms, conform, refers, refer}
use Rattle.zpl_meaning.specs.Fields.{Field, constant_field, field_of, fields_of}
use Rattle.zpl_meaning.specs.Phases.{fields_in, placed_in, scalar_values, scalars_in, first_value}
use Rattle.zpl_meaning.specs.Phases.{scalar_in}
use Rattle.zpl_meaning.specs.Scalars.{IsScalarName, IsScalar, AreScalars, values_of}

-- a term that conforms, has no reference outside a storage, and has these values
record HasValue (store : Store) (term : Term) (value : Computed ℤ) : Type 0 where
  conforming : conforms term ≡ true
  referring : refers store term ≡ true
  field : Field
  computed : field_of store term ≡ Gives field
  values : (t : List ℤ) → field t ≡ value

-- the term that an expression is, and its value
record Settles (place : Place) (store : Store) (rank : Rank) (expr : Expr) : Type 0 where
  term : Term
  term_is : settled place store rank expr ≡ Gives term
  has : HasValue store term (value_of place.environment store expr)

named_has : (store : Store) (over : Over) (thing : Option Thing) → IsScalarName thing
    → HasValue store (named_term over thing) (Gives (thing_value store thing))
named_has store over (Some (Scalar place)) h = record {
  conforming = refl;
  referring = refl;
  field = _;
  computed = refl;
  values = λ t. refl;
}
named_has store over (Some (Fixed value)) h = record {
  conforming = refl;
  referring = refl;
  field = _;
  computed = refl;
  values = λ t. refl;
}
named_has store over (Some (ArrayAt place home)) h = absurd h
named_has store over None h = record {
  conforming = refl;
  referring = refl;
  field = _;
  computed = refl;
  values = λ t. refl;
}

constant_has : (store : Store) (value : ℤ) → HasValue store (Constant value) (Gives value)
constant_has store value = record {
  conforming = refl;
  referring = refl;
  field = constant_field value;
  computed = refl;
  values = λ t. refl;
}

unary_has : (store : Store) (operator : UnaryOp) (term : Term) (value : Computed ℤ)
    → HasValue store term value
    → HasValue store (Unary operator term)
    (computed_then value (λ v. Gives (applied_unary operator v)))
unary_has store operator term value h = record {
  conforming = h.conforming;
  referring = h.referring;
  field = λ t. computed_then (h.field t) (λ v. Gives (applied_unary operator v));
  computed = ap (λ c. computed_then c (λ field.
      Gives (λ t. computed_then (field t) (λ v. Gives (applied_unary operator v))))) h.computed;
  values = λ t. ap (λ c. computed_then c (λ v. Gives (applied_unary operator v))) (h.values t);
}

binary_has : (store : Store) (operator : Op) (one other : Term) (left right : Computed ℤ)
    → HasValue store one left → HasValue store other right
    → HasValue store (Binary operator one other)
    (both_then left right (λ a b. given (applied operator a b)))
binary_has store operator one other left right h k = record {
  conforming = ap (λ b. b && conforms other) h.conforming ∙ k.conforming;
  referring = ap (λ b. b && refers store other) h.referring ∙ k.referring;
  field = λ t. both_then (h.field t) (k.field t) (λ a b. given (applied operator a b));
  computed =
      ap (λ c. both_then c (field_of store other) (λ f g.
      Gives (λ t. both_then (f t) (g t) (λ a b. given (applied operator a b))))) h.computed
      ∙ ap (λ c. both_then (Gives h.field) c (λ f g.
      Gives (λ t. both_then (f t) (g t) (λ a b. given (applied operator a b))))) k.computed;
  values = λ t.
      ap (λ c. both_then c (k.field t) (λ a b. given (applied operator a b))) (h.values t)
      ∙ ap (λ c. both_then left c (λ a b. given (applied operator a b))) (k.values t);
}

settles : (place : Place) (store : Store) (rank : Rank) (expr : Expr)
    → IsScalar place.environment expr → Settles place store rank expr
settles place store rank (Number at value) h =
    record { term = Constant value; term_is = refl; has = constant_has store value }
settles place store rank (Truth at value) h =
    record { term = Constant _; term_is = refl; has = constant_has store _ }
settles place store rank (Named at name) h = record {
  term = _;
  term_is = refl;
  has = named_has store (over_at place.currents rank) (thing_of place.environment name.text) h;
}
settles place store rank (Paren at inside) h =
    let s = settles place store rank inside h in
    record { term = s.term; term_is = s.term_is; has = s.has }
settles place store rank (Neg at operand) h =
    let s = settles place store rank operand h in
    record {
      term = Unary unary.Neg s.term;
      term_is = ap (λ c. computed_then c (λ term. Gives (Unary unary.Neg term))) s.term_is;
      has = unary_has store unary.Neg s.term _ s.has;
    }
settles place store rank (Not at operand) h =
    let s = settles place store rank operand h in
    record {
      term = Unary unary.Not s.term;
      term_is = ap (λ c. computed_then c (λ term. Gives (Unary unary.Not term))) s.term_is;
      has = unary_has store unary.Not s.term _ s.has;
    }
settles place store rank (Abs at operand) h =
    let s = settles place store rank operand h in
    record {
      term = Unary unary.Abs s.term;
      term_is = ap (λ c. computed_then c (λ term. Gives (Unary unary.Abs term))) s.term_is;
      has = unary_has store unary.Abs s.term _ s.has;
    }
settles place store rank (Pair at op left right) h =
    let l = settles place store rank left h.0 in
    let r = settles place store rank right h.1 in
    record {
      term = Binary op l.term r.term;
      term_is =
          ap (λ c. both_then c (settled place store rank right) (λ one other.
          Gives (Binary op one other))) l.term_is
          ∙ ap (λ c. both_then (Gives l.term) c (λ one other. Gives (Binary op one other)))
          r.term_is;
      has = binary_has store op l.term r.term _ _ l.has r.has;
    }
settles place store rank _ h = absurd h

-- ---- lists of expressions

-- each field has its expression's value
abbrev pub AreFieldsOf : Environment → Store → List Field → List Placed → Type 0
AreFieldsOf environment store [] [] = Unit {0}
AreFieldsOf environment store [] (placed ∷ rest) = ⊥
AreFieldsOf environment store (field ∷ fields) [] = ⊥
AreFieldsOf environment store (field ∷ fields) (placed ∷ rest) =
    (field [] ≡ value_of environment store placed.expr)
    × AreFieldsOf environment store fields rest

record SettleAll (place : Place) (store : Store) (exprs : List Placed) : Type 0 where
  terms : Terms
  terms_are : settled_each place store exprs ≡ Gives terms
  conforming : conform terms ≡ true
  referring : refer store terms ≡ true
  fields : List Field
  computed : fields_of store terms ≡ Gives fields
  each : AreFieldsOf place.environment store fields exprs
  values : scalar_values fields ≡ values_of place.environment store exprs

settle_all : (place : Place) (store : Store) (exprs : List Placed)
    → AreScalars place.environment exprs → SettleAll place store exprs
settle_all place store [] h = record {
  terms = NoTerm;
  terms_are = refl;
  conforming = refl;
  referring = refl;
  fields = [];
  computed = refl;
  each = tt;
  values = refl;
}
settle_all place store (placed ∷ rest) h =
    let s = settles place store placed.rank placed.expr h.0 in
    let all = settle_all place store rest h.1 in
    record {
      terms = ThenTerm s.term all.terms;
      terms_are =
          ap (λ c. both_then c (settled_each place store rest) (λ term terms.
          Gives (ThenTerm term terms))) s.term_is
          ∙ ap (λ c. both_then (Gives s.term) c (λ term terms. Gives (ThenTerm term terms)))
          all.terms_are;
      conforming = ap (λ b. b && conform all.terms) s.has.conforming ∙ all.conforming;
      referring = ap (λ b. b && refer store all.terms) s.has.referring ∙ all.referring;
      fields = s.has.field ∷ all.fields;
      computed =
          ap (λ c. both_then c (fields_of store all.terms) (λ field fields.
          Gives (field ∷ fields))) s.has.computed
          ∙ ap (λ c. both_then (Gives s.has.field) c (λ field fields. Gives (field ∷ fields)))
          all.computed;
      each = (s.has.values [], all.each);
      values =
          ap (λ c. both_then c (scalar_values all.fields) (λ value values.
          Gives (value ∷ values))) (s.has.values [])
          ∙ ap (λ c. both_then (value_of place.environment store placed.expr) c (λ value values.
          Gives (value ∷ values))) all.values;
    }

-- the fields of such expressions, which have these values
pub record HasFields (place : Place) (store : Store) (exprs : List Placed) : Type 0 where
  pub fields : List Field
  pub computed : fields_in place store true exprs ≡ Gives fields
  pub each : AreFieldsOf place.environment store fields exprs
  pub values : scalar_values fields ≡ values_of place.environment store exprs

pub fields_of_scalars : (place : Place) (store : Store) (exprs : List Placed)
    → AreScalars place.environment exprs → HasFields place store exprs
fields_of_scalars place store exprs h =
    let all = settle_all place store exprs h in
    record {
      fields = all.fields;
      computed =
          ap (λ c. computed_then c (λ terms.
          provided (conform terms) RegionMismatch (λ _.
          provided (true && refer store terms) OutsideStorage (λ _.
          fields_of store terms)))) all.terms_are
          ∙ ap (λ b. provided b RegionMismatch (λ _.
          provided (true && refer store all.terms) OutsideStorage (λ _.
          fields_of store all.terms))) all.conforming
          ∙ ap (λ b. provided (true && b) OutsideStorage (λ _. fields_of store all.terms))
          all.referring
          ∙ all.computed;
      each = all.each;
      values = all.values;
    }

pub scalars_are_values : (place : Place) (store : Store) (exprs : List Placed)
    → AreScalars place.environment exprs
    → scalars_in place store exprs ≡ values_of place.environment store exprs
scalars_are_values place store exprs h =
    let f = fields_of_scalars place store exprs h in
    ap (λ c. computed_then c scalar_values) f.computed ∙ f.values

first_of_one : (value : Computed ℤ)
    → computed_then (both_then value (Gives []) (λ v vs. Gives (v ∷ vs))) (λ values.
    Gives (first_value values)) ≡ value
first_of_one (Gives value) = refl
first_of_one (Traps kind) = refl

pub scalar_is_value : (place : Place) (store : Store) (role : Role) (expr : Expr)
    → IsScalar place.environment expr
    → scalar_in place store role expr ≡ value_of place.environment store expr
scalar_is_value place store role expr h =
    ap (λ c. computed_then c (λ values. Gives (first_value values)))
    (scalars_are_values place store (placed_in place role expr ∷ []) (h, tt))
    ∙ first_of_one (value_of place.environment store expr)
