-- Expressions of scalars have no rows before them: what is left of each is its own code.
use Rattle.std.proofs.Common.{◌≡◌, ℕ, ◌+◌, ℤ, pos, List, [], ◌∷◌, ◌++◌, map, Option, Some, None, refl}
use Rattle.std.proofs.Common.{sym, ap, ◌∙◌, subst}
use Rattle.zpl_nums.specs.declared.operators.UnaryOp.{UnaryOp}
use Rattle.zpl_nums.specs.declared.operators.UnaryOp.TheVariants as unary
use Rattle.zpl_nums.specs.Integer.{truth}
use Rattle.zpl_tree.specs.Syntax.{Expr, Number, Truth, Coord, Named, Shifted, Around, Remap, Call, Paren, Neg, Not, Abs, Pair, Reduce, Scan, Flood}
use Rattle.zpl_names.specs.Kinds.{Rank}
use Rattle.lowering_fits.specs.of_zpl_meaning.Store.{Thing, Scalar, ArrayAt, Fixed, thing_of}
use Rattle.lowering_fits.specs.of_zpl_meaning.Scalars.{IsScalarName, IsScalar}
use Rattle.node_form.specs.declared.tables.Tables.{Tables}
use Rattle.node_form.specs.Expression.{Expression}
use Rattle.node_form.specs.Expression as word
use Rattle.row_runs.specs.Structured as code
use Rattle.lowering_fits.specs.of_flat_form.Whole.{Whole}
use Rattle.lowering_fits.specs.of_zpl_lowering.Where.{Where, Next, Slotted, slotted_at}
use Rattle.lowering_fits.specs.of_zpl_lowering.Words.{thing_code, scalar_code}
use Rattle.lowering_fits.specs.of_zpl_lowering.Slate as slate
use Rattle.lowering_fits.specs.of_zpl_lowering.Slate.{Slate, Slates, NoSlate, ThenSlate, Settled, Placed, named_slate, settled, settled_each}
use Rattle.lowering_fits.specs.of_zpl_lowering.Reference.{needs, conforming, all_conforming, referred, all_referred}
use Rattle.lowering_fits.specs.of_zpl_lowering.Hoist as hoist
use Rattle.lowering_fits.specs.of_zpl_lowering.Hoist.{Hoisted, Free, hoisted, all_hoisted, unary_code}
use Rattle.lowering_fits.specs.of_zpl_lowering.Lowered as low
use Rattle.lowering_fits.specs.of_zpl_lowering.Lowered.{Lowered, Phased, phased}
use Rattle.lowering_runs.specs.Run.{does}

-- code that does nothing, with nothing of its own
pub record IsIdle (A : Type 0) (hoisted : Hoisted A) (left : A) : Type 0 where
  pub left_is : hoisted.left ≡ left
  pub scalars : hoisted.scalars ≡ 0
  pub temps : hoisted.temps ≡ []
  pub shifts : hoisted.shifts ≡ []
  pub still : (tables : Tables) (n : ℕ) (whole : Whole)
      → does tables n hoisted.code whole ≡ code.goes_on whole

-- a slate that has none
pub record IsBare (w : Where) (line : ℕ) (one : Slate) (expr : Expression) : Type 0 where
  pub conforms : conforming line one ≡ []
  pub refers : referred w.numbers one ≡ []
  pub hoists : (free : Free) → IsIdle Expression (hoisted w.numbers line free one) expr

pub record Settles (w : Where) (line : ℕ) (next : Next) (rank : Rank) (expr : Expr) : Type 0 where
  pub one : Slate
  pub is : settled w line next rank expr ≡ slate.alone one
  pub bare : IsBare w line one (scalar_code w expr)

alone_idle : {A : Type 0} (left : A) → IsIdle A (hoist.alone left) left
alone_idle left = record {
  left_is = refl;
  scalars = refl;
  temps = refl;
  shifts = refl;
  still = λ tables n whole. refl;
}

mapped_idle : {A B : Type 0} (f : A → B) (one : Hoisted A) (left : A) → IsIdle A one left
    → IsIdle B (hoist.mapped f one) (f left)
mapped_idle f one left h = record {
  left_is = ap f h.left_is;
  scalars = h.scalars;
  temps = h.temps;
  shifts = h.shifts;
  still = h.still;
}

both_idle : {A B C : Type 0} (f : A → B → C) (one : Hoisted A) (other : Hoisted B) (a : A) (b : B)
    → IsIdle A one a → IsIdle B other b → IsIdle C (hoist.both f one other) (f a b)
both_idle f one other a b h k = record {
  left_is = ap (λ x. f x other.left) h.left_is ∙ ap (λ y. f a y) k.left_is;
  scalars = ap (λ i. i + other.scalars) h.scalars ∙ ap (λ i. 0 + i) k.scalars;
  temps = ap (λ ts. ts ++ other.temps) h.temps ∙ k.temps;
  shifts = ap (λ ts. ts ++ other.shifts) h.shifts ∙ k.shifts;
  still = λ tables n whole.
      ap (λ c. code.then_do c (does tables n other.code)) (h.still tables n whole)
      ∙ k.still tables n whole;
}

constant_bare : (w : Where) (line : ℕ) (value : ℤ)
    → IsBare w line (slate.Constant value) (word.Constant value)
constant_bare w line value = record {
  conforms = refl;
  refers = refl;
  hoists = λ free. alone_idle (word.Constant value);
}

thing_bare : (w : Where) (line : ℕ) (over : Slotted) (thing : Option Thing) → IsScalarName thing
    → IsBare w line (named_slate over thing) (thing_code w.numbers thing)
thing_bare w line over (Some (Scalar place)) h = record {
  conforms = refl;
  refers = refl;
  hoists = λ free. alone_idle _;
}
thing_bare w line over (Some (Fixed value)) h = constant_bare w line value
thing_bare w line over (Some (ArrayAt place home)) h = absurd h
thing_bare w line over None h = constant_bare w line (pos 0)

unary_bare : (w : Where) (line : ℕ) (op : UnaryOp) (one : Slate) (expr : Expression)
    → IsBare w line one expr → IsBare w line (slate.Unary op one) (unary_code op expr)
unary_bare w line op one expr h = record {
  conforms = h.conforms;
  refers = h.refers;
  hoists = λ free. mapped_idle (unary_code op) (hoisted w.numbers line free one) expr
      (h.hoists free);
}

unary_settles : (w : Where) (line : ℕ) (next : Next) (rank : Rank) (op : UnaryOp) (expr : Expr)
    (made : Expr) → settled w line next rank made
    ≡ slate.mapped (slate.Unary op) (settled w line next rank expr)
    → scalar_code w made ≡ unary_code op (scalar_code w expr)
    → Settles w line next rank expr → Settles w line next rank made
unary_settles w line next rank op expr made e f h = record {
  one = slate.Unary op h.one;
  is = e ∙ ap (slate.mapped (slate.Unary op)) h.is;
  bare = subst (λ (x : Expression). IsBare w line (slate.Unary op h.one) x) (sym f)
      (unary_bare w line op h.one (scalar_code w expr) h.bare);
}

pub settles : (w : Where) (line : ℕ) (next : Next) (rank : Rank) (expr : Expr)
    → IsScalar w.environment expr → Settles w line next rank expr
settles w line next rank (Number at value) h =
    record { one = slate.Constant value; is = refl; bare = constant_bare w line value }
settles w line next rank (Truth at value) h =
    record { one = slate.Constant (truth value); is = refl; bare = constant_bare w line (truth value) }
settles w line next rank (Named at name) h = record {
  one = named_slate (slotted_at w.currents rank) (thing_of w.environment name.text);
  is = refl;
  bare = thing_bare w line (slotted_at w.currents rank) (thing_of w.environment name.text) h;
}
settles w line next rank (Paren at inside) h =
    let s = settles w line next rank inside h in record { one = s.one; is = s.is; bare = s.bare }
settles w line next rank (Neg at operand) h =
    unary_settles w line next rank unary.Neg operand (Neg at operand) refl refl
    (settles w line next rank operand h)
settles w line next rank (Not at operand) h =
    unary_settles w line next rank unary.Not operand (Not at operand) refl refl
    (settles w line next rank operand h)
settles w line next rank (Abs at operand) h =
    unary_settles w line next rank unary.Abs operand (Abs at operand) refl refl
    (settles w line next rank operand h)
settles w line next rank (Pair at op left right) h =
    let s = settles w line next rank left h.0 in
    let r = settles w line (slate.behind next (settled w line next rank left)) rank right h.1 in
    record {
      one = slate.Binary op s.one r.one;
      is = ap (λ c. slate.both (slate.Binary op) c
          (settled w line (slate.behind next (settled w line next rank left)) rank right)) s.is
          ∙ ap (λ c. slate.both (slate.Binary op) (slate.alone s.one) c) r.is;
      bare = record {
        conforms = ap (λ rows. rows ++ conforming line r.one) s.bare.conforms ∙ r.bare.conforms;
        refers = ap (λ rs. rs ++ referred w.numbers r.one) s.bare.refers ∙ r.bare.refers;
        hoists = λ free.
            both_idle (word.Operation op) (hoisted w.numbers line free s.one)
            (hoisted w.numbers line (hoist.behind free (hoisted w.numbers line free s.one)) r.one)
            (scalar_code w left) (scalar_code w right) (s.bare.hoists free)
            (r.bare.hoists (hoist.behind free (hoisted w.numbers line free s.one)));
      };
    }
settles w line next rank (Coord at k) h = absurd h
settles w line next rank (Shifted at name shift) h = absurd h
settles w line next rank (Around at name shift) h = absurd h
settles w line next rank (Remap at name indices) h = absurd h
settles w line next rank (Call at name actuals) h = absurd h
settles w line next rank (Reduce at operator over operand) h = absurd h
settles w line next rank (Scan at operator along operand) h = absurd h
settles w line next rank (Flood at source operand) h = absurd h

-- ---- the expressions of a statement

abbrev pub AreScalarsOf : Where → List Placed → Type 0
AreScalarsOf w [] = Unit {0}
AreScalarsOf w (placed ∷ rest) = IsScalar w.environment placed.expr × AreScalarsOf w rest

abbrev pub codes_of : Where → List Placed → List Expression
codes_of w exprs = map (λ placed. scalar_code w placed.expr) exprs

pub record AllSettle (w : Where) (line : ℕ) (next : Next) (exprs : List Placed) : Type 0 where
  pub all : Slates
  pub is : settled_each w line next exprs ≡ slate.alone all
  pub conforms : all_conforming line all ≡ []
  pub refers : all_referred w.numbers all ≡ []
  pub hoists : (free : Free)
      → IsIdle (List Expression) (all_hoisted w.numbers line free all) (codes_of w exprs)

pub all_settle : (w : Where) (line : ℕ) (next : Next) (exprs : List Placed) → AreScalarsOf w exprs
    → AllSettle w line next exprs
all_settle w line next [] h = record {
  all = NoSlate;
  is = refl;
  conforms = refl;
  refers = refl;
  hoists = λ free. alone_idle [];
}
all_settle w line next (placed ∷ rest) h =
    let s = settles w line next placed.rank placed.expr h.0 in
    let more = slate.behind next (settled w line next placed.rank placed.expr) in
    let r = all_settle w line more rest h.1 in
    record {
      all = ThenSlate s.one r.all;
      is = ap (λ c. slate.both ThenSlate c (settled_each w line more rest)) s.is
          ∙ ap (λ c. slate.both ThenSlate (slate.alone s.one) c) r.is;
      conforms = ap (λ rows. rows ++ all_conforming line r.all) s.bare.conforms ∙ r.conforms;
      refers = ap (λ rs. rs ++ all_referred w.numbers r.all) s.bare.refers ∙ r.refers;
      hoists = λ free.
          both_idle (λ one others. one ∷ others) (hoisted w.numbers line free s.one)
          (all_hoisted w.numbers line (hoist.behind free (hoisted w.numbers line free s.one)) r.all)
          (scalar_code w placed.expr) (codes_of w rest) (s.bare.hoists free)
          (r.hoists (hoist.behind free (hoisted w.numbers line free s.one)));
    }

-- phases that do nothing, with nothing of their own, and what they leave
pub record ArePassed (phases : Phased) (left : List Expression) : Type 0 where
  pub left_is : phases.left ≡ left
  pub scalars : phases.lowered.scalars ≡ 0
  pub slots : phases.lowered.slots ≡ []
  pub arrays : phases.lowered.arrays ≡ []
  pub still : (tables : Tables) (n : ℕ) (whole : Whole)
      → does tables n phases.lowered.code whole ≡ code.goes_on whole

pub all_passed : (w : Where) (line : ℕ) (next : Next) (exprs : List Placed) → AreScalarsOf w exprs
    → ArePassed (phased w line next exprs) (codes_of w exprs)
all_passed w line next exprs h =
    let s = all_settle w line next exprs h in
    subst (λ (settled : Settled Slates). ArePassed
    (low.phases_of line [] (all_referred w.numbers settled.slate ++ []) settled
    (all_hoisted w.numbers line (low.free_at next 0) settled.slate)) (codes_of w exprs)) (sym s.is)
    (let i = s.hoists (low.free_at next 0) in
    record {
      left_is = i.left_is;
      scalars = i.scalars;
      slots = refl;
      arrays = refl;
      still = λ tables n whole.
          ap (λ rows. code.then_do (does tables n (code.Rows ([] ++ (rows
          ++ needs line ([] ++ (all_referred w.numbers s.all ++ []))))) whole)
          (does tables n (all_hoisted w.numbers line (low.free_at next 0) s.all).code)) s.conforms
          ∙ ap (λ rs. code.then_do (does tables n (code.Rows ([] ++ ([]
          ++ needs line ([] ++ (rs ++ []))))) whole)
          (does tables n (all_hoisted w.numbers line (low.free_at next 0) s.all).code)) s.refers
          ∙ i.still tables n whole;
    })
