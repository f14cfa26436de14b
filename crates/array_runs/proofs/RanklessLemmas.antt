-- An expression of scalars is settled in one way, whatever its rank is.
use Rattle.std.proofs.Common.{◌≡◌, refl, ◌∙◌, ap, ℕ, Option, Some, None}
use Rattle.zpl_nums.specs.declared.operators.UnaryOp.TheVariants as unary
use Rattle.zpl_tree.specs.Syntax.{Expr, Number, Truth, Coord, Named, Shifted, Around, Remap, Call, Paren, Neg, Not, Abs, Pair, Reduce, Scan, Flood}
use Rattle.zpl_names.specs.Kinds.{Rank}
use Rattle.array_puts.specs.of_zpl_meaning.Computed as mean
use Rattle.array_puts.specs.of_zpl_meaning.Computed.{both_then, computed_then}
use Rattle.array_puts.specs.of_zpl_meaning.Store.{Store, Thing, Scalar, ArrayAt, Fixed, thing_of}
use Rattle.array_puts.specs.of_zpl_meaning.Context.{Over, Place, over_at}
use Rattle.array_puts.specs.of_zpl_meaning.Scalars.{IsScalarName, IsScalar}
use Rattle.array_puts.specs.of_zpl_meaning.Settled as meant
use Rattle.array_puts.specs.of_zpl_meaning.Settled.{named_term}
use Rattle.array_puts.specs.of_zpl_meaning.Term as term
use Rattle.array_puts.specs.of_zpl_meaning.Term.{Term}
use Rattle.lowering_runs.specs.of_zpl_lowering.Where.{Slotted, Where, Next, slotted_at}
use Rattle.lowering_runs.specs.of_zpl_lowering.Slate as slate
use Rattle.lowering_runs.specs.of_zpl_lowering.Slate.{Slate, Settled, settled, named_slate}

-- ---- in the meaning

term_any : (one other : Over) (thing : Option Thing) → IsScalarName thing
    → named_term one thing ≡ named_term other thing
term_any one other (Some (Scalar place)) h = refl
term_any one other (Some (Fixed value)) h = refl
term_any one other (Some (ArrayAt place home)) h = absurd h
term_any one other None h = refl

pub meant_any : (place : Place) (store : Store) (r q : Rank) (expr : Expr)
    → IsScalar place.environment expr
    → meant.settled place store r expr ≡ meant.settled place store q expr
meant_any place store r q (Number at value) h = refl
meant_any place store r q (Truth at value) h = refl
meant_any place store r q (Named at name) h =
    ap (λ (t : Term). mean.Gives t)
    (term_any (over_at place.currents r) (over_at place.currents q)
    (thing_of place.environment name.text) h)
meant_any place store r q (Paren at inside) h = meant_any place store r q inside h
meant_any place store r q (Neg at operand) h =
    ap (λ c. computed_then c (λ t. mean.Gives (term.Unary unary.Neg t)))
    (meant_any place store r q operand h)
meant_any place store r q (Not at operand) h =
    ap (λ c. computed_then c (λ t. mean.Gives (term.Unary unary.Not t)))
    (meant_any place store r q operand h)
meant_any place store r q (Abs at operand) h =
    ap (λ c. computed_then c (λ t. mean.Gives (term.Unary unary.Abs t)))
    (meant_any place store r q operand h)
meant_any place store r q (Pair at op left right) h =
    ap (λ c. both_then c (meant.settled place store r right)
    (λ one other. mean.Gives (term.Binary op one other))) (meant_any place store r q left h.0)
    ∙ ap (λ c. both_then (meant.settled place store q left) c
    (λ one other. mean.Gives (term.Binary op one other))) (meant_any place store r q right h.1)
meant_any place store r q (Coord at k) h = absurd h
meant_any place store r q (Shifted at name shift) h = absurd h
meant_any place store r q (Around at name shift) h = absurd h
meant_any place store r q (Remap at name indices) h = absurd h
meant_any place store r q (Call at name actuals) h = absurd h
meant_any place store r q (Reduce at operator over operand) h = absurd h
meant_any place store r q (Scan at operator along operand) h = absurd h
meant_any place store r q (Flood at source operand) h = absurd h

-- ---- in code

slate_any : (one other : Slotted) (thing : Option Thing) → IsScalarName thing
    → named_slate one thing ≡ named_slate other thing
slate_any one other (Some (Scalar place)) h = refl
slate_any one other (Some (Fixed value)) h = refl
slate_any one other (Some (ArrayAt place home)) h = absurd h
slate_any one other None h = refl

pub code_any : (w : Where) (line : ℕ) (next : Next) (r q : Rank) (expr : Expr)
    → IsScalar w.environment expr → settled w line next r expr ≡ settled w line next q expr
code_any w line next r q (Number at value) h = refl
code_any w line next r q (Truth at value) h = refl
code_any w line next r q (Named at name) h =
    ap (λ (s : Slate). slate.alone s)
    (slate_any (slotted_at w.currents r) (slotted_at w.currents q)
    (thing_of w.environment name.text) h)
code_any w line next r q (Paren at inside) h = code_any w line next r q inside h
code_any w line next r q (Neg at operand) h =
    ap (slate.mapped (slate.Unary unary.Neg)) (code_any w line next r q operand h)
code_any w line next r q (Not at operand) h =
    ap (slate.mapped (slate.Unary unary.Not)) (code_any w line next r q operand h)
code_any w line next r q (Abs at operand) h =
    ap (slate.mapped (slate.Unary unary.Abs)) (code_any w line next r q operand h)
code_any w line next r q (Pair at op left right) h =
    ap (λ (x : Settled Slate). slate.both (slate.Binary op) x
    (settled w line (slate.behind next x) r right)) (code_any w line next r q left h.0)
    ∙ ap (slate.both (slate.Binary op) (settled w line next q left))
    (code_any w line (slate.behind next (settled w line next q left)) r q right h.1)
code_any w line next r q (Coord at k) h = absurd h
code_any w line next r q (Shifted at name shift) h = absurd h
code_any w line next r q (Around at name shift) h = absurd h
code_any w line next r q (Remap at name indices) h = absurd h
code_any w line next r q (Call at name actuals) h = absurd h
code_any w line next r q (Reduce at operator over operand) h = absurd h
code_any w line next r q (Scan at operator along operand) h = absurd h
code_any w line next r q (Flood at source operand) h = absurd h
