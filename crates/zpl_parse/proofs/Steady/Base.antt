-- A rule gives the same with any bound on its lists that is greater than the number of lexemes: how
-- one rule's steadiness
-- follows from that of those that it is made of.
use Rattle.std.proofs.Common.{◌≡◌, ℕ, zero, suc, ◌+◌, ◌<◌, ◌≤◌, Bool, true, false, List, [], ◌∷◌, length, Option, Some, None, refl, sym, ◌∙◌, ap, subst, arith}
use Rattle.std.specs.Bool.{⊤}
use Rattle.zpl_tokens.specs.declared.Kind.{Kind}
use Rattle.zpl_tokens.specs.declared.Kind.TheVariants as kind
use Rattle.zpl_grammar.specs.Lexeme.{Lexeme, head_kind, behind}
use Rattle.zpl_parse.specs.Outcome.{Outcome, Done, Wrong, Deep, Reader, and_then, made}
use Rattle.zpl_parse.specs.Tokens.{next_is}

-- so many fewer lexemes are left, or more, where the rule is done
abbrev pub Leaves : {A : Type 0} → ℕ → List Lexeme → Outcome A → Type 0
Leaves d lexemes (Done tree rest) = length rest + d ≤ length lexemes
Leaves d lexemes (Wrong rest) = ⊤
Leaves d lexemes (Deep rest) = ⊤

pub record IsSteadyAt (d : ℕ) {A : Type 0} (lexemes : List Lexeme) (outcome other : Outcome A) :
    Type 0 where
  pub equal : outcome ≡ other
  pub fewer : Leaves d lexemes outcome

-- on at most k lexemes the two are the same, and take d or more
pub record IsSteady (d k : ℕ) {A : Type 0} (reader other : Reader A) : Type 0 where
  pub at : (lexemes : List Lexeme) → length lexemes ≤ k
      → IsSteadyAt d lexemes (reader lexemes) (other lexemes)

pub steady_less : {d k j : ℕ} {A : Type 0} {p p' : Reader A} → j ≤ k → IsSteady d k p p'
    → IsSteady d j p p'
steady_less below h = record { at = λ l within. h.at l (omega arith) }

loose_at : {A : Type 0} (d : ℕ) (l : List Lexeme) (o : Outcome A) → Leaves d l o → Leaves 0 l o
loose_at d l (Done tree rest) h = omega arith
loose_at d l (Wrong rest) h = tt
loose_at d l (Deep rest) h = tt

pub steady_loose : {d k : ℕ} {A : Type 0} {p p' : Reader A} → IsSteady d k p p' → IsSteady 0 k p p'
steady_loose {d = d} {p = p} h = record {
  at = λ l within. let here = h.at l within in
      record { equal = here.equal; fewer = loose_at d l (p l) here.fewer };
}

-- ---- one rule, and then another
then_at : {A B : Type 0} (d e k : ℕ) (q q' : A → Reader B) →
    ((tree : A) (j : ℕ) → j + d ≤ k → IsSteady e j (q tree) (q' tree)) → (l : List Lexeme)
    → length l ≤ k →
    (o : Outcome A) → Leaves d l o → IsSteadyAt d l (and_then o q) (and_then o q')
then_at d e k q q' h l within (Done tree rest) fewer =
    let here = (h tree (length rest) (omega arith)).at rest (omega arith) in
    record { equal = here.equal; fewer = more (q tree rest) here.fewer }
  where
    more : {B : Type 0} (o : Outcome B) → Leaves e rest o → Leaves d l o
    more (Done tree last) left = omega arith
    more (Wrong last) left = tt
    more (Deep last) left = tt
then_at d e k q q' h l within (Wrong rest) fewer = record { equal = refl; fewer = tt }
then_at d e k q q' h l within (Deep rest) fewer = record { equal = refl; fewer = tt }

-- where the first one takes some, the second one has fewer
pub steady_after : {d e k : ℕ} {A B : Type 0} {p p' : Reader A} {q q' : A → Reader B}
    → IsSteady d k p p' →
    ((tree : A) (j : ℕ) → j + d ≤ k → IsSteady e j (q tree) (q' tree))
    → IsSteady d k (λ l. and_then (p l) q) (λ l. and_then (p' l) q')
steady_after {d} {e} {k} {A} {B} {p} {p'} {q} {q'} first second = record { at = go }
  where
    go : (l : List Lexeme) → length l ≤ k → IsSteadyAt d l (and_then (p l) q) (and_then (p' l) q')
    go l within =
        let here = first.at l within in
        subst (λ o. IsSteadyAt d l (and_then (p l) q) (and_then o q')) here.equal
        (then_at d e k q q' second l within (p l) here.fewer)

pub steady_then : {d e k : ℕ} {A B : Type 0} {p p' : Reader A} {q q' : A → Reader B}
    → IsSteady d k p p' →
    ((tree : A) → IsSteady e k (q tree) (q' tree))
    → IsSteady d k (λ l. and_then (p l) q) (λ l. and_then (p' l) q')
steady_then first second =
    steady_after first (λ tree j below. steady_less (omega arith) (second tree))

-- where the second one takes some
pub steady_last : {e k : ℕ} {A B : Type 0} {p p' : Reader A} {q q' : A → Reader B}
    → IsSteady 0 k p p' →
    ((tree : A) → IsSteady e k (q tree) (q' tree))
    → IsSteady e k (λ l. and_then (p l) q) (λ l. and_then (p' l) q')
steady_last {e} {k} {A} {B} {p} {p'} {q} {q'} first second = record { at = go }
  where
    more : (l rest : List Lexeme) → length rest ≤ length l → (o : Outcome B) → Leaves e rest o
        → Leaves e l o
    more l rest short (Done tree last) left = omega arith
    more l rest short (Wrong last) left = tt
    more l rest short (Deep last) left = tt

    by : (l : List Lexeme) → length l ≤ k → (o : Outcome A) → Leaves 0 l o
        → IsSteadyAt e l (and_then o q) (and_then o q')
    by l within (Done tree rest) fewer =
        let here = (second tree).at rest (omega arith) in
        record { equal = here.equal; fewer = more l rest (omega arith) (q tree rest) here.fewer }
    by l within (Wrong rest) fewer = record { equal = refl; fewer = tt }
    by l within (Deep rest) fewer = record { equal = refl; fewer = tt }

    go : (l : List Lexeme) → length l ≤ k → IsSteadyAt e l (and_then (p l) q) (and_then (p' l) q')
    go l within =
        let here = first.at l within in
        subst (λ o. IsSteadyAt e l (and_then (p l) q) (and_then o q')) here.equal
        (by l within (p l) here.fewer)

-- ---- the same outcome with another tree
made_fewer : {A B : Type 0} (d : ℕ) (l : List Lexeme) (f : A → B) (o : Outcome A) → Leaves d l o
    → Leaves d l (made f o)
made_fewer d l f (Done tree rest) h = h
made_fewer d l f (Wrong rest) h = tt
made_fewer d l f (Deep rest) h = tt

pub steady_made : {d k : ℕ} {A B : Type 0} {p p' : Reader A} (f : A → B) → IsSteady d k p p'
    → IsSteady d k (λ l. made f (p l)) (λ l. made f (p' l))
steady_made {d = d} {p = p} f h = record {
  at = λ l within. let here = h.at l within in record {
    equal = ap (made f) here.equal;
    fewer =
        made_fewer d l f (p l) here.fewer;
  };
}

-- ---- what takes nothing
pub steady_done : {k : ℕ} {A : Type 0} {tree : List Lexeme → A}
    → IsSteady 0 k (λ l. Done (tree l) l) (λ l. Done (tree l) l)
steady_done = record { at = λ l within. record { equal = refl; fewer = omega arith } }

pub steady_wrong : {d k : ℕ} {A : Type 0} → IsSteady d k {A = A} (λ l. Wrong l) (λ l. Wrong l)
steady_wrong = record { at = λ l within. record { equal = refl; fewer = tt } }

-- ---- a rule that knows no bound
pub steady_same : {d k : ℕ} {A : Type 0} (p : Reader A) → ((l : List Lexeme) → Leaves d l (p l))
    → IsSteady d k p p
steady_same p fewer = record { at = λ l within. record { equal = refl; fewer = fewer l } }

-- ---- behind a lexeme
behind_fewer : (l : List Lexeme) → length (behind l) ≤ length l
behind_fewer [] = omega arith
behind_fewer (x ∷ rest) = omega arith

back_fewer : {A : Type 0} (l : List Lexeme) (o : Outcome A) → Leaves 0 (behind l) o → Leaves 0 l o
back_fewer l (Done tree rest) h = omega (arith, behind_fewer l)
back_fewer l (Wrong rest) h = tt
back_fewer l (Deep rest) h = tt

pub steady_behind : {k : ℕ} {A : Type 0} {p p' : Reader A} → IsSteady 0 k p p'
    → IsSteady 0 k (λ l. p (behind l)) (λ l. p' (behind l))
steady_behind {p = p} h = record {
  at = λ l within.
      let here = h.at (behind l) (omega (arith, behind_fewer l)) in
      record { equal = here.equal; fewer = back_fewer l (p (behind l)) here.fewer };
}

one_fewer : {A : Type 0} (x : Lexeme) (rest : List Lexeme) (o : Outcome A) → Leaves 0 rest o
    → Leaves 1 (x ∷ rest) o
one_fewer x rest (Done tree last) h = omega arith
one_fewer x rest (Wrong last) h = tt
one_fewer x rest (Deep last) h = tt

-- behind one that is there
pub behind_one : {k : ℕ} {A : Type 0} {p p' : Reader A} → ((j : ℕ) → j < k → IsSteady 0 j p p')
    → (x : Lexeme) (rest : List Lexeme) →
    length (x ∷ rest) ≤ k → IsSteadyAt 1 (x ∷ rest) (p rest) (p' rest)
behind_one {p = p} h x rest within =
    let here = (h (length rest) (omega arith)).at rest (omega arith) in
    record { equal = here.equal; fewer = one_fewer x rest (p rest) here.fewer }

-- ---- by a test of what stands there
pub steady_if : {d k : ℕ} {A : Type 0} (test : List Lexeme → Bool) {p p' q q' : Reader A}
    → IsSteady d k p p' → IsSteady d k q q' →
    IsSteady d k (λ l. elim (test l) [ true ↦ p l | false ↦ q l ]) (λ l. elim (test l) [
      | true ↦
          p' l
      | false ↦ q' l
    ])
steady_if {d} {k} {A} test {p} {p'} {q} {q'} h g = record { at = λ l within. go l within (test l) }
  where
    go : (l : List Lexeme) → length l ≤ k → (b : Bool) →
        IsSteadyAt d l (elim b [ true ↦ p l | false ↦ q l ]) (elim b [ true ↦ p' l | false ↦ q' l ])
    go l within true = h.at l within
    go l within false = g.at l within

-- ---- a lexeme of a kind is taken, or another rule follows
loosen : {A : Type 0} (d : ℕ) {l : List Lexeme} (o other : Outcome A) → IsSteadyAt d l o other
    → IsSteadyAt 0 l o other
loosen d {l = l} o other h = record { equal = h.equal; fewer = loose_at d l o h.fewer }

pub steady_next : {k : ℕ} {A : Type 0} (wanted : Kind) {p p' q q' : Reader A}
    → ((j : ℕ) → j < k → IsSteady 0 j p p') → IsSteady 0 k q q' →
    IsSteady 0 k (λ l. elim (next_is wanted l) [ true ↦ p (behind l) | false ↦ q l ]) (λ l.
    elim (next_is wanted l) [ true ↦ p' (behind l) | false ↦ q' l ])
steady_next {k} {A} wanted {p} {p'} {q} {q'} h g = record { at = go }
  where
    by : (x : Lexeme) (rest : List Lexeme) → length (x ∷ rest) ≤ k → (b : Bool) →
        IsSteadyAt 0 (x ∷ rest) (elim b [ true ↦ p rest | false ↦ q (x ∷ rest) ]) (elim b [
          | true ↦
              p' rest
          | false ↦ q' (x ∷ rest)
        ])
    by x rest within true =
        loosen 1 (p rest) (p' rest) (behind_one {k = k} {p = p} {p' = p'} h x rest within)
    by x rest within false = g.at (x ∷ rest) within

    go : (l : List Lexeme) → length l ≤ k →
        IsSteadyAt 0 l (elim (next_is wanted l) [
          | true ↦ p (behind l)
          | false ↦
              q l
        ]) (elim (next_is wanted l) [ true ↦ p' (behind l) | false ↦ q' l ])
    go [] within = g.at [] within
    go (x ∷ rest) within = by x rest within (next_is wanted (x ∷ rest))

-- one of a class is taken, or another rule follows
pub steady_some : {k : ℕ} {A B : Type 0} (f : Kind → Option B) {p p' : Reader A} {q q' : B
    → Reader A} → f kind.End ≡ None →
    ((b : B) (j : ℕ) → j < k → IsSteady 0 j (q b) (q' b)) → IsSteady 0 k p p' →
    IsSteady 0 k (λ l. elim (f (head_kind l)) [ None ↦ p l | Some b ↦ q b (behind l) ]) (λ l.
    elim (f (head_kind l)) [ None ↦ p' l | Some b ↦ q' b (behind l) ])
steady_some {k} {A} {B} f {p} {p'} {q} {q'} none h g = record { at = go }
  where
    by : (x : Lexeme) (rest : List Lexeme) → length (x ∷ rest) ≤ k → (o : Option B) →
        IsSteadyAt 0 (x ∷ rest) (elim o [
          | None ↦ p (x ∷ rest)
          | Some b ↦
              q b rest
        ]) (elim o [ None ↦ p' (x ∷ rest) | Some b ↦ q' b rest ])
    by x rest within None = g.at (x ∷ rest) within
    by x rest within (Some b) =
        loosen 1 (q b rest) (q' b rest) (behind_one {k = k} {p = q b} {p' =
        q' b} (h b) x rest within)

    go : (l : List Lexeme) → length l ≤ k →
        IsSteadyAt 0 l (elim (f (head_kind l)) [ None ↦ p l | Some b ↦ q b (behind l) ])
        (elim (f (head_kind l)) [ None ↦ p' l | Some b ↦ q' b (behind l) ])
    go [] within =
        subst (λ o. IsSteadyAt 0 [] (elim o [ None ↦ p [] | Some b ↦ q b [] ]) (elim o [
          | None ↦
              p' []
          | Some b ↦ q' b []
        ])) (sym none) (g.at [] within)
    go (x ∷ rest) within = by x rest within (f x.kind)

-- by what is told of the lexemes, whatever that is
pub steady_by : {d k : ℕ} {A B : Type 0} (test : List Lexeme → B) {p p' : B → Reader A}
    → ((b : B) → IsSteady d k (p b) (p' b)) →
    IsSteady d k (λ l. p (test l) l) (λ l. p' (test l) l)
steady_by test h = record { at = λ l within. (h (test l)).at l within }

-- ---- by the first lexeme
pub steady_cons : {d k : ℕ} {A : Type 0} {p p' : Reader A} → IsSteadyAt d [] (p []) (p' []) →
    ((x : Lexeme) (rest : List Lexeme) → length (x ∷ rest) ≤ k
    → IsSteadyAt d (x ∷ rest) (p (x ∷ rest)) (p' (x ∷ rest))) → IsSteady d k p p'
steady_cons {d} {k} {A} {p} {p'} none some = record { at = go }
  where
    go : (l : List Lexeme) → length l ≤ k → IsSteadyAt d l (p l) (p' l)
    go [] within = none
    go (x ∷ rest) within = some x rest within

-- ---- a list's rule, which turns no more often than there are lexemes
loop_at : {X A : Type 0} (d : ℕ) (p p' : ℕ → X → Reader A) →
    ((m m' k : ℕ) → k ≤ m → k ≤ m' → ((x : X) (j : ℕ) → j < k → IsSteady d j (p m x) (p' m' x))
    → (x : X) → IsSteady d k (p (suc m) x) (p' (suc m') x)) →
    (m m' k : ℕ) → k < m → k < m' → (x : X) → IsSteady d k (p m x) (p' m' x)
loop_at d p p' step zero m' k a b x = absurd (omega arith)
loop_at d p p' step (suc m) zero k a b x = absurd (omega arith)
loop_at d p p' step (suc m) (suc m') k a b x =
    step m m' k (omega arith) (omega arith) (λ y j below. loop_at d p p' step m m' j (omega arith)
    (omega arith) y) x

pub steady_turns : {A : Type 0} {d : ℕ} (p p' : ℕ → Reader A) →
    ((m m' k : ℕ) → k ≤ m → k ≤ m' → ((j : ℕ) → j < k → IsSteady d j (p m) (p' m'))
    → IsSteady d k (p (suc m)) (p' (suc m'))) →
    {m m' k : ℕ} → k < m → k < m' → IsSteady d k (p m) (p' m')
steady_turns {d = d} p p' step {m} {m'} {k} a b =
    loop_at d (λ m x. p m) (λ m x. p' m) (λ m m' k within within' before x.
    step m m' k within within' (before x)) m m' k a b (tt {0})
