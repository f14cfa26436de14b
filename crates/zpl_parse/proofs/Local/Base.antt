-- A reader's outcome rests on the lexemes that it took and on the first one that it left.
use Rattle.std.proofs.Common.{◌≡◌, Bool, true, false, List, [], ◌∷◌, ◌++◌, Option, Some, None, refl, sym, ◌∙◌, ap, subst, append_assoc}
use Rattle.std.specs.Bool.{⊤}
use Rattle.zpl_grammar.specs.Lexeme.{Lexeme, behind}
use Rattle.zpl_parse.specs.Outcome.{Outcome, Done, Wrong, Deep, Reader, and_then, made}

-- both begin with the same lexeme
abbrev pub SameHead : List Lexeme → List Lexeme → Type 0
SameHead [] others = ⊥
SameHead (x ∷ rest) [] = ⊥
SameHead (x ∷ rest) (y ∷ others) = x ≡ y

abbrev pub IsWrong : {A : Type 0} → Outcome A → Type 0
IsWrong (Done tree rest) = ⊥
IsWrong (Wrong rest) = ⊤
IsWrong (Deep rest) = ⊥

abbrev pub IsNotDone : {A : Type 0} → Outcome A → Type 0
IsNotDone (Done tree rest) = ⊥
IsNotDone (Wrong rest) = ⊤
IsNotDone (Deep rest) = ⊤

-- What one reader makes of the lexemes tells what the other makes of those that were taken and any
-- others behind them, where
-- the first one that was left is the same: Done with the same tree; Wrong, where Exact; and behind
-- those with which a tree got
-- too deep whatever stands there is not Done, where Sure.
abbrev pub LocalAt : (Exact Sure : Type 0) {A : Type 0} → Reader A → List Lexeme → Outcome A
    → Type 0
LocalAt Exact Sure other lexemes (Done tree rest) =
    (front : List Lexeme) × (lexemes ≡ front ++ rest) ×
    ((others : List Lexeme) → SameHead rest others → other (front ++ others) ≡ Done tree others)
LocalAt Exact Sure other lexemes (Wrong rest) =
    (front : List Lexeme) × (lexemes ≡ front ++ rest) ×
    (Exact → (others : List Lexeme) → SameHead rest others → IsWrong (other (front ++ others)))
LocalAt Exact Sure other lexemes (Deep rest) =
    (first : Lexeme) × (front : List Lexeme) × (lexemes ≡ first ∷ (front ++ rest)) ×
    (Sure → (others : List Lexeme) → IsNotDone (other (first ∷ (front ++ others))))

pub record IsLocal (Exact Sure : Type 0) {A : Type 0} (reader other : Reader A) : Type 0 where
  pub at : (lexemes : List Lexeme) → LocalAt Exact Sure other lexemes (reader lexemes)

pub same_behind : (front rest others : List Lexeme) → SameHead rest others
    → SameHead (front ++ rest) (front ++ others)
same_behind [] rest others same = same
same_behind (x ∷ front) rest others same = refl

-- one rule, and then another
join : (lexemes one two first second : List Lexeme) → lexemes ≡ one ++ first → first ≡ two ++ second
    → lexemes ≡ (one ++ two) ++ second
join lexemes one two first second e f = rw (e, f) (sym (append_assoc one two second))

and_then_goes : {A B : Type 0} (p : Reader A) (q : A
    → Reader B) (tree : A) (one two others first : List Lexeme) →
    first ≡ two ++ others → p (one ++ first) ≡ Done tree first
    → and_then (p ((one ++ two) ++ others)) q ≡ q tree (two ++ others)
and_then_goes p q tree one two others first e h =
    let same : p ((one ++ two) ++ others) ≡ Done tree (two ++ others) =
    rw (append_assoc one two others) (subst (λ l. p (one ++ l) ≡ Done tree l) e h) in
    ap (λ o. and_then o q) same

and_then_deep : (Exact Sure : Type 0) {A B : Type 0} (p : Reader A) (q : A
    → Reader B) (tree : A) (lexemes rest left one : List Lexeme) →
    lexemes ≡ one ++ rest → ((others : List Lexeme) → SameHead rest others → p (one ++ others)
    ≡ Done tree others) →
    LocalAt Exact Sure (q tree) rest (Deep left)
    → LocalAt Exact Sure (λ l. and_then (p l) q) lexemes (Deep left)
and_then_deep Exact Sure p q tree lexemes rest left [] e h g = (
  g.0,
  g.1,
  e ∙ g.2,
  λ sure others.
      subst IsNotDone
      (sym (ap (λ o. and_then o q)
      (h (g.0 ∷ (g.1 ++ others)) (subst (λ l. SameHead l (g.0 ∷ (g.1 ++ others))) (sym g.2)
      refl))))
      (g.3 sure others),
)
and_then_deep Exact Sure p q tree lexemes rest left (y ∷ one) e h g = (
  y,
  one ++ g.0 ∷ g.1,
  join lexemes (y ∷ one) (g.0 ∷ g.1) rest left e g.2,
  λ sure others.
      subst IsNotDone (sym (and_then_goes p q tree (y ∷ one) (g.0 ∷ g.1) others (g.0 ∷
      (g.1 ++ others)) refl
      (h (g.0 ∷ (g.1 ++ others)) (subst (λ l. SameHead l (g.0 ∷ (g.1 ++ others))) (sym g.2) refl))))
      (g.3 sure others),
)

and_then_second : (Exact Sure : Type 0) {A B : Type 0} (p : Reader A) (q : A
    → Reader B) (tree : A) (lexemes rest : List Lexeme) (second : Outcome B) →
    LocalAt Exact Sure p lexemes (Done tree rest) → LocalAt Exact Sure (q tree) rest second →
    LocalAt Exact Sure (λ l. and_then (p l) q) lexemes second
and_then_second Exact Sure p q tree lexemes rest (Done last left) h g = (
  h.0 ++ g.0,
  join lexemes h.0 g.0 rest left h.1 g.1,
  λ others same.
      and_then_goes p q tree h.0 g.0 others (g.0 ++ others) refl
      (h.2 (g.0 ++ others) (subst (λ l. SameHead l (g.0 ++ others)) (sym g.1)
      (same_behind g.0 left others same)))
      ∙ g.2 others same,
)
and_then_second Exact Sure p q tree lexemes rest (Wrong left) h g = (
  h.0 ++ g.0,
  join lexemes h.0 g.0 rest left h.1 g.1,
  λ exact others same.
      subst IsWrong (sym (and_then_goes p q tree h.0 g.0 others (g.0 ++ others) refl
      (h.2 (g.0 ++ others) (subst (λ l. SameHead l (g.0 ++ others)) (sym g.1)
      (same_behind g.0 left others same)))))
      (g.2 exact others same),
)
and_then_second Exact Sure p q tree lexemes rest (Deep left) h g =
    and_then_deep Exact Sure p q tree lexemes rest left h.0 h.1 h.2 g

wrong_passed : {A B : Type 0} (q : A → Reader B) (o : Outcome A) → IsWrong o
    → IsWrong (and_then o q)
wrong_passed q (Done tree rest) h = absurd h
wrong_passed q (Wrong rest) h = tt
wrong_passed q (Deep rest) h = absurd h

pub not_done_passed : {A B : Type 0} (q : A → Reader B) (o : Outcome A) → IsNotDone o
    → IsNotDone (and_then o q)
not_done_passed q (Done tree rest) h = absurd h
not_done_passed q (Wrong rest) h = tt
not_done_passed q (Deep rest) h = tt

and_then_first : (Exact Sure : Type 0) {A B : Type 0} (p : Reader A) (q r : A → Reader B)
    → ((tree : A) → IsLocal Exact Sure (r tree) (q tree)) →
    (lexemes : List Lexeme) (first : Outcome A) → LocalAt Exact Sure p lexemes first →
    LocalAt Exact Sure (λ l. and_then (p l) q) lexemes (and_then first r)
and_then_first Exact Sure p q r behind lexemes (Done tree rest) h =
    and_then_second Exact Sure p q tree lexemes rest (r tree rest) h ((behind tree).at rest)
and_then_first Exact Sure p q r behind lexemes (Wrong rest) h =
    (h.0, h.1, λ exact others same. wrong_passed q (p (h.0 ++ others)) (h.2 exact others same))
and_then_first Exact Sure p q r behind lexemes (Deep rest) h =
    (h.0, h.1, h.2, λ sure others. not_done_passed q (p (h.0 ∷ (h.1 ++ others))) (h.3 sure others))

pub local_then : {Exact Sure A B : Type 0} {p p' : Reader A} {q q' : A → Reader B}
    → IsLocal Exact Sure p p' →
    ((tree : A) → IsLocal Exact Sure (q tree) (q' tree)) →
    IsLocal Exact Sure (λ l. and_then (p l) q) (λ l. and_then (p' l) q')
local_then {Exact} {Sure} {p = p} {p' = p'} {q = q} {q' = q'} first second =
    record { at = λ l. and_then_first Exact Sure p' q' q second l (p l) (first.at l) }

-- the same outcome with another tree
made_at : (Exact Sure : Type 0) {A B : Type 0} (p : Reader A) (f : A
    → B) (lexemes : List Lexeme) (o : Outcome A) → LocalAt Exact Sure p lexemes o →
    LocalAt Exact Sure (λ l. made f (p l)) lexemes (made f o)
made_at Exact Sure p f lexemes (Done tree rest) h =
    (h.0, h.1, λ others same. ap (made f) (h.2 others same))
made_at Exact Sure p f lexemes (Wrong rest) h =
    (h.0, h.1, λ exact others same. wrong_made f (p (h.0 ++ others)) (h.2 exact others same))
  where
    wrong_made : {A B : Type 0} (f : A → B) (o : Outcome A) → IsWrong o → IsWrong (made f o)
    wrong_made f (Done tree rest) h = absurd h
    wrong_made f (Wrong rest) h = tt
    wrong_made f (Deep rest) h = absurd h
made_at Exact Sure p f lexemes (Deep rest) h =
    (h.0, h.1, h.2, λ sure others. not_done_made f (p (h.0 ∷ (h.1 ++ others))) (h.3 sure others))
  where
    not_done_made : {A B : Type 0} (f : A → B) (o : Outcome A) → IsNotDone o → IsNotDone (made f o)
    not_done_made f (Done tree rest) h = absurd h
    not_done_made f (Wrong rest) h = tt
    not_done_made f (Deep rest) h = tt

pub local_made : {Exact Sure A B : Type 0} {p p' : Reader A} (f : A → B) → IsLocal Exact Sure p p' →
    IsLocal Exact Sure (λ l. made f (p l)) (λ l. made f (p' l))
local_made {Exact} {Sure} {p = p} {p' = p'} f h =
    record { at = λ l. made_at Exact Sure p' f l (p l) (h.at l) }

-- what takes nothing
pub local_done : {Exact Sure A : Type 0} {tree : A}
    → IsLocal Exact Sure (λ l. Done tree l) (λ l. Done tree l)
local_done = record { at = λ l. ([], refl, λ others same. refl) }

pub local_wrong : {Exact Sure A : Type 0} → IsLocal Exact Sure {A = A} (λ l. Wrong l) (λ l. Wrong l)
local_wrong = record { at = λ l. ([], refl, λ exact others same. tt) }

-- what takes a lexeme that is there
pub taken_at : (Exact Sure : Type 0) {A : Type 0} (p : Reader A) (x : Lexeme)
    (lexemes : List Lexeme) (o : Outcome A) →
    LocalAt Exact Sure (λ l. p (x ∷ l)) lexemes o → LocalAt Exact Sure p (x ∷ lexemes) o
taken_at Exact Sure p x lexemes (Done tree rest) h = (x ∷ h.0, ap (λ l. x ∷ l) h.1, h.2)
taken_at Exact Sure p x lexemes (Wrong rest) h = (x ∷ h.0, ap (λ l. x ∷ l) h.1, h.2)
taken_at Exact Sure p x lexemes (Deep rest) h = (x, h.0 ∷ h.1, ap (λ l. x ∷ l) h.2, h.3)

-- of no lexemes all that is left is none, so that nothing is claimed
none_left : (front rest others : List Lexeme) → [] ≡ front ++ rest → SameHead rest others → ⊥
none_left [] [] others e same = same
none_left [] (x ∷ rest) others e same = cc
none_left (y ∷ front) rest others e same = cc

pub none_at : (Exact Sure : Type 0) {A : Type 0} (p q : Reader A) (o : Outcome A)
    → LocalAt Exact Sure p [] o → LocalAt Exact Sure q [] o
none_at Exact Sure p q (Done tree rest) h =
    (h.0, h.1, λ others same. absurd (none_left h.0 rest others h.1 same))
none_at Exact Sure p q (Wrong rest) h =
    (h.0, h.1, λ exact others same. absurd (none_left h.0 rest others h.1 same))
none_at Exact Sure p q (Deep rest) h = absurd (no_head h.0 (h.1 ++ rest) h.2)
  where
    no_head : (x : Lexeme) (l : List Lexeme) → [] ≡ x ∷ l → ⊥
    no_head x l e = cc

-- by the first lexeme
pub local_cons : {Exact Sure A : Type 0} (p p' : Reader A) → LocalAt Exact Sure p [] (p []) →
    ((x : Lexeme) (rest : List Lexeme) → LocalAt Exact Sure p' (x ∷ rest) (p (x ∷ rest)))
    → IsLocal Exact Sure p p'
local_cons {Exact} {Sure} p p' none some = record { at = go }
  where
    go : (l : List Lexeme) → LocalAt Exact Sure p' l (p l)
    go [] = none_at Exact Sure p p' (p []) none
    go (x ∷ rest) = some x rest

behind_at : (Exact Sure : Type 0) {A : Type 0} (p p' : Reader A) → IsLocal Exact Sure p p'
    → (l : List Lexeme) →
    LocalAt Exact Sure (λ l. p' (behind l)) l (p (behind l))
behind_at Exact Sure p p' h [] = none_at Exact Sure p' (λ l. p' (behind l)) (p []) (h.at [])
behind_at Exact Sure p p' h (x ∷ rest) =
    taken_at Exact Sure (λ l. p' (behind l)) x rest (p rest) (h.at rest)

-- behind the first lexeme
pub local_behind : {Exact Sure A : Type 0} {p p' : Reader A} → IsLocal Exact Sure p p'
    → IsLocal Exact Sure (λ l. p (behind l)) (λ l. p' (behind l))
local_behind {Exact} {Sure} {p = p} {p' = p'} h = record { at = behind_at Exact Sure p p' h }

-- what is told by the first lexeme
pub record IsOfHead {B : Type 0} (test : List Lexeme → B) : Type 0 where
  pub same : (lexemes others : List Lexeme) → SameHead lexemes others → test others ≡ test lexemes

pub by_head_at : (Exact Sure : Type 0) {A B : Type 0} (test : List Lexeme → B) (p : B
    → Reader A) (b : B) (lexemes : List Lexeme) (o : Outcome A) →
    IsOfHead test → test lexemes ≡ b → LocalAt Exact Sure (p b) lexemes o
    → LocalAt Exact Sure (λ l. p (test l) l) lexemes o
by_head_at Exact Sure test p b lexemes (Done tree rest) told is h = (
  h.0,
  h.1,
  λ others same. subst (λ c. p c (h.0 ++ others) ≡ Done tree others)
      (sym (told.same lexemes (h.0 ++ others) (subst (λ l. SameHead l (h.0 ++ others)) (sym h.1)
      (same_behind h.0 rest others same)) ∙ is))
      (h.2 others same),
)
by_head_at Exact Sure test p b lexemes (Wrong rest) told is h = (
  h.0,
  h.1,
  λ exact others same. subst (λ c. IsWrong (p c (h.0 ++ others)))
      (sym (told.same lexemes (h.0 ++ others) (subst (λ l. SameHead l (h.0 ++ others)) (sym h.1)
      (same_behind h.0 rest others same)) ∙ is))
      (h.2 exact others same),
)
by_head_at Exact Sure test p b lexemes (Deep rest) told is h = (
  h.0,
  h.1,
  h.2,
  λ sure others. subst (λ c. IsNotDone (p c (h.0 ∷ (h.1 ++ others))))
      (sym (told.same lexemes (h.0 ∷ (h.1 ++ others))
      (subst (λ l. SameHead l (h.0 ∷ (h.1 ++ others))) (sym h.2) refl) ∙ is))
      (h.3 sure others),
)

pub local_by_where : {Exact Sure A B : Type 0} {test : List Lexeme → B} (p p' : B → Reader A)
    → IsOfHead test →
    ((b : B) (l : List Lexeme) → test l ≡ b → LocalAt Exact Sure (p' b) l (p b l))
    → IsLocal Exact Sure (λ l. p (test l) l) (λ l. p' (test l) l)
local_by_where {Exact} {Sure} {test = test} p p' told h =
    record {
      at =
          λ l. by_head_at Exact Sure test p' (test l) l (p (test l) l) told refl (h (test l) l refl);
    }

pub local_by : {Exact Sure A B : Type 0} {test : List Lexeme → B} (p p' : B → Reader A)
    → IsOfHead test →
    ((b : B) → IsLocal Exact Sure (p b) (p' b))
    → IsLocal Exact Sure (λ l. p (test l) l) (λ l. p' (test l) l)
local_by {test = test} p p' told h = local_by_where {test = test} p p' told (λ b l is. (h b).at l)

pub local_if : {Exact Sure A : Type 0} {test : List Lexeme → Bool} {p p' q q' : Reader A}
    → IsOfHead test → IsLocal Exact Sure p p' → IsLocal Exact Sure q q' →
    IsLocal Exact Sure (λ l. elim (test l) [ true ↦ p l | false ↦ q l ]) (λ l.
    elim (test l) [ true ↦ p' l | false ↦ q' l ])
local_if {Exact} {Sure} {A} {test} {p} {p'} {q} {q'} told yes_ no_ =
    local_by {test = test} (λ b l. elim b [ true ↦ p l | false ↦ q l ]) (λ b l. elim b [
      | true ↦
          p' l
      | false ↦ q' l
    ]) told branch
  where
    branch : (b : Bool)
        → IsLocal Exact Sure (λ l. elim b [ true ↦ p l | false ↦ q l ]) (λ l. elim b [
          | true ↦
              p' l
          | false ↦ q' l
        ])
    branch true = yes_
    branch false = no_

pub local_option : {Exact Sure A B : Type 0} {test : List Lexeme
    → Option B} {p p' : Reader A} {q q' : B → Reader A} → IsOfHead test →
    IsLocal Exact Sure p p' → ((b : B) → IsLocal Exact Sure (q b) (q' b)) →
    IsLocal Exact Sure (λ l. elim (test l) [ None ↦ p l | Some b ↦ q b l ]) (λ l.
    elim (test l) [ None ↦ p' l | Some b ↦ q' b l ])
local_option {Exact} {Sure} {A} {B} {test} {p} {p'} {q} {q'} told none some =
    local_by {test = test} (λ o l. elim o [ None ↦ p l | Some b ↦ q b l ]) (λ o l. elim o [
      | None ↦
          p' l
      | Some b ↦ q' b l
    ]) told branch
  where
    branch : (o : Option B) → IsLocal Exact Sure (λ l. elim o [ None ↦ p l | Some b ↦ q b l ]) (λ l.
        elim o [ None ↦ p' l | Some b ↦ q' b l ])
    branch None = none
    branch (Some b) = some b
