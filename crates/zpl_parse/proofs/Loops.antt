-- Loops that gather a list: what was found before what the rule makes of the rest is the whole.
use Rattle.std.proofs.Common.{◌≡◌, ℕ, suc, zero, ◌<◌, List, [], ◌∷◌, ◌++◌, map, refl, sym, ap, subst, ◌∙◌, arith}
use Rattle.zpl_parse.specs.declared.faults.ParseFault.{ParseFault}
use Rattle.zpl_grammar.specs.Lexeme.{Lexeme}
use Rattle.zpl_parse.specs.Outcome.{Outcome, Done, Wrong, Deep, Reader, made}
use Rattle.zpl_parse.specs.Following.{IsFaultOf}
use Rattle.zpl_parse.proofs.Follows.{fault_made}

-- what was found, put before a list
abbrev pub prepended : {X L : Type 0} → (X → L → L) → List X → L → L
prepended put [] l = l
prepended put (x ∷ xs) l = put x (prepended put xs l)

pub prepended-append : {X L : Type 0} (put : X → L → L) (xs : List X) (x : X) (l : L) → prepended put (xs ++ x ∷ []) l ≡ prepended put xs (put x l)
prepended-append put [] x l = refl
prepended-append put (y ∷ xs) x l = ap (put y) (prepended-append put xs x l)

pub map-prepended : {X A : Type 0} (f : X → A) (xs : List X) → map f xs ≡ prepended (λ x l. f x ∷ l) xs []
map-prepended f [] = refl
map-prepended f (x ∷ xs) = ap (λ l. f x ∷ l) (map-prepended f xs)

-- of the whole, with so much fuel, these were found, and so many tokens are left
pub record IsGathered {X L : Type 0} (put : X → L → L) (rule : ℕ → Reader L) (most : ℕ) (whole : List Lexeme) (found : List X) (rest : List Lexeme) (left : ℕ) : Type 0 where
  pub less : ℕ
  pub enough : left < less
  pub is : rule most whole ≡ made (prepended put found) (rule less rest)

made_none : {X L : Type 0} (put : X → L → L) (o : Outcome L) → o ≡ made (prepended put []) o
made_none put (Done tree rest) = refl
made_none put (Wrong rest) = refl
made_none put (Deep rest) = refl

made_more : {X L : Type 0} (put : X → L → L) (found : List X) (x : X) (o : Outcome L) → made (prepended put found) (made (put x) o) ≡ made (prepended put (found ++ x ∷ [])) o
made_more put found x (Done tree rest) = ap (λ l. Done l rest) (sym (prepended-append put found x tree))
made_more put found x (Wrong rest) = refl
made_more put found x (Deep rest) = refl

pub gathered_none : {X L : Type 0} (put : X → L → L) (rule : ℕ → Reader L) (most : ℕ) (whole : List Lexeme) (left : ℕ) → left < most → IsGathered put rule most whole [] whole left
gathered_none put rule most whole left h = record { less = most; enough = h; is = made_none put (rule most whole) }

-- one more was read
pub gathered_more : {X L : Type 0} (put : X → L → L) (rule : ℕ → Reader L) (most : ℕ) (whole : List Lexeme) (found : List X) (rest : List Lexeme) (left : ℕ) (x : X) (after : List Lexeme) (fewer : ℕ) →
    IsGathered put rule most whole found rest left → fewer < left → ((less : ℕ) → left < suc less → rule (suc less) rest ≡ made (put x) (rule less after)) →
    IsGathered put rule most whole (found ++ x ∷ []) after fewer
gathered_more put rule most whole found rest left x after fewer h shorter step = go h.less h.enough h.is
  where
    go : (less : ℕ) → left < less → rule most whole ≡ made (prepended put found) (rule less rest) → IsGathered put rule most whole (found ++ x ∷ []) after fewer
    go zero enough is = absurd (omega arith)
    go (suc less) enough is = record {
      less = less;
      enough = omega arith;
      is = is ∙ ap (made (prepended put found)) (step less enough) ∙ made_more put found x (rule less after);
    }

-- nothing more is read, and these stand at the end
pub gathered_done : {X L : Type 0} (put : X → L → L) (rule : ℕ → Reader L) (most : ℕ) (whole : List Lexeme) (found : List X) (rest : List Lexeme) (left : ℕ) (last : L) (after : List Lexeme) →
    IsGathered put rule most whole found rest left → ((less : ℕ) → left < suc less → rule (suc less) rest ≡ Done last after) → rule most whole ≡ Done (prepended put found last) after
gathered_done put rule most whole found rest left last after h step = go h.less h.enough h.is
  where
    go : (less : ℕ) → left < less → rule most whole ≡ made (prepended put found) (rule less rest) → rule most whole ≡ Done (prepended put found last) after
    go zero enough is = absurd (omega arith)
    go (suc less) enough is = is ∙ ap (made (prepended put found)) (step less enough)

-- the last one was read
pub gathered_last : {X L : Type 0} (put : X → L → L) (rule : ℕ → Reader L) (most : ℕ) (whole : List Lexeme) (found : List X) (rest : List Lexeme) (left : ℕ) (x : X) (none : L) (after : List Lexeme) →
    IsGathered put rule most whole found rest left → ((less : ℕ) → left < suc less → rule (suc less) rest ≡ Done (put x none) after) → rule most whole ≡ Done (prepended put (found ++ x ∷ []) none) after
gathered_last put rule most whole found rest left x none after h step =
    gathered_done put rule most whole found rest left (put x none) after h step ∙ ap (λ l. Done l after) (sym (prepended-append put found x none))

-- a fault on the way is one of the whole
pub gathered_fault : {X L : Type 0} (put : X → L → L) (rule : ℕ → Reader L) (most : ℕ) (whole : List Lexeme) (found : List X) (rest : List Lexeme) (left : ℕ) (fault : ParseFault) →
    IsGathered put rule most whole found rest left → ((less : ℕ) → left < suc less → IsFaultOf fault (rule (suc less) rest)) → IsFaultOf fault (rule most whole)
gathered_fault put rule most whole found rest left fault h step = go h.less h.enough h.is
  where
    go : (less : ℕ) → left < less → rule most whole ≡ made (prepended put found) (rule less rest) → IsFaultOf fault (rule most whole)
    go zero enough is = absurd (omega arith)
    go (suc less) enough is = subst (IsFaultOf fault) (sym is) (fault_made fault (prepended put found) (rule (suc less) rest) (step less enough))
