-- Lines are those of one value at most, and not both of a value and of none.
use Rattle.std.proofs.Common.{◌≡◌, ◌≢◌, ℕ, zero, suc, ◌+◌, ◌-◌, ◌<◌, ◌≤◌, Bool, true, false, ℤ, pos, negsuc, List, [], ◌∷◌, ◌++◌, length, map, take, drop, refl, sym, ◌∙◌, ap, subst, arith}
use Rattle.std.specs.Prelude.{All, Option, Some, None}
use Rattle.std.proofs.lemmas.List.Elements.{All-head, All-tail}
use Rattle.save_lines.specs.declared.lines.SavedLine.{SavedLine}
use Rattle.grid_save.specs.Reads.{begins, Each, Over, More, EachBreaks, Here, Later, First, NoFirst, Run, Ends, GoesOn, RunBreaks, StopsHere, StopsLater}

pub record Same {X : Type 0} (a b : X) (rest rest' : List SavedLine) : Type 0 where
  pub value : a ≡ b
  pub behind : rest ≡ rest'

-- what is read of lines, for a row with a property, is told by these alone
pub record IsTold {R X : Type 0} (P : R → Type 0) (Read : R → List SavedLine → X → List SavedLine → Type 0)
    (Breaks : R → List SavedLine → List SavedLine → Type 0) : Type 0 where
  pub one : (row : R) → P row → (lines : List SavedLine) (x y : X) (rest rest' : List SavedLine) →
      Read row lines x rest → Read row lines y rest' → Same x y rest rest'
  pub apart : (row : R) → P row → (lines : List SavedLine) (x : X) (rest left : List SavedLine) →
      Read row lines x rest → Breaks row lines left → ⊥
  pub left : (row : R) → P row → (lines left left' : List SavedLine) → Breaks row lines left → Breaks row lines left' → left ≡ left'

-- ---- the first line
pub first_one : {X : Type 0} (Is : SavedLine → X → Type 0) → ((line : SavedLine) (a b : X) → Is line a → Is line b → a ≡ b) →
    (lines : List SavedLine) (a b : X) (rest rest' : List SavedLine) → First Is lines a rest → First Is lines b rest' → Same a b rest rest'
first_one {X} Is told lines a b rest rest' one other =
    let e = sym one.first ∙ other.first in
    let line : one.line ≡ other.line = cc in
    let behind : rest ≡ rest' = cc in
    record { value = told other.line a b (subst (λ (l : SavedLine). Is l a) line one.is) other.is; behind = behind }

pub first_not : {X : Type 0} (Is : SavedLine → X → Type 0) (lines : List SavedLine) (a : X) (rest left : List SavedLine) →
    First Is lines a rest → NoFirst Is lines left → ⊥
first_not Is lines a rest left one none = none.none a rest one

pub none_one : {X : Type 0} (Is : SavedLine → X → Type 0) (lines left left' : List SavedLine) → NoFirst Is lines left → NoFirst Is lines left' → left ≡ left'
none_one Is lines left left' one other = one.here ∙ sym other.here

-- ---- rows, each with its lines
module _ {R X : Type 0} (P : R → Type 0) (Read : R → List SavedLine → X → List SavedLine → Type 0)
    (Breaks : R → List SavedLine → List SavedLine → Type 0) (told : IsTold P Read Breaks) where
  next_read : (row row' : R) (lines lines' : List SavedLine) (x x' : X) (rest rest' : List SavedLine) → row ≡ row' → lines ≡ lines' → P row' →
      Read row lines x rest → Read row' lines' x' rest' → Same x x' rest rest'
  next_read row row' lines lines' x x' rest rest' e f holds r r' =
      told.one row' holds lines' x x' rest rest' (subst (λ (l : List SavedLine). Read row' l x rest) f (subst (λ (w : R). Read w lines x rest) e r)) r'

  next_apart : (row row' : R) (lines lines' : List SavedLine) (x : X) (rest left : List SavedLine) → row ≡ row' → lines ≡ lines' → P row' →
      Read row lines x rest → Breaks row' lines' left → ⊥
  next_apart row row' lines lines' x rest left e f holds r breaks =
      told.apart row' holds lines' x rest left (subst (λ (l : List SavedLine). Read row' l x rest) f (subst (λ (w : R). Read w lines x rest) e r)) breaks

  next_left : (row row' : R) (lines lines' left left' : List SavedLine) → row ≡ row' → lines ≡ lines' → P row' → Breaks row lines left → Breaks row' lines' left' → left ≡ left'
  next_left row row' lines lines' left left' e f holds breaks breaks' =
      told.left row' holds lines' left left' (subst (λ (l : List SavedLine). Breaks row' l left) f (subst (λ (w : R). Breaks w lines left) e breaks)) breaks'

  pub each_one : {rows rows' : List R} {lines lines' : List SavedLine} {xs xs' : List X} {rest rest' : List SavedLine} →
      Each Read rows lines xs rest → Each Read rows' lines' xs' rest' → rows ≡ rows' → lines ≡ lines' → All P rows' → Same xs xs' rest rest'
  each_one (Over lines) (Over lines') e f all = record { value = refl; behind = f }
  each_one (Over lines) (More row rows lines' x behind xs rest r each) e f all = absurd cc
  each_one (More row rows lines x behind xs rest r each) (Over lines') e f all = absurd cc
  each_one (More row rows lines x behind xs rest r each) (More row' rows' lines' x' behind' xs' rest' r' each') e f all =
      let first : row ≡ row' = cc in
      let others : rows ≡ rows' = cc in
      let here = next_read row row' lines lines' x x' behind behind' first f (All-head P row' rows' all) r r' in
      let later = each_one each each' others here.behind (All-tail P row' rows' all) in
      let head = here.value in
      let tail = later.value in
      let list : x ∷ xs ≡ x' ∷ xs' = cc in
      record { value = list; behind = later.behind }

  pub each_not : {rows rows' : List R} {lines lines' : List SavedLine} {xs : List X} {rest left : List SavedLine} →
      Each Read rows lines xs rest → EachBreaks Read Breaks rows' lines' left → rows ≡ rows' → lines ≡ lines' → All P rows' → ⊥
  each_not (Over lines) (Here row rows lines' left breaks) e f all = absurd cc
  each_not (Over lines) (Later row rows lines' x behind left r breaks) e f all = absurd cc
  each_not (More row rows lines x behind xs rest r each) (Here row' rows' lines' left breaks) e f all =
      let first : row ≡ row' = cc in
      next_apart row row' lines lines' x behind left first f (All-head P row' rows' all) r breaks
  each_not (More row rows lines x behind xs rest r each) (Later row' rows' lines' x' behind' left r' breaks) e f all =
      let first : row ≡ row' = cc in
      let others : rows ≡ rows' = cc in
      let here = next_read row row' lines lines' x x' behind behind' first f (All-head P row' rows' all) r r' in
      each_not each breaks others here.behind (All-tail P row' rows' all)

  pub each_left : {rows rows' : List R} {lines lines' : List SavedLine} {left left' : List SavedLine} →
      EachBreaks Read Breaks rows lines left → EachBreaks Read Breaks rows' lines' left' → rows ≡ rows' → lines ≡ lines' → All P rows' → left ≡ left'
  each_left (Here row rows lines left breaks) (Here row' rows' lines' left' breaks') e f all =
      let first : row ≡ row' = cc in
      next_left row row' lines lines' left left' first f (All-head P row' rows' all) breaks breaks'
  each_left (Here row rows lines left breaks) (Later row' rows' lines' x' behind' left' r' breaks') e f all =
      let first : row' ≡ row = cc in
      let holds : P row = subst P first (All-head P row' rows' all) in
      absurd (next_apart row' row lines' lines x' behind' left first (sym f) holds r' breaks)
  each_left (Later row rows lines x behind left r breaks) (Here row' rows' lines' left' breaks') e f all =
      let first : row ≡ row' = cc in
      absurd (next_apart row row' lines lines' x behind left' first f (All-head P row' rows' all) r breaks')
  each_left (Later row rows lines x behind left r breaks) (Later row' rows' lines' x' behind' left' r' breaks') e f all =
      let first : row ≡ row' = cc in
      let others : rows ≡ rows' = cc in
      let here = next_read row row' lines lines' x x' behind behind' first f (All-head P row' rows' all) r r' in
      each_left breaks breaks' others here.behind (All-tail P row' rows' all)

-- ---- lines of a kind
not_begun : (p : SavedLine → Bool) (lines more : List SavedLine) (line : SavedLine) → begins p lines ≡ false → lines ≡ line ∷ more → p line ≡ true → ⊥
not_begun p lines more line stop e b = let h : p line ≡ false = subst (λ (l : List SavedLine). begins p l ≡ false) e stop in absurd cc

behind_line : (line line' : SavedLine) (lines lines' : List SavedLine) → line ∷ lines ≡ line' ∷ lines' → lines ≡ lines'
behind_line line line' lines lines' e = cc

module _ {X : Type 0} (p : SavedLine → Bool) (Is : List X → SavedLine → X → Type 0) (told : (done : List X) (line : SavedLine) (a b : X) → Is done line a → Is done line b → a ≡ b) where
  next_one : (done done' : List X) (line line' : SavedLine) (lines lines' : List SavedLine) (a b : X) → done ≡ done' → line ∷ lines ≡ line' ∷ lines' → Is done line a → Is done' line' b → a ≡ b
  next_one done done' line line' lines lines' a b e f is is' =
      let same : line ≡ line' = cc in
      told done' line' a b (subst (λ (l : SavedLine). Is done' l a) same (subst (λ (d : List X). Is d line a) e is)) is'

  grown : (done done' : List X) (a b : X) → done ≡ done' → a ≡ b → done ++ a ∷ [] ≡ done' ++ b ∷ []
  grown done done' a b e f = cc

  pub run_one : {done done' : List X} {lines lines' : List SavedLine} {xs xs' : List X} {rest rest' : List SavedLine} → Run p Is done lines xs rest → Run p Is done' lines' xs' rest' →
      done ≡ done' → lines ≡ lines' → Same xs xs' rest rest'
  run_one (Ends done lines stop) (Ends done' lines' stop') e f = record { value = refl; behind = f }
  run_one (Ends done lines stop) (GoesOn done' line lines' x xs rest b is run) e f = absurd (not_begun p lines lines' line stop f b)
  run_one (GoesOn done line lines x xs rest b is run) (Ends done' lines' stop) e f = absurd (not_begun p lines' lines line stop (sym f) b)
  run_one (GoesOn done line lines x xs rest b is run) (GoesOn done' line' lines' x' xs' rest' b' is' run') e f =
      let first = next_one done done' line line' lines lines' x x' e f is is' in
      let more = run_one run run' (grown done done' x x' e first) (behind_line line line' lines lines' f) in
      let others = more.value in
      let list : x ∷ xs ≡ x' ∷ xs' = cc in
      record { value = list; behind = more.behind }

  pub run_not : {done done' : List X} {lines lines' : List SavedLine} {xs : List X} {rest left : List SavedLine} → Run p Is done lines xs rest → RunBreaks p Is done' lines' left → done ≡ done' → lines ≡ lines' → ⊥
  run_not (Ends done lines stop) (StopsHere done' line lines' b none) e f = not_begun p lines lines' line stop f b
  run_not (Ends done lines stop) (StopsLater done' line lines' x left b is breaks) e f = not_begun p lines lines' line stop f b
  run_not (GoesOn done line lines x xs rest b is run) (StopsHere done' line' lines' b' none) e f =
      let same : line ≡ line' = cc in
      none x (subst (λ (l : SavedLine). Is done' l x) same (subst (λ (d : List X). Is d line x) e is))
  run_not (GoesOn done line lines x xs rest b is run) (StopsLater done' line' lines' x' left b' is' breaks) e f =
      let first = next_one done done' line line' lines lines' x x' e f is is' in
      run_not run breaks (grown done done' x x' e first) (behind_line line line' lines lines' f)

  pub run_left : {done done' : List X} {lines lines' left left' : List SavedLine} → RunBreaks p Is done lines left → RunBreaks p Is done' lines' left' → done ≡ done' → lines ≡ lines' → left ≡ left'
  run_left (StopsHere done line lines b none) (StopsHere done' line' lines' b' none') e f = f
  run_left (StopsHere done line lines b none) (StopsLater done' line' lines' x left b' is breaks) e f =
      let same : line' ≡ line = cc in
      absurd (none x (subst (λ (l : SavedLine). Is done l x) same (subst (λ (d : List X). Is d line' x) (sym e) is)))
  run_left (StopsLater done line lines x left b is breaks) (StopsHere done' line' lines' b' none') e f =
      let same : line ≡ line' = cc in
      absurd (none' x (subst (λ (l : SavedLine). Is done' l x) same (subst (λ (d : List X). Is d line x) e is)))
  run_left (StopsLater done line lines x left b is breaks) (StopsLater done' line' lines' x' left' b' is' breaks') e f =
      let first = next_one done done' line line' lines lines' x x' e f is is' in
      run_left breaks breaks' (grown done done' x x' e first) (behind_line line line' lines lines' f)
