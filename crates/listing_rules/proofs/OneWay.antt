-- Lines are those of one list of rows at most, and not both of rows and of none.
use Rattle.std.proofs.Common.{◌≡◌, Bool, true, false, List, [], ◌∷◌, ◌++◌, sym, ◌∙◌, subst, refl}
use Rattle.listing_rows.specs.of_listing_lines.declared.keywords.Keyword.{Keyword}
use Rattle.listing_rows.specs.of_listing_lines.declared.lines.Line.{Line}
use Rattle.listing_rules.specs.Blocks.{Block, NoBlock, Unheaded, Stopped, Unfinished, Blocks, Ended, Another, BlocksStop, AtOnce, Further}
use Rattle.listing_rules.specs.Reads.{begins, Reads, Over, More, Stops, Here, Later, First, NoFirst}

-- a line is that of one row at most
abbrev pub IsTold : {X : Type 0} → (List X → Line → X → Type 0) → Type 0
IsTold {X} Is = (done : List X) (line : Line) (a b : X) → Is done line a → Is done line b → a ≡ b

-- ---- the first line
pub record FirstOne {X : Type 0} (a b : X) (rest rest' : List Line) : Type 0 where
  pub row : a ≡ b
  pub behind : rest ≡ rest'

pub first_one : {X : Type 0} (Is : Line → X → Type 0) → ((line : Line) (a b : X) → Is line a → Is line b → a ≡ b) → (lines lines' rest rest' : List Line) (a b : X) →
    lines ≡ lines' → First Is lines a rest → First Is lines' b rest' → FirstOne a b rest rest'
first_one Is told lines lines' rest rest' a b same one other =
    let e = sym one.first ∙ (same ∙ other.first) in
    let line : one.line ≡ other.line = cc in
    let behind : rest ≡ rest' = cc in
    record { row = told other.line a b (subst (λ (l : Line). Is l a) line one.is) other.is; behind = behind }

pub first_not : {X : Type 0} (Is : Line → X → Type 0) (lines lines' rest left : List Line) (a : X) → lines ≡ lines' → First Is lines a rest → NoFirst Is lines' left → ⊥
first_not Is lines lines' rest left a same one none = none.none a rest (subst (λ (l : List Line). First Is l a rest) same one)

pub none_one : {X : Type 0} (Is : Line → X → Type 0) (lines lines' left left' : List Line) → lines ≡ lines' → NoFirst Is lines left → NoFirst Is lines' left' → left ≡ left'
none_one Is lines lines' left left' same one other = one.here ∙ (same ∙ sym other.here)

-- ---- rows
not_begun : (p : Keyword → Bool) (lines more : List Line) (line : Line) → begins p lines ≡ false → lines ≡ line ∷ more → p line.keyword ≡ true → ⊥
not_begun p lines more line stop e b = let h : p line.keyword ≡ false = subst (λ (l : List Line). begins p l ≡ false) e stop in absurd cc

module _ {X : Type 0} (p : Keyword → Bool) (Is : List X → Line → X → Type 0) (told : IsTold Is) where
  -- the next line, and the row that it is
  next_one : (done done' : List X) (line line' : Line) (lines lines' : List Line) (a b : X) → done ≡ done' → line ∷ lines ≡ line' ∷ lines' → Is done line a → Is done' line' b → a ≡ b
  next_one done done' line line' lines lines' a b e f is is' =
      let same : line ≡ line' = cc in
      told done' line' a b (subst (λ (l : Line). Is done' l a) same (subst (λ (d : List X). Is d line a) e is)) is'

  grown : (done done' : List X) (a b : X) → done ≡ done' → a ≡ b → done ++ a ∷ [] ≡ done' ++ b ∷ []
  grown done done' a b e f = cc

  behind : (line line' : Line) (lines lines' : List Line) → line ∷ lines ≡ line' ∷ lines' → lines ≡ lines'
  behind line line' lines lines' e = cc

  pub reads_one : {done done' : List X} {lines lines' : List Line} {rows rows' : List X} {rest rest' : List Line} → Reads p Is done lines rows rest → Reads p Is done' lines' rows' rest' →
      done ≡ done' → lines ≡ lines' → (rows ≡ rows') × (rest ≡ rest')
  reads_one (Over done lines stop) (Over done' lines' stop') e f = (refl, f)
  reads_one (Over done lines stop) (More done' line lines' row rows rest b is reads) e f = absurd (not_begun p lines lines' line stop f b)
  reads_one (More done line lines row rows rest b is reads) (Over done' lines' stop) e f = absurd (not_begun p lines' lines line stop (sym f) b)
  reads_one (More done line lines row rows rest b is reads) (More done' line' lines' row' rows' rest' b' is' reads') e f =
      let same = next_one done done' line line' lines lines' row row' e f is is' in
      let more = reads_one reads reads' (grown done done' row row' e same) (behind line line' lines lines' f) in
      let first = more.0 in
      let list : row ∷ rows ≡ row' ∷ rows' = cc in
      (list, more.1)

  pub reads_not : {done done' : List X} {lines lines' : List Line} {rows : List X} {rest left : List Line} → Reads p Is done lines rows rest → Stops p Is done' lines' left → done ≡ done' → lines ≡ lines' → ⊥
  reads_not (Over done lines stop) (Here done' line lines' b none) e f = not_begun p lines lines' line stop f b
  reads_not (Over done lines stop) (Later done' line lines' row left b is stops) e f = not_begun p lines lines' line stop f b
  reads_not (More done line lines row rows rest b is reads) (Here done' line' lines' b' none) e f =
      let same : line ≡ line' = cc in
      none row (subst (λ (l : Line). Is done' l row) same (subst (λ (d : List X). Is d line row) e is))
  reads_not (More done line lines row rows rest b is reads) (Later done' line' lines' row' left b' is' stops) e f =
      let same = next_one done done' line line' lines lines' row row' e f is is' in
      reads_not reads stops (grown done done' row row' e same) (behind line line' lines lines' f)

  pub stops_one : {done done' : List X} {lines lines' left left' : List Line} → Stops p Is done lines left → Stops p Is done' lines' left' → done ≡ done' → lines ≡ lines' → left ≡ left'
  stops_one (Here done line lines b none) (Here done' line' lines' b' none') e f = f
  stops_one (Here done line lines b none) (Later done' line' lines' row left b' is stops) e f =
      let same : line' ≡ line = cc in
      absurd (none row (subst (λ (l : Line). Is done l row) same (subst (λ (d : List X). Is d line' row) (sym e) is)))
  stops_one (Later done line lines row left b is stops) (Here done' line' lines' b' none) e f =
      let same : line ≡ line' = cc in
      absurd (none row (subst (λ (l : Line). Is done' l row) same (subst (λ (d : List X). Is d line row) e is)))
  stops_one (Later done line lines row left b is stops) (Later done' line' lines' row' left' b' is' stops') e f =
      let same = next_one done done' line line' lines lines' row row' e f is is' in
      stops_one stops stops' (grown done done' row row' e same) (behind line line' lines lines' f)

  -- ---- blocks
  module _ (head : Keyword → Bool) (heading : Line) (Whole : List X → Type 0) where
    pub block_one : (lines lines' : List Line) (rows rows' : List X) (rest rest' : List Line) → Block heading p Is Whole lines rows rest → Block heading p Is Whole lines' rows' rest' → lines ≡ lines' → (rows ≡ rows') × (rest ≡ rest')
    block_one lines lines' rows rows' rest rest' one other f =
        let e = sym one.headed ∙ (f ∙ other.headed) in
        reads_one one.reads other.reads refl (behind heading heading one.below other.below e)

    pub block_not : {lines lines' : List Line} {rows : List X} {rest left : List Line} → Block heading p Is Whole lines rows rest → NoBlock heading p Is Whole lines' left → lines ≡ lines' → ⊥
    block_not block (Unheaded lines' none) f = none block.below (sym f ∙ block.headed)
    block_not block (Stopped below left stops) f = reads_not block.reads stops refl (behind heading heading block.below below (sym block.headed ∙ f))
    block_not block (Unfinished below rows' left reads none) f =
        let same = reads_one block.reads reads refl (behind heading heading block.below below (sym block.headed ∙ f)) in
        none (subst Whole same.0 block.whole)

    pub no_block_one : {lines lines' left left' : List Line} → NoBlock heading p Is Whole lines left → NoBlock heading p Is Whole lines' left' → lines ≡ lines' → left ≡ left'
    no_block_one (Unheaded lines none) (Unheaded lines' none') f = f
    no_block_one (Unheaded lines none) (Stopped below left stops) f = absurd (none below f)
    no_block_one (Unheaded lines none) (Unfinished below rows left reads whole) f = absurd (none below f)
    no_block_one (Stopped below left stops) (Unheaded lines' none) f = absurd (none below (sym f))
    no_block_one (Stopped below left stops) (Stopped below' left' stops') f = stops_one stops stops' refl (behind heading heading below below' f)
    no_block_one (Stopped below left stops) (Unfinished below' rows left' reads whole) f = absurd (reads_not reads stops refl (sym (behind heading heading below below' f)))
    no_block_one (Unfinished below rows left reads whole) (Unheaded lines' none) f = absurd (none below (sym f))
    no_block_one (Unfinished below rows left reads whole) (Stopped below' left' stops) f = absurd (reads_not reads stops refl (behind heading heading below below' f))
    no_block_one (Unfinished below rows left reads whole) (Unfinished below' rows' left' reads' whole') f = (reads_one reads reads' refl (behind heading heading below below' f)).1

    unbegun : (lines lines' : List Line) → begins head lines ≡ false → begins head lines' ≡ true → lines ≡ lines' → ⊥
    unbegun lines lines' stop some f = let h : begins head lines' ≡ false = subst (λ (l : List Line). begins head l ≡ false) f stop in absurd cc

    pub blocks_one : {lines lines' : List Line} {blocks blocks' : List (List X)} {rest rest' : List Line} → Blocks head heading p Is Whole lines blocks rest → Blocks head heading p Is Whole lines' blocks' rest' → lines ≡ lines' →
        (blocks ≡ blocks') × (rest ≡ rest')
    blocks_one (Ended lines stop) (Ended lines' stop') f = (refl, f)
    blocks_one (Ended lines stop) (Another lines' rows next blocks rest some block more) f = absurd (unbegun lines lines' stop some f)
    blocks_one (Another lines rows next blocks rest some block more) (Ended lines' stop) f = absurd (unbegun lines' lines stop some (sym f))
    blocks_one (Another lines rows next blocks rest some block more) (Another lines' rows' next' blocks' rest' some' block' more') f =
        let one = block_one lines lines' rows rows' next next' block block' f in
        let first = one.0 in
        let others = blocks_one more more' one.1 in
        let second = others.0 in
        let list : rows ∷ blocks ≡ rows' ∷ blocks' = cc in
        (list, others.1)

    pub blocks_not : {lines lines' : List Line} {blocks : List (List X)} {rest left : List Line} → Blocks head heading p Is Whole lines blocks rest → BlocksStop head heading p Is Whole lines' left → lines ≡ lines' → ⊥
    blocks_not (Ended lines stop) (AtOnce lines' left some none) f = unbegun lines lines' stop some f
    blocks_not (Ended lines stop) (Further lines' rows next left some block stops) f = unbegun lines lines' stop some f
    blocks_not (Another lines rows next blocks rest some block more) (AtOnce lines' left some' none) f = block_not block none f
    blocks_not (Another lines rows next blocks rest some block more) (Further lines' rows' next' left some' block' stops) f =
        blocks_not more stops (block_one lines lines' rows rows' next next' block block' f).1

    pub blocks_stop_one : {lines lines' left left' : List Line} → BlocksStop head heading p Is Whole lines left → BlocksStop head heading p Is Whole lines' left' → lines ≡ lines' → left ≡ left'
    blocks_stop_one (AtOnce lines left some none) (AtOnce lines' left' some' none') f = no_block_one none none' f
    blocks_stop_one (AtOnce lines left some none) (Further lines' rows next left' some' block stops) f = absurd (block_not block none (sym f))
    blocks_stop_one (Further lines rows next left some block stops) (AtOnce lines' left' some' none) f = absurd (block_not block none f)
    blocks_stop_one (Further lines rows next left some block stops) (Further lines' rows' next' left' some' block' stops') f =
        blocks_stop_one stops stops' (block_one lines lines' rows rows' next next' block block' f).1
