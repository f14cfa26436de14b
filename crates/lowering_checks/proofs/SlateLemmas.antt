-- Expressions with slots: which slots their elements are read under, and which slots their copies
-- are filled with; and the rows of brackets.
use Rattle.std.proofs.Common.{◌≡◌, ℕ, suc, ◌≤◌, Bool, true, false, ℤ, List, [], ◌∷◌, ◌++◌, length, map, arith}
use Rattle.std.specs.Prelude.{Option, Some, None}
use Rattle.zpl_region.specs.declared.regions.Region.{Region}
use Rattle.zpl_tree.specs.Syntax.{Name, Pre, NamedRegion, Ditto, Expr, Number, Truth, Coord, Named, Shifted, Around, Remap, Call, Paren, Neg, Not, Abs, Pair, Reduce, Scan, Flood, Exprs, NoExpr, ThenExpr, Dir, Inner, Rexpr, Dims, NoBracket, Bracketed, Posts}
use Rattle.zpl_names.specs.Kinds.{Rank}
use Rattle.zpl_names.specs.Ranks.{is_index, operand_rank}
use Rattle.zpl_meaning.specs.Store.{Thing, Scalar, ArrayAt, Fixed, thing_of}
use Rattle.zpl_meaning.specs.Context.{Currents, Edge}
use Rattle.zpl_meaning.specs.Regions.{vector_in}
use Rattle.zpl_meaning.specs.Proper.{HasCurrent, IsRead, IsProper}
use Rattle.lowering_fits.specs.of_flat_form.Laws.{IsPlain}
use Rattle.lowering_fits.specs.of_flat_form.Row as row
use Rattle.lowering_fits.specs.of_flat_form.Row.{Row}
use Rattle.node_form.specs.declared.instructions.Instr.TheVariants as instr
use Rattle.lowering_fits.specs.of_zpl_lowering.Where.{Slotted, slotted_at, Where, Next}
use Rattle.lowering_fits.specs.of_zpl_lowering.Bracket.{Opened, Form, standing, formed, named_region, name_opened, forms_of, computed, one_row, fixed_or, constant_region, bracket}
use Rattle.lowering_fits.specs.of_zpl_lowering.Slate as slate
use Rattle.lowering_fits.specs.of_zpl_lowering.Slate.{Slate, Slates, NoSlate, ThenSlate, Settled, behind, named_slate, shifted_slate, remap_slate, around_slate, of_opened, opened_source, source_of, source_rank, under_source, settled, settled_all, Placed, settled_each}
use Rattle.lowering_fits.specs.of_zpl_lowering.Reference.{conforming, all_conforming, each_once, need_of, needs, Reference}
use Rattle.lowering_fits.specs.of_zpl_lowering.Statement.{prefix_opened}
use Rattle.lowering_checks.specs.Walked.{Since, behind_row, AreChecked}
use Rattle.lowering_fits.specs.Reach.{place_at}

-- ---- rows without loops, with their parts in their places

abbrev pub IsQuiet : Row → Type 0
IsQuiet (row.Loop slot group) = ⊥
IsQuiet (row.Plain one) = IsPlain one
IsQuiet one = Unit {0}

abbrev pub AllQuiet : List Row → Type 0
AllQuiet [] = Unit {0}
AllQuiet (one ∷ rows) = IsQuiet one × AllQuiet rows

pub quiet_both : (xs ys : List Row) → AllQuiet xs → AllQuiet ys → AllQuiet (xs ++ ys)
quiet_both [] ys first rest = rest
quiet_both (x ∷ xs) ys first rest = (first.0, quiet_both xs ys first.1 rest)

pub quiet_checked : (last : Option Since) (rows : List Row) → AllQuiet rows → AreChecked last rows
quiet_checked last [] quiet = tt
quiet_checked last (row.Loop slot group ∷ rows) quiet = absurd quiet.0
quiet_checked last (row.Set scalar expr line ∷ rows) quiet = (tt, quiet_checked None rows quiet.1)
quiet_checked last (row.Dims slot parts line ∷ rows) quiet = (tt, quiet_checked None rows quiet.1)
quiet_checked last (row.Print text ∷ rows) quiet = (tt, quiet_checked None rows quiet.1)
quiet_checked last (row.Number expr ∷ rows) quiet = (tt, quiet_checked None rows quiet.1)
quiet_checked last (row.Truth expr ∷ rows) quiet = (tt, quiet_checked None rows quiet.1)
quiet_checked last (row.Unless expr goal line ∷ rows) quiet =
    (tt, quiet_checked None rows quiet.1)
quiet_checked last (row.Plain one ∷ rows) quiet =
    (quiet.0, quiet_checked (behind_row last (row.Plain one)) rows quiet.1)

-- ---- brackets

formed_quiet : (next line : ℕ) (forms : List Form) (opened : Opened) → AllQuiet opened.rows →
    AllQuiet (formed next line forms opened).rows
formed_quiet next line [] opened quiet = quiet
formed_quiet next line (one ∷ rest) opened quiet =
    let made = row.Plain (instr.Formed one.form next opened.slot one.shift line) in
    formed_quiet (suc next) line rest
    (record {
      rows = opened.rows ++ made ∷ [];
      slots = opened.slots ++ length opened.flood ∷ [];
      slot = next;
      flood = opened.flood;
    }) (quiet_both opened.rows (made ∷ []) quiet (tt, tt))

name_quiet : (b : Bool) (w : Where) (next line : ℕ) (current : Slotted) (pre : List Pre)
    (name : Name) (post : Posts) → AllQuiet (name_opened b w next line current pre name post).rows
name_quiet true w next line current pre name post = (tt, tt)
name_quiet false w next line current pre name post =
    formed_quiet next line (forms_of w.setup.known pre post) (named_region w.setup.known name) tt

pub computed_quiet : (w : Where) (next line : ℕ) (current : Slotted) (inner : Inner) →
    AllQuiet (computed w next line current inner).rows
computed_quiet w next line current (Rexpr pre (NamedRegion name) post) =
    name_quiet (is_index w.scope pre name post) w next line current pre name post
computed_quiet w next line current (Rexpr pre (Ditto at) post) =
    formed_quiet next line (forms_of w.setup.known pre post) (standing current.slot current.flood)
    tt
computed_quiet w next line current (Dims dims) = (tt, tt)

one_quiet : (rows : List Row) (opened fixed : Opened) → AllQuiet opened.rows →
    AllQuiet fixed.rows → AllQuiet (one_row rows opened fixed).rows
one_quiet [] opened fixed first rest = first
one_quiet (one ∷ rows) opened fixed first rest = rest

pub bracket_quiet : (w : Where) (next line : ℕ) (current : Slotted) (inner : Inner) →
    AllQuiet (bracket w next line current inner).rows
bracket_quiet w next line current inner =
    by (constant_region w inner) (computed w next line current inner)
    (computed_quiet w next line current inner)
  where
    by : (found : Option Region) (opened : Opened) → AllQuiet opened.rows →
        AllQuiet (fixed_or found next opened).rows
    by None opened quiet = quiet
    by (Some region) opened quiet = one_quiet opened.rows opened _ quiet (tt, tt)

pub opened_quiet : (b : Bool) (w : Where) (next line : ℕ) (current : Slotted) (inner : Inner) →
    AllQuiet (prefix_opened b w next line current inner).rows
opened_quiet true w next line current inner = computed_quiet w next line current inner
opened_quiet false w next line current inner = bracket_quiet w next line current inner

-- ---- the brackets in expressions

around_quiet : (next : Next) (over : Slotted) (shift : List ℤ) (thing : Option Thing) →
    AllQuiet (around_slate next over shift thing).rows
around_quiet next over shift None = tt
around_quiet next over shift (Some (Scalar place)) = tt
around_quiet next over shift (Some (Fixed value)) = tt
around_quiet next over shift (Some (ArrayAt place home)) = tt

mutual
  pub settled_quiet : (w : Where) (line : ℕ) (next : Next) (rank : Rank) (one : Expr) →
      AllQuiet (settled w line next rank one).rows
  settled_quiet w line next rank (Number at value) = tt
  settled_quiet w line next rank (Truth at value) = tt
  settled_quiet w line next rank (Coord at k) = tt
  settled_quiet w line next rank (Named at name) = tt
  settled_quiet w line next rank (Shifted at name shift) = tt
  settled_quiet w line next rank (Around at name shift) =
      around_quiet next (slotted_at w.currents rank) (vector_in w.setup.known shift)
      (thing_of w.environment name.text)
  settled_quiet w line next rank (Remap at name indices) =
      settled_all_quiet w line next rank indices
  settled_quiet w line next rank (Call at name actuals) = tt
  settled_quiet w line next rank (Paren at inside) = settled_quiet w line next rank inside
  settled_quiet w line next rank (Neg at operand) = settled_quiet w line next rank operand
  settled_quiet w line next rank (Not at operand) = settled_quiet w line next rank operand
  settled_quiet w line next rank (Abs at operand) = settled_quiet w line next rank operand
  settled_quiet w line next rank (Pair at op left right) =
      let first : Settled Slate = settled w line next rank left in
      let rest : Settled Slate = settled w line (behind next first) rank right in
      quiet_both first.rows rest.rows (settled_quiet w line next rank left)
      (settled_quiet w line (behind next first) rank right)
  settled_quiet w line next rank (Reduce at operator NoBracket operand) =
      settled_quiet w line next (operand_rank w.scope w.prefix operand) operand
  settled_quiet w line next rank (Reduce at operator (Bracketed source) operand) =
      let over : Rank = source_rank w source operand in
      let opened : Opened = opened_source w next line source operand in
      let inner : Where = under_source w over (source_of opened) in
      let after : Next = behind next (of_opened opened) in
      let rest : Settled Slate = settled inner line after over operand in
      quiet_both opened.rows rest.rows
      (bracket_quiet w next.slots line (slotted_at w.currents over) source)
      (settled_quiet inner line after over operand)
  settled_quiet w line next rank (Scan at operator along operand) =
      settled_quiet w line next rank operand
  settled_quiet w line next rank (Flood at source operand) =
      let over : Rank = source_rank w source operand in
      let opened : Opened = opened_source w next line source operand in
      let inner : Where = under_source w over (source_of opened) in
      let after : Next = behind next (of_opened opened) in
      let rest : Settled Slate = settled inner line after over operand in
      quiet_both opened.rows rest.rows
      (bracket_quiet w next.slots line (slotted_at w.currents over) source)
      (settled_quiet inner line after over operand)

  settled_all_quiet : (w : Where) (line : ℕ) (next : Next) (rank : Rank) (all : Exprs) →
      AllQuiet (settled_all w line next rank all).rows
  settled_all_quiet w line next rank NoExpr = tt
  settled_all_quiet w line next rank (ThenExpr one rest) =
      let first : Settled Slate = settled w line next rank one in
      let others : Settled Slates = settled_all w line (behind next first) rank rest in
      quiet_both first.rows others.rows (settled_quiet w line next rank one)
      (settled_all_quiet w line (behind next first) rank rest)

pub each_quiet : (w : Where) (line : ℕ) (next : Next) (placed : List Placed) →
    AllQuiet (settled_each w line next placed).rows
each_quiet w line next [] = tt
each_quiet w line next (one ∷ rest) =
    let first : Settled Slate = settled w line next one.rank one.expr in
    let others : Settled Slates = settled_each w line (behind next first) rest in
    quiet_both first.rows others.rows (settled_quiet w line next one.rank one.expr)
    (each_quiet w line (behind next first) rest)

mutual
  conforming_quiet : (line : ℕ) (one : Slate) → AllQuiet (conforming line one)
  conforming_quiet line (slate.Constant value) = tt
  conforming_quiet line (slate.Variable place) = tt
  conforming_quiet line (slate.Coordinate k) = tt
  conforming_quiet line (slate.Element slot place shift) = tt
  conforming_quiet line (slate.Wrapped slot place home shift copy first) = tt
  conforming_quiet line (slate.Unary operator operand) = conforming_quiet line operand
  conforming_quiet line (slate.Binary operator left right) =
      quiet_both (conforming line left) (conforming line right) (conforming_quiet line left)
      (conforming_quiet line right)
  conforming_quiet line (slate.Folded operator over operand) = conforming_quiet line operand
  conforming_quiet line (slate.PartFolded operator over source operand) =
      (tt, conforming_quiet line operand)
  conforming_quiet line (slate.Scanned operator along over operand) =
      conforming_quiet line operand
  conforming_quiet line (slate.Flooded over source operand) = (tt, conforming_quiet line operand)
  conforming_quiet line (slate.Remapped over place indices) = all_conforming_quiet line indices

  pub all_conforming_quiet : (line : ℕ) (all : Slates) → AllQuiet (all_conforming line all)
  all_conforming_quiet line NoSlate = tt
  all_conforming_quiet line (ThenSlate first rest) =
      quiet_both (conforming line first) (all_conforming line rest) (conforming_quiet line first)
      (all_conforming_quiet line rest)

pub needs_quiet : (line : ℕ) (refs : List Reference) → AllQuiet (needs line refs)
needs_quiet line refs = by (each_once refs)
  where
    by : (all : List Reference) → AllQuiet (map (need_of line) all)
    by [] = tt
    by (one ∷ all) = (tt, by all)

-- ---- the slots of copies: from a number on

abbrev mutual
  pub Fresh : ℕ → Slate → Type 0
  Fresh n (slate.Constant value) = Unit {0}
  Fresh n (slate.Variable place) = Unit {0}
  Fresh n (slate.Coordinate k) = Unit {0}
  Fresh n (slate.Element slot place shift) = Unit {0}
  Fresh n (slate.Wrapped slot place home shift copy first) = n ≤ first
  Fresh n (slate.Unary operator operand) = Fresh n operand
  Fresh n (slate.Binary operator left right) = Fresh n left × Fresh n right
  Fresh n (slate.Folded operator over operand) = Unit {0}
  Fresh n (slate.PartFolded operator over source operand) = Unit {0}
  Fresh n (slate.Scanned operator along over operand) = Unit {0}
  Fresh n (slate.Flooded over source operand) = Unit {0}
  Fresh n (slate.Remapped over place indices) = AllFresh n indices

  pub AllFresh : ℕ → Slates → Type 0
  AllFresh n NoSlate = Unit {0}
  AllFresh n (ThenSlate first rest) = Fresh n first × AllFresh n rest

named_fresh : (n : ℕ) (over : Slotted) (thing : Option Thing) → Fresh n (named_slate over thing)
named_fresh n over None = tt
named_fresh n over (Some (Scalar place)) = tt
named_fresh n over (Some (Fixed value)) = tt
named_fresh n over (Some (ArrayAt place home)) = tt

shifted_fresh : (n : ℕ) (over : Slotted) (shift : List ℤ) (thing : Option Thing) →
    Fresh n (shifted_slate over shift thing)
shifted_fresh n over shift None = tt
shifted_fresh n over shift (Some (Scalar place)) = tt
shifted_fresh n over shift (Some (Fixed value)) = tt
shifted_fresh n over shift (Some (ArrayAt place home)) = tt

around_fresh : (n : ℕ) (next : Next) (over : Slotted) (shift : List ℤ) (thing : Option Thing) →
    n ≤ next.slots → Fresh n (around_slate next over shift thing).slate
around_fresh n next over shift None below = tt
around_fresh n next over shift (Some (Scalar place)) below = tt
around_fresh n next over shift (Some (Fixed value)) below = tt
around_fresh n next over shift (Some (ArrayAt place home)) below = below

remap_fresh : (n : ℕ) (over : Slotted) (thing : Option Thing) (indices : Slates) →
    AllFresh n indices → Fresh n (remap_slate over thing indices)
remap_fresh n over None indices fresh = tt
remap_fresh n over (Some (Scalar place)) indices fresh = tt
remap_fresh n over (Some (Fixed value)) indices fresh = tt
remap_fresh n over (Some (ArrayAt place home)) indices fresh = fresh

mutual
  pub settled_fresh : (n : ℕ) (w : Where) (line : ℕ) (next : Next) (rank : Rank) (one : Expr) →
      n ≤ next.slots → Fresh n (settled w line next rank one).slate
  settled_fresh n w line next rank (Number at value) below = tt
  settled_fresh n w line next rank (Truth at value) below = tt
  settled_fresh n w line next rank (Coord at k) below = tt
  settled_fresh n w line next rank (Named at name) below =
      named_fresh n (slotted_at w.currents rank) (thing_of w.environment name.text)
  settled_fresh n w line next rank (Shifted at name shift) below =
      shifted_fresh n (slotted_at w.currents rank) (vector_in w.setup.known shift)
      (thing_of w.environment name.text)
  settled_fresh n w line next rank (Around at name shift) below =
      around_fresh n next (slotted_at w.currents rank) (vector_in w.setup.known shift)
      (thing_of w.environment name.text) below
  settled_fresh n w line next rank (Remap at name indices) below =
      remap_fresh n (slotted_at w.currents rank) (thing_of w.environment name.text)
      (settled_all w line next rank indices).slate
      (settled_all_fresh n w line next rank indices below)
  settled_fresh n w line next rank (Call at name actuals) below = tt
  settled_fresh n w line next rank (Paren at inside) below =
      settled_fresh n w line next rank inside below
  settled_fresh n w line next rank (Neg at operand) below =
      settled_fresh n w line next rank operand below
  settled_fresh n w line next rank (Not at operand) below =
      settled_fresh n w line next rank operand below
  settled_fresh n w line next rank (Abs at operand) below =
      settled_fresh n w line next rank operand below
  settled_fresh n w line next rank (Pair at op left right) below =
      let first : Settled Slate = settled w line next rank left in (
        settled_fresh n w line next rank left below,
        settled_fresh n w line (behind next first) rank right (omega (arith, below)),
      )
  settled_fresh n w line next rank (Reduce at operator NoBracket operand) below = tt
  settled_fresh n w line next rank (Reduce at operator (Bracketed source) operand) below = tt
  settled_fresh n w line next rank (Scan at operator along operand) below = tt
  settled_fresh n w line next rank (Flood at source operand) below = tt

  settled_all_fresh : (n : ℕ) (w : Where) (line : ℕ) (next : Next) (rank : Rank) (all : Exprs) →
      n ≤ next.slots → AllFresh n (settled_all w line next rank all).slate
  settled_all_fresh n w line next rank NoExpr below = tt
  settled_all_fresh n w line next rank (ThenExpr one rest) below =
      let first : Settled Slate = settled w line next rank one in (
        settled_fresh n w line next rank one below,
        settled_all_fresh n w line (behind next first) rank rest (omega (arith, below)),
      )

-- ---- the slot that elements are read under, and their shifts: none, or of three components

abbrev pub IsThree : List ℤ → Type 0
IsThree [] = Unit {0}
IsThree (d ∷ shift) = length shift ≡ 2

abbrev pub Reads : ℕ → Slate → Type 0
Reads n (slate.Constant value) = Unit {0}
Reads n (slate.Variable place) = Unit {0}
Reads n (slate.Coordinate k) = Unit {0}
Reads n (slate.Element slot place shift) = (slot ≡ n) × IsThree shift
Reads n (slate.Wrapped slot place home shift copy first) = Unit {0}
Reads n (slate.Unary operator operand) = Reads n operand
Reads n (slate.Binary operator left right) = Reads n left × Reads n right
Reads n (slate.Folded operator over operand) = Unit {0}
Reads n (slate.PartFolded operator over source operand) = Unit {0}
Reads n (slate.Scanned operator along over operand) = Unit {0}
Reads n (slate.Flooded over source operand) = Unit {0}
Reads n (slate.Remapped over place indices) = Unit {0}

pub three_is : (shift : List ℤ) → length shift ≡ 3 → IsThree shift
three_is [] is = tt
three_is (d ∷ shift) is = omega (arith, is)

module _ (n : ℕ) (w : Where) (result : ℕ) (currents : Currents) (edge : Option Edge)
    (vectors : (dir : Dir) → length (vector_in w.setup.known dir) ≡ 3) (line : ℕ) (rank : Rank)
    (here : HasCurrent currents rank → (slotted_at w.currents rank).slot ≡ n) where
  named_reads : (name : Name) (thing : Option Thing) →
      IsRead currents rank thing →
      Reads n (named_slate (slotted_at w.currents rank) thing)
  named_reads name None proper = tt
  named_reads name (Some (Scalar place)) proper = tt
  named_reads name (Some (Fixed value)) proper = tt
  named_reads name (Some (ArrayAt place home)) proper = (here proper, tt)

  shifted_reads : (shift : Dir) (thing : Option Thing) → HasCurrent currents rank →
      Reads n
      (shifted_slate (slotted_at w.currents rank) (vector_in w.setup.known shift) thing)
  shifted_reads shift None has = tt
  shifted_reads shift (Some (Scalar place)) has = tt
  shifted_reads shift (Some (Fixed value)) has = tt
  shifted_reads shift (Some (ArrayAt place home)) has =
      (here has, three_is (vector_in w.setup.known shift) (vectors shift))

  around_reads : (next : Next) (shift : Dir) (thing : Option Thing) →
      Reads n
      (around_slate next (slotted_at w.currents rank) (vector_in w.setup.known shift) thing).slate
  around_reads next shift None = tt
  around_reads next shift (Some (Scalar place)) = tt
  around_reads next shift (Some (Fixed value)) = tt
  around_reads next shift (Some (ArrayAt place home)) = tt

  remap_reads : (thing : Option Thing) (indices : Slates) →
      Reads n (remap_slate (slotted_at w.currents rank) thing indices)
  remap_reads None indices = tt
  remap_reads (Some (Scalar place)) indices = tt
  remap_reads (Some (Fixed value)) indices = tt
  remap_reads (Some (ArrayAt place home)) indices = tt

  pub settled_reads : (next : Next) (one : Expr) →
      IsProper (place_at w result currents edge) rank one →
      Reads n (settled w line next rank one).slate
  settled_reads next (Number at value) proper = tt
  settled_reads next (Truth at value) proper = tt
  settled_reads next (Coord at k) proper = tt
  settled_reads next (Named at name) proper =
      named_reads name (thing_of w.environment name.text) proper
  settled_reads next (Shifted at name shift) proper =
      shifted_reads shift (thing_of w.environment name.text) proper.1
  settled_reads next (Around at name shift) proper =
      around_reads next shift (thing_of w.environment name.text)
  settled_reads next (Remap at name indices) proper =
      remap_reads (thing_of w.environment name.text) (settled_all w line next rank indices).slate
  settled_reads next (Call at name actuals) proper = tt
  settled_reads next (Paren at inside) proper = settled_reads next inside proper
  settled_reads next (Neg at operand) proper = settled_reads next operand proper
  settled_reads next (Not at operand) proper = settled_reads next operand proper
  settled_reads next (Abs at operand) proper = settled_reads next operand proper
  settled_reads next (Pair at op left right) proper =
      let first : Settled Slate = settled w line next rank left in
      (settled_reads next left proper.0, settled_reads (behind next first) right proper.1)
  settled_reads next (Reduce at operator NoBracket operand) proper = tt
  settled_reads next (Reduce at operator (Bracketed source) operand) proper = tt
  settled_reads next (Scan at operator along operand) proper = tt
  settled_reads next (Flood at source operand) proper = tt
