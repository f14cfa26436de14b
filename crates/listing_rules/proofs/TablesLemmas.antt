-- What is known behind each part of a listing.
use Rattle.std.proofs.Common.{◌≡◌, ℕ, ◌+◌, ◌-◌, ◌≤◌, ◌<◌, false, List, [], ◌∷◌, length, drop, sym, ◌∙◌, ap, subst, refl, arith, length-drop}
use Rattle.std.specs.Prelude.{All}
use Rattle.node_form.specs.declared.arrays.ArrayRow.{ArrayRow}
use Rattle.node_form.specs.declared.arrays.Item.{Item}
use Rattle.node_form.specs.declared.instructions.Instr.{Instr}
use Rattle.node_form.specs.declared.members.Member.{Member}
use Rattle.node_form.specs.declared.tables.Tables.{Tables}
use Rattle.node_form.specs.Fits.{IsRank, FitsArray}
use Rattle.node_form.specs.Grid.{IsGrid}
use Rattle.listing_rows.specs.of_listing_lines.declared.lines.Line.{Line}
use Rattle.listing_rules.specs.declared.facts.Known.{Known}
use Rattle.listing_rules.specs.declared.facts.Ranks.{Ranks}
use Rattle.listing_rules.specs.declared.parts.Part.TheVariants as part
use Rattle.listing_rules.specs.Facts.{AreExprFacts, AreGroupFacts, Knows, Tell}
use Rattle.listing_rules.specs.Reads.{begins, Reads, Over, More}
use Rattle.listing_rules.specs.Room.{HasThree}
use Rattle.listing_rules.specs.Rules.{belongs, IsArrayLine}
use Rattle.listing_rules.specs.Stages.{ReadHead, ReadExprs}
use Rattle.listing_rules.proofs.Sound.{all_fit, counted, array_shapes}

pub head_grid : (lines : List Line) (tables : Tables) (rest : List Line) → ReadHead lines tables rest → IsGrid tables.grid
head_grid lines tables rest r = subst (λ (t : Tables). IsGrid t.grid) (sym r.made) r.grid_is.is.fits

module _ (lines rest : List Line) (rows : List ArrayRow) (reads : Reads (belongs part.Arrays) (λ (done : List ArrayRow). IsArrayLine) [] lines rows rest) where
  pub arrays_fit : All FitsArray rows
  arrays_fit = all_fit FitsArray (λ done line row is. is.fits) reads

  pub arrays_three : All HasThree rows
  arrays_three = all_fit HasThree (λ done line row is. subst HasThree is.told refl) reads

pub arrays_inside : (lines : List Line) (at : ℕ) (rows : List ArrayRow) → 5 ≤ length lines → Reads (belongs part.Arrays) (λ (done : List ArrayRow). IsArrayLine) [] (drop 5 lines) rows (drop at lines) → 5 + length rows ≤ length lines
arrays_inside lines at rows some reads = let n = counted reads in omega (arith, n, length-drop 5 lines)

-- ---- the tables behind the expressions
record Words (tables : Tables) : Type 0 where
  slots : All IsRank tables.slots
  groups : tables.groups ≡ []

words_of : (lines : List Line) (tables : Tables) (rest : List Line) → ReadExprs lines tables rest → Words tables
words_of lines tables rest r =
    let shapes = array_shapes lines r.texts.before r.texts.behind r.texts.arrays in
    let is : tables ≡ record (record r.texts.before { texts = r.texts.rows }) { exprs = r.rows } = r.made ∙ ap (λ (t : Tables). record t { exprs = r.rows }) r.texts.made in
    subst Words (sym is) (subst (λ (t : Tables). Words (record (record t { texts = r.texts.rows }) { exprs = r.rows })) (sym shapes.is) (record { slots = shapes.slots_fit; groups = refl }))

pub words_slots : (lines : List Line) (tables : Tables) (rest : List Line) → ReadExprs lines tables rest → All IsRank tables.slots
words_slots lines tables rest r = (words_of lines tables rest r).slots

pub words_groups : (lines : List Line) (tables : Tables) (rest : List Line) → ReadExprs lines tables rest → tables.groups ≡ []
words_groups lines tables rest r = (words_of lines tables rest r).groups

-- ---- what is known, as tables grow
tell_as : {X F : Type 0} (Is Also : X → F → Type 0) → ((row : X) (fact : F) → Is row fact → Also row fact) → (rows : List X) (facts : List F) → Tell Is rows facts → Tell Also rows facts
tell_as Is Also as_well rows facts tell = record { count = tell.count; each = λ k row fact e f. as_well row fact (tell.each k row fact e f) }

pub knows_groups : (known : Known) (groups : List (List Member)) (ranks : List Ranks) → Knows known → Tell (AreGroupFacts known.tables) groups ranks → Knows (record known { tables = record known.tables { groups = groups }; groups = ranks })
knows_groups known groups ranks knows tell = record {
  slots = knows.slots;
  exprs = tell_as (AreExprFacts known.tables) (AreExprFacts (record known.tables { groups = groups })) (λ row fact is. record { ranks = is.ranks; scalar = is.scalar }) known.tables.exprs known.exprs knows.exprs;
  groups = tell_as (AreGroupFacts known.tables) (AreGroupFacts (record known.tables { groups = groups })) (λ row fact is. is) groups ranks tell;
}

pub knows_exchanges : (known : Known) (exchanges : List (List Item)) → Knows known → Knows (record known { tables = record known.tables { exchanges = exchanges } })
knows_exchanges known exchanges knows = record {
  slots = knows.slots;
  exprs = tell_as (AreExprFacts known.tables) (AreExprFacts (record known.tables { exchanges = exchanges })) (λ row fact is. record { ranks = is.ranks; scalar = is.scalar }) known.tables.exprs known.exprs knows.exprs;
  groups = tell_as (AreGroupFacts known.tables) (AreGroupFacts (record known.tables { exchanges = exchanges })) (λ row fact is. is) known.tables.groups known.groups knows.groups;
}

-- ---- instructions are read to the end
ends : (lines : List Line) → begins (belongs part.Instructions) lines ≡ false → lines ≡ []
ends [] stop = refl
ends (line ∷ lines) stop = absurd cc

pub read_all : {Is : List Instr → Line → Instr → Type 0} {done : List Instr} {lines : List Line} {rows : List Instr} {rest : List Line} → Reads (belongs part.Instructions) Is done lines rows rest → rest ≡ []
read_all (Over done lines stop) = ends lines stop
read_all (More done line lines row rows rest b is reads) = read_all reads

pub left_count : (lines : List Line) (at count : ℕ) → at < length lines → count ≡ length lines - at - 1 → count ≡ length (drop (at + 1) lines)
left_count lines at count inside is = omega (arith, length-drop (at + 1) lines)
