-- Tables in which equal texts stand once fit.
use Rattle.std.proofs.Common.{arith, ℕ, List, Option, Some, None}
use Rattle.std.specs.Prelude.{slice_get}
use Rattle.std.specs.Option.{IsSomeAnd}
use Rattle.std.proofs.lemmas.List.{length-map}
use Rattle.std.proofs.lemmas.List.Elements.{All-map}
use Rattle.flat_form.specs.of_node_form.declared.words.ExprOp.{ExprOp}
use Rattle.flat_form.specs.of_node_form.declared.arrays.ArrayRow.{ArrayRow}
use Rattle.flat_form.specs.of_node_form.declared.arrays.Item.{Item}
use Rattle.flat_form.specs.of_node_form.declared.members.Member.{Member}
use Rattle.flat_form.specs.of_node_form.declared.instructions.Instr.{Instr}
use Rattle.flat_form.specs.of_node_form.declared.instructions.Instr.TheVariants as instr
use Rattle.flat_form.specs.of_node_form.declared.tables.Tables.{Tables}
use Rattle.flat_form.specs.of_node_form.Fits.{Fits, FitsAt, FitsExchange, FitsExpr, FitsGroup, FitsInstr}
use Rattle.flat_form.specs.of_node_form.Fits.{FitsItem, FitsRemap}
use Rattle.flat_form.specs.Flat.{IsFlat, IsFlatRow}
use Rattle.text_sharing.specs.Shared.{row_shared, texts_shared}
use Rattle.text_sharing.proofs.DifferentLemmas.{number-within}

fit-expr : (tables : Tables) (words : List ExprOp) → FitsExpr tables words →
    FitsExpr (texts_shared tables) words
fit-expr tables words fits = record {
  stack = fits.stack;
  rank = fits.rank;
  is_rank = fits.is_rank;
  fit = fits.fit;
}

fit-group : (tables : Tables) (members : List Member) → FitsGroup tables members →
    FitsGroup (texts_shared tables) members
fit-group tables members fits = record {
  nest = fits.nest;
  rank = fits.rank;
  is_rank = fits.is_rank;
  fit = fits.fit;
}

fit-item : (tables : Tables) (item : Item) → FitsItem tables item →
    FitsItem (texts_shared tables) item
fit-item tables item fits = record {
  rank = fits.rank;
  slot = fits.slot;
  array = fits.array;
  stored = fits.stored;
  shift = fits.shift;
}

fit-exchange : (tables : Tables) (items : List Item) → FitsExchange tables items →
    FitsExchange (texts_shared tables) items
unfolding FitsExchange
fit-exchange tables items fits = λ k d inside. fit-item tables _ (fits k d inside)

fit-remap : (tables : Tables) (rank target : ℕ) (parts : List (Option ℕ))
    (row : Option ArrayRow) → IsSomeAnd row (FitsRemap tables rank target parts) →
    IsSomeAnd row (FitsRemap (texts_shared tables) rank target parts)
fit-remap tables rank target parts None fits = fits
fit-remap tables rank target parts (Some row) fits = record {
  stored = fits.stored;
  ranges = fits.ranges;
  given = fits.given;
  absent = fits.absent;
}

fit-at : (tables : Tables) (rank : ℕ) (row : Instr) → FitsAt tables rank row →
    FitsAt (texts_shared tables) rank (row_shared tables.texts row)
fit-at tables rank (instr.Print text) fits = number-within tables.texts text fits
fit-at tables rank (instr.Jump goal) fits =
    omega (arith, length-map {A = Instr} {B = Instr})
fit-at tables rank (instr.Unless expr goal line) fits =
    (fits.0, omega (arith, fits.1, length-map {A = Instr} {B = Instr}))
fit-at tables rank (instr.Remap array slot from parts) fits = (
  fits.0,
  fits.1,
  fits.2,
  fit-remap tables rank array parts (slice_get tables.arrays from) fits.3,
)
fit-at tables rank row fits = fits

fit-instr : (tables : Tables) (row : Instr) → FitsInstr tables row →
    FitsInstr (texts_shared tables) (row_shared tables.texts row)
fit-instr tables row fits =
    record { rank = fits.rank; fit = fit-at tables fits.rank row fits.fit }

pub shared-fits : (tables : Tables) → Fits tables → Fits (texts_shared tables)
shared-fits tables fits = record {
  grid = fits.grid;
  slots = fits.slots;
  arrays = fits.arrays;
  exprs = λ k d inside. fit-expr tables _ (fits.exprs k d inside);
  groups = λ k d inside. fit-group tables _ (fits.groups k d inside);
  exchanges = λ k d inside. fit-exchange tables _ (fits.exchanges k d inside);
  code =
      All-map (FitsInstr (texts_shared tables)) (row_shared tables.texts) tables.code
      (λ k d inside. fit-instr tables _ (fits.code k d inside));
}

flat-row : (texts : List (List ℕ)) (row : Instr) → IsFlatRow row →
    IsFlatRow (row_shared texts row)
flat-row texts (instr.Print text) flat = tt
flat-row texts row flat = flat

pub shared-flat : (tables : Tables) → IsFlat tables → IsFlat (texts_shared tables)
shared-flat tables flat = record {
  fits = shared-fits tables flat.fits;
  rows =
      All-map IsFlatRow (row_shared tables.texts) tables.code
      (λ k d inside. flat-row tables.texts _ (flat.rows k d inside));
}
