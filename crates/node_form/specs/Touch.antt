-- What a row writes, and what it names.
use Rattle.std.specs.Prelude.{◌≡◌, ◌⊎◌, ◌↔◌, ℕ, List, slice_get, Option, Some, Any}
use Rattle.std.specs.Option.{IsSomeAnd}
use Rattle.node_form.specs.declared.words.ExprOp.{ExprOp}
use Rattle.node_form.specs.declared.words.ExprOp.TheVariants as word
use Rattle.node_form.specs.declared.arrays.Item.{Item}
use Rattle.node_form.specs.declared.members.Member.{Member}
use Rattle.node_form.specs.declared.members.Member.TheVariants as member
use Rattle.node_form.specs.declared.instructions.DimRow.{DimRow}
use Rattle.node_form.specs.declared.instructions.DimRow.TheVariants as part
use Rattle.node_form.specs.declared.instructions.Instr.{Instr}
use Rattle.node_form.specs.declared.instructions.Instr.TheVariants as instr
use Rattle.node_form.specs.declared.tables.Tables.{Tables}
use Rattle.node_form.specs.declared.touches.Thing.{Thing}
use Rattle.node_form.specs.declared.touches.Thing.TheVariants.{Scalar, Slot, Array}
use Rattle.node_form.specs.declared.touches.Touch.{Touch}
use Rattle.node_form.specs.declared.touches.Touch.TheVariants.{No, Reads, Writes}

-- ---- what is written
-- the array that a member puts, or the scalar into which it folds
abbrev pub IsWrittenByMember : Thing → Member → Type 0
IsWrittenByMember thing (member.Put array expr mask line) = thing ≡ Array array
IsWrittenByMember thing (member.Acc scalar fold expr mask line) = thing ≡ Scalar scalar
IsWrittenByMember thing row = ⊥

-- of a loop, what its group's members write; of a finish, the arrays of its items
abbrev pub IsWritten : Tables → Instr → Thing → Type 0
IsWritten tables (instr.Set scalar expr line) thing = thing ≡ Scalar scalar
IsWritten tables (instr.Fix slot region) thing = thing ≡ Slot slot
IsWritten tables (instr.Dims slot parts line) thing = thing ≡ Slot slot
IsWritten tables (instr.Formed form slot from shift line) thing = thing ≡ Slot slot
IsWritten tables (instr.Room array slot) thing = thing ≡ Array array
IsWritten tables (instr.Clear array) thing = thing ≡ Array array
IsWritten tables (instr.Loop slot group) thing =
    IsSomeAnd (slice_get tables.groups group) (Any (IsWrittenByMember thing))
IsWritten tables (instr.Finish exchange) thing =
    IsSomeAnd (slice_get tables.exchanges exchange) (Any (λ item. thing ≡ Array item.array))
IsWritten tables (instr.Edge kind array slot shift) thing = thing ≡ Array array
IsWritten tables (instr.Flood array target from source) thing = thing ≡ Array array
IsWritten tables (instr.Part array target fold from source) thing = thing ≡ Array array
IsWritten tables (instr.Scan array slot fold along from mask) thing = thing ≡ Array array
IsWritten tables (instr.Fold scalar fold) thing = thing ≡ Scalar scalar
IsWritten tables (instr.TreeFold scalar fold) thing = thing ≡ Scalar scalar
IsWritten tables (instr.Remap array slot from parts) thing = thing ≡ Array array
IsWritten tables row thing = ⊥

-- ---- what is named
abbrev pub IsNamedByWord : Thing → ExprOp → Type 0
IsNamedByWord thing (word.Scalar scalar) = thing ≡ Scalar scalar
IsNamedByWord thing (word.Here array) = thing ≡ Array array
IsNamedByWord thing (word.Shifted array shift) = thing ≡ Array array
IsNamedByWord thing row = ⊥

-- a word of the expression names it
abbrev pub IsNamedByExpr : Tables → Thing → ℕ → Type 0
IsNamedByExpr tables thing expr = IsSomeAnd (slice_get tables.exprs expr) (Any (IsNamedByWord thing))

abbrev pub IsNamedByMask : Tables → Thing → Option ℕ → Type 0
IsNamedByMask tables thing mask = IsSomeAnd mask (IsNamedByExpr tables thing)

abbrev pub IsNamedByMember : Tables → Thing → Member → Type 0
IsNamedByMember tables thing (member.Put array expr mask line) =
    (thing ≡ Array array) ⊎ (IsNamedByExpr tables thing expr ⊎ IsNamedByMask tables thing mask)
IsNamedByMember tables thing (member.Cell cell expr mask line) =
    IsNamedByExpr tables thing expr ⊎ IsNamedByMask tables thing mask
IsNamedByMember tables thing (member.Acc scalar fold expr mask line) =
    (thing ≡ Scalar scalar) ⊎ (IsNamedByExpr tables thing expr ⊎ IsNamedByMask tables thing mask)
IsNamedByMember tables thing (member.OpenIf expr mask line) =
    IsNamedByExpr tables thing expr ⊎ IsNamedByMask tables thing mask
IsNamedByMember tables thing (member.OpenWhile expr mask line) =
    IsNamedByExpr tables thing expr ⊎ IsNamedByMask tables thing mask
IsNamedByMember tables thing (member.OpenRepeat mask line) = IsNamedByMask tables thing mask
IsNamedByMember tables thing (member.Until expr) = IsNamedByExpr tables thing expr
IsNamedByMember tables thing row = ⊥

abbrev pub IsNamedByItem : Thing → Item → Type 0
IsNamedByItem thing item = (thing ≡ Array item.array) ⊎ (thing ≡ Slot item.slot)

abbrev pub IsNamedByExchange : Tables → Thing → ℕ → Type 0
IsNamedByExchange tables thing exchange = IsSomeAnd (slice_get tables.exchanges exchange) (Any (IsNamedByItem thing))

abbrev pub IsNamedByPart : Tables → Thing → DimRow → Type 0
IsNamedByPart tables thing (part.Span low high) = IsNamedByExpr tables thing low ⊎ IsNamedByExpr tables thing high
IsNamedByPart tables thing part.Star = ⊥
IsNamedByPart tables thing (part.Copied slot) = thing ≡ Slot slot

abbrev pub IsNamedByGroup : Tables → Thing → ℕ → Type 0
IsNamedByGroup tables thing group = IsSomeAnd (slice_get tables.groups group) (Any (IsNamedByMember tables thing))

-- The row names it, or an expression of the row does, or the group of its loop or an expression of
-- that, or the exchange of its start or finish.
abbrev pub IsNamed : Tables → Instr → Thing → Type 0
IsNamed tables (instr.Set scalar expr line) thing = (thing ≡ Scalar scalar) ⊎ IsNamedByExpr tables thing expr
IsNamed tables (instr.Fix slot region) thing = thing ≡ Slot slot
IsNamed tables (instr.Dims slot parts line) thing = (thing ≡ Slot slot) ⊎ Any (IsNamedByPart tables thing) parts
IsNamed tables (instr.Formed form slot from shift line) thing = (thing ≡ Slot slot) ⊎ (thing ≡ Slot from)
IsNamed tables (instr.Need slot array shift line) thing = (thing ≡ Slot slot) ⊎ (thing ≡ Array array)
IsNamed tables (instr.Same target source kind line) thing = (thing ≡ Slot target) ⊎ (thing ≡ Slot source)
IsNamed tables (instr.Fits slot shift line) thing = thing ≡ Slot slot
IsNamed tables (instr.Room array slot) thing = (thing ≡ Array array) ⊎ (thing ≡ Slot slot)
IsNamed tables (instr.Clear array) thing = thing ≡ Array array
IsNamed tables (instr.Loop slot group) thing =
    (thing ≡ Slot slot) ⊎ IsNamedByGroup tables thing group
IsNamed tables (instr.Start exchange) thing = IsNamedByExchange tables thing exchange
IsNamed tables (instr.Finish exchange) thing = IsNamedByExchange tables thing exchange
IsNamed tables (instr.Edge kind array slot shift) thing = (thing ≡ Array array) ⊎ (thing ≡ Slot slot)
IsNamed tables (instr.Flood array target from source) thing =
    (thing ≡ Array array) ⊎ ((thing ≡ Slot target) ⊎ ((thing ≡ Array from) ⊎ (thing ≡ Slot source)))
IsNamed tables (instr.Part array target fold from source) thing =
    (thing ≡ Array array) ⊎ ((thing ≡ Slot target) ⊎ ((thing ≡ Array from) ⊎ (thing ≡ Slot source)))
IsNamed tables (instr.Scan array slot fold along from mask) thing =
    (thing ≡ Array array)
    ⊎ ((thing ≡ Slot slot) ⊎ ((thing ≡ Array from) ⊎ IsSomeAnd mask (λ read. thing ≡ Array read)))
IsNamed tables (instr.Vote group) thing = ⊥
IsNamed tables (instr.Fold scalar fold) thing = thing ≡ Scalar scalar
IsNamed tables (instr.TreeVote group) thing = ⊥
IsNamed tables (instr.TreeFold scalar fold) thing = thing ≡ Scalar scalar
IsNamed tables (instr.Print text) thing = ⊥
IsNamed tables (instr.Number expr) thing = IsNamedByExpr tables thing expr
IsNamed tables (instr.Truth expr) thing = IsNamedByExpr tables thing expr
IsNamed tables (instr.Gather truth array slot) thing = (thing ≡ Array array) ⊎ (thing ≡ Slot slot)
IsNamed tables (instr.Jump goal) thing = ⊥
IsNamed tables (instr.Unless expr goal line) thing = IsNamedByExpr tables thing expr
IsNamed tables (instr.Trap kind line) thing = ⊥
IsNamed tables instr.End thing = ⊥
IsNamed tables (instr.Remap array slot from parts) thing =
    (thing ≡ Array array)
    ⊎ ((thing ≡ Slot slot) ⊎ ((thing ≡ Array from) ⊎ Any (λ part. IsSomeAnd part (λ read. thing ≡ Array read)) parts))

-- ---- what a row does with a thing
-- The row, if there is one, writes the thing just where the touch says so; it names the thing and
-- doesn't write it where the touch is a reading one; and else it doesn't name it.
pub record IsTouch (tables : Tables) (row : Option Instr) (thing : Thing) (touch : Touch) : Type 0 where
  pub writes : (touch ≡ Writes) ↔ IsSomeAnd row (λ instr. IsWritten tables instr thing)
  pub reads : (touch ≡ Reads) ↔ IsSomeAnd row (λ instr. IsNamed tables instr thing × (IsWritten tables instr thing → ⊥))
  pub no : (touch ≡ No) ↔ (IsSomeAnd row (λ instr. IsNamed tables instr thing) → ⊥)
