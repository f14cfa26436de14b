-- Rows of the phases, with what they have of their own, as code.
use Rattle.std.specs.Prelude.{◌≡◌, ℕ, Bool, List}
use Rattle.node_form.specs.Expression.{Expression, words_of}
use Rattle.flat_form.specs.Row.{Row, Words}
use Rattle.lower_regions.specs.of_zpl_lowering.Where.{Next}
use Rattle.lower_regions.specs.of_zpl_lowering.Slate.{Settled}
use Rattle.lower_regions.specs.of_zpl_lowering.Hoist.{Hoisted, Free}
use Rattle.lower_regions.specs.of_zpl_lowering.Lowered.{Lowered, coded, rows_alone}
use Rattle.lower_regions.specs.of_lower_draft.Drafted.{Drafted, grown}

-- rows, with scalars and temporaries of their own
abbrev pub owning : ℕ → List (List Bool) → List Row → Lowered
owning scalars temps rows = record (rows_alone rows) { scalars = scalars; temps = temps }

-- the rows of brackets
abbrev pub of_settled : {A : Type 0} → Settled A → Lowered
of_settled settled =
    record (rows_alone settled.rows) { slots = settled.slots; copies = settled.copies }

-- the rows of operators over regions
abbrev pub of_hoisted : {A : Type 0} → Hoisted A → Lowered
of_hoisted hoisted =
    record (coded hoisted.code) {
      scalars = hoisted.scalars;
      temps = hoisted.temps;
      shifts = hoisted.shifts;
    }

-- what is free for them
abbrev pub free_of : Next → Free
free_of next = record { scalars = next.scalars; temps = next.temps }

-- ---- behind an operand

-- the draft that an operand was hoisted into, and the words that are left of it
pub record IsOver (start : Drafted) (operand : Hoisted Expression) (draft : Drafted)
    (words : Words) : Type 0 where
  pub rows : draft ≡ grown start (of_hoisted operand)
  pub left : words ≡ words_of operand.left

-- a draft, and the words that are left, behind an operator over an operand
abbrev pub Hoists : (Free → Hoisted Expression → Hoisted Expression) → Drafted → Words → Drafted →
    Type 0
Hoists operator draft words new =
    (start : Drafted) (operand : Hoisted Expression) → IsOver start operand draft words →
    new ≡ grown start (of_hoisted (operator (free_of start.next) operand))

abbrev pub Leaves : (Free → Hoisted Expression → Hoisted Expression) → Drafted → Words → Words →
    Type 0
Leaves operator draft words left =
    (start : Drafted) (operand : Hoisted Expression) → IsOver start operand draft words →
    left ≡ words_of (operator (free_of start.next) operand).left
