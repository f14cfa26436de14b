-- Loops joined one row after another: what is known in front of a row, and what each row lets be
-- written.
--
--   GroupUses    what a group puts and reads, and the references of its loop
--   UsedNumbers  the arrays of a group that grows, each once
--   all_totals   the scalars that groups accumulate, each once
--   Facts        the references that are known, and the loop that others may still join
--   row_rows     the rows that one lets be written
--   facts_behind what is known behind a row
use Rattle.std.specs.Prelude.{ℕ, ◌==◌, Bool, true, false, not, ◌&&◌, ◌||◌, Option, Some, None}
use Rattle.std.specs.Prelude.{List, [], ◌∷◌, ◌++◌, flat_map, fold, if◌then◌else◌, map}
use Rattle.std.specs.List.{list_any}
use Rattle.temp_norm.specs.of_node_form.declared.words.ExprOp.{ExprOp}
use Rattle.temp_norm.specs.of_node_form.declared.arrays.Item.{Item}
use Rattle.temp_norm.specs.of_node_form.declared.members.Member.{Member}
use Rattle.temp_norm.specs.of_node_form.declared.instructions.Instr.{Instr}
use Rattle.temp_norm.specs.of_node_form.declared.instructions.Instr.TheVariants as instr
use Rattle.temp_norm.specs.of_node_form.declared.tables.Tables.{Tables}
use Rattle.temp_norm.specs.of_node_form.Value.{unmoved}
use Rattle.temp_norm.specs.of_code_parts.Uses.{is_turning, member_words, members_of, put_by, scalars_in, share}
use Rattle.temp_norm.specs.of_code_parts.Uses.{shifted_in}
use Rattle.temp_norm.specs.of_flat_passes.Grouped.{Grouped, Plain}
use Rattle.fuse_contract.specs.Fusing.{Loop, all_accumulated, are_put_alike, both, is_accumulating}
use Rattle.fuse_contract.specs.Fusing.{joins, known_behind, last_rows, reference, references_in}
use Rattle.fuse_contract.specs.Fusing.{references_of}
use Rattle.fuse_contract.specs.declared.uses.GroupUses.{GroupUses}
use Rattle.fuse_contract.specs.declared.grown.UsedNumbers.{UsedNumbers}

-- ---- what a group uses
abbrev pub no_uses : GroupUses
no_uses = record {
  puts = [];
  shifted = [];
  scalars = [];
  references = [];
  alone = false;
}

-- a group with this member joins no other one
abbrev pub stays_alone : Member → Bool
stays_alone one = is_turning one || is_accumulating one

-- with a member's own, and with those of a word
abbrev pub with_member : ℕ → GroupUses → Member → GroupUses
with_member slot uses one = record uses {
  puts = uses.puts ++ put_by one;
  references = uses.references ++ map (λ array. reference slot array unmoved) (put_by one);
  alone = uses.alone || stays_alone one;
}

abbrev pub with_word : ℕ → GroupUses → ExprOp → GroupUses
with_word slot uses one = record uses {
  shifted = uses.shifted ++ shifted_in one;
  scalars = uses.scalars ++ scalars_in one;
  references = uses.references ++ references_in slot one;
}

-- of a loop: first those of its members, then those of all words
abbrev pub uses_of : Tables → ℕ → List Member → GroupUses
uses_of tables slot group = record {
  puts = flat_map put_by group;
  shifted = flat_map shifted_in (flat_map (member_words tables) group);
  scalars = flat_map scalars_in (flat_map (member_words tables) group);
  references = references_of tables slot group;
  alone = list_any stays_alone group;
}

-- ---- of a group that grows
-- one more number, unless it is there
abbrev pub with_number : List ℕ → ℕ → List ℕ
with_number numbers number =
    if list_any (λ other. number == other) numbers then numbers else numbers ++ number ∷ []

abbrev pub no_numbers : UsedNumbers
no_numbers = record { puts = []; shifted = []; alone = false }

abbrev pub with_uses : UsedNumbers → GroupUses → UsedNumbers
with_uses used uses = record {
  puts = fold with_number used.puts uses.puts;
  shifted = fold with_number used.shifted uses.shifted;
  alone = used.alone || uses.alone;
}

abbrev pub all_totals : Tables → List ℕ
all_totals tables = fold with_number [] (all_accumulated tables)

-- another group can be joined to it
abbrev pub can_take : Tables → UsedNumbers → GroupUses → Bool
can_take tables used uses =
    not used.alone && not uses.alone
    && not (share uses.shifted used.puts)
    && not (share uses.puts used.shifted)
    && not (share uses.scalars (all_totals tables))
    && are_put_alike tables used.puts uses.puts

-- ---- what is known in front of a row
pub record Facts : Type 0 where
  pub known : List Item
  pub last : Option Loop

abbrev pub no_facts : Facts
no_facts = record { known = []; last = None }

module _ (tables : Tables) where
  -- the loop joins the last one, if there is one
  abbrev pub joins_last : List Item → Option Loop → Loop → Bool
  joins_last known None loop = false
  joins_last known (Some last) loop = joins tables known last loop

  -- the last one with the loop joined to it
  abbrev pub last_with : Option Loop → Loop → Loop
  last_with None loop = loop
  last_with (Some last) loop = both tables last loop

  -- what a loop lets be written, and what is known behind it
  abbrev pub loop_rows : Facts → Loop → List Grouped
  loop_rows facts loop =
      if joins_last facts.known facts.last loop then [] else last_rows facts.last

  abbrev pub behind_loop : Facts → Loop → Facts
  behind_loop facts loop = record {
    known = references_of tables loop.slot loop.group ++ facts.known;
    last =
        Some (if joins_last facts.known facts.last loop then last_with facts.last loop
        else loop);
  }

  abbrev pub loop_over : ℕ → ℕ → Loop
  loop_over slot group = record { slot = slot; group = members_of tables group }

  -- the same of any row
  abbrev pub row_rows : Facts → Instr → List Grouped
  row_rows facts (instr.Loop slot group) = loop_rows facts (loop_over slot group)
  row_rows facts row = last_rows facts.last ++ Plain row ∷ []

  abbrev pub behind_row : Facts → Instr → Facts
  behind_row facts (instr.Loop slot group) = behind_loop facts (loop_over slot group)
  behind_row facts row = record { known = known_behind facts.known row; last = None }

  -- behind a row that ends a stretch nothing is known
  abbrev pub facts_behind : Facts → Instr → Facts
  facts_behind facts (instr.Jump goal) = no_facts
  facts_behind facts (instr.Unless expr goal line) = no_facts
  facts_behind facts (instr.Trap kind line) = no_facts
  facts_behind facts instr.End = no_facts
  facts_behind facts row = behind_row facts row

-- in front of a row: whether it is a goal
abbrev pub front_rows : Bool → Facts → List Grouped
front_rows true facts = last_rows facts.last
front_rows false facts = []

abbrev pub front_facts : Bool → Facts → Facts
front_facts true facts = no_facts
front_facts false facts = facts
