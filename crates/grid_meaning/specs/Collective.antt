-- Rows in which processors work together, turn by turn.
--
--   Stage, stage_of   what such a row does in one of its turns, and in the next one
--   Collective        what such a row does: its turns, its messages and what it makes of them
--   agreed            all processors come to one value: `vote`, `fold` and their forms over a tree
use Rattle.std.specs.Prelude.{ℕ, zero, suc, ◌+◌, ◌-◌, ◌*◌, ◌/◌, ◌==◌, nat_lt, not, Bool, ℤ, pos, neg_ℤ, int_lt, unsigned_abs, if◌then◌else◌, List, [], ◌∷◌, ◌++◌, filter, find, fold, map, option_and_then, slice_get, slice_set, slice_index_or, Option, Some, None}
use Rattle.std.specs.Int.{int_min}
use Rattle.std.specs.List.{range_with_len}
use Rattle.node_form.specs.of_zpl_nums.declared.ends.End.TheVariants.{Trap}
use Rattle.node_form.specs.of_zpl_nums.declared.ends.TrapKind.TheVariants.{DivideByZero}
use Rattle.node_form.specs.of_zpl_nums.declared.folds.Fold.{Fold}
use Rattle.node_form.specs.of_zpl_nums.Fold.{joined}
use Rattle.node_form.specs.declared.members.Member.{Member}
use Rattle.node_form.specs.declared.members.Member.TheVariants.{Put, Cell, Acc, OpenIf, Otherwise, CloseIf, OpenWhile, CloseWhile, OpenRepeat, Until}
use Rattle.node_form.specs.declared.tables.Tables.{Tables}
use Rattle.grid_meaning.specs.Action.{Action, moves, goes_on, ends}
use Rattle.grid_meaning.specs.Local.{Local, processors, processor_numbers}

-- ---- stages
-- One turn: without a message; with a message to a processor; with one from a processor, on which
-- it waits; or the last one, which leaves the row.
pub data Stage : Type 0 where
  Alone : Stage
  Sends : (to : ℕ) → Stage
  TakesFrom : (from : ℕ) → Stage
  Last : Stage

-- What becomes of the words of a message: they are used in the turn that takes them, or kept until
-- the last turn; or so those of requests, if there are any, and those of answers are used at once.
pub data Use : Type 0 where
  AtOnce : Use
  InLast : Use
  Asking : Use

-- What a row does on a processor: its turns, one after another, which `made` counts along; the tag
-- of its messages; what a turn without a message makes of the state; the words for a processor,
-- none where a place of theirs isn't held; whether a message from a processor may have so many
-- words; what such words make of the state, nothing where a place of theirs isn't held; when they
-- are used; and what the last turn does.
pub record Collective : Type 0 where
  pub stages : Local → List Stage
  pub tag : Local → ℕ
  pub alone : Local → Option Local
  pub words_to : Local → ℕ → Option (List ℤ)
  pub awaits : Local → ℕ → ℕ → Bool
  pub taken : Local → ℕ → List ℤ → Option Local
  pub use_of_words : Use
  pub last : Local → Action

abbrev pub stage_of : Collective → Local → Option Stage
stage_of row local = slice_get (row.stages local) local.made

-- the tag of a row that is no exchange
abbrev pub row_tag : Local → ℕ
row_tag local = 2 * local.at + 1

-- the other processors, in ascending order; and those of them between whom and p there are words
abbrev pub others : Tables → ℕ → List ℕ
others code p = filter (λ q. not (q == p)) (processor_numbers code)

abbrev pub others_where : Tables → ℕ → (ℕ → ℕ) → List ℕ
others_where code p many = filter (λ q. nat_lt 0 (many q)) (others code p)

-- ---- what is kept: words with their senders, who ascend
abbrev pub kept_with : ℕ → List ℤ → List (ℕ × List ℤ) → List (ℕ × List ℤ)
kept_with from words [] = (from, words) ∷ []
kept_with from words (entry ∷ kept) =
    if nat_lt from entry.0 then (from, words) ∷ (entry ∷ kept) else entry ∷ kept_with from words kept

abbrev pub keeping : Local → ℕ → List ℤ → Local
keeping local from words = record local { kept = kept_with from words local.kept }

-- the first of some words
abbrev pub first_word : List ℤ → ℤ
first_word words = slice_index_or words 0 (pos 0)

abbrev pub word_or_zero : Option (ℕ × List ℤ) → ℤ
word_or_zero (Some entry) = first_word entry.1
word_or_zero None = pos 0

-- the first word that was kept of a processor
abbrev pub word_from : Local → ℕ → ℤ
word_from local from = word_or_zero (find (λ entry. entry.0 == from) local.kept)

-- ---- one value for all
-- From whom a processor takes values, and to whom it sends what they and its own come to: they are
-- a tree.
pub record Kin : Type 0 where
  pub children : List ℕ
  pub parent : Option ℕ

-- all others are children of processor 0
abbrev pub star : Tables → ℕ → Kin
star code zero = record { children = range_with_len 1 (processors code - 1); parent = None }
star code (suc p) = record { children = []; parent = Some 0 }

-- the children of p are 2p + 1 and 2p + 2, where there are such processors
abbrev pub parent_of : ℕ → Option ℕ
parent_of zero = None
parent_of (suc p) = Some (p / 2)

abbrev pub tree : Tables → ℕ → Kin
tree code p = record {
  children = filter (λ q. nat_lt q (processors code)) ((2 * p + 1) ∷ (2 * p + 2) ∷ []);
  parent = parent_of p;
}

abbrev pub to_parent : Option ℕ → List Stage
to_parent None = []
to_parent (Some parent) = Sends parent ∷ TakesFrom parent ∷ []

abbrev pub agreeing_stages : Kin → List Stage
agreeing_stages kin =
    map TakesFrom kin.children ++ (to_parent kin.parent ++ (map Sends kin.children ++ Last ∷ []))

module _ (kin : Kin) (join : ℤ → ℤ → ℤ) (own : Local → ℤ) where
  -- the own value joined with those that were kept, in ascending order of their senders
  abbrev pub joined_values : Local → ℤ
  joined_values local = fold (λ value entry. join value (first_word entry.1)) (own local) local.kept

  -- what all come to: who has a parent was told it
  abbrev pub value_of_all : Option ℕ → Local → ℤ
  value_of_all None local = joined_values local
  value_of_all (Some parent) local = word_from local parent

  -- the parent gets what was joined, and a child what all come to
  abbrev pub value_for : Option ℕ → Local → ℕ → ℤ
  value_for None local to = joined_values local
  value_for (Some parent) local to = if to == parent then joined_values local else word_from local parent

  abbrev pub agreed : (Local → ℤ → Action) → Collective
  agreed last = record {
    stages = λ local. agreeing_stages kin;
    tag = row_tag;
    alone = λ local. None;
    words_to = λ local to. Some (value_for kin.parent local to ∷ []);
    awaits = λ local from many. many == 1;
    taken = λ local from words. Some (keeping local from words);
    use_of_words = InLast;
    last = λ local. last local (value_of_all kin.parent local);
  }

-- ---- `fold`: a scalar becomes the join of its values on all processors
abbrev pub scalar_at : ℕ → Local → ℤ
scalar_at scalar local = slice_index_or local.scalars scalar (pos 0)

abbrev pub folded : Kin → ℕ → Fold → Collective
folded kin scalar f =
    agreed kin (joined f) (scalar_at scalar) (λ local value.
    moves (goes_on (record local { scalars = slice_set local.scalars scalar value })) [])

-- ---- `vote`: all learn the least member that met a zero divisor
-- a flag as a word, which is -1 for none; and a word as a flag
abbrev pub flag_word : Option ℕ → ℤ
flag_word (Some member) = pos member
flag_word None = neg_ℤ (pos 1)

abbrev pub word_flag : ℤ → Option ℕ
word_flag word = if int_lt word (pos 0) then None else Some (unsigned_abs word)

-- the least of two flags, where there is one
abbrev pub least_flag : ℤ → ℤ → ℤ
least_flag a b = if int_lt a (pos 0) then b else if int_lt b (pos 0) then a else int_min a b

-- the line of a member; 0 for one that only closes, or where there is none
abbrev pub member_line : Member → ℕ
member_line (Put array expr mask line) = line
member_line (Cell cell expr mask line) = line
member_line (Acc scalar f expr mask line) = line
member_line (OpenIf expr mask line) = line
member_line Otherwise = 0
member_line CloseIf = 0
member_line (OpenWhile expr mask line) = line
member_line CloseWhile = 0
member_line (OpenRepeat mask line) = line
member_line (Until expr) = 0

abbrev pub line_or_zero : Option Member → ℕ
line_or_zero (Some member) = member_line member
line_or_zero None = 0

abbrev pub group_line : Tables → ℕ → ℕ → ℕ
group_line code group member =
    line_or_zero (option_and_then (λ members. slice_get members member) (slice_get code.groups group))

-- goes on without a flag, or ends with a trap at the member's line
abbrev pub decided : Tables → ℕ → Local → Option ℕ → Action
decided code group local None = moves (goes_on (record local { flag = None })) []
decided code group local (Some member) =
    ends (record local { flag = None }) (Trap DivideByZero (group_line code group member))

abbrev pub voted : Tables → Kin → ℕ → Collective
voted code kin group =
    agreed kin least_flag (λ local. flag_word local.flag) (λ local word. decided code group local (word_flag word))
