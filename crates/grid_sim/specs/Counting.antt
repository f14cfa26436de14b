-- Counts of turns, messages and words.
--
--   AreCounted   those that a grid may go on from
--   AreCounts    what holds of them between turns
--   AddTurns     what turns add
use Rattle.std.specs.Prelude.{ℕ, ◌+◌, ◌*◌, ◌^◌, ◌<◌, ◌≤◌}
use Rattle.node_turn.specs.declared.steps.Traffic.{Traffic}
use Rattle.node_turn.specs.declared.steps.Traffic.TheVariants as traffic
use Rattle.grid_sim.specs.declared.counts.Counts.{Counts}

-- the limits of counts that a grid goes on from
pub record AreCounted (turns sends words : ℕ) : Type 0 where
  pub few_turns : turns < 2 ^ 62
  pub few_sends : sends < 2 ^ 62
  pub few_words : words < 2 ^ 126

-- A turn sends at most one message, of fewer than 2^64 words.
pub record AreCounts (counts : Counts) : Type 0 where
  pub turns : counts.turns ≤ 2 ^ 63
  pub sends : counts.sends ≤ counts.turns + 2 ^ 62
  pub words : counts.words ≤ counts.turns * 2 ^ 64 + 2 ^ 126

-- so of the turns that were given between two counts
pub record AddTurns (old new : Counts) : Type 0 where
  pub turns : old.turns ≤ new.turns
  pub sends : new.sends + old.turns ≤ old.sends + new.turns
  pub words : new.words + old.turns * 2 ^ 64 ≤ old.words + new.turns * 2 ^ 64

abbrev pub with_turn : Counts → Counts
with_turn counts = record counts { turns = counts.turns + 1 }

abbrev pub with_message : Counts → ℕ → Counts
with_message counts words = record {
  turns = counts.turns + 1;
  sends = counts.sends + 1;
  words = counts.words + words;
}

-- a turn more, with what it did on links
abbrev pub with_traffic : Counts → Traffic → Counts
with_traffic counts traffic.Quiet = with_turn counts
with_traffic counts (traffic.Sent to words) = with_message counts words
with_traffic counts (traffic.Took from) = with_turn counts
