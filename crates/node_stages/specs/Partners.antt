-- Partners of a row, and the stages that rows have by them.
--
--   flagged            the processors whose flags are set, of so many
--   receivers_from     for whom a processor has words, with these regions in its slots
--   senders_to         who have words for it
--   sending            a message to each of some, and the last turn
--   taking             a message from each of some, and the last turn
--   exchanging         a message to each of some, one from each of others, and the last turn
use Rattle.std.specs.Prelude.{ℕ, Bool, false, List, [], ◌∷◌, ◌++◌, filter, map, slice_index_or}
use Rattle.std.specs.List.{range_with_len}
use Rattle.reduce_plan.specs.of_zpl_region.declared.regions.Region.{Region}
use Rattle.grid_meaning.specs.of_node_form.declared.arrays.Item.{Item}
use Rattle.grid_meaning.specs.of_node_form.declared.tables.Tables.{Tables}
use Rattle.grid_meaning.specs.Collective.{Stage, Sends, TakesFrom, Last, others_where}
use Rattle.grid_meaning.specs.Exchange.{word_count}
use Rattle.node_stages.specs.Slots.{at_slots}

abbrev pub flagged : List Bool → ℕ → List ℕ
flagged flags count = filter (λ q. slice_index_or flags q false) (range_with_len 0 count)

abbrev pub receivers_from : Tables → List Region → List Item → ℕ → List ℕ
receivers_from code slots items p = others_where code p (word_count code (at_slots slots) items p)

abbrev pub senders_to : Tables → List Region → List Item → ℕ → List ℕ
senders_to code slots items p = others_where code p (λ q. word_count code (at_slots slots) items q p)

abbrev pub sending : List ℕ → List Stage
sending to = map Sends to ++ Last ∷ []

abbrev pub taking : List ℕ → List Stage
taking from = map TakesFrom from ++ Last ∷ []

abbrev pub exchanging : List ℕ → List ℕ → List Stage
exchanging to from = map Sends to ++ taking from
