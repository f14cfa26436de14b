-- Processes that all follow one script.
use Rattle.std.specs.Prelude.{ℕ, ◌+◌, ℤ, List, [], ◌∷◌, ◌++◌, Option, Some, None, slice_get}
use Rattle.grid_links.specs.Machine.{Act, Ended, Goes, Awaits, Fed, Takes}
use Rattle.grid_links_tests.specs.declared.same.Step.{Step}
use Rattle.grid_links_tests.specs.declared.same.Step.TheVariants.{Send, Take}

-- the number of the next step, and the words taken so far
pub record Local : Type 0 where
  pub place : ℕ
  pub taken : List ℤ

-- a word that a process can't take: none is
pub data Kind : Type 0 where

abbrev pub goes_on : Local → List ℤ → Local
goes_on local words = record { place = local.place + 1; taken = local.taken ++ words }

-- at a step, and behind the last one
abbrev pub act_at : Local → Option Step → Act Local ℤ Kind
act_at local None = Ended
act_at local (Some (Send to word)) = Goes (goes_on local []) (Some (to, word)) []
act_at local (Some (Take from)) = Awaits from

abbrev pub act_of : List Step → ℕ → Local → Act Local ℤ Kind
act_of steps p local = act_at local (slice_get steps local.place)

abbrev pub fed_of : List Step → ℕ → Local → ℤ → Fed Local Kind
fed_of steps p local word = Takes (goes_on local (word ∷ []))
