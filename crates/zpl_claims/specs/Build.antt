-- What code is built for, and with which optimisations.
use Rattle.std.specs.Prelude.{◌≡◌, ℕ, ◌≤◌, Bool, true, false, Option, Some, None, List, [], ◌∷◌, ⊤}
use Rattle.zpl_meaning.specs.of_zpl_binding.Settings.{Setting}
use Rattle.zpl_claims.specs.declared.options.Options.{Options}
use Rattle.grid_meaning.specs.Grid.{IsCapacity}

-- The factors of the grid, 0 for each absent one; the optimisations; how many messages a link
-- holds, if that is bounded; and the settings of the program's configs.
pub record Build : Type 0 where
  pub grid : List ℕ
  pub options : Options
  pub links : Option ℕ
  pub settings : List Setting

-- ---- without words for another
abbrev pub one_processor : List ℕ
one_processor = 1 ∷ 0 ∷ 0 ∷ []

abbrev pub no_options : Options
no_options = record {
  fuse = false;
  contract = false;
  redundant = false;
  merge = false;
  early = false;
  tree = false;
}

abbrev pub plain_build : Option ℕ → List Setting → Build
plain_build links settings = record {
  grid = one_processor;
  options = no_options;
  links = links;
  settings = settings;
}

-- ---- links
-- the second links hold at least as many messages as the first
abbrev pub HoldAsMany : Option ℕ → Option ℕ → Type 0
HoldAsMany least None = ⊤
HoldAsMany None (Some capacity) = ⊥
HoldAsMany (Some least) (Some capacity) = least ≤ capacity

-- Code of a build is for these links: for those of every capacity, and those that hold any number
-- of messages; and where exchanges are started early, for links that hold as many as those that it
-- was built for.
abbrev pub IsBuiltFor : Build → Option ℕ → Type 0
IsBuiltFor build links =
    IsCapacity links × (build.options.early ≡ true → HoldAsMany build.links links)

-- what holds over all links that the code of a build is for
abbrev pub OverAllLinks : Build → (Option ℕ → Type 0) → Type 0
OverAllLinks build Holds = (links : Option ℕ) → IsBuiltFor build links → Holds links
