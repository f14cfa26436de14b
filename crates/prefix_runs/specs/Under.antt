-- What is asked of prefixes, and of what stands behind them.
use Rattle.std.specs.Prelude.{◌≡◌, ℕ, Bool, List, [], ◌∷◌, Some}
use Rattle.zpl_region.specs.declared.regions.Region.{Region}
use Rattle.zpl_tree.specs.Syntax.{Prefix}
use Rattle.zpl_names.specs.Ranks.{inner_rank, mask_rank}
use Rattle.array_runs.specs.of_zpl_meaning.Computed.{Gives}
use Rattle.array_runs.specs.of_zpl_meaning.Store.{Store}
use Rattle.array_runs.specs.of_zpl_meaning.Context.{Over, Place}
use Rattle.array_runs.specs.of_zpl_meaning.Regions.{mask_in}
use Rattle.array_runs.specs.of_zpl_meaning.Regions as mean
use Rattle.array_runs.specs.of_zpl_meaning.Proper.{IsArrayRank}
use Rattle.array_runs.specs.of_zpl_lowering.Where.{Where}
use Rattle.array_runs.specs.of_zpl_lowering.Bracket.{Opened}
use Rattle.array_runs.specs.of_zpl_lowering.Statement as low
use Rattle.prefix_runs.specs.Opens.{IsOpenedAs, Opens}

-- The bracket may be opened, and has a rank from 1 to 3, which is the prefix's.
pub record OpensPrefix (prefix : Prefix) (place : Place) : Type 0 where
  pub rank : ℕ
  pub ranked : inner_rank place.scope (mask_rank place.scope prefix.mask) place.prefix prefix.region
      ≡ Some rank
  pub is_rank : IsArrayRank (Some rank)
  pub opens : Opens place rank prefix.region

-- the code of a bracket, where so many slots are taken; whether it is that of a border
abbrev pub opened_at : Bool → Where → ℕ → ℕ → Prefix → Opened
opened_at borders w slot line prefix =
    low.prefix_opened borders w slot line (low.current_for w prefix) prefix.region

-- the place behind a prefix, with a region and the prefix's mask
abbrev pub over_of : Place → Prefix → Region → Over
over_of place prefix region =
    record { region = region; mask = mask_in place.environment prefix.mask }

abbrev pub mean_under : Place → Prefix → Region → Place
mean_under place prefix region = mean.under_prefix place prefix (over_of place prefix region)

-- Each prefix may be opened where those before it are, and behind all of them something else is
-- asked: whichever slot a region has, and whatever region the prefix means at some store, which has
-- the slot's flood dimensions.
abbrev pub IsUnder : Bool → List Prefix → (Where → Place → Type 0) → Where → Place → Type 0
IsUnder borders [] IsServed w place = IsServed w place
IsUnder borders (prefix ∷ rest) IsServed w place =
    OpensPrefix prefix place
    × ((slot line : ℕ) (store : Store) (region : Region)
    → mean.over_in place store prefix ≡ Gives (over_of place prefix region)
    → IsOpenedAs (opened_at (low.is_last borders rest) w slot line prefix).flood region
    → IsUnder borders rest IsServed
    (low.under_prefix w prefix (opened_at (low.is_last borders rest) w slot line prefix))
    (mean_under place prefix region))
