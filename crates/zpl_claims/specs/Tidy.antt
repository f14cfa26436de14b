-- Code that is tidy: laid out as the grid and the program's arrays ask for it, of a size that the
-- source bounds, with no more instructions than its statements need; and free of what the
-- optimisations that were asked for leave out.
use Rattle.std.specs.Prelude.{◌≡◌, true, ◌+◌, ◌*◌, ◌≤◌}
use Rattle.zpl_meaning.specs.of_zpl_names.Expansion.{source_size, other_size, plain_assignments}
use Rattle.grid_meaning.specs.of_node_form.declared.tables.Tables.{Tables}
use Rattle.grid_meaning.specs.Stored.{arrangement_of}
use Rattle.code_parts.specs.Counts.{code_size, count_of, is_counted, is_vote, is_loop}
use Rattle.code_parts.specs.Counts.{GoesByTrees}
use Rattle.code_parts.specs.Contracted.{IsContracted}
use Rattle.code_parts.specs.Early.{IsEarly}
use Rattle.code_parts.specs.Exchanged.{HasNoRepeats, IsMerged}
use Rattle.code_parts.specs.Fused.{IsFused}
use Rattle.code_parts.specs.Needs.{IsUndecided}
use Rattle.zpl_claims.specs.Origin.{Origin}

-- The grid is the one that is asked for. The size is at most a multiple of the source with its calls
-- expanded. Rows other than checks, exchanges, votes and traps are at most one for each plain
-- assignment, and so many for each token, parameter and local name that stands in none. There are
-- no more votes than loops. No check is left that always passes. And for each optimisation but
-- `fuse` that is asked for the code is free of what it leaves out.
pub record IsLean (origin : Origin) (code : Tables) : Type 0 where
  pub grid : code.grid ≡ origin.build.grid
  pub small : code_size code ≤ 512 * (source_size origin.program + 1)
  pub few : count_of is_counted code ≤
      plain_assignments origin.program + 64 * (other_size origin.program origin.tokens + 1)
  pub votes : count_of is_vote code ≤ count_of is_loop code
  pub undecided : IsUndecided code
  pub contracted : origin.build.options.contract ≡ true → IsContracted code
  pub not_redundant : origin.build.options.redundant ≡ true → HasNoRepeats code
  pub merged : origin.build.options.merge ≡ true → IsMerged code
  pub early : origin.build.options.early ≡ true → IsEarly origin.build.links code
  pub by_trees : origin.build.options.tree ≡ true → GoesByTrees code

-- The stored arrays are the program's besides, in their order, with their storages and fringes; and
-- with `fuse` no loops are left that could be one.
pub record IsTidy (origin : Origin) (code : Tables) : Type 0 where
  pub lean : IsLean origin code
  pub boxes : (arrangement_of code).boxes ≡ origin.boxes
  pub fused : origin.build.options.fuse ≡ true → IsFused code
