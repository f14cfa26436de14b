-- The kin of a processor in memory: its children have successive numbers.
use Rattle.std.specs.Prelude.{◌+◌, ◌≤◌, List, [], ◌∷◌, ◌++◌, map}
use Rattle.std.specs.List.{range_with_len}
use Rattle.grid_meaning.specs.Collective as meaning
use Rattle.node_stages.specs.declared.kin.Kin.TheInside.{Inside}

abbrev pub kin_of : Inside → meaning.Kin
kin_of inside = record {
  children = range_with_len inside.first inside.many;
  parent = inside.parent;
}

-- the numbers of the children are `u32`
abbrev pub AreNumbers : Inside → Type 0
AreNumbers inside = inside.first + inside.many ≤ 4294967295

-- the stages once it is known what all come to; and those behind the ones in which the children's
-- values come
abbrev pub telling_stages : meaning.Kin → List meaning.Stage
telling_stages kin = map meaning.Sends kin.children ++ meaning.Last ∷ []

abbrev pub stages_behind : meaning.Kin → List meaning.Stage
stages_behind kin = meaning.to_parent kin.parent ++ telling_stages kin
