use Rattle.nest_meaning.proofs.AlikeLemmas.{do_as_pairs, does_alike, have_like_units}
use Rattle.nest_meaning.proofs.laws.like_trees_do_alike.Goals as goal

pub returns : goal.returns
returns g c = record {
  pairs = do_as_pairs (g.L.Likeness.IsLike);
  units = have_like_units (g.L.Likeness.IsLike);
  same = does_alike (g.L.Likeness.IsLike);
}
