use Rattle.node_emit.proofs.TreeLemmas.{by_trees, counted_stay, early_stay, fused_stay, loops_stay}
use Rattle.node_emit.proofs.TreeLemmas.{merged_stay, repeats_stay, size_stays, votes_stay}
use Rattle.node_emit.proofs.rows_go_along_the_tree.Goals as goal

pub returns : goal.returns
returns c = record {
  by_trees = by_trees;
  size = size_stays;
  counted = counted_stay;
  votes = votes_stay;
  loops = loops_stay;
  fused = fused_stay;
  not_redundant = repeats_stay;
  merged = merged_stay;
  early = early_stay;
}
