use Rattle.move_plan.proofs.PieceLemmas.{border_piece-members, border_pieces_partition}
use Rattle.move_plan.proofs.laws.border_pieces_go_by_sources.Goals as goal

pub returns : goal.returns
returns c = record {
  piece = λ blocks kind r d from to are is within wide shift long inside below.
      border_piece-members blocks kind r d to are is within wide shift long inside from below;
  partition = border_pieces_partition;
}
