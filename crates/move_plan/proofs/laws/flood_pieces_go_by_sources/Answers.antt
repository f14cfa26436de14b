use Rattle.move_plan.proofs.PieceLemmas.{flood_piece-members, flood_pieces_partition}
use Rattle.move_plan.proofs.laws.flood_pieces_go_by_sources.Goals as goal

pub returns : goal.returns
returns c = record {
  piece = λ blocks target source from to are is also ranks wide long conforms inside below.
      flood_piece-members blocks target source to are is also ranks wide long conforms inside from below;
  partition = flood_pieces_partition;
}
