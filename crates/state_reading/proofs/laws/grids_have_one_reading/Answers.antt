use Rattle.state_reading.proofs.OneState.{grid_left, grid_not, grid_one}
use Rattle.state_reading.proofs.laws.grids_have_one_reading.Goals as goal

pub returns : goal.returns
returns c = record {
  grids = λ code lines one other three r q. grid_one code three lines one other r q;
  apart = λ code lines left states three r breaks. grid_not code three lines left states r breaks;
  left = λ code lines left other three one next. grid_left code three lines left other one next;
}
