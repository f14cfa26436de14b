-- What is claimed of the code that is made of a program.
use Rattle.grid_meaning.specs.of_node_form.declared.tables.Tables.{Tables}
use Rattle.zpl_meaning.specs.of_zpl_names.Expansion.{shattered_loops}
use Rattle.zpl_claims.specs.Build.{OverAllLinks}
use Rattle.zpl_claims.specs.Origin.{Origin}
use Rattle.zpl_claims.specs.Good.{IsGood}
use Rattle.zpl_claims.specs.LockStep.{HasLockSteps}
use Rattle.zpl_claims.specs.Bound.{EndsInBound}
use Rattle.zpl_claims.specs.Tidy.{IsTidy}

-- Over all links that it is built for the code is right after every order of turns, has an order in
-- step for every bound, and comes to its end in time where the meaning ends.
pub record IsFaithful (origin : Origin) (code : Tables) : Type 0 where
  pub good : OverAllLinks origin.build (λ links. IsGood code links origin.mean)
  pub in_step : OverAllLinks origin.build (λ links. HasLockSteps code links origin.mean)
  pub in_time : OverAllLinks origin.build (λ links.
      EndsInBound code links origin.mean origin.steps (shattered_loops origin.program))

-- And it is tidy.
pub record IsCompiled (origin : Origin) (code : Tables) : Type 0 where
  pub faithful : IsFaithful origin code
  pub tidy : IsTidy origin code
