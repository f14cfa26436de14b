-- The statuses of how a run ended are those of nothing else.
use Rattle.std.proofs.Common.{◌≢◌, ℕ, arith}
use Rattle.call_claims.specs.declared.status.TheConstants.{DONE, UNREADABLE, TOO_LONG, REFUSED}
use Rattle.call_claims.specs.declared.status.TheConstants.{UNBOUND, TRAPPED, TURN_LIMIT, PUT_FAILED, NO_MEMORY}
use Rattle.exec_claims.specs.declared.status.TheConstants.{ORDER_REFUSED, LISTING_REFUSED, STUCK}
use Rattle.exec_claims.specs.declared.status.TheConstants.{UNSOUND, CHECK_LIMIT}

pub record IsRunStatus (n : ℕ) : Type 0 where
  pub unreadable : n ≢ UNREADABLE
  pub too_long : n ≢ TOO_LONG
  pub refused : n ≢ REFUSED
  pub unbound : n ≢ UNBOUND
  pub order : n ≢ ORDER_REFUSED
  pub put : n ≢ PUT_FAILED
  pub memory : n ≢ NO_MEMORY
  pub listing : n ≢ LISTING_REFUSED
  pub sound : n ≢ UNSOUND
  pub small : n ≢ CHECK_LIMIT

pub is_done : IsRunStatus DONE
is_done = record {
  unreadable = λ h. omega arith;
  too_long = λ h. omega arith;
  refused = λ h. omega arith;
  unbound = λ h. omega arith;
  order = λ h. omega arith;
  put = λ h. omega arith;
  memory = λ h. omega arith;
  listing = λ h. omega arith;
  sound = λ h. omega arith;
  small = λ h. omega arith;
}

pub is_trapped : IsRunStatus TRAPPED
is_trapped = record {
  unreadable = λ h. omega arith;
  too_long = λ h. omega arith;
  refused = λ h. omega arith;
  unbound = λ h. omega arith;
  order = λ h. omega arith;
  put = λ h. omega arith;
  memory = λ h. omega arith;
  listing = λ h. omega arith;
  sound = λ h. omega arith;
  small = λ h. omega arith;
}

pub is_limit : IsRunStatus TURN_LIMIT
is_limit = record {
  unreadable = λ h. omega arith;
  too_long = λ h. omega arith;
  refused = λ h. omega arith;
  unbound = λ h. omega arith;
  order = λ h. omega arith;
  put = λ h. omega arith;
  memory = λ h. omega arith;
  listing = λ h. omega arith;
  sound = λ h. omega arith;
  small = λ h. omega arith;
}

pub is_stuck : IsRunStatus STUCK
is_stuck = record {
  unreadable = λ h. omega arith;
  too_long = λ h. omega arith;
  refused = λ h. omega arith;
  unbound = λ h. omega arith;
  order = λ h. omega arith;
  put = λ h. omega arith;
  memory = λ h. omega arith;
  listing = λ h. omega arith;
  sound = λ h. omega arith;
  small = λ h. omega arith;
}
