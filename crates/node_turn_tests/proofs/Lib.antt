mod PlayLemmas
mod StandingLemmas
