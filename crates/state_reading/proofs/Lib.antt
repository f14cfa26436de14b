mod GridLemmas
mod KeptLemmas
mod LocalLemmas
mod OneState
mod Steps
