mod MoveLemmas
mod TimeLemmas
