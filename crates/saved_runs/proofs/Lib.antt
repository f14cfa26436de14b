mod ActLemmas
mod OtherLemmas
mod RunLemmas
