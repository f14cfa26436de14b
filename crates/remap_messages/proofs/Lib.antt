mod AnswerLemmas
mod CountLemmas
mod SourceLemmas
mod StageLemmas
mod TurnLemmas
mod WantLemmas
