mod AheadLemmas
mod FoldLemmas
mod JoinLemmas
mod MeetLemmas
mod RowLemmas
