pub mod TableLemmas
pub mod PieceLemmas
pub mod ExprLemmas
pub mod ReadLemmas
pub mod TypedLemmas
pub mod WithinLemmas
pub mod FringeLemmas
pub mod TreeLemmas
pub mod VectorLemmas
pub mod SlateLemmas
pub mod BracketLemmas
pub mod SettleLemmas
pub mod PhaseLemmas
pub mod StatementLemmas
pub mod StillLemmas
pub mod MemberLemmas
pub mod WriteLemmas
pub mod PrefixLemmas
pub mod PartLemmas
pub mod FormLemmas
pub mod SoundLemmas
pub mod KnownLemmas
pub mod RegionLemmas
pub mod ScopeLemmas
pub mod DeclaredLemmas
pub mod ArrayLemmas
pub mod FrameLemmas
pub mod BodyLemmas
pub mod StorageLemmas
pub mod HullLemmas
pub mod TallyLemmas
pub mod MadeLemmas
pub mod PointSiteLemmas
pub mod MadeCodeLemmas
pub mod MadeAssignLemmas
pub mod MadeStatementLemmas
pub mod NamedLemmas
pub mod MadeFrameLemmas
pub mod MadeProgramLemmas
pub mod MadeCallLemmas
pub mod MadeWholeLemmas
pub mod NumberedLemmas
pub mod KeptLemmas
pub mod ReachLemmas
pub mod CallsFitLemmas
pub mod GlobalsLemmas
pub mod RegionRankLemmas
pub mod ProgramFitLemmas
pub use Rattle.lower_numbers.proofs.of_flat_form as of_flat_form
pub use Rattle.lower_numbers.proofs as of_lower_numbers
pub use Rattle.meaning_ranks.proofs as of_meaning_ranks
pub use Rattle.lower_numbers.proofs.of_text_sharing as of_text_sharing
pub use Rattle.lower_numbers.proofs.of_zpl_lowering as of_zpl_lowering
pub use Rattle.meaning_ranks.proofs.of_zpl_meaning as of_zpl_meaning
