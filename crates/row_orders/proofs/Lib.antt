pub mod AgreementLemmas
pub mod BlindLemmas
pub mod DeliveryLemmas
mod Examples
pub mod ExchangeLemmas
pub mod HaltLemmas
pub mod HalfLemmas
pub mod PartnerLemmas
pub mod QuietLemmas
pub mod RowLemmas
pub mod StageLemmas
pub mod StarLemmas
pub mod SumLemmas
pub mod TreeLemmas
