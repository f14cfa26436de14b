mod Examples
pub mod HeldLemmas
pub mod GoLemmas
pub mod OwnLemmas
pub mod WorkLemmas
pub mod DeliverRows
pub mod GatherRows
pub mod ScanRows
pub mod ExchangeRows
pub mod RemapLemmas
pub mod RemapRows
pub mod FactLemmas
pub mod MetRows
pub mod OpenRows
pub mod RightRows
pub mod TogetherRows
pub use Rattle.checked_rows.proofs as of_checked_rows
