pub mod Partners
pub use Rattle.node_local.specs as of_node_local
pub use Rattle.node_stages.specs as of_node_stages
