pub mod Field
pub mod Form
pub mod FormTable
pub mod Keyword
pub mod Line
pub mod Listing
pub mod Name
pub mod Place
pub mod Reading
pub use Rattle.node_form.specs as of_node_form
