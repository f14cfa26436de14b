pub use Rattle.node_form.proofs as of_node_form
