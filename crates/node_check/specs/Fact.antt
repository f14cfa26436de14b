-- What may be known in front of an instruction: the facts of the code.
pub use Rattle.node_check.specs.declared.facts.Fact.{Fact}
pub use Rattle.node_check.specs.declared.facts.Fact.TheVariants.{Agree, Border, Held, Made, Stands, Uniform}
