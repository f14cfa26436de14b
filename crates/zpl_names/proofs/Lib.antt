mod ExamplesCalls
mod ExamplesFloods
mod ExamplesMasks
mod ExamplesNames
mod ExamplesRanks
mod ExamplesRegions
mod ExamplesShattered
mod ExamplesTypes
mod Trees
pub mod ListLemmas
pub mod ReachedLemmas
mod ExpansionLemmas
pub mod ExamplesExpansion
pub mod WalkLemmas
pub mod FaultlessLemmas
pub mod NameLemmas
mod RankLemmas
mod ShapeLemmas
mod ExamplesChains
pub mod FaultLemmas
mod KnownLemmas
pub mod DeclaredLemmas
mod RankedLemmas
