-- What is known of rows that have been read, so that a row that names one needn't go through it.
use Rattle.std.specs.Prelude.{◌≡◌, ℕ, ◌↔◌, IsTrue, Some, List, [], ◌∷◌, ◌++◌, length, map, reverse, slice_get, All}
use Rattle.node_form.specs.declared.members.Member.{Member}
use Rattle.node_form.specs.declared.nests.Opening.{Opening}
use Rattle.node_form.specs.declared.nests.Opening.TheVariants as opening
use Rattle.node_form.specs.declared.tables.Tables.{Tables}
use Rattle.node_form.specs.declared.words.ExprOp.{ExprOp}
use Rattle.node_form.specs.Fits.{IsRank, IsScalarWord, FitsMember, FitsWord}
use Rattle.node_form.specs.Nest.{opened}
use Rattle.listing_rows.specs.of_listing_lines.declared.lines.Line.{Line}
use Rattle.listing_rules.specs.Rules.{IsMemberLine}
use Rattle.listing_rules.specs.declared.facts.ExprFacts.{ExprFacts}
use Rattle.listing_rules.specs.declared.facts.Known.{Known}
use Rattle.listing_rules.specs.declared.facts.Ranks.{Ranks}
use Rattle.listing_rules.specs.Ranks.{any_bit}
use Rattle.listing_rules.specs.declared.groups.Open.{Open}
use Rattle.listing_rules.specs.declared.groups.Open.TheVariants.{If, Else, While, Repeat}

-- the ranks from 1 to 3 at which something holds
pub record AreRanks (Holds : ℕ → Type 0) (ranks : Ranks) : Type 0 where
  pub one : IsTrue ranks.one ↔ Holds 1
  pub two : IsTrue ranks.two ↔ Holds 2
  pub three : IsTrue ranks.three ↔ Holds 3

-- at which ranks an expression fits, and whether it needs no index
pub record AreExprFacts (tables : Tables) (words : List ExprOp) (facts : ExprFacts) : Type 0 where
  pub ranks : AreRanks (λ rank. All (FitsWord tables rank) words) facts.ranks
  pub scalar : IsTrue facts.scalar ↔ All IsScalarWord words

-- at which ranks members fit
abbrev pub AreGroupFacts : Tables → List Member → Ranks → Type 0
AreGroupFacts tables members ranks = AreRanks (λ rank. All (FitsMember tables rank) members) ranks

-- one fact for each row
pub record Tell {X F : Type 0} (Is : X → F → Type 0) (rows : List X) (facts : List F) : Type 0 where
  pub count : length facts ≡ length rows
  pub each : (k : ℕ) (row : X) (fact : F) → slice_get rows k ≡ Some row → slice_get facts k ≡ Some fact → Is row fact

pub record Knows (known : Known) : Type 0 where
  pub slots : All IsRank known.tables.slots
  pub exprs : Tell (AreExprFacts known.tables) known.tables.exprs known.exprs
  pub groups : Tell (AreGroupFacts known.tables) known.tables.groups known.groups

abbrev pub opening_of : Open → Opening
opening_of If = opening.If
opening_of Else = opening.Else
opening_of While = opening.While
opening_of Repeat = opening.Repeat

-- what is open, the innermost first; in memory it is the last
abbrev pub openings_of : List Open → List Opening
openings_of kept = map opening_of (reverse kept)

-- what is kept of the members of a group that have been read
pub record AreMembers (tables : Tables) (members : List Member) (ranks : Ranks) (kept : List Open) : Type 0 where
  pub ranks_are : AreGroupFacts tables members ranks
  pub some : IsTrue (any_bit ranks)
  pub opens : opened [] members ≡ Some (openings_of kept)

-- the line is that of a member, which stands behind the others now
pub record TakesMember (tables : Tables) (old : List Member) (line : Line) (new : List Member) (ranks : Ranks) (kept : List Open) : Type 0 where
  pub row : Member
  pub is : IsMemberLine tables old line row
  pub added : new ≡ old ++ row ∷ []
  pub are : AreMembers tables new ranks kept
