-- How the members of a group open and close, by one word for each member.
use Rattle.std.specs.Prelude.{ℕ, zero, suc, ◌+◌, Option, Some, None, List, ◌∷◌, drop}
use Rattle.node_form.specs.declared.members.Member.{Member}
use Rattle.node_form.specs.declared.members.Member.TheVariants as member
use Rattle.node_loop.specs.declared.brackets.Bracket.{Bracket}
use Rattle.node_loop.specs.declared.brackets.Bracket.TheVariants.{Plain, Opens, Otherwise, Closes}

abbrev pub bracket_of : Member → Bracket
bracket_of (member.Put array expr mask line) = Plain
bracket_of (member.Cell cell expr mask line) = Plain
bracket_of (member.Acc scalar fold expr mask line) = Plain
bracket_of (member.OpenIf expr mask line) = Opens
bracket_of member.Otherwise = Otherwise
bracket_of member.CloseIf = Closes
bracket_of (member.OpenWhile expr mask line) = Opens
bracket_of member.CloseWhile = Closes
bracket_of (member.OpenRepeat mask line) = Opens
bracket_of (member.Until expr) = Closes

-- the numbers of the members that are open behind the one with a number
abbrev pub open_after : Bracket → ℕ → List ℕ → List ℕ
open_after Plain number numbers = numbers
open_after Opens number numbers = number ∷ numbers
open_after Otherwise number numbers = numbers
open_after Closes number numbers = drop 1 numbers

-- On the way back from a member, with so many openings to be passed, to the one that encloses it:
-- how many are to be passed in front, or that the member is the opening.
abbrev pub back_over : Bracket → ℕ → Option ℕ
back_over Plain depth = Some depth
back_over Opens zero = None
back_over Opens (suc depth) = Some depth
back_over Otherwise depth = Some depth
back_over Closes depth = Some (depth + 1)
