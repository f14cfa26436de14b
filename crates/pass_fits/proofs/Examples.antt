-- Tables that fit, and read a temporary with a shift: their plan doesn't fit.
use Rattle.std.proofs.Common.{◌≡◌, ℕ, ℤ, pos, List, [], ◌∷◌, false, true, true≢false, refl, sym, arith}
use Rattle.std.specs.Prelude.{All, None}
use Rattle.std.proofs.lemmas.Int.{ints}
use Rattle.std.proofs.lemmas.List.Elements.{All-from_recursion, All-head, All-nil}
use Rattle.zpl_region.specs.Dim.{IsUpTo}
use Rattle.node_form.specs.declared.arrays.ArrayDim.{ArrayDim}
use Rattle.node_form.specs.declared.arrays.ArrayDim.TheVariants as axis
use Rattle.node_form.specs.declared.arrays.ArrayRow.{ArrayRow}
use Rattle.node_form.specs.declared.arrays.Item.{Item}
use Rattle.node_form.specs.declared.instructions.Instr.TheVariants as instr
use Rattle.node_form.specs.declared.members.Member.{Member}
use Rattle.node_form.specs.declared.members.Member.TheVariants as member
use Rattle.node_form.specs.declared.tables.Tables.{Tables}
use Rattle.node_form.specs.declared.words.ExprOp.{ExprOp}
use Rattle.node_form.specs.declared.words.ExprOp.TheVariants as word
use Rattle.node_form.specs.Expression.{Neighbour}
use Rattle.node_form.specs.Fits.{Fits, FitsArray, FitsExchange, FitsExpr, FitsGroup, FitsInstr, FitsItem}
use Rattle.node_form.specs.Fits.{FitsMember, FitsWord, IsRank, IsUnused, IsUnusedOrStar, IsVector}
use Rattle.node_form.specs.Grid.{IsGrid}
use Rattle.node_form.specs.Nest.{Nothing, Putting}
use Rattle.pass_parts.specs.of_comm_needs.Needs.{planned}

abbrev no_range : ArrayDim
no_range = axis.Range (pos 0) (pos 0) (pos 0) (pos 0)

abbrev temporary : ArrayRow
temporary =
    record { rank = 1; stored = false; dims = no_range ∷ no_range ∷ no_range ∷ [] }

abbrev one : List ℕ
one = 1 ∷ 0 ∷ 0 ∷ []

abbrev along : List ℤ
along = pos 1 ∷ pos 0 ∷ pos 0 ∷ []

abbrev words : List ExprOp
words = word.Shifted 0 along ∷ []

abbrev members : List Member
members = member.Put 1 0 None 1 ∷ []

abbrev reads : Tables
reads = record {
  grid = one;
  scalars = 0;
  cells = 0;
  slots = 1 ∷ [];
  arrays = temporary ∷ temporary ∷ [];
  texts = [];
  exprs = words ∷ [];
  groups = members ∷ [];
  exchanges = [];
  code = instr.Loop 0 0 ∷ instr.End ∷ [];
}

-- ---- they fit
one_is_grid : IsGrid one
one_is_grid = record {
  some = omega arith;
  absent = All-from_recursion (λ factor. factor ≡ 0) (0 ∷ 0 ∷ []) (refl, (refl, tt));
  few = omega arith;
}

is_rank : IsRank 1
is_rank = (omega arith, omega arith)

zero_up_to : IsUpTo 31 (pos 0)
zero_up_to = (omega (arith, ints), omega (arith, ints))

one_up_to : IsUpTo 31 (pos 1)
one_up_to = (omega (arith, ints), omega (arith, ints))

vector : IsVector 1 along
vector = (
  All-from_recursion (IsUpTo 31) along (one_up_to, (zero_up_to, (zero_up_to, tt))),
  All-from_recursion (λ component. component ≡ pos 0) (pos 0 ∷ pos 0 ∷ []) (refl, (refl, tt)),
)

temporary_fits : FitsArray temporary
temporary_fits = record {
  rank = is_rank;
  padded =
      All-from_recursion IsUnused (no_range ∷ no_range ∷ [])
      ((refl, refl, refl, refl), ((refl, refl, refl, refl), tt));
  limit = λ stored. absurd (true≢false (sym stored));
  fringes = λ stored. absurd (true≢false (sym stored));
  without_storage = λ stored.
      All-from_recursion IsUnusedOrStar (no_range ∷ no_range ∷ no_range ∷ [])
      ((refl, refl, refl, refl), ((refl, refl, refl, refl), ((refl, refl, refl, refl), tt)));
}

words_fit : All (FitsWord reads 1) words
words_fit = All-from_recursion (FitsWord reads 1) words ((refl, vector), tt)

members_fit : All (FitsMember reads 1) members
members_fit = All-from_recursion (FitsMember reads 1) members ((refl, words_fit, tt), tt)

reads_fit : Fits reads
reads_fit = record {
  grid = one_is_grid;
  slots = All-from_recursion IsRank (1 ∷ []) (is_rank, tt);
  arrays =
      All-from_recursion FitsArray (temporary ∷ temporary ∷ [])
      (temporary_fits, (temporary_fits, tt));
  exprs =
      All-from_recursion (FitsExpr reads) (words ∷ []) (
        record {
          stack = record { tree = Neighbour 0 along; spelled = refl };
          rank = 1;
          is_rank = is_rank;
          fit = words_fit;
        },
        tt,
      );
  groups =
      All-from_recursion (FitsGroup reads) (members ∷ []) (
        record {
          nest = record { tree = Putting 1 0 None 1 Nothing; spelled = refl };
          rank = 1;
          is_rank = is_rank;
          fit = members_fit;
        },
        tt,
      );
  exchanges = All-nil (FitsExchange reads);
  code =
      All-from_recursion (FitsInstr reads) (instr.Loop 0 0 ∷ instr.End ∷ [])
      (record { rank = 1; fit = (refl, members_fit) }, (record { rank = 1; fit = tt }, tt));
}

-- ---- and their plan doesn't
abbrev sent : Item
sent = record { array = 0; slot = 0; shift = along }

exchanged : (planned one reads).exchanges ≡ (sent ∷ []) ∷ []
exchanged = refl

none_stored : FitsExchange (planned one reads) (sent ∷ []) → ⊥
unfolding FitsExchange
none_stored fit =
    true≢false (sym (All-head (FitsItem (planned one reads)) sent [] fit).stored)

plan_unfit : Fits (planned one reads) → ⊥
plan_unfit fits =
    none_stored (All-head (FitsExchange (planned one reads)) (sent ∷ []) [] fits.exchanges)
