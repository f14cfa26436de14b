-- The first of what is left, and the end of it.
use Rattle.std.proofs.Common.{◌≡◌, List, [], ◌∷◌, map, get_or, refl, sym, ◌∙◌, ap}
use Rattle.std.specs.Vec.Iter.{into_iter_items, into_iter_len}
use Rattle.std.specs.declared.vec.IntoIter.{IntoIter}
use Rattle.node_form.specs.Expression.{Expression, words_of}
use Rattle.node_form.specs.declared.words.ExprOp.{ExprOp}
use Rattle.zpl_lowering.specs.Lowered.{first_left}
use Rattle.lower_draft.proofs.PushLemmas.{nothing_left}

pub first_is : (exprs : List Expression) (words : List ExprOp) (rest : List (List ExprOp)) →
    words ∷ rest ≡ map words_of exprs → words ≡ words_of (first_left exprs)
first_is [] words rest is = absurd (let no : words ∷ rest ≡ [] = is in cc)
first_is (expr ∷ exprs) words rest is = ap (λ l. get_or l 0 words) is

pub none_is : (exprs : List Expression) → [] ≡ map words_of exprs →
    words_of (first_left []) ≡ words_of (first_left exprs)
none_is [] is = refl
none_is (expr ∷ exprs) is =
    absurd (let no : [] ≡ words_of expr ∷ map words_of exprs = is in cc)

-- what has no items to come
pub drained : {X Z : Type 0} (it : IntoIter X Z) → into_iter_len it ≡ 0 → into_iter_items it ≡ []
drained it none = nothing_left (into_iter_items it) (sym it.rest.ok.0 ∙ none)
