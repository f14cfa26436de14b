use Rattle.std.proofs.Common.{◌≡◌, pos, [], ◌∷◌, fold, take, get_or, ap, ◌∙◌, arith}
use Rattle.zpl_region.specs.declared.dims.Dim.{Dim}
use Rattle.zpl_region.specs.declared.dims.Dim.TheVariants.{Range}
use Rattle.lower_regions.specs.of_zpl_lowering.Hoist.{past_dims}
use Rattle.lower_operators.specs.Remapped.{ored}
use Rattle.lower_operators.proofs.RemapLemmas.{three-dims, three-past}
use Rattle.lower_operators.proofs.remapping.past_words.Goals as goal

abbrev nothing : Dim
nothing = Range (pos 0) (pos 0) (pos 0) (pos 0)

pub returns : goal.returns
returns c =
    let storage = c.args.storage.now in
    let first = c.args.first in
    let words = c.put_dim-3.new.words.items in
    let one : Dim = get_or storage.dims 0 nothing in
    let two : Dim = get_or storage.dims 1 nothing in
    let three : Dim = get_or storage.dims 2 nothing in
    three-dims (λ dims. words ≡ fold ored [] (past_dims first (take storage.rank dims)))
    storage.dims nothing (omega arith)
    (three-past first storage.rank one two three c.new-words.result.items
    c.put_dim.new.words.items c.put_dim-2.new.words.items words c.in_ok-put_dim.ensures.within
    c.in_ok-put_dim.ensures.past c.in_ok-put_dim-2.ensures.within c.in_ok-put_dim-2.ensures.past
    c.in_ok-put_dim-3.ensures.within c.in_ok-put_dim-3.ensures.past
    ∙ ap (λ ws. fold ored ws (past_dims first (take storage.rank (one ∷ two ∷ three ∷ []))))
    c.new-words.ensures.items)
