use Rattle.std.proofs.Common.{◌∷◌, [], ◌++◌, ◌∙◌, ap, append_assoc}
use Rattle.zpl_tree.proofs.printing.words.put.Goals as goal

pub returns : goal.returns
returns c =
    c.in_ok-push.ensures.items ∙ ap (λ text. text ++ c.args.behind ∷ []) c.in_ok-extend_from_slice.ensures.items
    ∙ append_assoc c.args.text.now.items c.args.word.now (c.args.behind ∷ [])
