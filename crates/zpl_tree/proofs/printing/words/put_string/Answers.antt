use Rattle.std.proofs.Common.{◌≡◌, ◌++◌, ◌∙◌, ℕ, List, ap, append_assoc, subst, sym}
use Rattle.std.specs.Prelude.{OnOk, codes}
use Rattle.zpl_tree.specs.Word.{written}
use Rattle.zpl_tree.proofs.printing.words.put_string.Goals as goal

quoted : (old bytes begun filled : List ℕ) → begun ≡ old ++ codes "\"" → filled ≡ begun ++ bytes
    → filled ++ codes "\" " ≡ old ++ ((codes "\"" ++ bytes ++ codes "\"") ++ codes " ")
quoted old bytes begun filled first then =
    ap (λ text. text ++ codes "\" ") (then ∙ ap (λ text. text ++ bytes) first)
    ∙ append_assoc (old ++ codes "\"") bytes (codes "\" ")
    ∙ append_assoc old (codes "\"") (bytes ++ codes "\" ")
    ∙ ap (λ text. old ++ (codes "\"" ++ text)) (sym (append_assoc bytes (codes "\"") (codes " ")))

pub returns : goal.returns
unfolding written
returns c =
    subst (λ text. OnOk c.put.result (c.put.new.text.items ≡ text))
    (quoted c.args.text.now.items c.args.bytes.now c.push.new.self.items
    c.extend_from_slice.new.self.items c.in_ok-push.ensures.items
    c.in_ok-extend_from_slice.ensures.items)
    c.put.ensures
