use Rattle.std.proofs.Common.{◌≡◌, ◌++◌, ◌∙◌, rules, subst}
use Rattle.std.specs.Prelude.{OnOk, codes}
use Rattle.std.specs.Fmt.{signed_decimal}
use Rattle.zpl_tree.specs.Word.{written}
use Rattle.zpl_tree.proofs.printing.words.put_number.Goals as goal

pub returns : goal.returns
unfolding written
returns c =
    let digits : c.format.result.now ≡ signed_decimal c.args.number = search rules in
    subst (λ word. OnOk c.put.result (c.put.new.text.items ≡ c.args.text.now.items ++ (word ++ codes " ")))
    (c.as_bytes.ensures.value ∙ digits) c.put.ensures
