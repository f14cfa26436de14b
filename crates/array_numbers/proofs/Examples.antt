-- Words that read an array with a shift, computed.
use Rattle.std.proofs.Common.{◌≡◌, true, false, pos, negsuc, [], ◌∷◌, refl}
use Rattle.zpl_nums.specs.declared.operators.Op.TheVariants as op
use Rattle.node_form.specs.declared.words.ExprOp.TheVariants as word
use Rattle.array_numbers.specs.Plain.{reads_number}

-- `A + B@[1, -1]`, of array 3 and array 4
shifted : reads_number 4
    (word.Here 3 ∷ word.Shifted 4 (pos 1 ∷ negsuc 0 ∷ pos 0 ∷ []) ∷ word.Pair op.Add ∷ []) ≡ true
shifted = refl

here : reads_number 3
    (word.Here 3 ∷ word.Shifted 4 (pos 1 ∷ negsuc 0 ∷ pos 0 ∷ []) ∷ word.Pair op.Add ∷ []) ≡ false
here = refl
