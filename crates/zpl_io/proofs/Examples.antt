-- Rows of the definitions, computed.
use Rattle.std.proofs.Common.{◌≡◌, [], ◌∷◌, Some, None, refl, inr}
use Rattle.zpl_io.specs.Faults.{count_after, Rose}
use Rattle.zpl_io.specs.MemFiles.{text_under}
use Rattle.zpl_io.specs.CountSink.{hash_after, hash_of}

-- the letters `abc`: 97, 97 * 31 + 98 and (97 * 31 + 98) * 31 + 99
three : hash_of (97 ∷ 98 ∷ 99 ∷ []) ≡ 96354
three = refl

-- 31 * (2^64 - 1) + 255 is 224 modulo 2^64
wraps : hash_after 18446744073709551615 255 ≡ 224
wraps = refl

nothing : hash_of [] ≡ 0
nothing = refl

stands_still : count_after 18446744073709551615 ≡ 18446744073709551615
stands_still = refl

last_has_risen : Rose 18446744073709551615 18446744073709551615
last_has_risen = inr refl

-- of two texts under one name the first is the one
first_text : text_under (1 ∷ []) ((2 ∷ [], 5 ∷ []) ∷ (1 ∷ [], 6 ∷ []) ∷ (1 ∷ [], 7 ∷ []) ∷ [])
    ≡ Some (6 ∷ [])
first_text = refl

no_text : text_under (1 ∷ []) ((2 ∷ [], 5 ∷ []) ∷ []) ≡ None
no_text = refl
