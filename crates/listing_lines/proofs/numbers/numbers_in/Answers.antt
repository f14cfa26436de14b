use Rattle.std.proofs.Common.{rules, ◌≡◌, ◌<◌, map, drop, length, get_or, ◌∙◌, subst, [], ◌∷◌, ◌++◌, arith, refl}
use Rattle.std.proofs.lemmas.List.Elements.{All-push}
use Rattle.zpl_nums.specs.Integer.{IsInteger}
use Rattle.listing_lines.proofs.Taken.{IsLeft, left_empty, left_next, left_end, drop-map, drop-map-end, no_bytes}
use Rattle.listing_lines.proofs.numbers.numbers_in.Goals as goal
use Rattle.listing_lines.proofs.numbers.numbers_in.Goals.{then-not-is_empty+in-Some+in_ok-push, else-not-is_empty}

pub returns-in_default-clause-found : goal.returns-in_default-clause-found
returns-in_default-clause-found c = λ ns range written.
    let items = c.deref-piece-items.result.now in
    let step = drop-map (λ piece. piece.now) items c.loop-piece.piece-index record { ref_ptr = (0, 0); now = [] } c.loop-piece-test.true in
    let left = c.loop-piece.invariant.left ns range written in
    let some : 0 < length (get_or items c.loop-piece.piece-index record { ref_ptr = (0, 0); now = [] }).now = search rules in
    let next = left_next ns _ _ _ some (subst (IsLeft ns _) step left) in
    let found = c.number_of.ensures.found next.number next.in_range next.spelled in
    cc

pub loop-piece-preserved : goal.loop-piece-preserved
loop-piece-preserved c =
    let items = c.deref-piece-items.result.now in
    let step = drop-map (λ piece. piece.now) items c.loop-piece.piece-index record { ref_ptr = (0, 0); now = [] } c.loop-piece-test.true in
    elim c.if-not-is_empty.branch [
      | then-not-is_empty+in-Some+in_ok-push w ↦
          let grown : c.if-not-is_empty.numbers.items ≡ c.loop-piece.numbers.items ++ w.in-Some.number ∷ [] = search rules in
          let test = w.if-not-is_empty.true in
          let some : 0 < length (get_or items c.loop-piece.piece-index record { ref_ptr = (0, 0); now = [] }).now = search rules in
          record {
            left = λ ns range written.
                let next = left_next ns _ _ _ some (subst (IsLeft ns _) step (c.loop-piece.invariant.left ns range written)) in
                let found = w.number_of.ensures.found next.number next.in_range next.spelled in
                let same : next.number ≡ w.in-Some.number = cc in
                rw grown (rw same at next.left);
            range = rw grown (All-push IsInteger c.loop-piece.numbers.items w.in-Some.number c.loop-piece.invariant.range w.in-Some.ensures.range);
          }
      | else-not-is_empty w ↦
          let test = w.if-not-is_empty.false in
          let none : length (get_or items c.loop-piece.piece-index record { ref_ptr = (0, 0); now = [] }).now ≡ 0 = search rules in
          let empty = no_bytes _ none in
          let kept : c.if-not-is_empty.numbers.items ≡ c.loop-piece.numbers.items = cc in
          record {
            left = rw kept (left_empty c.args.word.now c.loop-piece.numbers.items _ _ (step ∙ rw empty refl) c.loop-piece.invariant.left);
            range = rw kept c.loop-piece.invariant.range;
          }
    ]

pub returns-clause-found : goal.returns-clause-found
returns-clause-found c = λ ns range written.
    let items = c.deref-piece-items.result.now in
    let done : drop c.loop-piece.piece-index (map (λ piece. piece.now) items) ≡ [] = drop-map-end (λ piece. piece.now) items c.loop-piece.piece-index (omega arith) in
    left_end ns c.loop-piece.numbers.items (subst (IsLeft ns c.loop-piece.numbers.items) done (c.loop-piece.invariant.left ns range written))
