-- The reads of arms, one after another.
use Rattle.std.proofs.Common.{◌≡◌, ◌<◌, ℕ, ◌+◌, List, ◌∷◌, drop, get_or, length, sym, ◌∙◌, ap, arith, add-one, drop-cons}
use Rattle.zpl_lowering.specs.of_zpl_tree.View.{arm_of, arms_of, expr_of, stmts_of}
use Rattle.zpl_lowering.specs.of_zpl_tree.declared.statements.Arm.{Arm, out-Arm}
use Rattle.zpl_lowering.proofs.of_zpl_tree.Views.{arm_of-parts}
use Rattle.lower_reads.specs.Reads.{arm_reads, arms_reads, expr_reads, stmts_reads}

pub arms_on : (arms : List Arm) (i : ℕ) (x : Arm) (count mid new whole : ℕ) → i < length arms →
    x ≡ get_or arms i x → mid ≡ count + expr_reads (expr_of (out-Arm x).test.now) →
    new ≡ mid + stmts_reads (stmts_of (out-Arm x).body.now) →
    count + arms_reads (arms_of (drop i arms)) ≡ whole →
    new + arms_reads (arms_of (drop (i + 1) arms)) ≡ whole
arms_on arms i x count mid new whole less at one two had =
    let rest = arms_reads (arms_of (drop (i + 1) arms)) in
    let split : arms_reads (arms_of (drop i arms)) ≡
    (expr_reads (expr_of (out-Arm x).test.now) + stmts_reads (stmts_of (out-Arm x).body.now)) + rest =
    ap (λ s. arms_reads (arms_of s))
    (drop-cons arms i x less ∙ ap (λ n. get_or arms i x ∷ drop n arms) (sym (add-one i)))
    ∙ ap (λ y. arm_reads (arm_of y) + rest) (sym at)
    ∙ ap (λ a. arm_reads a + rest) (arm_of-parts x) in
    omega (arith, split, one, two, had)
