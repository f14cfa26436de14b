use Rattle.std.proofs.Common.{◌≡◌, ℕ, suc, ◌+◌, ◌<◌, ◌-◌, ◌∷◌, Some, None, map, max, length, true, false, is_ok, refl, sym, ap, subst, ◌∙◌, arith, rules}
use Rattle.std.proofs.ResultArms.{chosen}
use Rattle.zpl_tokens.specs.declared.Kind.TheVariants as kind
use Rattle.zpl_tokens.specs.declared.symbols.Sym.TheVariants as sym
use Rattle.zpl_tree.specs.Depth.{expr_depth, exprs_depth, dir_depth, inner_depth}
use Rattle.zpl_tree.specs.Syntax as plain
use Rattle.zpl_tree.specs.Syntax.{Pair}
use Rattle.zpl_tree.specs.View.{expr_of, exprs_of, dir_of, dims_of, name_of, pre_of, base_of, dim_of}
use Rattle.zpl_tree.proofs.Depths.{expr_depth-some}
use Rattle.zpl_tree.proofs.Views.{form_of-Call, form_of-Remap, at_of-form, rexpr_of-made, dir_of-Vector, inner_of-Dims}
use Rattle.zpl_parse.specs.declared.classes.Suffix.TheVariants as suffix
use Rattle.zpl_parse.specs.Classes.{stride_of, opening_of, suffix_of, closes_region}
use Rattle.zpl_parse.specs.Following.{IsFaultOf}
use Rattle.zpl_grammar.specs.Lexeme.{lexemes_of, head_kind, second_kind}
use Rattle.zpl_parse.specs.Outcome.{Done, made}
use Rattle.zpl_parse.specs.Tokens.{next_is}
use Rattle.zpl_parse.specs.Expressions.{levels, exprs, at_of, begins_region}
use Rattle.zpl_parse.proofs.Follows.{passed, fault_then, follows_same}
use Rattle.zpl_parse.proofs.Loops.{gathered_none, gathered_more, gathered_last, gathered_done, gathered_fault}
use Rattle.zpl_parse.proofs.Lists.{exprs-prepended, posts-prepended, dims-prepended, exprs_depth-append, posts_depth-append, dims_depth-append}
use Rattle.zpl_parse.specs.Operators.{operator_of, of_level, below_of, operand_of, is_alone}
use Rattle.zpl_parse.proofs.Chains.{IsFurther, level_begun, level_fault, further_end, further_deep, further_more, further_once, further_fault, height-below, unary_opens}
use Rattle.zpl_parse.proofs.RegionBase.{fault_is, dir_vector, posts_go, posts_end, posts_more, strides_some, inner_ends, rexpr_based, dims_go, dims_end}
use Rattle.zpl_parse.proofs.+expression.Goals as goal

-- ---- the levels of operators

pub expressions::operand-operations-requires : goal.expressions::operand-operations-requires
expressions::operand-operations-requires t c =
    let is : below_of c.args.level ≡ Some c.in-Some.level = search rules in
    (omega (arith, height-below c.args.level c.in-Some.level is, c.decreases), tt)

pub expressions::operations-returns-in_err-left-clause-follows : goal.expressions::operations-returns-in_err-left-clause-follows
expressions::operations-returns-in_err-left-clause-follows t c = λ most enough.
    passed _ _ _ _ c.from_residual.ensures.1 (level_fault c.args.level most c.args.deep _ _ ((c.in_err-left.ensures {u = tt}).follows most enough))

pub expressions::operations-loop-op-init : goal.expressions::operations-loop-op-init
expressions::operations-loop-op-init t c = record {
  within = c.in_ok-left.ensures.shorter;
  depth = c.in_ok-left.ensures.depth;
  shallow = c.in_ok-left.ensures.within;
  further = λ most enough. level_begun c.args.level most c.args.deep _ _ _ _ (omega (arith, c.in_ok-left.ensures.shorter)) (c.in_ok-left.ensures.follows most enough);
}

pub expressions::operations-returns-then-depth-deep-clause-follows : goal.expressions::operations-returns-then-depth-deep-clause-follows
expressions::operations-returns-then-depth-deep-clause-follows t c = λ most enough.
    let text = c.args.bytes.now in
    let some : operator_of c.args.level (head_kind (lexemes_of text c.loop-op.rest.now)) ≡ Some c.in-Some.op = search (rules, c.first_kind.ensures text) in
    further_deep _ _ _ _ _ _ _ _ c.in-Some.op (c.loop-op.invariant.further most enough) some (omega (arith, expr_depth-some (expr_of c.loop-op.left)))

pub expressions::operations-returns-in_err-right-clause-follows : goal.expressions::operations-returns-in_err-right-clause-follows
expressions::operations-returns-in_err-right-clause-follows t c = λ most enough.
    let text = c.args.bytes.now in
    let some : operator_of c.args.level (head_kind (lexemes_of text c.loop-op.rest.now)) ≡ Some c.in-Some.op = search (rules, c.first_kind.ensures text) in
    let fault = c.in_err-right.field-0.0 in
    let below = operand_of c.args.level (levels most (c.args.deep - 1)) in
    let there : length c.behind-next.result.now < most = omega (arith, c.behind-next.ensures.shorter) in
    let found : IsFaultOf fault (below (lexemes_of text c.behind-next.result.now)) = (c.in_err-right.ensures {u = tt}).follows most there in
    passed _ _ _ _ c.from_residual-in_err-right.ensures.1
    (further_fault _ _ _ _ _ _ _ _ c.in-Some.op fault (c.loop-op.invariant.further most enough) some (omega arith)
    (subst (λ l. IsFaultOf fault (below l)) (c.behind-next.ensures.rest text) found))

pub expressions::operations-returns-then-stands_alone-clause-follows : goal.expressions::operations-returns-then-stands_alone-clause-follows
expressions::operations-returns-then-stands_alone-clause-follows t c = λ most enough.
    let text = c.args.bytes.now in
    let some : operator_of c.args.level (head_kind (lexemes_of text c.loop-op.rest.now)) ≡ Some c.in-Some.op = search (rules, c.first_kind.ensures text) in
    let alone : is_alone c.args.level ≡ true = search rules in
    let left = expr_of c.loop-op.left in
    let right = expr_of c.in_ok-right.right in
    let made : expr_of c.in_ok-left-2.left ≡ Pair (at_of left) c.in-Some.op left right =
    c.in_ok-left-2.ensures {u = tt} ∙ ap (λ at. Pair at c.in-Some.op left right) (sym (at_of-form c.loop-op.left.at c.loop-op.left.form)) in
    let below = operand_of c.args.level (levels most (c.args.deep - 1)) in
    let there : length c.behind-next.result.now < most = omega (arith, c.behind-next.ensures.shorter) in
    let read : below (lexemes_of text c.behind-next.result.now) ≡ Done right (lexemes_of text c.in_ok-right.after.now) = c.in_ok-right.ensures.follows most there in
    further_once _ _ _ _ _ _ _ _ c.in-Some.op right _ alone (c.loop-op.invariant.further most enough) some (omega arith)
    (subst (λ l. below l ≡ Done right (lexemes_of text c.in_ok-right.after.now)) (c.behind-next.ensures.rest text) read)
    ∙ ap (λ e. Done e (lexemes_of text c.in_ok-right.after.now)) (sym made)

pub expressions::operations-loop-op-preserved : goal.expressions::operations-loop-op-preserved
expressions::operations-loop-op-preserved t c =
    let text = c.args.bytes.now in
    let some : operator_of c.args.level (head_kind (lexemes_of text c.loop-op.rest.now)) ≡ Some c.in-Some.op = search (rules, c.first_kind.ensures text) in
    let chains : is_alone c.args.level ≡ false = search rules in
    let left = expr_of c.loop-op.left in
    let right = expr_of c.in_ok-right.right in
    let made : expr_of c.in_ok-left-2.left ≡ Pair (at_of left) c.in-Some.op left right =
    c.in_ok-left-2.ensures {u = tt} ∙ ap (λ at. Pair at c.in-Some.op left right) (sym (at_of-form c.loop-op.left.at c.loop-op.left.form)) in
    let deepest : c.max-depth.result ≡ max (expr_depth left) (expr_depth right) = omega (arith, c.max-depth.ensures, c.in_ok-right.ensures.depth) in
    let shorter : length c.in_ok-right.after.now < length c.loop-op.rest.now = omega (arith, c.in_ok-right.ensures.shorter, c.behind-next.ensures.shorter) in
    record {
      within = omega arith;
      depth = subst (λ e. 1 + c.max-depth.result ≡ expr_depth e) (sym made) (ap (λ n. 1 + n) deepest);
      shallow = omega (arith, c.max-depth.ensures, c.in_ok-right.ensures.within);
      further = λ most enough.
          let below = operand_of c.args.level (levels most (c.args.deep - 1)) in
          let there : length c.behind-next.result.now < most = omega (arith, c.behind-next.ensures.shorter) in
          let read : below (lexemes_of text c.behind-next.result.now) ≡ Done right (lexemes_of text c.in_ok-right.after.now) = c.in_ok-right.ensures.follows most there in
          subst (λ e. IsFurther (is_alone c.args.level) (of_level c.args.level (levels most c.args.deep) (lexemes_of text c.args.tokens.now)) (c.args.deep - 1) (operator_of c.args.level) below e (lexemes_of text c.in_ok-right.after.now) (length c.in_ok-right.after.now)) (sym made)
          (further_more _ _ _ _ _ _ _ _ c.in-Some.op right _ _ chains (c.loop-op.invariant.further most enough) shorter some (omega arith)
          (subst (λ l. below l ≡ Done right (lexemes_of text c.in_ok-right.after.now)) (c.behind-next.ensures.rest text) read));
    }

pub expressions::operations-returns-clause-follows : goal.expressions::operations-returns-clause-follows
expressions::operations-returns-clause-follows t c = λ most enough.
    let text = c.args.bytes.now in
    let none : operator_of c.args.level (head_kind (lexemes_of text c.loop-op.rest.now)) ≡ None = search (rules, c.first_kind.ensures text) in
    further_end _ _ _ _ _ _ _ _ (c.loop-op.invariant.further most enough) none

-- ---- exprs

pub expressions::exprs-loop-exprs-init : goal.expressions::exprs-loop-exprs-init
expressions::exprs-loop-exprs-init t c = record {
  within = omega arith;
  depth = rw c.new-exprs.ensures.items refl;
  shallow = omega arith;
  gathered = λ few most enough inside. rw c.new-exprs.ensures.items (gathered_none _ _ few _ _ enough);
}

pub expressions::exprs-returns-in_err-next-clause-follows : goal.expressions::exprs-returns-in_err-next-clause-follows
expressions::exprs-returns-in_err-next-clause-follows t c = λ few most enough inside.
    let there : length c.loop-exprs.rest.now < most = omega (arith, c.loop-exprs.invariant.within) in
    passed _ _ _ _ c.from_residual.ensures.1
    (gathered_fault _ _ few _ _ _ _ _ (c.loop-exprs.invariant.gathered few most enough inside)
    (λ less fits. fault_then _ _ _ ((c.in_err-next.ensures {u = tt}).follows most there)))

pub expressions::exprs-returns-then-not-begins_with-clause-follows : goal.expressions::exprs-returns-then-not-begins_with-clause-follows
expressions::exprs-returns-then-not-begins_with-clause-follows t c = λ few most enough inside.
    let text = c.args.bytes.now in
    let pushed = chosen _ _ _ _ c.push.ensures.items (ap is_ok c.in_ok-push.was) in
    let there : length c.loop-exprs.rest.now < most = omega (arith, c.loop-exprs.invariant.within) in
    let not : c.begins_with.result ≡ false = search rules in
    let ends : next_is (kind.Symbol sym.Comma) (lexemes_of text c.in_ok-next.after.now) ≡ false = sym (c.begins_with.ensures.is text) ∙ not in
    rw (c.in_ok-exprs.ensures {u = tt}, c.as_slice.ensures.value, pushed, exprs-prepended)
    (gathered_last _ (λ fuel lexemes. exprs fuel (levels most c.args.deep).expr lexemes) few _ _ _ _ c.in_ok-next.next plain.NoExpr _ (c.loop-exprs.invariant.gathered few most enough inside)
    (λ less fits. search (rules, c.in_ok-next.ensures.follows most there, ends)))

pub expressions::exprs-returns-then-not-begins_with-clause-depth : goal.expressions::exprs-returns-then-not-begins_with-clause-depth
expressions::exprs-returns-then-not-begins_with-clause-depth t c =
    let pushed = chosen _ _ _ _ c.push.ensures.items (ap is_ok c.in_ok-push.was) in
    rw (c.in_ok-exprs.ensures {u = tt}, c.as_slice.ensures.value, pushed, exprs_depth-append) (omega (arith, c.max-deepest.ensures, c.in_ok-next.ensures.depth))

pub expressions::exprs-loop-exprs-preserved : goal.expressions::exprs-loop-exprs-preserved
expressions::exprs-loop-exprs-preserved t c =
    let text = c.args.bytes.now in
    let pushed = chosen _ _ _ _ c.push.ensures.items (ap is_ok c.in_ok-push.was) in
    let is : c.begins_with.result ≡ true = search rules in
    let some : 0 < length c.in_ok-next.after.now = c.begins_with.ensures.some is in
    let goes : next_is (kind.Symbol sym.Comma) (lexemes_of text c.in_ok-next.after.now) ≡ true = sym (c.begins_with.ensures.is text) ∙ is in
    let shorter : length c.behind-rest.result.now < length c.loop-exprs.rest.now = omega (arith, c.in_ok-next.ensures.shorter, c.behind-rest.ensures.shorter) in
    record {
      within = omega (arith, c.loop-exprs.invariant.within);
      depth = rw (pushed, exprs_depth-append) (omega (arith, c.max-deepest.ensures, c.in_ok-next.ensures.depth, c.loop-exprs.invariant.depth));
      shallow = omega (arith, c.max-deepest.ensures, c.in_ok-next.ensures.within, c.loop-exprs.invariant.shallow);
      gathered = λ few most enough inside.
          let there : length c.loop-exprs.rest.now < most = omega (arith, c.loop-exprs.invariant.within) in
          rw pushed
          (gathered_more _ (λ fuel lexemes. exprs fuel (levels most c.args.deep).expr lexemes) few _ _ _ _ c.in_ok-next.next _ _ (c.loop-exprs.invariant.gathered few most enough inside) shorter
          (λ less fits. search (rules, c.in_ok-next.ensures.follows most there, goes, c.behind-rest.ensures.rest text)));
    }

-- ---- behind a name
called : (made depth : ℕ) (e : plain.Expr) (at : ℕ) (name : plain.Name) (those : plain.Exprs) → e ≡ plain.Call at name those → depth ≡ exprs_depth those → 1 + depth ≡ expr_depth e
called made depth e at name those is deep = ap (λ n. 1 + n) deep ∙ sym (ap expr_depth is)

remapped : (made depth : ℕ) (e : plain.Expr) (at : ℕ) (name : plain.Name) (those : plain.Exprs) → e ≡ plain.Remap at name those → depth ≡ exprs_depth those → 1 + depth ≡ expr_depth e
remapped made depth e at name those is deep = ap (λ n. 1 + n) deep ∙ sym (ap expr_depth is)

pub expressions::behind_name-returns-in_ok-those-in-Call-clause-follows : goal.expressions::behind_name-returns-in_ok-those-in-Call-clause-follows
expressions::behind_name-returns-in_ok-those-in-Call-clause-follows t c = λ most enough.
    let text = c.args.bytes.now in
    let tokens = c.args.tokens.now in
    let suffix : suffix_of (head_kind (lexemes_of text tokens)) ≡ Some suffix.Call = search (rules, c.first_kind.ensures text) in
    let there : length c.behind-rest.result.now < most = omega (arith, c.behind-rest.ensures.shorter) in
    let made : expr_of c.leaf-in-Call.result ≡ plain.Call c.args.name.at (name_of c.args.name) (exprs_of c.in_ok-those-in-Call.those.now) =
    c.leaf-in-Call.ensures ∙ form_of-Call c.args.name.at c.args.name c.in_ok-those-in-Call.those in
    search (rules, suffix, c.behind-rest.ensures.rest text, c.in_ok-those-in-Call.ensures.follows most most there there, made)

pub expressions::behind_name-returns-in_ok-those-in-Call-clause-depth : goal.expressions::behind_name-returns-in_ok-those-in-Call-clause-depth
expressions::behind_name-returns-in_ok-those-in-Call-clause-depth t c =
    let made : expr_of c.leaf-in-Call.result ≡ plain.Call c.args.name.at (name_of c.args.name) (exprs_of c.in_ok-those-in-Call.those.now) =
    c.leaf-in-Call.ensures ∙ form_of-Call c.args.name.at c.args.name c.in_ok-those-in-Call.those in
    called 0 _ _ _ _ _ made c.in_ok-those-in-Call.ensures.depth

pub expressions::remapped-returns-clause-follows : goal.expressions::remapped-returns-clause-follows
expressions::remapped-returns-clause-follows t c = λ most enough.
    let text = c.args.bytes.now in
    let there : length c.in_ok-rest.rest.now < most = omega (arith, c.in_ok-rest.ensures.shorter) in
    let made : expr_of c.leaf.result ≡ plain.Remap c.args.name.at (name_of c.args.name) (exprs_of c.in_ok-indices.indices.now) =
    c.leaf.ensures ∙ form_of-Remap c.args.name.at c.args.name c.in_ok-indices.indices in
    search (rules, c.in_ok-rest.ensures.follows text, c.in_ok-indices.ensures.follows most most there there, made)

pub expressions::remapped-returns-clause-depth : goal.expressions::remapped-returns-clause-depth
expressions::remapped-returns-clause-depth t c =
    let made : expr_of c.leaf.result ≡ plain.Remap c.args.name.at (name_of c.args.name) (exprs_of c.in_ok-indices.indices.now) =
    c.leaf.ensures ∙ form_of-Remap c.args.name.at c.args.name c.in_ok-indices.indices in
    remapped 0 _ _ _ _ _ made c.in_ok-indices.ensures.depth

-- ---- unary

pub expressions::unary-returns-in-Some-opening-clause-follows : goal.expressions::unary-returns-in-Some-opening-clause-follows
expressions::unary-returns-in-Some-opening-clause-follows t c = λ most enough.
    let text = c.args.bytes.now in
    let first = c.in-Some.first.now in
    let split : c.args.tokens.now ≡ first ∷ c.in-Some.rest.now = search rules in
    let size : length c.args.tokens.now ≡ suc (length c.in-Some.rest.now) = ap length split in
    let is : opening_of first.kind ≡ Some c.in-Some-opening.opening = search rules in
    let opens = unary_opens most c.args.deep text c.args.tokens.now first c.in-Some.rest.now c.in-Some-opening.opening (omega arith) split is in
    let there : length c.in-Some.rest.now < most = omega arith in
    follows_same _ _ _ _ (sym opens) (c.opened.ensures.follows most there)

-- ---- regions

pub regions::dir-returns-then-begins_with-clause-follows : goal.regions::dir-returns-then-begins_with-clause-follows
regions::dir-returns-then-begins_with-clause-follows t c = λ few most enough within.
    let text = c.args.bytes.now in
    let is : c.begins_with.result ≡ true = search rules in
    let goes : next_is (kind.Symbol sym.OpenBracket) (lexemes_of text c.args.tokens.now) ≡ true = sym (c.begins_with.ensures.is text) ∙ is in
    let less : length c.behind.result.now < few = omega (arith, c.behind.ensures.shorter) in
    let fits : length c.behind.result.now < most = omega (arith, c.behind.ensures.shorter) in
    dir_vector few (levels most c.args.deep).expr (lexemes_of text c.args.tokens.now) (lexemes_of text c.behind.result.now) goes (c.behind.ensures.rest text)
    ∙ ap (made plain.Vector) (c.in_ok-parts.ensures.follows few most less fits)
    ∙ ap (λ dir. Done dir (lexemes_of text c.in_ok-parts.rest.now)) (sym (dir_of-Vector c.in_ok-parts.parts))

pub regions::dir-returns-then-begins_with-clause-depth : goal.regions::dir-returns-then-begins_with-clause-depth
regions::dir-returns-then-begins_with-clause-depth t c = c.in_ok-parts.ensures.depth ∙ ap dir_depth (sym (dir_of-Vector c.in_ok-parts.parts))

pub regions::posts-loop-stride-init : goal.regions::posts-loop-stride-init
regions::posts-loop-stride-init t c = record {
  within = omega arith;
  depth = rw c.new-posts.ensures.items refl;
  shallow = omega arith;
  gathered = λ few most enough within. rw c.new-posts.ensures.items (gathered_none _ _ few _ _ enough);
}

pub regions::posts-returns-in_err-dir-clause-follows : goal.regions::posts-returns-in_err-dir-clause-follows
regions::posts-returns-in_err-dir-clause-follows t c = λ few most enough within.
    let text = c.args.bytes.now in
    let some : stride_of (head_kind (lexemes_of text c.loop-stride.rest.now)) ≡ Some c.in-Some.stride = search (rules, c.first_kind.ensures text) in
    let there : 0 < length c.loop-stride.rest.now = strides_some text c.loop-stride.rest.now c.in-Some.stride some in
    let fits : length c.behind.result.now < most = omega (arith, c.behind.ensures.shorter, c.loop-stride.invariant.within) in
    passed _ _ _ _ c.from_residual.ensures.1
    (gathered_fault _ _ few _ _ _ _ _ (c.loop-stride.invariant.gathered few most enough within)
    (λ less left.
    let fewer : length c.behind.result.now < less = omega (arith, c.behind.ensures.shorter) in
    fault_is _ _ _ (posts_go less (levels most c.args.deep).expr (lexemes_of text c.loop-stride.rest.now) (lexemes_of text c.behind.result.now) c.in-Some.stride some (c.behind.ensures.rest text))
    (fault_then _ _ _ ((c.in_err-dir.ensures {u = tt}).follows less most fewer fits))))

pub regions::posts-loop-stride-preserved : goal.regions::posts-loop-stride-preserved
regions::posts-loop-stride-preserved t c =
    let text = c.args.bytes.now in
    let some : stride_of (head_kind (lexemes_of text c.loop-stride.rest.now)) ≡ Some c.in-Some.stride = search (rules, c.first_kind.ensures text) in
    let there : 0 < length c.loop-stride.rest.now = strides_some text c.loop-stride.rest.now c.in-Some.stride some in
    let pushed = chosen _ _ _ _ c.push.ensures.items (ap is_ok c.in_ok-push.was) in
    let shorter : length c.in_ok-dir.after.now < length c.loop-stride.rest.now = omega (arith, c.in_ok-dir.ensures.shorter, c.behind.ensures.shorter) in
    record {
      within = omega (arith, c.loop-stride.invariant.within);
      depth = rw (pushed, posts_depth-append) (omega (arith, c.max-deepest.ensures, c.in_ok-dir.ensures.depth, c.loop-stride.invariant.depth));
      shallow = omega (arith, c.max-deepest.ensures, c.in_ok-dir.ensures.within, c.loop-stride.invariant.shallow);
      gathered = λ few most enough within.
          let fits : length c.behind.result.now < most = omega (arith, c.behind.ensures.shorter, c.loop-stride.invariant.within) in
          rw pushed
          (gathered_more _ _ few _ _ _ _ (record { stride = c.in-Some.stride; dir = c.in_ok-dir.dir }) _ _ (c.loop-stride.invariant.gathered few most enough within) shorter
          (λ less left.
          let fewer : length c.behind.result.now < less = omega (arith, c.behind.ensures.shorter) in
          posts_more less (levels most c.args.deep).expr (lexemes_of text c.loop-stride.rest.now) (lexemes_of text c.behind.result.now) (lexemes_of text c.in_ok-dir.after.now) c.in-Some.stride (dir_of c.in_ok-dir.dir) some (c.behind.ensures.rest text) (c.in_ok-dir.ensures.follows less most fewer fits)));
    }

pub regions::posts-returns-clause-follows : goal.regions::posts-returns-clause-follows
regions::posts-returns-clause-follows t c = λ few most enough within.
    let text = c.args.bytes.now in
    let none : stride_of (head_kind (lexemes_of text c.loop-stride.rest.now)) ≡ None = search (rules, c.first_kind.ensures text) in
    rw (c.in_ok-posts.ensures {u = tt}, c.as_slice.ensures.value, posts-prepended)
    (gathered_done _ _ few _ _ _ _ plain.NoPost _ (c.loop-stride.invariant.gathered few most enough within)
    (λ less left. posts_end less (levels most c.args.deep).expr (lexemes_of text c.loop-stride.rest.now) none))

pub regions::rexpr-returns-clause-follows : goal.regions::rexpr-returns-clause-follows
regions::rexpr-returns-clause-follows t c = λ few most enough within.
    let text = c.args.bytes.now in
    let less : length c.in_ok-pre.rest.now < few = omega (arith, c.in_ok-pre.ensures.shorter) in
    let fits : length c.in_ok-pre.rest.now < most = omega (arith, c.in_ok-pre.ensures.shorter) in
    rexpr_based few (levels most c.args.deep).expr (lexemes_of text c.args.tokens.now) (lexemes_of text c.in_ok-pre.rest.now)
    (map pre_of c.in_ok-pre.pre.now) (base_of c.in_ok-pre.base) (c.in_ok-pre.ensures.follows few enough)
    ∙ ap (made (plain.Rexpr (map pre_of c.in_ok-pre.pre.now) (base_of c.in_ok-pre.base))) (c.in_ok-post.ensures.follows few most less fits)
    ∙ ap (λ region. Done region (lexemes_of text c.in_ok-post.rest.now)) (sym (rexpr_of-made c.in_ok-pre.pre c.in_ok-pre.base c.in_ok-post.post))

pub regions::rexpr-returns-clause-depth : goal.regions::rexpr-returns-clause-depth
regions::rexpr-returns-clause-depth t c = c.in_ok-post.ensures.depth ∙ ap inner_depth (sym (rexpr_of-made c.in_ok-pre.pre c.in_ok-pre.base c.in_ok-post.post))

pub regions::inner-returns-clause-follows : goal.regions::inner-returns-clause-follows
regions::inner-returns-clause-follows t c = λ few most enough within.
    let text = c.args.bytes.now in
    let none : begins_region (head_kind (lexemes_of text c.args.tokens.now)) (second_kind (lexemes_of text c.args.tokens.now)) ≡ false =
    search (rules, c.begins_region.ensures, c.first_kind.ensures text, c.second_kind.ensures text) in
    let ends : closes_region (head_kind (lexemes_of text c.in_ok-dims.rest.now)) ≡ true = search (rules, c.ends_region.ensures) in
    inner_ends few (levels most c.args.deep).expr (lexemes_of text c.args.tokens.now) (lexemes_of text c.in_ok-dims.rest.now)
    (dims_of c.in_ok-dims.dims.now) none (c.in_ok-dims.ensures.follows few most enough within) ends
    ∙ ap (λ region. Done region (lexemes_of text c.in_ok-dims.rest.now)) (sym (inner_of-Dims c.in_ok-dims.dims))

pub regions::inner-returns-clause-depth : goal.regions::inner-returns-clause-depth
regions::inner-returns-clause-depth t c = c.in_ok-dims.ensures.depth ∙ ap inner_depth (sym (inner_of-Dims c.in_ok-dims.dims))

pub regions::dim_texts-loop-dims-init : goal.regions::dim_texts-loop-dims-init
regions::dim_texts-loop-dims-init t c = record {
  within = omega arith;
  depth = rw c.new-dims.ensures.items refl;
  shallow = omega arith;
  gathered = λ few most enough within. rw c.new-dims.ensures.items (gathered_none _ _ few _ _ enough);
}

pub regions::dim_texts-returns-in_err-next-clause-follows : goal.regions::dim_texts-returns-in_err-next-clause-follows
regions::dim_texts-returns-in_err-next-clause-follows t c = λ few most enough within.
    let fits : length c.loop-dims.rest.now < most = omega (arith, c.loop-dims.invariant.within) in
    passed _ _ _ _ c.from_residual.ensures.1
    (gathered_fault _ _ few _ _ _ _ _ (c.loop-dims.invariant.gathered few most enough within)
    (λ less left. fault_then _ _ _ ((c.in_err-next.ensures {u = tt}).follows most fits)))

pub regions::dim_texts-returns-then-not-begins_with-clause-follows : goal.regions::dim_texts-returns-then-not-begins_with-clause-follows
regions::dim_texts-returns-then-not-begins_with-clause-follows t c = λ few most enough within.
    let text = c.args.bytes.now in
    let fits : length c.loop-dims.rest.now < most = omega (arith, c.loop-dims.invariant.within) in
    let pushed = chosen _ _ _ _ c.push.ensures.items (ap is_ok c.in_ok-push.was) in
    let not : c.begins_with.result ≡ false = search rules in
    let ends : next_is (kind.Symbol sym.Comma) (lexemes_of text c.in_ok-next.after.now) ≡ false = sym (c.begins_with.ensures.is text) ∙ not in
    rw (c.in_ok-dims.ensures {u = tt}, c.as_slice.ensures.value, pushed, dims-prepended)
    (gathered_last _ _ few _ _ _ _ c.in_ok-next.next plain.NoDim _ (c.loop-dims.invariant.gathered few most enough within)
    (λ less left. dims_end less (levels most c.args.deep).expr (lexemes_of text c.loop-dims.rest.now) (lexemes_of text c.in_ok-next.after.now) (dim_of c.in_ok-next.next) (c.in_ok-next.ensures.follows most fits) ends))

pub regions::dim_texts-returns-then-not-begins_with-clause-depth : goal.regions::dim_texts-returns-then-not-begins_with-clause-depth
regions::dim_texts-returns-then-not-begins_with-clause-depth t c =
    let pushed = chosen _ _ _ _ c.push.ensures.items (ap is_ok c.in_ok-push.was) in
    rw (c.in_ok-dims.ensures {u = tt}, c.as_slice.ensures.value, pushed, dims_depth-append)
    (omega (arith, c.max-deepest.ensures, c.in_ok-next.ensures.depth, c.loop-dims.invariant.depth))

pub regions::dim_texts-loop-dims-preserved : goal.regions::dim_texts-loop-dims-preserved
regions::dim_texts-loop-dims-preserved t c =
    let text = c.args.bytes.now in
    let pushed = chosen _ _ _ _ c.push.ensures.items (ap is_ok c.in_ok-push.was) in
    let is : c.begins_with.result ≡ true = search rules in
    let goes : next_is (kind.Symbol sym.Comma) (lexemes_of text c.in_ok-next.after.now) ≡ true = sym (c.begins_with.ensures.is text) ∙ is in
    let shorter : length c.behind-rest.result.now < length c.loop-dims.rest.now = omega (arith, c.in_ok-next.ensures.shorter, c.behind-rest.ensures.shorter, c.begins_with.ensures.some is) in
    record {
      within = omega (arith, c.loop-dims.invariant.within);
      depth = rw (pushed, dims_depth-append) (omega (arith, c.max-deepest.ensures, c.in_ok-next.ensures.depth, c.loop-dims.invariant.depth));
      shallow = omega (arith, c.max-deepest.ensures, c.in_ok-next.ensures.within, c.loop-dims.invariant.shallow);
      gathered = λ few most enough within.
          let fits : length c.loop-dims.rest.now < most = omega (arith, c.loop-dims.invariant.within) in
          rw pushed
          (gathered_more _ _ few _ _ _ _ c.in_ok-next.next _ _ (c.loop-dims.invariant.gathered few most enough within) shorter
          (λ less left. dims_go less (levels most c.args.deep).expr (lexemes_of text c.loop-dims.rest.now) (lexemes_of text c.in_ok-next.after.now) (lexemes_of text c.behind-rest.result.now) (dim_of c.in_ok-next.next) (c.in_ok-next.ensures.follows most fits) goes (c.behind-rest.ensures.rest text)));
    }
