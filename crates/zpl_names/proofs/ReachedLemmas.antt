-- What calls reach.
use Rattle.std.proofs.Common.{◌≡◌, ℕ, zero, suc, ◌+◌, ◌<◌, ◌≤◌, true, ◌⊎◌, inl, inr, List, [], ◌∷◌, length, Option, Some, None, Contains, refl, sym, ◌∙◌, ap, subst, arith, le_refl}
use Rattle.std.specs.List.{filter_map, cons_option}
use Rattle.zpl_tree.specs.Syntax.{Program}
use Rattle.zpl_names.specs.Shapes.{Shapes, unknown_shapes}
use Rattle.zpl_names.specs.Declared.{Routine, routine_named, entry_of}
use Rattle.zpl_names.specs.Sites.{CallSite, calls_under}
use Rattle.zpl_names.specs.Reached.{IsClosed, IsReached, Entered, Called, IsHeight, IsRecursion, Reaches, Itself, ByCall, IsChain, Alone, Longer, IsDeepCall, longest_chain, calls_of, calls_in}
use Rattle.zpl_names.specs.Expansion.{callees, is_shallow}
use Rattle.zpl_names.proofs.ListLemmas.{Among, among_from_Contains, Contains-from_among, among_texts, all_true}

-- ---- lists that are closed under calls

pub closed-has : (program : Program) (pairs : List (List ℕ × Shapes)) → IsClosed program pairs →
    (text : List ℕ) (shapes : Shapes) → IsReached program text shapes →
    Contains pairs (text, shapes)
closed-has program pairs closed text shapes Entered = closed.entry
closed-has program pairs closed text shapes (Called caller before call reached called) =
    closed.calls caller before call (closed-has program pairs closed caller before reached) called

-- ---- numbers that fall with each call

reaches-fall : (program : Program) (height : List ℕ → ℕ) → IsHeight program height →
    (text other : List ℕ) → Reaches program text other → height other ≤ height text
reaches-fall program height falls text other (Itself same) = le_refl _
reaches-fall program height falls text other (ByCall from to call called rest) =
    let less = falls from call called in
    let more = reaches-fall program height falls call.name.text to rest in omega arith

pub no_recursion : (program : Program) (height : List ℕ → ℕ) → IsHeight program height → (at : ℕ) →
    ¬ IsRecursion program at
no_recursion program height falls at found =
    let less = falls found.text found.call found.called in
    let more =
    reaches-fall program height falls found.call.name.text found.text found.back in omega arith

abbrev ChainFalls : Program → (List ℕ → ℕ) → List (List ℕ) → Type 0
ChainFalls program height [] = Unit {0}
ChainFalls program height (last ∷ before) = height last + length before ≤ height program.name.text

chain-falls : (program : Program) (height : List ℕ → ℕ) → IsHeight program height →
    (chain : List (List ℕ)) → IsChain program chain → ChainFalls program height chain
chain-falls program height falls chain Alone = omega arith
chain-falls program height falls chain (Longer last before call shorter called different) =
    let less = falls last call called in
    let more = chain-falls program height falls (last ∷ before) shorter in omega arith

pub no_deep_call : (program : Program) (height : List ℕ → ℕ) → IsHeight program height →
    height program.name.text < longest_chain → (at : ℕ) → ¬ IsDeepCall program at
no_deep_call program height falls low at found =
    let less = falls found.last found.call found.called in
    let full = found.full in
    let more =
    chain-falls program height falls (found.last ∷ found.before) found.chain in omega arith

-- ---- chains in a program that has neither fault

reaches-snoc : (program : Program) (text other : List ℕ) (call : CallSite) →
    Reaches program text other →
    Contains (calls_in program other) call → Reaches program text call.name.text
reaches-snoc program text other call (Itself same) called =
    ByCall same call.name.text call called (Itself call.name.text)
reaches-snoc program text other call (ByCall from to first is rest) called =
    ByCall from call.name.text first is (reaches-snoc program first.name.text to call rest called)

abbrev ReachLast : Program → List ℕ → List (List ℕ) → Type 0
ReachLast program member [] = Unit {0}
ReachLast program member (last ∷ before) = Reaches program member last

-- each procedure of a chain reaches its last one
chain-reaches : (program : Program) (member : List ℕ) (chain : List (List ℕ)) →
    IsChain program chain →
    Among chain member → ReachLast program member chain
chain-reaches program member chain Alone (inl e) = let P : List ℕ → Type 0 =
    λ text. Reaches program text program.name.text in subst P e (Itself program.name.text)
chain-reaches program member chain Alone (inr h) = absurd h
chain-reaches program member chain (Longer last before call shorter called different) (inl e) =
    let P : List ℕ → Type 0 =
    λ text. Reaches program text call.name.text in subst P e (Itself call.name.text)
chain-reaches program member chain (Longer last before call shorter called different) (inr h) =
    reaches-snoc program member last call (chain-reaches program member (last ∷ before) shorter h)
    called

-- a chain is too long
too_long : (program : Program) → ((at : ℕ) → ¬ IsDeepCall program at) → (chain : List (List ℕ)) →
    IsChain program chain →
    length chain ≡ suc longest_chain → ⊥
unfolding longest_chain
too_long program shallow chain Alone e = omega arith
too_long program shallow chain (Longer last before call shorter called different) e =
    shallow call.name.at (record {
      last = last;
      before = before;
      chain = shorter;
      full = omega arith;
      call = call;
      called = called;
      different = different;
      place = refl;
    })

-- what is called, of the procedures that there are
abbrev IsCalled : Program → List CallSite → Routine → Type 0
IsCalled program calls callee =
    (call : CallSite) × Among calls call × (routine_named program call.name.text ≡ Some callee)

callee-of : (program : Program) (calls : List CallSite) (callee : Routine) →
    Among (filter_map (λ call. routine_named program call.name.text) calls) callee →
    IsCalled program calls callee
callee-of program [] callee h = absurd h
callee-of program (call ∷ calls) callee h =
    by (routine_named program call.name.text) refl h
    (λ h. let found = callee-of program calls callee h in (found.0, inr found.1, found.2))
  where
    by : (routine : Option Routine) → routine_named program call.name.text ≡ routine →
        Among
        (cons_option routine (filter_map (λ call. routine_named program call.name.text) calls))
        callee →
        (Among (filter_map (λ call. routine_named program call.name.text) calls) callee →
        IsCalled program (call ∷ calls) callee) →
        IsCalled program (call ∷ calls) callee
    by None e h later = later h
    by (Some routine) e (inl is) later = (call, inl refl, e ∙ ap Some is)
    by (Some routine) e (inr h) later = later h

-- the calls of a procedure that is there
calls-are : (program : Program) (text : List ℕ) (routine : Routine) →
    routine_named program text ≡ Some routine →
    calls_in program text ≡ calls_under program unknown_shapes routine
calls-are program text routine e = ap (calls_of program unknown_shapes) e

-- the last procedure of a chain has no longer chain before it than is left
shallow-below : (program : Program) → ((at : ℕ) → ¬ IsRecursion program at) →
    ((at : ℕ) → ¬ IsDeepCall program at) →
    (depth : ℕ) (last : List ℕ) (before : List (List ℕ)) (routine : Routine) →
    IsChain program (last ∷ before) →
    routine_named program last ≡ Some routine → length (last ∷ before) + depth ≡ suc longest_chain →
    is_shallow program depth routine ≡ true
shallow-below program straight short zero last before routine chain is e =
    absurd (too_long program short (last ∷ before) chain (omega arith))
shallow-below program straight short (suc depth) last before routine chain is e =
    all_true (is_shallow program depth) (callees program routine) (λ callee m.
    each callee (callee-of program (calls_under program unknown_shapes routine) callee m)
    (λ call fresh called found. shallow-below program straight short depth call.name.text
    (last ∷ before) callee
    (Longer last before call chain called fresh) found (omega arith)))
  where
    each : (callee : Routine) → IsCalled program (calls_under program unknown_shapes routine) callee
        →
        ((call : CallSite) → ¬ Contains (last ∷ before) call.name.text →
        Contains (calls_in program last) call →
        routine_named program call.name.text ≡ Some callee → is_shallow program depth callee ≡ true)
        →
        is_shallow program depth callee ≡ true
    each callee (call, m, found) deeper = by (among_texts (last ∷ before) call.name.text)
      where
        called : Contains (calls_in program last) call
        called =
            let P : List CallSite → Type 0 = λ calls. Contains calls call in
            subst P (sym (calls-are program last routine is))
            (Contains-from_among (calls_under program unknown_shapes routine) call m)

        by : Among (last ∷ before) call.name.text ⊎ (Among (last ∷ before) call.name.text → ⊥) →
            is_shallow program depth callee ≡ true
        by (inl h) = absurd (straight call.name.at (record {
          text = last;
          call = call;
          called = called;
          back = chain-reaches program call.name.text (last ∷ before) chain h;
          place = refl;
        }))
        by (inr h) =
            deeper call (λ c. h (among_from_Contains (last ∷ before) call.name.text c)) called found

pub entry_is_shallow : (program : Program) (entry : Routine) → entry_of program ≡ Some entry →
    ((at : ℕ) → ¬ IsRecursion program at) → ((at : ℕ) → ¬ IsDeepCall program at) →
    is_shallow program longest_chain entry ≡ true
entry_is_shallow program entry is straight short =
    shallow-below program straight short longest_chain program.name.text [] entry Alone is
    (omega arith)
