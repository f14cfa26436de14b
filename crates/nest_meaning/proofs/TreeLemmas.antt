-- Members are read as the tree that they are spelled from.
use Rattle.std.proofs.Common.{◌≡◌, refl, sym, ◌∙◌, ap, subst, List, [], ◌∷◌, append-nil, ℕ}
use Rattle.std.specs.Prelude.{Option, Some, None, option_and_then}
use Rattle.node_form.specs.declared.members.Member.{Member}
use Rattle.node_form.specs.declared.members.Member.TheVariants.{Put, Cell, Acc, OpenIf, Otherwise}
use Rattle.node_form.specs.declared.members.Member.TheVariants.{CloseIf}
use Rattle.node_form.specs.declared.members.Member.TheVariants.{OpenWhile, CloseWhile, OpenRepeat}
use Rattle.node_form.specs.declared.members.Member.TheVariants.{Until}
use Rattle.node_form.specs.Nest.{Nest, Nothing, Putting, Keeping, Joining, Choosing, ChoosingElse}
use Rattle.node_form.specs.Nest.{Looping, Repeating, members_of}
use Rattle.nest_meaning.specs.Tree.{Closing, ClosesIf, ClosesElse, ClosesWhile, ClosesRepeat}
use Rattle.nest_meaning.specs.Tree.{Reading}
use Rattle.nest_meaning.specs.Tree.{reading, else_read, if_read, while_read, repeat_read}
use Rattle.nest_meaning.specs.Tree.{member_read}
use Rattle.nest_meaning.specs.Tree.{members_read, whole_tree}
use Rattle.nest_meaning.specs.Units.{followed_by}
use Rattle.nest_meaning.specs.Laws.{ReadsAgain, ReadsOnly}
use Rattle.nest_meaning.proofs.Spelled.{spelled, spelled_is}

followed_none : (nest : Nest) → followed_by nest Nothing ≡ nest
followed_none Nothing = refl
followed_none (Putting array expr mask line after) =
    ap (Putting array expr mask line) (followed_none after)
followed_none (Keeping cell expr mask line after) =
    ap (Keeping cell expr mask line) (followed_none after)
followed_none (Joining scalar fold expr mask line after) =
    ap (Joining scalar fold expr mask line) (followed_none after)
followed_none (Choosing expr mask line body after) =
    ap (Choosing expr mask line body) (followed_none after)
followed_none (ChoosingElse expr mask line body otherwise after) =
    ap (ChoosingElse expr mask line body otherwise) (followed_none after)
followed_none (Looping expr mask line body after) =
    ap (Looping expr mask line body) (followed_none after)
followed_none (Repeating mask line body until after) =
    ap (Repeating mask line body until) (followed_none after)

-- a tree's members in front of those that were read
tree_read : (nest : Nest) (rest : List Member) (tree : Nest) (closings : List Closing)
    → members_read rest ≡ Some (reading tree closings)
    → members_read (spelled nest rest) ≡ Some (reading (followed_by nest tree) closings)
tree_read Nothing rest tree closings e = e
tree_read (Putting array expr mask line after) rest tree closings e =
    ap (option_and_then (member_read (Put array expr mask line)))
    (tree_read after rest tree closings e)
tree_read (Keeping cell expr mask line after) rest tree closings e =
    ap (option_and_then (member_read (Cell cell expr mask line)))
    (tree_read after rest tree closings e)
tree_read (Joining scalar fold expr mask line after) rest tree closings e =
    ap (option_and_then (member_read (Acc scalar fold expr mask line)))
    (tree_read after rest tree closings e)
tree_read (Choosing expr mask line body after) rest tree closings e =
    let behind =
    ap (option_and_then (member_read CloseIf)) (tree_read after rest tree closings e) in
    ap (option_and_then (member_read (OpenIf expr mask line)))
    (tree_read body (CloseIf ∷ spelled after rest) Nothing
    (ClosesIf (followed_by after tree) ∷ closings) behind)
    ∙ ap (λ body. Some (reading (Choosing expr mask line body (followed_by after tree)) closings))
    (followed_none body)
tree_read (ChoosingElse expr mask line body otherwise after) rest tree closings e =
    let behind =
    ap (option_and_then (member_read CloseIf)) (tree_read after rest tree closings e) in
    let other = tree_read otherwise (CloseIf ∷ spelled after rest) Nothing
    (ClosesIf (followed_by after tree) ∷ closings) behind in
    let middle = ap (option_and_then (member_read Otherwise)) other in
    ap (option_and_then (member_read (OpenIf expr mask line)))
    (tree_read body (Otherwise ∷ spelled otherwise (CloseIf ∷ spelled after rest)) Nothing
    (ClosesElse (followed_by otherwise Nothing) (followed_by after tree) ∷ closings) middle)
    ∙ (ap (λ body. Some (reading
    (ChoosingElse expr mask line body (followed_by otherwise Nothing) (followed_by after tree))
    closings))
    (followed_none body)
    ∙ ap (λ other. Some
    (reading (ChoosingElse expr mask line body other (followed_by after tree)) closings))
    (followed_none otherwise))
tree_read (Looping expr mask line body after) rest tree closings e =
    let behind =
    ap (option_and_then (member_read CloseWhile)) (tree_read after rest tree closings e) in
    ap (option_and_then (member_read (OpenWhile expr mask line)))
    (tree_read body (CloseWhile ∷ spelled after rest) Nothing
    (ClosesWhile (followed_by after tree) ∷ closings)
    behind)
    ∙ ap (λ body. Some (reading (Looping expr mask line body (followed_by after tree)) closings))
    (followed_none body)
tree_read (Repeating mask line body until after) rest tree closings e =
    let behind =
    ap (option_and_then (member_read (Until until))) (tree_read after rest tree closings e) in
    ap (option_and_then (member_read (OpenRepeat mask line)))
    (tree_read body (Until until ∷ spelled after rest) Nothing
    (ClosesRepeat until (followed_by after tree) ∷ closings) behind)
    ∙ ap (λ body. Some (reading (Repeating mask line body until (followed_by after tree)) closings))
    (followed_none body)

pub reads_again : ReadsAgain
reads_again nest =
    let is : spelled nest [] ≡ members_of nest =
    spelled_is nest [] ∙ append-nil (members_of nest) in
    ap (option_and_then (λ read. whole_tree read.tree read.closings))
    (subst (λ members. members_read members ≡ Some (reading nest [])) is
    (tree_read nest [] Nothing [] refl ∙ ap (λ tree. Some (reading tree [])) (followed_none nest)))

-- ---- what is read spells the members
abbrev closed : List Closing → List Member
closed [] = []
closed (ClosesIf after ∷ closings) = CloseIf ∷ spelled after (closed closings)
closed (ClosesElse otherwise after ∷ closings) =
    Otherwise ∷ spelled otherwise (CloseIf ∷ spelled after (closed closings))
closed (ClosesWhile after ∷ closings) = CloseWhile ∷ spelled after (closed closings)
closed (ClosesRepeat until after ∷ closings) = Until until ∷ spelled after (closed closings)

abbrev spelled_read : Reading → List Member
spelled_read read = spelled read.tree (closed read.closings)

next_spelled : (member : Member) (read next after : Reading) → Some next ≡ Some after
    → spelled_read next ≡ member ∷ spelled_read read
    → spelled_read after ≡ member ∷ spelled_read read
next_spelled member read next after e is =
    let same : next ≡ after = cc in
    subst (λ r. spelled_read r ≡ member ∷ spelled_read read) same is

if_spelled : (expr : ℕ) (mask : Option ℕ) (line : ℕ) (tree : Nest) (closings : List Closing)
    (after : Reading)
    → if_read expr mask line tree closings ≡ Some after
    → spelled_read after ≡ OpenIf expr mask line ∷ spelled_read (reading tree closings)
if_spelled expr mask line tree [] after e = cc
if_spelled expr mask line tree (ClosesIf behind ∷ closings) after e =
    next_spelled (OpenIf expr mask line) (reading tree (ClosesIf behind ∷ closings)) _ after e refl
if_spelled expr mask line tree (ClosesElse otherwise behind ∷ closings) after e =
    next_spelled (OpenIf expr mask line)
    (reading tree (ClosesElse otherwise behind ∷ closings)) _ after e refl
if_spelled expr mask line tree (ClosesWhile behind ∷ closings) after e = cc
if_spelled expr mask line tree (ClosesRepeat until behind ∷ closings) after e = cc

else_spelled : (tree : Nest) (closings : List Closing) (after : Reading)
    → else_read tree closings ≡ Some after
    → spelled_read after ≡ Otherwise ∷ spelled_read (reading tree closings)
else_spelled tree [] after e = cc
else_spelled tree (ClosesIf behind ∷ closings) after e =
    next_spelled Otherwise (reading tree (ClosesIf behind ∷ closings)) _ after e refl
else_spelled tree (ClosesElse otherwise behind ∷ closings) after e = cc
else_spelled tree (ClosesWhile behind ∷ closings) after e = cc
else_spelled tree (ClosesRepeat until behind ∷ closings) after e = cc

while_spelled : (expr : ℕ) (mask : Option ℕ) (line : ℕ) (tree : Nest) (closings : List Closing)
    (after : Reading) → while_read expr mask line tree closings ≡ Some after
    → spelled_read after ≡ OpenWhile expr mask line ∷ spelled_read (reading tree closings)
while_spelled expr mask line tree [] after e = cc
while_spelled expr mask line tree (ClosesIf behind ∷ closings) after e = cc
while_spelled expr mask line tree (ClosesElse otherwise behind ∷ closings) after e = cc
while_spelled expr mask line tree (ClosesWhile behind ∷ closings) after e =
    next_spelled (OpenWhile expr mask line)
    (reading tree (ClosesWhile behind ∷ closings)) _ after e refl
while_spelled expr mask line tree (ClosesRepeat until behind ∷ closings) after e = cc

repeat_spelled : (mask : Option ℕ) (line : ℕ) (tree : Nest) (closings : List Closing)
    (after : Reading)
    → repeat_read mask line tree closings ≡ Some after
    → spelled_read after ≡ OpenRepeat mask line ∷ spelled_read (reading tree closings)
repeat_spelled mask line tree [] after e = cc
repeat_spelled mask line tree (ClosesIf behind ∷ closings) after e = cc
repeat_spelled mask line tree (ClosesElse otherwise behind ∷ closings) after e = cc
repeat_spelled mask line tree (ClosesWhile behind ∷ closings) after e = cc
repeat_spelled mask line tree (ClosesRepeat until behind ∷ closings) after e =
    next_spelled (OpenRepeat mask line)
    (reading tree (ClosesRepeat until behind ∷ closings)) _ after e refl

member_spelled : (member : Member) (read after : Reading) → member_read member read ≡ Some after
    → spelled_read after ≡ member ∷ spelled_read read
member_spelled (Put array expr mask line) read after e =
    next_spelled (Put array expr mask line) read _ after e refl
member_spelled (Cell cell expr mask line) read after e =
    next_spelled (Cell cell expr mask line) read _ after e refl
member_spelled (Acc scalar fold expr mask line) read after e =
    next_spelled (Acc scalar fold expr mask line) read _ after e refl
member_spelled (OpenIf expr mask line) read after e =
    if_spelled expr mask line read.tree read.closings after e
member_spelled Otherwise read after e = else_spelled read.tree read.closings after e
member_spelled CloseIf read after e = next_spelled CloseIf read _ after e refl
member_spelled (OpenWhile expr mask line) read after e =
    while_spelled expr mask line read.tree read.closings after e
member_spelled CloseWhile read after e = next_spelled CloseWhile read _ after e refl
member_spelled (OpenRepeat mask line) read after e =
    repeat_spelled mask line read.tree read.closings after e
member_spelled (Until expr) read after e = next_spelled (Until expr) read _ after e refl

all_spelled : (members : List Member) (read : Reading) → members_read members ≡ Some read
    → spelled_read read ≡ members
all_spelled [] read e =
    let same : reading Nothing [] ≡ read = cc in
    subst (λ r. spelled_read r ≡ []) same refl
all_spelled (member ∷ members) read e = by (members_read members) (all_spelled members) e
  where
    by : (before : Option Reading) → ((r : Reading) → before ≡ Some r → spelled_read r ≡ members)
        → option_and_then (member_read member) before ≡ Some read
        → spelled_read read ≡ member ∷ members
    by None are e = cc
    by (Some r) are e = member_spelled member r read e ∙ ap (λ ms. member ∷ ms) (are r refl)

pub reads_only : ReadsOnly
reads_only members nest e = by (members_read members) (all_spelled members) e
  where
    whole : (tree : Nest) (closings : List Closing) → spelled tree (closed closings) ≡ members
        → whole_tree tree closings ≡ Some nest → members_of nest ≡ members
    whole tree [] is e =
        let same : tree ≡ nest = cc in
        subst (λ t. members_of t ≡ members) same
        (sym (append-nil (members_of tree)) ∙ (sym (spelled_is tree []) ∙ is))
    whole tree (closing ∷ closings) is e = cc

    by : (read : Option Reading) → ((r : Reading) → read ≡ Some r → spelled_read r ≡ members)
        → option_and_then (λ r. whole_tree r.tree r.closings) read ≡ Some nest
        → members_of nest ≡ members
    by None are e = cc
    by (Some r) are e = whole r.tree r.closings (are r refl) e
