-- The tree of a group that is seen inline is the tree of its members, renumbered.
use Rattle.std.proofs.Common.{◌≡◌, sym, ◌∙◌, ℕ, ◌+◌, List, [], ◌∷◌, ◌++◌, map}
use Rattle.std.proofs.Common.{drop, length, Option, Some, None, append_assoc, append-nil}
use Rattle.std.specs.Prelude.{option_and_then}
use Rattle.std.specs.Option.{option_map}
use Rattle.grid_meaning.specs.of_node_form.declared.members.Member as number
use Rattle.grid_meaning.specs.of_node_form.declared.members.Member.TheVariants as member
use Rattle.grid_meaning.specs.of_node_form.declared.tables.Tables.{Tables}
use Rattle.grid_meaning.specs.of_node_form.Nest.{Nest}
use Rattle.nest_meaning.specs.Tree.{Closing, ClosesIf, ClosesElse, ClosesWhile, ClosesRepeat}
use Rattle.nest_meaning.specs.Tree.{Reading, else_read, if_read, member_read, members_read}
use Rattle.nest_meaning.specs.Tree.{repeat_read, while_read, whole_tree}
use Rattle.flat_form.specs.Laws.{AreRenumbered, AreTrees, BothChoose, BothElse, BothJoin, BothKeep}
use Rattle.flat_form.specs.Laws.{BothLoop, BothMasks, BothNothing, BothPut, BothRepeat, BothTrees}
use Rattle.flat_form.specs.Laws.{GroupsInline, HaveMasks, HaveWords, NoMasks, NoTree}
use Rattle.flat_form.specs.Names.{group_words}
use Rattle.flat_form.specs.Row.{Words, group_coded, mask_words, member_coded, member_inlined}
use Rattle.flat_form.specs.Row.{member_words, numbered, words_at}
use Rattle.flat_form.proofs.ReadLemmas.{drop_part, drop_second, index_drop}

module _ (tables : Tables) (others : List Words) where
  abbrev Trees : Nest → Nest → Type 0
  Trees = AreRenumbered tables.exprs others

  data AreClosings : List Closing → List Closing → Type 0 where
    NoClosings : AreClosings [] []
    BothIf : {after bfter : Nest} {cs ds : List Closing} → Trees after bfter → AreClosings cs ds
        → AreClosings (ClosesIf after ∷ cs) (ClosesIf bfter ∷ ds)
    BothOr : {other pther after bfter : Nest} {cs ds : List Closing} → Trees other pther
        → Trees after bfter → AreClosings cs ds
        → AreClosings (ClosesElse other after ∷ cs) (ClosesElse pther bfter ∷ ds)
    BothWhile : {after bfter : Nest} {cs ds : List Closing} → Trees after bfter → AreClosings cs ds
        → AreClosings (ClosesWhile after ∷ cs) (ClosesWhile bfter ∷ ds)
    BothUntil : {until vntil : ℕ} {after bfter : Nest} {cs ds : List Closing}
        → HaveWords tables.exprs others until vntil → Trees after bfter → AreClosings cs ds
        → AreClosings (ClosesRepeat until after ∷ cs) (ClosesRepeat vntil bfter ∷ ds)

  data AreReadings : Option Reading → Option Reading → Type 0 where
    NoReading : AreReadings None None
    BothRead : {one two : Reading} → Trees one.tree two.tree → AreClosings one.closings two.closings
        → AreReadings (Some one) (Some two)

  if_both : (expr fxpr line : ℕ) (mask nask : Option ℕ) {one two : Nest} {cs ds : List Closing}
      → HaveWords tables.exprs others expr fxpr → HaveMasks tables.exprs others mask nask
      → Trees one two → AreClosings cs ds → AreReadings (if_read expr mask line one cs)
      (if_read fxpr nask line two ds)
  if_both expr fxpr line mask nask e m t NoClosings = NoReading
  if_both expr fxpr line mask nask e m t (BothIf after cs) = BothRead (BothChoose e m t after) cs
  if_both expr fxpr line mask nask e m t (BothOr other after cs) =
      BothRead (BothElse e m t other after) cs
  if_both expr fxpr line mask nask e m t (BothWhile after cs) = NoReading
  if_both expr fxpr line mask nask e m t (BothUntil u after cs) = NoReading

  else_both : {one two : Nest} {cs ds : List Closing} → Trees one two → AreClosings cs ds
      → AreReadings (else_read one cs) (else_read two ds)
  else_both t NoClosings = NoReading
  else_both t (BothIf after cs) = BothRead BothNothing (BothOr t after cs)
  else_both t (BothOr other after cs) = NoReading
  else_both t (BothWhile after cs) = NoReading
  else_both t (BothUntil u after cs) = NoReading

  while_both : (expr fxpr line : ℕ) (mask nask : Option ℕ) {one two : Nest} {cs ds : List Closing}
      → HaveWords tables.exprs others expr fxpr → HaveMasks tables.exprs others mask nask
      → Trees one two → AreClosings cs ds → AreReadings (while_read expr mask line one cs)
      (while_read fxpr nask line two ds)
  while_both expr fxpr line mask nask e m t NoClosings = NoReading
  while_both expr fxpr line mask nask e m t (BothIf after cs) = NoReading
  while_both expr fxpr line mask nask e m t (BothOr other after cs) = NoReading
  while_both expr fxpr line mask nask e m t (BothWhile after cs) =
      BothRead (BothLoop e m t after) cs
  while_both expr fxpr line mask nask e m t (BothUntil u after cs) = NoReading

  repeat_both : (line : ℕ) (mask nask : Option ℕ) {one two : Nest} {cs ds : List Closing}
      → HaveMasks tables.exprs others mask nask
      → Trees one two → AreClosings cs ds → AreReadings (repeat_read mask line one cs)
      (repeat_read nask line two ds)
  repeat_both line mask nask m t NoClosings = NoReading
  repeat_both line mask nask m t (BothIf after cs) = NoReading
  repeat_both line mask nask m t (BothOr other after cs) = NoReading
  repeat_both line mask nask m t (BothWhile after cs) = NoReading
  repeat_both line mask nask m t (BothUntil u after cs) = BothRead (BothRepeat u m t after) cs

  words_there : (n expr : ℕ) (rest : List Words) → drop n others ≡ words_at tables expr ∷ rest
      → HaveWords tables.exprs others expr n
  words_there n expr rest e = sym (index_drop others n (words_at tables expr) [] rest e)

  masks_there : (n : ℕ) (mask : Option ℕ) (rest : List Words) → drop n others
      ≡ mask_words (option_map (words_at tables) mask) ++ rest
      → HaveMasks tables.exprs others mask (numbered n (option_map (words_at tables) mask))
  masks_there n None rest e = NoMasks
  masks_there n (Some mask) rest e = BothMasks (words_there n mask rest e)

  member_both : (n : ℕ) (m : number.Member) (rest : List Words) → drop n others
      ≡ member_words (member_inlined tables m) ++ rest
      → (one two : Reading) → Trees one.tree two.tree → AreClosings one.closings two.closings
      → AreReadings (member_read m one) (member_read (member_coded n (member_inlined tables m)) two)
  member_both n (member.Put array expr mask line) rest e one two t cs =
      BothRead (BothPut (words_there n expr _ e)
      (masks_there (n + 1) mask rest (drop_second others n (words_at tables expr) _ e)) t) cs
  member_both n (member.Cell cell expr mask line) rest e one two t cs =
      BothRead (BothKeep (words_there n expr _ e)
      (masks_there (n + 1) mask rest (drop_second others n (words_at tables expr) _ e)) t) cs
  member_both n (member.Acc scalar operator expr mask line) rest e one two t cs =
      BothRead (BothJoin (words_there n expr _ e)
      (masks_there (n + 1) mask rest (drop_second others n (words_at tables expr) _ e)) t) cs
  member_both n (member.OpenIf expr mask line) rest e one two t cs =
      if_both expr n line mask _ (words_there n expr _ e)
      (masks_there (n + 1) mask rest (drop_second others n (words_at tables expr) _ e)) t cs
  member_both n member.Otherwise rest e one two t cs = else_both t cs
  member_both n member.CloseIf rest e one two t cs = BothRead BothNothing (BothIf t cs)
  member_both n (member.OpenWhile expr mask line) rest e one two t cs =
      while_both expr n line mask _ (words_there n expr _ e)
      (masks_there (n + 1) mask rest (drop_second others n (words_at tables expr) _ e)) t cs
  member_both n member.CloseWhile rest e one two t cs = BothRead BothNothing (BothWhile t cs)
  member_both n (member.OpenRepeat mask line) rest e one two t cs =
      repeat_both line mask _ (masks_there n mask rest e) t cs
  member_both n (member.Until expr) rest e one two t cs =
      BothRead BothNothing (BothUntil (words_there n expr rest e) t cs)

  then_both : (n : ℕ) (m : number.Member) (rest : List Words) → drop n others
      ≡ member_words (member_inlined tables m) ++ rest
      → (o p : Option Reading) → AreReadings o p
      → AreReadings (option_and_then (member_read m) o)
      (option_and_then (member_read (member_coded n (member_inlined tables m))) p)
  then_both n m rest e o p NoReading = NoReading
  then_both n m rest e o p (BothRead {one = one} {two = two} t cs) =
      member_both n m rest e one two t cs

  members_both : (n : ℕ) (ms : List number.Member) (rest : List Words) → drop n others
      ≡ group_words (map (member_inlined tables) ms) ++ rest
      → AreReadings (members_read ms) (members_read
      (group_coded n (map (member_inlined tables) ms)))
  members_both n [] rest e = BothRead BothNothing NoClosings
  members_both n (m ∷ ms) rest e =
      let words = member_words (member_inlined tables m) in
      let here = e ∙ append_assoc words (group_words (map (member_inlined tables) ms)) rest in
      then_both n m (group_words (map (member_inlined tables) ms) ++ rest) here (members_read ms)
      (members_read (group_coded (n + length words) (map (member_inlined tables) ms)))
      (members_both (n + length words) ms rest
      (drop_part others n words (group_words (map (member_inlined tables) ms) ++ rest) here))

  whole_both : {one two : Nest} {cs ds : List Closing} → Trees one two → AreClosings cs ds
      → AreTrees tables.exprs others (whole_tree one cs) (whole_tree two ds)
  whole_both t NoClosings = BothTrees t
  whole_both t (BothIf after cs) = NoTree
  whole_both t (BothOr other after cs) = NoTree
  whole_both t (BothWhile after cs) = NoTree
  whole_both t (BothUntil u after cs) = NoTree

  trees_both : (o p : Option Reading) → AreReadings o p
      → AreTrees tables.exprs others (option_and_then
      (λ read. whole_tree read.tree read.closings) o)
      (option_and_then (λ read. whole_tree read.tree read.closings) p)
  trees_both o p NoReading = NoTree
  trees_both o p (BothRead t cs) = whole_both t cs

pub groups_inline : GroupsInline
groups_inline tables all =
    let group = map (member_inlined tables) all in
    trees_both tables (group_words group) (members_read all) (members_read (group_coded 0 group))
    (members_both tables (group_words group) 0 all [] (sym (append-nil (group_words group))))
