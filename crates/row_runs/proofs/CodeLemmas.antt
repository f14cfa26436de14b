-- Laid-out code does what the structured code does.
use Rattle.std.proofs.Common.{◌≡◌, ℕ, zero, suc, ◌+◌, true, false, List, [], ◌∷◌, ◌++◌, length, map}
use Rattle.std.proofs.Common.{drop, refl, sym, ap, ◌∙◌, subst, arith, append_assoc, append-nil}
use Rattle.zpl_nums.specs.declared.ends.End.TheVariants.{Done}
use Rattle.row_runs.specs.Run.{Ends, Result, Step, Goes, Stops, stopped, printed, stepped, went}
use Rattle.row_runs.specs.Run.{walked, runs}
use Rattle.row_runs.specs.Code.{CodeRow, Straight, Jump, Unless, Decision, Says, Fails, code_act}
use Rattle.row_runs.specs.Code.{decided}
use Rattle.row_runs.specs.Structured.{Piece, Rows, Then, When, Choose, While, Repeat, Close, GoesOn}
use Rattle.row_runs.specs.Structured.{Over}
use Rattle.row_runs.specs.Structured.{Wants, Course, goes_on, wants_more, and_then, jumping}
use Rattle.row_runs.specs.Structured.{then_at}
use Rattle.row_runs.specs.Structured.{then_do, by_step, choose, rows_do, tested, while_turns}
use Rattle.row_runs.specs.Structured.{repeat_turns}
use Rattle.row_runs.specs.Structured.{doing, size, flattened, left_before, shown, shown_by}
use Rattle.row_runs.specs.Structured.{StandsAt}
use Rattle.row_runs.specs.Laws.{Follow, FollowWhole}
use Rattle.row_runs.proofs.PlaceLemmas.{has_front, past, has_back, has_next, straight_length}
use Rattle.row_runs.proofs.PlaceLemmas.{flat_length}

-- ---- jumps

jumps_assoc : (i j a : ℕ) → and_then (and_then i j) a ≡ and_then i (and_then j a)
jumps_assoc zero j a = refl
jumps_assoc (suc i) j a = ap suc (jumps_assoc i j a)

left_more : (close : Close) (i j a : ℕ)
    → left_before close (and_then i j) a ≡ and_then i (left_before close j a)
left_more GoesOn i j a = jumps_assoc i j a
left_more (Over stop) i j a = jumps_assoc i j a
left_more Wants i j a = refl

left_one : (close : Close) (j a : ℕ) → left_before close (suc j) a ≡ suc (left_before close j a)
left_one GoesOn j a = refl
left_one (Over stop) j a = refl
left_one Wants j a = refl

-- ---- what is shown
printed_twice : (a b : List ℕ) (rest : Result) → printed a (printed b rest) ≡ printed (a ++ b) rest
printed_twice a b rest =
    ap (λ bytes. record { bytes = bytes; stop = rest.stop }) (sym (append_assoc a b rest.bytes))

shown_behind : {S : Type 0} (close : Close) (a b : List ℕ) (state : S) (next : S → Result)
    → printed a (shown close b state next) ≡ shown close (a ++ b) state next
shown_behind GoesOn a b state next = printed_twice a b (next state)
shown_behind (Over stop) a b state next = refl
shown_behind Wants a b state next = refl

module _ {R T S : Type 0} (step : R → S → Step S) (decide : T → S → Decision)
    (code : List (CodeRow R T)) where
  abbrev run_from : ℕ → ℕ → S → Result
  run_from left k state = runs (code_act step decide) code left k state

  abbrev the_end : S → Result
  the_end _ = stopped (Ends Done)

  -- rows of the code, where so many jumps are left behind the next one
  abbrev walk_on : ℕ → ℕ → List (CodeRow R T) → S → Result
  walk_on left k rows state = walked (code_act step decide) (run_from left) the_end k rows state

  -- the run from row k on, with one more jump than these
  abbrev go : ℕ → ℕ → S → Result
  go left k state = walk_on left k (drop k code) state

  -- from row k on the run does this, and goes on from row `to`
  record Follows (k to : ℕ) (state : S) (course : Course S) : Type 0 where
    by : (left : ℕ) → go (left_before course.close course.jumps left) k state
        ≡ shown_by course (λ after. go left to after)

  -- the same where a jump leads to row k, which counts
  record Leads (k to : ℕ) (state : S) (course : Course S) : Type 0 where
    by : (left : ℕ) → run_from (left_before course.close course.jumps left) k state
        ≡ shown_by course (λ after. go left to after)

  leads_jumping : (k to : ℕ) (state : S) (course : Course S) → Follows k to state course
      → Leads k to state (jumping course)
  leads_jumping k to state course h = record {
    by = λ left. ap (λ b. run_from b k state) (left_one course.close course.jumps left) ∙ h.by left;
  }

  leads_wants : (k to : ℕ) (state : S) → Leads k to state (wants_more state)
  leads_wants k to state = record { by = λ left. refl }

  follows_none : (k : ℕ) (state : S) → Follows k k state (goes_on state)
  follows_none k state = record { by = λ left. refl }

  -- a jump to the end
  leads_out : (end : ℕ) (state : S) → Leads end end state (jumping (goes_on state))
  leads_out end state = leads_jumping end end state (goes_on state) (follows_none end state)

  ends_at : (k to end : ℕ) (state : S) (course : Course S) → to ≡ end → Follows k to state course
      → Follows k end state course
  ends_at k to end state course e h = subst (λ n. Follows k n state course) e h

  -- ---- one after the other
  then_follows : (k to end : ℕ) (state : S) (close : Close) (after : S) (bytes : List ℕ) (jumps : ℕ)
      (next : S → Course S)
      → Follows k to state (record { close = close; state = after; bytes = bytes; jumps = jumps })
      → ((s : S) → Follows to end s (next s))
      → Follows k end state
      (then_at close (record { close = close; state = after; bytes = bytes; jumps = jumps }) next)
  then_follows k to end state GoesOn after bytes jumps next h f =
      let course = next after in
      record {
        by = λ left.
            ap (λ b. go b k state) (left_more course.close jumps course.jumps left)
            ∙ h.by (left_before course.close course.jumps left)
            ∙ ap (printed bytes) ((f after).by left)
            ∙ shown_behind course.close bytes course.bytes course.state (λ s. go left end s);
      }
  then_follows k to end state (Over stop) after bytes jumps next h f = record { by = h.by }
  then_follows k to end state Wants after bytes jumps next h f = record { by = h.by }

  -- ---- straight rows
  step_follows : (k end : ℕ) (state : S) (rest : List (CodeRow R T)) (does : Step S)
      (next : S → Course S)
      → ((left : ℕ) (s : S)
      → walk_on (left_before (next s).close (next s).jumps left) (k + 1) rest s
      ≡ shown_by (next s) (λ t. go left end t))
      → (left : ℕ)
      → (let course = by_step state does next in
      stepped does (walk_on (left_before course.close course.jumps left) (k + 1) rest)
      ≡ shown_by course (λ t. go left end t))
  step_follows k end state rest (Goes bytes after) next h left =
      let course = next after in
      ap (printed bytes) (h left after)
      ∙ shown_behind course.close bytes course.bytes course.state (λ t. go left end t)
  step_follows k end state rest (Stops stop) next h left = refl

  rows_walk : (rows : List R) (k end : ℕ) (rest : List (CodeRow R T)) (state : S)
      → drop end code ≡ rest → k + length rows ≡ end → (left : ℕ)
      → (let course = rows_do step decide rows state in
      walk_on (left_before course.close course.jumps left) k (map Straight rows ++ rest) state
      ≡ shown_by course (λ t. go left end t))
  rows_walk [] k end rest state at e left =
      let same : k ≡ end = omega (arith, e) in
      ap (λ n. walk_on left n rest state) same ∙ ap (λ r. walk_on left end r state) (sym at)
  rows_walk (row ∷ rows) k end rest state at e left =
      step_follows k end state (map Straight rows ++ rest) (step row state)
      (rows_do step decide rows)
      (λ b s. rows_walk rows (k + 1) end rest s at (omega (arith, e)) b) left

  rows_follow : (rows : List R) (k end : ℕ) (state : S) → StandsAt code k (map Straight rows)
      → k + length rows ≡ end → Follows k end state (rows_do step decide rows state)
  rows_follow rows k end state h e =
      let at : drop end code ≡ h.rest =
      past code k end (map Straight rows) h.rest
      (ap (λ n. k + n) (straight_length T rows) ∙ e) h.here in
      let course = rows_do step decide rows state in
      record {
        by = λ left.
            ap (λ r. walk_on (left_before course.close course.jumps left) k r state) h.here
            ∙ rows_walk rows k end h.rest state at e left;
      }

  -- ---- jumps
  jump_follows : (k goal end : ℕ) (rest : List (CodeRow R T)) (state : S) (course : Course S)
      → StandsAt code k (Jump goal ∷ rest) → Leads goal end state course
      → Follows k end state course
  jump_follows k goal end rest state course h l = record {
    by = λ left.
        ap (λ r. walk_on (left_before course.close course.jumps left) k r state) h.here ∙ l.by left;
  }

  -- a test, from which two ways lead to the end
  unless_follows : (k goal end : ℕ) (test : T) (rest : List (CodeRow R T)) (state : S)
      (one other : S → Course S)
      → StandsAt code k (Unless test goal ∷ rest)
      → Leads (k + 1) end state (one state) → Leads goal end state (other state)
      → Follows k end state (choose (decide test state) one other state)
  unless_follows k goal end test rest state one other h l m = record {
    by = λ left.
        let course = choose (decide test state) one other state in
        ap (λ r. walk_on (left_before course.close course.jumps left) k r state) h.here
        ∙ by_test (decide test state) left h.rest;
  }
    where
      by_test : (decision : Decision) (left : ℕ) (last : List (CodeRow R T))
          → (let course = choose decision one other state in
          let leap : ℕ → S → Result = run_from (left_before course.close course.jumps left) in
          went leap k state (decided decision goal)
          (λ s. walk_on (left_before course.close course.jumps left) (k + 1) (rest ++ last) s)
          ≡ shown_by course (λ t. go left end t))
      by_test (Says true) left last = l.by left
      by_test (Says false) left last = m.by left
      by_test (Fails stop) left last = refl

  -- a head and then a test
  tested_follows : (head : S → Course S) (k middle goal end : ℕ) (test : T) (state : S)
      (rest : List (CodeRow R T)) (one other : S → Course S)
      → ((s : S) → Follows k middle s (head s))
      → StandsAt code middle (Unless test goal ∷ rest)
      → ((s : S) → Leads (middle + 1) end s (one s))
      → ((s : S) → Leads goal end s (other s))
      → Follows k end state (tested step decide head test one other state)
  tested_follows head k middle goal end test state rest one other f h l m =
      let course = head state in
      then_follows k middle end state course.close course.state course.bytes course.jumps
      (λ after. choose (decide test after) one other after) (f state)
      (λ s. unless_follows middle goal end test rest s one other h (l s) (m s))

  while_follows : (n k middle end : ℕ) (head : S → Course S) (test : T) (body : S → Course S)
      (inner back : ℕ) (rest : List (CodeRow R T)) → middle + 1 ≡ inner → back + 1 ≡ end
      → ((s : S) → Follows k middle s (head s))
      → StandsAt code middle (Unless test end ∷ rest)
      → StandsAt code back (Jump k ∷ [])
      → ((s : S) → Follows inner back s (body s))
      → (state : S) → Follows k end state (while_turns step decide n head test body state)
  while_follows zero k middle end head test body inner back rest i e g h j f state =
      tested_follows head k middle end end test state rest wants_more (λ s. jumping (goes_on s)) g h
      (λ s. leads_wants (middle + 1) end s) (leads_out end)
  while_follows (suc n) k middle end head test body inner back rest i e g h j f state =
      tested_follows head k middle end end test state rest
      (λ s. jumping (then_do (body s) (again n)))
      (λ s. jumping (goes_on s)) g h
      (λ s. subst (λ m. Leads m end s (jumping (then_do (body s) (again n)))) (sym i)
      (leads_jumping inner end s (then_do (body s) (again n))
      (turn (λ t. while_follows n k middle end head test body inner back rest i e g h j f t) s)))
      (leads_out end)
    where
      again : ℕ → S → Course S
      again n after = jumping (while_turns step decide n head test body after)

      turn : ((t : S) → Follows k end t (while_turns step decide n head test body t)) → (s : S)
          → Follows inner end s (then_do (body s) (again n))
      turn more s =
          let course = body s in
          then_follows inner back end s course.close course.state course.bytes course.jumps
          (again n) (f s)
          (λ t. jump_follows back k end [] t (again n t) j
          (leads_jumping k end t (while_turns step decide n head test body t) (more t)))

  repeat_leads : (n start mid middle end : ℕ) (body head : S → Course S) (test : T)
      → middle + 1 ≡ end
      → ((s : S) → Follows mid middle s (head s))
      → StandsAt code middle (Unless test start ∷ [])
      → ((s : S) → Follows start mid s (body s))
      → (state : S) → Leads start end state (repeat_turns step decide n body head test state)
  repeat_leads zero start mid middle end body head test e g h f state = leads_wants start end state
  repeat_leads (suc n) start mid middle end body head test e g h f state =
      let course = body state in
      let last : S → Course S = λ after. jumping (goes_on after) in
      let next = tested step decide head test last (repeat_turns step decide n body head test) in
      leads_jumping start end state (then_do course next)
      (then_follows start mid end state course.close course.state course.bytes course.jumps next
      (f state)
      (λ s. tested_follows head mid middle start end test s [] last
      (repeat_turns step decide n body head test) g h
      (λ t. subst (λ m. Leads m end t (last t)) (sym e) (leads_out end t))
      (λ t. repeat_leads n start mid middle end body head test e g h f t)))

  -- ---- the theorem
  follows : (n : ℕ) (piece : Piece R T) (k : ℕ) → StandsAt code k (flattened k piece)
      → (state : S) → Follows k (k + size piece) state (doing step decide n piece state)
  follows n (Rows rows) k h state = rows_follow rows k (k + length rows) state h refl
  follows n (Then first rest) k h state =
      let course = doing step decide n first state in
      let xs = flattened k first in
      let ys = flattened (k + size first) rest in
      let middle = k + size first in
      let e : middle + size rest ≡ k + (size first + size rest) = omega arith in
      ends_at k (middle + size rest) (k + size (Then first rest)) state
      (then_do course (doing step decide n rest)) e
      (then_follows k middle (middle + size rest) state course.close course.state course.bytes
      course.jumps (doing step decide n rest) (follows n first k (has_front code k xs ys h) state)
      (follows n rest middle
      (has_back code k middle xs ys (ap (λ m. k + m) (flat_length k first)) h)))
  follows n (When test body) k h state =
      let xs = flattened (k + 1) body in
      let goal = k + size body + 1 in
      let end = k + size (When test body) in
      let e : k + 1 + size body ≡ end = omega arith in
      let g : goal ≡ end = omega arith in
      let d : S → Course S = doing step decide n body in
      let h1 = has_next code k (k + 1) (Unless test goal) xs refl h in
      unless_follows k goal end test xs state (λ s. jumping (d s)) (λ s. jumping (goes_on s)) h
      (leads_jumping (k + 1) end state (d state)
      (ends_at (k + 1) (k + 1 + size body) end state (d state) e (follows n body (k + 1) h1 state)))
      (subst (λ m. Leads m end state (jumping (goes_on state))) (sym g) (leads_out end state))
  follows n (Choose test one other) k h state =
      let xs = flattened (k + 1) one in
      let ys = flattened (k + size one + 2) other in
      let end = k + size (Choose test one other) in
      let goal = k + size one + 2 in
      let over = k + size one + size other + 2 in
      let middle = k + 1 + size one in
      let h1 = has_next code k (k + 1) (Unless test goal) (xs ++ Jump over ∷ ys) refl h in
      let h2 = has_back code (k + 1) middle xs (Jump over ∷ ys)
      (ap (λ m. k + 1 + m) (flat_length (k + 1) one)) h1 in
      let past_jump : middle + 1 ≡ goal = omega arith in
      let h3 = has_next code middle goal (Jump over) ys past_jump h2 in
      let e : goal + size other ≡ end = omega arith in
      let g : over ≡ end = omega arith in
      let last : S → Course S = λ after. jumping (goes_on after) in
      let d : S → Course S = doing step decide n one in
      let o : S → Course S = doing step decide n other in
      unless_follows k goal end test (xs ++ Jump over ∷ ys) state
      (λ s. jumping (then_do (d s) last)) (λ s. jumping (o s)) h
      (leads_jumping (k + 1) end state (then_do (d state) last)
      (let v = d state in
      then_follows (k + 1) middle end state v.close v.state v.bytes v.jumps last
      (follows n one (k + 1) (has_front code (k + 1) xs (Jump over ∷ ys) h1) state)
      (λ t. jump_follows middle over end ys t (last t) h2
      (subst (λ m. Leads m end t (last t)) (sym g) (leads_out end t)))))
      (leads_jumping goal end state (o state)
      (ends_at goal (goal + size other) end state (o state) e (follows n other goal h3 state)))
  follows n (While head test body) k h state =
      let hs = flattened k head in
      let middle = k + size head in
      let inner = middle + 1 in
      let xs = flattened (k + size head + 1) body in
      let end = k + size (While head test body) in
      let goal = k + size head + size body + 2 in
      let g : goal ≡ end = omega arith in
      let back = inner + size body in
      let behind = xs ++ Jump k ∷ [] in
      let h0 = subst (λ m. StandsAt code k (hs ++ Unless test m ∷ behind)) g h in
      let h1 = has_back code k middle hs (Unless test end ∷ behind)
      (ap (λ m. k + m) (flat_length k head)) h0 in
      let h3 = has_next code middle inner (Unless test end) behind refl h1 in
      let h4 = has_back code inner back xs (Jump k ∷ [])
      (ap (λ m. inner + m) (flat_length inner body)) h3 in
      let e : back + 1 ≡ end = omega arith in
      while_follows n k middle end (doing step decide n head) test (doing step decide n body)
      inner back behind refl e
      (follows n head k (has_front code k hs (Unless test end ∷ behind) h0)) h1 h4
      (follows n body inner (has_front code inner xs (Jump k ∷ []) h3)) state
  follows n (Repeat body head test) k h state =
      let xs = flattened (k + 1) body in
      let end = k + size (Repeat body head test) in
      let mid = k + size body + 1 in
      let m0 : k + 1 + size body ≡ mid = omega arith in
      let middle = mid + size head in
      let hs = flattened mid head in
      let tail = hs ++ Unless test (k + 1) ∷ [] in
      let h1 = has_next code k (k + 1) (Jump (k + 1)) (xs ++ tail) refl h in
      let h2 = has_back code (k + 1) mid xs tail
      (ap (λ m. k + 1 + m) (flat_length (k + 1) body) ∙ m0) h1 in
      let h3 = has_back code mid middle hs (Unless test (k + 1) ∷ [])
      (ap (λ m. mid + m) (flat_length mid head)) h2 in
      let e : middle + 1 ≡ end = omega arith in
      jump_follows k (k + 1) end (xs ++ tail) state
      (repeat_turns step decide n (doing step decide n body) (doing step decide n head) test state)
      h
      (repeat_leads n (k + 1) mid middle end (doing step decide n body) (doing step decide n head)
      test e (follows n head mid (has_front code mid hs (Unless test (k + 1) ∷ []) h2)) h3
      (λ s. ends_at (k + 1) (k + 1 + size body) mid s (doing step decide n body s) m0
      (follows n body (k + 1) (has_front code (k + 1) xs tail h1) s)) state)

module _ {R T S : Type 0} (step : R → S → Step S) (decide : T → S → Decision) where
  pub follow : Follow step decide
  follow code n piece at stands state left =
      (follows step decide code n piece at stands state).by left

  -- a whole program
  pub follow_whole : FollowWhole step decide
  follow_whole n piece state left =
      let code = flattened 0 piece in
      let course = doing step decide n piece state in
      let h = follows step decide code n piece 0
      (record { rest = []; here = sym (append-nil code) }) state in
      let none : drop (0 + size piece) code ≡ [] =
      past code 0 (0 + size piece) code [] (ap (λ m. 0 + m) (flat_length 0 piece))
      (sym (append-nil code)) in
      h.by left ∙ at_end code (0 + size piece) none course.close course.bytes course.state
    where
      at_end : (code : List (CodeRow R T)) (end : ℕ) → drop end code ≡ []
          → (close : Close) (bytes : List ℕ)
          (after : S)
          → shown close bytes after (λ t. runs (code_act step decide) code (suc left) end t)
          ≡ shown close bytes after (λ t. stopped (Ends Done))
      at_end code end e GoesOn bytes after =
          ap (λ (rows : List (CodeRow R T)).
          printed bytes (walked (code_act step decide) (runs (code_act step decide) code left)
          (λ _. stopped (Ends Done)) end rows after)) e
      at_end code end e (Over stop) bytes after = refl
      at_end code end e Wants bytes after = refl
