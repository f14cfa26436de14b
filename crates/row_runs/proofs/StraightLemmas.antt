-- Straight rows: what a rewriting of them owes.
use Rattle.std.proofs.Common.{◌≡◌, refl, sym, ◌∙◌, ap, subst, ℕ, ◌+◌, List, [], ◌∷◌, ◌++◌}
use Rattle.std.proofs.Common.{length, append_assoc}
use Rattle.row_runs.specs.Run.{Result, Step, Goes, Stops, Effect, Does, Leaps, Passes}
use Rattle.row_runs.specs.Run.{printed, stepped, went, walked}
use Rattle.row_runs.specs.Straight.{Every, Flow, OnTo, Halts, flow_behind, flow_then, flow_of}
use Rattle.row_runs.specs.Straight.{flow_step}
use Rattle.row_runs.specs.Straight.{through, flowed, IsStep, Stepping, IsStraight, Tied, TiedWrong}
use Rattle.row_runs.specs.Straight.{TiedOn, TiedHalt, rewritten, IsRewriting}
use Rattle.row_runs.specs.Segments.{Keeps, WasWrong, Same, Segment, AreAlike}
use Rattle.row_runs.specs.Cut.{LastAlike, BothLeap, BothPass, BothStop, LastWrong}
use Rattle.row_runs.specs.Laws.{FlowOn}
use Rattle.row_runs.proofs.RunLemmas.{walked_append}

pub keeps_printed : (bytes : List ℕ) (old new : Result) → Keeps old new
    → Keeps (printed bytes old) (printed bytes new)
keeps_printed bytes old new (WasWrong e) = WasWrong e
keeps_printed bytes old new (Same e) = Same (ap (printed bytes) e)

module _ {S Row : Type 0} (act : Row → S → Effect S) where
  flowed_behind : (bytes : List ℕ) (flow : Flow S) (rest : S → Result)
      → flowed (flow_behind bytes flow) rest ≡ printed bytes (flowed flow rest)
  flowed_behind bytes (OnTo more state) rest =
      ap (λ b. record { bytes = b; stop = (rest state).stop })
      (append_assoc bytes more (rest state).bytes)
  flowed_behind bytes (Halts more stop) rest = refl

  pub walked_straight : FlowOn act
  walked_straight leap rest at [] s all = refl
  walked_straight leap rest at (row ∷ rows) s all =
      by (act row s) (all.0.straight s) (λ next. walked_straight leap rest (at + 1) rows next all.1)
    where
      step_by : (step : Step S)
          → ((next : S) → walked act leap rest (at + 1) rows next
          ≡ flowed (through act rows next) rest)
          → stepped step (walked act leap rest (at + 1) rows)
          ≡ flowed (flow_of step (through act rows)) rest
      step_by (Goes bytes next) more =
          ap (printed bytes) (more next) ∙ sym (flowed_behind bytes (through act rows next) rest)
      step_by (Stops stop) more = refl

      by : (e : Effect S) → IsStep e
          → ((next : S) → walked act leap rest (at + 1) rows next
          ≡ flowed (through act rows next) rest)
          → went leap at s e (walked act leap rest (at + 1) rows)
          ≡ flowed (flow_step e (through act rows)) rest
      by e (Stepping {step = step}) more = step_by step more

  more_more : (a b : List ℕ) (flow : Flow S)
      → flow_behind (a ++ b) flow ≡ flow_behind a (flow_behind b flow)
  more_more a b (OnTo more state) = ap (λ bytes. OnTo bytes state) (append_assoc a b more)
  more_more a b (Halts more stop) = ap (λ bytes. Halts bytes stop) (append_assoc a b more)

  then_more : (bytes : List ℕ) (flow : Flow S) (next : S → Flow S)
      → flow_then (flow_behind bytes flow) next ≡ flow_behind bytes (flow_then flow next)
  then_more bytes (OnTo more s) next = more_more bytes more (next s)
  then_more bytes (Halts more stop) next = refl

  no_bytes : (flow : Flow S) → flow_behind [] flow ≡ flow
  no_bytes (OnTo more s) = refl
  no_bytes (Halts more stop) = refl

  pub through_append : (xs ys : List Row) (s : S)
      → through act (xs ++ ys) s ≡ flow_then (through act xs s) (through act ys)
  through_append [] ys s = sym (no_bytes (through act ys s))
  through_append (x ∷ xs) ys s = by (act x s) (λ s. through_append xs ys s)
    where
      step_by : (step : Step S)
          → ((s : S) → through act (xs ++ ys) s ≡ flow_then (through act xs s) (through act ys))
          → flow_of step (through act (xs ++ ys))
          ≡ flow_then (flow_of step (through act xs)) (through act ys)
      step_by (Goes bytes next) more =
          ap (flow_behind bytes) (more next)
          ∙ sym (then_more bytes (through act xs next) (through act ys))
      step_by (Stops stop) more = refl

      by : (e : Effect S)
          → ((s : S) → through act (xs ++ ys) s ≡ flow_then (through act xs s) (through act ys))
          → flow_step e (through act (xs ++ ys))
          ≡ flow_then (flow_step e (through act xs)) (through act ys)
      by (Does step) more = step_by step more
      by (Leaps goal) more = refl
      by Passes more = refl

module _ {S T : Type 0} where
  pub tied_keeps : (IsLike : S → T → Type 0) (f : Flow S) (g : Flow T) (rest : S → Result)
      (rest' : T → Result)
      → Tied IsLike f g → ((s : S) (t : T) → IsLike s t → Keeps (rest s) (rest' t))
      → Keeps (flowed f rest) (flowed g rest')
  tied_keeps IsLike f g rest rest' TiedWrong rests = WasWrong refl
  tied_keeps IsLike f g rest rest' (TiedOn {bytes = bytes} {s = s} {t = t} like) rests =
      keeps_printed bytes (rest s) (rest' t) (rests s t like)
  tied_keeps IsLike f g rest rest' TiedHalt rests = Same refl

  tied_more : (IsLike : S → T → Type 0) (bytes : List ℕ) (f : Flow S) (g : Flow T) → Tied IsLike f g
      → Tied IsLike (flow_behind bytes f) (flow_behind bytes g)
  tied_more IsLike bytes f g TiedWrong = TiedWrong
  tied_more IsLike bytes f g (TiedOn like) = TiedOn like
  tied_more IsLike bytes f g TiedHalt = TiedHalt

  module _ {Old New : Type 0} (act : Old → S → Effect S) (act' : New → T → Effect T) where
    -- a segment of straight rows alone
    pub straight_alike : (IsLike : S → T → Type 0) (IsGoal : ℕ → ℕ → Type 0)
        (segment : Segment Old New) (at at' : ℕ)
        → Every (IsStraight act) segment.old → Every (IsStraight act') segment.new
        → ((s : S) (t : T) → IsLike s t
        → Tied IsLike (through act segment.old s) (through act' segment.new t))
        → AreAlike act act' IsLike IsGoal segment at at'
    straight_alike IsLike IsGoal segment at at' olds news tied = record {
      alike = λ leap leap' rest rest' s t leaps rests like.
          subst (λ r. Keeps r (walked act' leap' rest' at' segment.new t))
          (sym (walked_straight act leap rest at segment.old s olds))
          (subst (λ r. Keeps (flowed (through act segment.old s) rest) r)
          (sym (walked_straight act' leap' rest' at' segment.new t news))
          (tied_keeps IsLike (through act segment.old s) (through act' segment.new t) rest rest'
          (tied s t like) rests));
    }

    -- ---- and with a last row that leaps or tests or stops
    last_keeps : (IsLike : S → T → Type 0) (IsGoal : ℕ → ℕ → Type 0) (at at' : ℕ)
        (leap : ℕ → S → Result) (leap' : ℕ → T → Result) (rest : S → Result) (rest' : T → Result)
        (s : S) (t : T) (e : Effect S) (f : Effect T)
        → ((g h : ℕ) (s : S) (t : T) → IsGoal g h → IsLike s t → Keeps (leap g s) (leap' h t))
        → IsLike s t → LastAlike IsGoal at at' e f
        → Keeps (went leap at s e rest) (went leap' at' t f rest')
    last_keeps IsLike IsGoal at at' leap leap' rest rest' s t e f leaps like
        (BothLeap {g = g} {h = h} goal) =
        leaps g h s t goal like
    last_keeps IsLike IsGoal at at' leap leap' rest rest' s t e f leaps like (BothPass goal) =
        leaps (at + 1) (at' + 1) s t goal like
    last_keeps IsLike IsGoal at at' leap leap' rest rest' s t e f leaps like BothStop = Same refl
    last_keeps IsLike IsGoal at at' leap leap' rest rest' s t e f leaps like LastWrong =
        WasWrong refl

    pub ended_alike : (IsLike : S → T → Type 0) (IsGoal : ℕ → ℕ → Type 0)
        (front : List Old) (front' : List New) (row : Old) (row' : New) (at at' : ℕ)
        → Every (IsStraight act) front → Every (IsStraight act') front'
        → ((s : S) (t : T) → IsLike s t → Tied IsLike (through act front s) (through act' front' t))
        → ((s : S) (t : T) → IsLike s t
        → LastAlike IsGoal (at + length front) (at' + length front') (act row s) (act' row' t))
        → AreAlike act act' IsLike IsGoal
        (record { old = front ++ row ∷ []; new = front' ++ row' ∷ [] }) at at'
    ended_alike IsLike IsGoal front front' row row' at at' olds news tied last = record {
      alike = λ leap leap' rest rest' s t leaps rests like.
          let last_old : S → Result = λ s. walked act leap rest (at + length front) (row ∷ []) s in
          let last_new : T → Result =
          λ t. walked act' leap' rest' (at' + length front') (row' ∷ []) t in
          subst (λ r. Keeps r (walked act' leap' rest' at' (front' ++ row' ∷ []) t))
          (sym (walked_append act leap rest at front (row ∷ []) s
          ∙ walked_straight act leap last_old at front s olds))
          (subst (λ r. Keeps (flowed (through act front s) last_old) r)
          (sym (walked_append act' leap' rest' at' front' (row' ∷ []) t
          ∙ walked_straight act' leap' last_new at' front' t news))
          (tied_keeps IsLike (through act front s) (through act' front' t) last_old last_new
          (tied s t like)
          (λ s t like.
          last_keeps IsLike IsGoal (at + length front) (at' + length front') leap leap'
          (λ s. walked act leap rest (at + length front + 1) [] s)
          (λ t. walked act' leap' rest' (at' + length front' + 1) [] t)
          s t (act row s) (act' row' t) leaps like (last s t like))));
    }

    -- ---- rows rewritten by what is known
    module _ {F : Type 0} (rewrite : F → Old → List New) (learn : F → Old → F)
        (IsLike : S → T → Type 0)
        (Knows : F → S → T → Type 0) where
      step_ties : (facts : F) (f : Flow S) (g : Flow T) (next : S → Flow S) (next' : T → Flow T)
          → Tied (λ s t. IsLike s t × Knows facts s t) f g
          → ((s : S) (t : T) → Knows facts s t → IsLike s t → Tied IsLike (next s) (next' t))
          → Tied IsLike (flow_then f next) (flow_then g next')
      step_ties facts f g next next' TiedWrong more = TiedWrong
      step_ties facts f g next next' (TiedOn {bytes = bytes} {s = s} {t = t} like) more =
          tied_more IsLike bytes (next s) (next' t) (more s t like.1 like.0)
      step_ties facts f g next next' TiedHalt more = TiedHalt

      pub rewritten_ties : (facts : F) (rows : List Old) (s : S) (t : T)
          → Every (IsRewriting act act' rewrite learn IsLike Knows) rows → Knows facts s t
          → IsLike s t
          → Tied IsLike (through act rows s) (through act' (rewritten rewrite learn facts rows) t)
      rewritten_ties facts [] s t all knows like = TiedOn like
      rewritten_ties facts (row ∷ rows) s t all knows like =
          let others = rewritten rewrite learn (learn facts row) rows in
          subst (λ flow. Tied IsLike (through act (row ∷ rows) s) flow)
          (sym (through_append act' (rewrite facts row) others t))
          (subst (λ flow. Tied IsLike flow
          (flow_then (through act' (rewrite facts row) t) (through act' others)))
          (sym (through_append act (row ∷ []) rows s))
          (step_ties (learn facts row) (through act (row ∷ []) s)
          (through act' (rewrite facts row) t)
          (through act rows) (through act' others) (all.0.ties facts s t knows like)
          (λ s t knows like. rewritten_ties (learn facts row) rows s t all.1 knows like)))
