-- `scan`: each processor folds its part of each line, tells the others, and joins what stands
-- before its own values.
use Rattle.std.specs.Prelude.{ℕ, zero, suc, ◌+◌, ◌-◌, ◌==◌, Bool, true, false, ◌&&◌, ◌||◌, ℤ, pos, List, [], ◌∷◌, ◌++◌, filter, fold, length, map, option_and_then, slice_index_or, Option, Some, None, if◌then◌else◌}
use Rattle.std.specs.Option.{option_map}
use Rattle.node_form.specs.of_zpl_nums.Integer.{is_true}
use Rattle.node_form.specs.of_zpl_nums.declared.folds.Fold.{Fold}
use Rattle.node_form.specs.of_zpl_nums.Fold.{folded, joined, unit_of}
use Rattle.grid_layout.specs.of_zpl_region.declared.regions.Region.{Region}
use Rattle.grid_layout.specs.of_zpl_region.Ends.{first_of}
use Rattle.grid_layout.specs.of_zpl_region.Region.{dim_at}
use Rattle.node_form.specs.of_zpl_arrays.Row.{kept_values, running}
use Rattle.node_form.specs.of_zpl_arrays.Scan.{is_below, is_earlier_line, is_same_tuple}
use Rattle.grid_links.specs.Machine.{Blocked}
use Rattle.node_form.specs.declared.tables.Tables.{Tables}
use Rattle.grid_meaning.specs.Action.{Action, Unheld, moves, goes_on}
use Rattle.grid_meaning.specs.Collective.{Collective, Sends, TakesFrom, Last, InLast, keeping, others_where, row_tag}
use Rattle.grid_meaning.specs.Delivery.{each_word}
use Rattle.grid_meaning.specs.Local.{Local}
use Rattle.grid_meaning.specs.Owner.{owner_for, region_in, tuples_of}
use Rattle.grid_meaning.specs.Place.{own_part, value_at, with_values}

-- the number of the dimension along which lines run, counted from 0: the last one where the scan is
-- over all
abbrev pub line_dim : Region → ℕ → ℕ
line_dim region zero = region.rank - 1
line_dim region (suc along) = along

-- the tuple with another coordinate in that dimension
abbrev pub with_coordinate : ℕ → ℤ → List ℤ → List ℤ
with_coordinate k x [] = []
with_coordinate zero x (y ∷ t) = x ∷ t
with_coordinate (suc k) x (y ∷ t) = y ∷ with_coordinate k x t

-- ---- lines
-- the first coordinate of a processor's part in that dimension
abbrev pub line_start : Tables → ℕ → Region → ℕ → ℤ
line_start code p region k = first_of (dim_at (own_part code p region) (k + 1))

-- the first tuples of the lines of a processor's part, in row-major order
abbrev pub line_heads : Tables → ℕ → Region → ℕ → List (List ℤ)
line_heads code p region k =
    let start = line_start code p region k in
    filter (λ t. is_same_tuple t (with_coordinate k start t)) (tuples_of code p region)

-- the tuples of the part that are on a line
abbrev pub line_of : Tables → ℕ → Region → ℕ → List ℤ → List (List ℤ)
line_of code p region k head =
    filter (λ t. is_same_tuple head (with_coordinate k (slice_index_or head k (pos 0)) t)) (tuples_of code p region)

-- ---- values: none where the mask is 0, and nothing where a place isn't held. The array isn't read where it is masked out
abbrev pub unless_masked : Bool → Option ℤ → Option (Option ℤ)
unless_masked true value = option_map Some value
unless_masked false value = Some None

abbrev pub scan_value : Local → ℕ → Option ℕ → List ℤ → Option (Option ℤ)
scan_value local from None t = option_map Some (value_at local.stores from t)
scan_value local from (Some mask) t =
    option_and_then (λ kept. unless_masked (is_true kept) (value_at local.stores from t)) (value_at local.stores mask t)

abbrev pub scan_values : Local → ℕ → Option ℕ → List (List ℤ) → Option (List (Option ℤ))
scan_values local from mask [] = Some []
scan_values local from mask (t ∷ tuples) =
    option_and_then (λ value. option_map (λ rest. value ∷ rest) (scan_values local from mask tuples))
    (scan_value local from mask t)

module _ (code : Tables) (p : ℕ) (f : Fold) (along : ℕ) (from : ℕ) (mask : Option ℕ) where
  -- ---- totals: one for each line
  abbrev pub line_total : Local → Region → List ℤ → Option ℤ
  line_total local region head =
      option_map (λ values. folded f (kept_values values))
      (scan_values local from mask (line_of code p region (line_dim region along) head))

  abbrev pub line_totals : Local → Region → Option (List ℤ)
  line_totals local region = each_word (line_total local region) (line_heads code p region (line_dim region along))

  -- ---- what stands before a line of the own part: lines of any processor, each told by its head. In a scan over all these are
  -- earlier lines, and in each scan those parts of the same line that begin before. In a flood
  -- dimension, whose one position each block has, the lines of the processors with p's block count
  abbrev pub is_before_line : ℕ → ℕ → ℤ → List ℤ → List ℤ → Bool
  is_before_line zero k start head other =
      is_earlier_line k head other || (is_same_tuple head (with_coordinate k start other) && is_below k start other)
  is_before_line (suc n) k start head other =
      is_same_tuple head (with_coordinate k start other) && is_below k start other

  abbrev pub joined_before : (List ℤ → Bool) → List (List ℤ) → List ℤ → ℤ → ℤ
  joined_before stands (head ∷ heads) (total ∷ totals) so_far =
      joined_before stands heads totals (if stands head then joined f so_far total else so_far)
  joined_before stands heads totals so_far = so_far

  -- the totals of all processors: the own ones, and those that were kept
  abbrev pub all_totals : Local → List ℤ → List (ℕ × List ℤ)
  all_totals local own = (p, own) ∷ local.kept

  abbrev pub before_line : Local → Region → List ℤ → List ℤ → ℤ
  before_line local region own head =
      let k = line_dim region along in
      let start = line_start code p region k in
      fold (λ so_far entry.
      joined_before (λ other. owner_for code region p other == entry.0 && is_before_line along k start head other)
      (line_heads code entry.0 region k) entry.1 so_far)
      (unit_of f) (all_totals local own)

  -- ---- the last turn: each line of the own part, from what stands before it on. All values are those from before the turn
  abbrev pub with_line : ℕ → Local → Region → List ℤ → List ℤ → Local → Option Local
  with_line array old region own head local =
      let tuples = line_of code p region (line_dim region along) head in
      option_and_then (λ values.
      option_map (λ stores. record local { stores = stores })
      (with_values array tuples (running f (before_line old region own head) values) local.stores))
      (scan_values old from mask tuples)

  abbrev pub with_lines : ℕ → Local → Region → List ℤ → List (List ℤ) → Local → Option Local
  with_lines array old region own [] local = Some local
  with_lines array old region own (head ∷ heads) local =
      option_and_then (with_lines array old region own heads) (with_line array old region own head local)

  abbrev pub scan_done : Option Local → Action
  scan_done (Some local) = moves (goes_on local) []
  scan_done None = Blocked Unheld

  abbrev pub scan_last : ℕ → Local → Region → Action
  scan_last array local region =
      scan_done (option_and_then (λ own.
      with_lines array local region own (line_heads code p region (line_dim region along)) local)
      (line_totals local region))

  abbrev pub line_count : Local → ℕ → ℕ → ℕ
  line_count local slot q = let region = region_in local slot in length (line_heads code q region (line_dim region along))

  abbrev pub scanned_row : ℕ → ℕ → Collective
  scanned_row array slot = record {
    stages = λ local.
        map Sends (others_where code p (λ q. line_count local slot p))
        ++ (map TakesFrom (others_where code p (line_count local slot)) ++ Last ∷ []);
    tag = row_tag;
    alone = λ local. None;
    words_to = λ local to. line_totals local (region_in local slot);
    awaits = λ local q many. many == line_count local slot q;
    taken = λ local q words. Some (keeping local q words);
    use_of_words = InLast;
    last = λ local. scan_last array local (region_in local slot);
  }
