-- Statements of scalars and arrays that are proper, whose ranks agree, and in which no flood
-- dimension meets what it can't meet: by their text, at a place of the meaning, under current regions
-- of these shapes.
use Rattle.std.specs.Prelude.{◌≡◌, ◌⊎◌, ℕ, false, List, [], ◌∷◌, length, Option, Some}
use Rattle.zpl_nums.specs.declared.operators.Op.{Op}
use Rattle.zpl_region.specs.declared.regions.Region.{Region}
use Rattle.zpl_tree.specs.Syntax.{Name, Base, Expr, Mask as MaskText, Prefix, Stmt, Prefixed, Stmts, NoStmt, ThenStmt, Form, Assign, Invoke, Block, If, While, Repeat, For, Border, Write, Return, Arm, Tested, Arms, NoArm, ThenArm, Otherwise, NoElse, Else}
use Rattle.zpl_names.specs.Kinds.{Rank, Shape}
use Rattle.zpl_names.specs.Shapes.{Shapes, inner_shape, prefix_rank, shapes_under}
use Rattle.zpl_names.specs.Sites.{Reach, Assigned, AtMask, AtStmt, expr_sites, whole_rank, is_shattered}
use Rattle.zpl_names.specs.Faults.{flood_clashes}
use Rattle.zpl_meaning.specs.Computed.{Gives}
use Rattle.zpl_meaning.specs.Store.{ArrayAt, Environment, Store, thing_of}
use Rattle.zpl_meaning.specs.Context.{Currents, Setup, Place, reach_of}
use Rattle.zpl_meaning.specs.Regions.{over_in}
use Rattle.zpl_meaning.specs.Proper.{IsPlainAssign, IsProperPrefix}
use Rattle.meaning_ranks.specs.Ranked.{IsRankedPrefix, IsRankedValue}
use Rattle.prefix_runs.specs.of_zpl_lowering.Where.{Where}
use Rattle.prefix_runs.specs.of_lowering_runs.Seen.{Spot}
use Rattle.prefix_runs.specs.of_lowering_runs.Scalars.{IsScalarAt}
use Rattle.prefix_runs.specs.of_lowering_runs.Suits.{IsServedHead}
use Rattle.prefix_runs.specs.of_lowering_runs.Leaves.{IsScalarAssigned, AreScalarItems, IsServedInvoke}
use Rattle.prefix_runs.specs.Under.{over_of, mean_under}
use Rattle.served_places.specs.Told.{IsTold, IsSeenFrom, AreFree, IsPlainExpr}
use Rattle.served_places.specs.Given.{KnowsGiven, IsSound}

-- the place as the faults of the text see it
abbrev pub reach_there : Place → Shapes → Rank → Option Base → Reach
reach_there place shapes shattered result = record {
  scope = place.scope;
  prefix = place.prefix;
  shapes = shapes;
  shattered = shattered;
  result = result;
  declared = false;
}

-- an array is assigned
pub record IsCleanAssign (shattered : Rank) (result : Option Base) (at : ℕ) (prefixes : List Prefix)
    (name : Name) (op : Option Op) (value : Expr) (place : Place) (shapes : Shapes) : Type 0 where
  pub target : ℕ
  pub home : Region
  pub is_array : thing_of place.environment name.text ≡ Some (ArrayAt target home)
  pub plain : IsPlainExpr value
  pub proper : IsPlainAssign place name op value
  pub ranked : IsRankedValue place name op value
  pub free : flood_clashes (AtStmt (reach_there place shapes shattered result) at prefixes
      (Assign name op value)) ≡ []
  pub frees : AreFree (expr_sites (reach_there place shapes shattered result)
      (whole_rank (reach_there place shapes shattered result) (Assigned name op) value) value)

-- a prefix
pub record IsCleanPrefix (shattered : Rank) (result : Option Base) (prefix : Prefix) (place : Place)
    (shapes : Shapes) : Type 0 where
  pub proper : IsProperPrefix place prefix
  pub ranked : IsRankedPrefix place prefix
  pub sound : IsSound place.setup.known prefix.region
  pub shape : Shape
  pub shape_is : inner_shape place.scope shapes (prefix_rank place.scope place.prefix prefix)
      prefix.region ≡ Some shape
  pub count : Some (length shape) ≡ prefix_rank place.scope place.prefix prefix
  pub free : (mask : MaskText) → prefix.mask ≡ Some mask
      → flood_clashes (AtMask (reach_there place shapes shattered result) prefix mask) ≡ []

-- behind prefixes, with whatever regions they mean at some store
abbrev pub IsCleanUnder : Rank → Option Base → List Prefix → (Place → Shapes → Type 0) → Place
    → Shapes → Type 0
IsCleanUnder shattered result [] IsClean place shapes = IsClean place shapes
IsCleanUnder shattered result (prefix ∷ rest) IsClean place shapes =
    IsCleanPrefix shattered result prefix place shapes
    × ((store : Store) (region : Region)
    → over_in place store prefix ≡ Gives (over_of place prefix region)
    → IsCleanUnder shattered result rest IsClean (mean_under place prefix region)
    (shapes_under place.scope shapes (prefix_rank place.scope place.prefix prefix) prefix))

-- A place that is as the text says, where what was computed before the run has no fault.
pub record StandsAsTold (spots : List Spot) (environment : Environment) (w : Where)
    (currents : Currents) (shapes : Shapes) : Type 0 where
  pub seen : IsSeenFrom spots w environment currents
  pub told : IsTold w shapes
  pub given : KnowsGiven w.setup.known w.scope

module _ (setup : Setup) (IsCallable : List ℕ → Type 0) (shattered : Rank) (result : Option Base)
  where
    abbrev mutual
      pub IsCleanStmt : Stmt → Place → Shapes → Type 0
      IsCleanStmt (Prefixed at prefixes form) place shapes =
          IsCleanUnder shattered result prefixes (λ inner there.
          IsCleanForm at prefixes form inner there) place shapes

      pub AreClean : Stmts → Place → Shapes → Type 0
      AreClean NoStmt place shapes = Unit {0}
      AreClean (ThenStmt first rest) place shapes =
          IsCleanStmt first place shapes × AreClean rest place shapes

      pub IsCleanForm : ℕ → List Prefix → Form → Place → Shapes → Type 0
      IsCleanForm at prefixes (Assign name op value) place shapes =
          ((w : Where) → IsScalarAssigned name op value w place)
          ⊎ IsCleanAssign shattered result at prefixes name op value place shapes
      IsCleanForm at prefixes (Invoke name actuals) place shapes =
          (w : Where) → IsServedInvoke setup IsCallable name actuals w place
      IsCleanForm at prefixes (Block body) place shapes = AreClean body place shapes
      IsCleanForm at prefixes (If arms otherwise) place shapes =
          (is_shattered (reach_of place) (If arms otherwise) ≡ false)
          × (AreCleanArms arms place shapes × IsCleanElse otherwise place shapes)
      IsCleanForm at prefixes (While test body) place shapes =
          (is_shattered (reach_of place) (While test body) ≡ false)
          × (IsScalarAt place test × AreClean body place shapes)
      IsCleanForm at prefixes (Repeat body until test) place shapes =
          (is_shattered (reach_of place) (Repeat body until test) ≡ false)
          × (IsScalarAt place test × AreClean body place shapes)
      IsCleanForm at prefixes (For head body) place shapes =
          IsServedHead head place × AreClean body place shapes
      IsCleanForm at prefixes (Border kind names) place shapes = ⊥
      IsCleanForm at prefixes (Write line items) place shapes = AreScalarItems place items
      IsCleanForm at prefixes (Return value) place shapes = ⊥

      pub AreCleanArms : Arms → Place → Shapes → Type 0
      AreCleanArms NoArm place shapes = Unit {0}
      AreCleanArms (ThenArm first rest) place shapes =
          IsCleanArm first place shapes × AreCleanArms rest place shapes

      pub IsCleanArm : Arm → Place → Shapes → Type 0
      IsCleanArm (Tested at test body) place shapes =
          IsScalarAt place test × AreClean body place shapes

      pub IsCleanElse : Otherwise → Place → Shapes → Type 0
      IsCleanElse NoElse place shapes = Unit {0}
      IsCleanElse (Else body) place shapes = AreClean body place shapes
