-- A program's tree as plain syntax: what the tree in the arena says, without its pointers and its
-- lists in memory.
-- An `at` is an offset into the program's text.
use Rattle.std.specs.Prelude.{ℕ, ℤ, Bool, List, Option}
use Rattle.zpl_nums.specs.declared.operators.Op.{Op}
use Rattle.zpl_nums.specs.declared.folds.Fold.{Fold}
use Rattle.zpl_nums.specs.declared.ends.Border.{Border as BorderKind}

pub record Name : Type 0 where
  pub text : List ℕ
  pub at : ℕ

-- a `d of` where it is outside, else a `d in`, before a region
pub record Pre : Type 0 where
  pub dir : Name
  pub outside : Bool

pub data RegionBase : Type 0 where
  NamedRegion : (name : Name) → RegionBase
  Ditto : (at : ℕ) → RegionBase

mutual
  pub data Expr : Type 0 where
    Number : (at : ℕ) (value : ℤ) → Expr
    Truth : (at : ℕ) (value : Bool) → Expr
    Coord : (at : ℕ) (dimension : ℕ) → Expr
    Named : (at : ℕ) (name : Name) → Expr
    Shifted : (at : ℕ) (name : Name) (shift : Dir) → Expr
    Around : (at : ℕ) (name : Name) (shift : Dir) → Expr
    Remap : (at : ℕ) (name : Name) (indices : Exprs) → Expr
    Call : (at : ℕ) (name : Name) (actuals : Exprs) → Expr
    Paren : (at : ℕ) (inside : Expr) → Expr
    Neg : (at : ℕ) (operand : Expr) → Expr
    Not : (at : ℕ) (operand : Expr) → Expr
    Abs : (at : ℕ) (operand : Expr) → Expr
    Pair : (at : ℕ) (op : Op) (left right : Expr) → Expr
    Reduce : (at : ℕ) (operator : Fold) (over : Bracket) (operand : Expr) → Expr
    Scan : (at : ℕ) (operator : Fold) (along : Option ℤ) (operand : Expr) → Expr
    Flood : (at : ℕ) (source : Inner) (operand : Expr) → Expr

  pub data Exprs : Type 0 where
    NoExpr : Exprs
    ThenExpr : (first : Expr) (rest : Exprs) → Exprs

  pub data Dir : Type 0 where
    NamedDir : (name : Name) → Dir
    Vector : (parts : Exprs) → Dir

  -- what stands between the brackets of a region
  pub data Inner : Type 0 where
    Rexpr : (pre : List Pre) (base : RegionBase) (post : Posts) → Inner
    Dims : (dims : DimTexts) → Inner

  -- a region in its brackets, or nothing
  pub data Bracket : Type 0 where
    NoBracket : Bracket
    Bracketed : (inner : Inner) → Bracket

  -- each a `by d` where it is a stride, else an `at d`, behind a region
  pub data Posts : Type 0 where
    NoPost : Posts
    ThenPost : (stride : Bool) (dir : Dir) (rest : Posts) → Posts

  pub data DimText : Type 0 where
    Blank : (at : ℕ) → DimText
    Star : (at : ℕ) → DimText
    One : (index : Expr) → DimText
    Span : (low high : Expr) → DimText

  pub data DimTexts : Type 0 where
    NoDim : DimTexts
    ThenDim : (first : DimText) (rest : DimTexts) → DimTexts

-- the offset of an expression
abbrev pub at_of : Expr → ℕ
at_of (Number at value) = at
at_of (Truth at value) = at
at_of (Coord at dimension) = at
at_of (Named at name) = at
at_of (Shifted at name shift) = at
at_of (Around at name shift) = at
at_of (Remap at name indices) = at
at_of (Call at name actuals) = at
at_of (Paren at inside) = at
at_of (Neg at operand) = at
at_of (Not at operand) = at
at_of (Abs at operand) = at
at_of (Pair at op left right) = at
at_of (Reduce at operator over operand) = at
at_of (Scan at operator along operand) = at
at_of (Flood at source operand) = at

pub record Mask : Type 0 where
  pub name : Name
  pub without : Bool

pub record Prefix : Type 0 where
  pub at : ℕ
  pub region : Inner
  pub mask : Option Mask

pub record ForHead : Type 0 where
  pub name : Name
  pub first : Expr
  pub down : Bool
  pub last : Expr
  pub step : Option Expr

pub data Item : Type 0 where
  Str : (bytes : List ℕ) → Item
  Value : (value : Expr) → Item

mutual
  -- a statement behind its prefixes
  pub data Stmt : Type 0 where
    Prefixed : (at : ℕ) (prefixes : List Prefix) (form : Form) → Stmt

  pub data Stmts : Type 0 where
    NoStmt : Stmts
    ThenStmt : (first : Stmt) (rest : Stmts) → Stmts

  pub data Form : Type 0 where
    Assign : (name : Name) (op : Option Op) (value : Expr) → Form
    Invoke : (name : Name) (actuals : Exprs) → Form
    Block : (body : Stmts) → Form
    If : (arms : Arms) (otherwise : Otherwise) → Form
    While : (test : Expr) (body : Stmts) → Form
    Repeat : (body : Stmts) (until : ℕ) (test : Expr) → Form
    For : (head : ForHead) (body : Stmts) → Form
    Border : (kind : BorderKind) (names : List Name) → Form
    Write : (line : Bool) (items : List Item) → Form
    Return : (value : Expr) → Form

  -- the test and the body of an `if` or an `elsif`
  pub data Arm : Type 0 where
    Tested : (at : ℕ) (test : Expr) (body : Stmts) → Arm

  pub data Arms : Type 0 where
    NoArm : Arms
    ThenArm : (first : Arm) (rest : Arms) → Arms

  pub data Otherwise : Type 0 where
    NoElse : Otherwise
    Else : (body : Stmts) → Otherwise

pub data Base : Type 0 where
  Integer : Base
  Boolean : Base
  Other : (name : Name) → Base

pub record Define : Type 0 where
  pub name : Name
  pub base : Base
  pub value : Expr

pub record RegionDef : Type 0 where
  pub name : Name
  pub body : Inner
  pub posts : Posts

pub record DirDef : Type 0 where
  pub name : Name
  pub parts : Exprs

pub record VarDef : Type 0 where
  pub names : List Name
  pub shape : Bracket
  pub base : Base

pub record Param : Type 0 where
  pub by_ref : Bool
  pub names : List Name
  pub shape : Bracket
  pub base : Base

pub record Procedure : Type 0 where
  pub name : Name
  pub params : List Param
  pub result : Option Base
  pub locals : List VarDef
  pub body : Stmt

pub data Decl : Type 0 where
  Config : (defines : List Define) → Decl
  Constant : (defines : List Define) → Decl
  Regions : (regions : List RegionDef) → Decl
  Directions : (directions : List DirDef) → Decl
  Vars : (vars : List VarDef) → Decl
  Defined : (procedure : Procedure) → Decl

pub record Program : Type 0 where
  pub name : Name
  pub decls : List Decl
  pub source : List ℕ
