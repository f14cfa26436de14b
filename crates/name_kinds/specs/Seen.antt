-- What the types of this crate stand for among the definitions of names.
use Rattle.std.specs.Prelude.{Bool, [], ◌∷◌, map, Option, Some, None}
use Rattle.std.specs.Option.{option_map}
use Rattle.zpl_tree.specs.Syntax as plain
use Rattle.zpl_tree.specs.View.{base_type_of}
use Rattle.zpl_names.specs.Kinds as kind
use Rattle.zpl_names.specs.Shapes as current
use Rattle.name_kinds.specs.declared.shapes.Shape.{Shape}
use Rattle.name_kinds.specs.declared.shapes.Shape.TheVariants.{Empty, One, Two, Three}
use Rattle.name_kinds.specs.declared.shapes.Current.{Current}
use Rattle.name_kinds.specs.declared.shapes.Current.TheVariants.{Absent, Unknown, Over}
use Rattle.name_kinds.specs.declared.shapes.Shapes.{Shapes}
use Rattle.name_kinds.specs.declared.kinds.BaseType.{BaseType}
use Rattle.name_kinds.specs.declared.kinds.BaseType.TheVariants.{Integer, Boolean, Other}
use Rattle.name_kinds.specs.declared.kinds.Formal.{Formal}
use Rattle.name_kinds.specs.declared.kinds.Signature.{Signature}
use Rattle.name_kinds.specs.declared.kinds.Kind.{Kind}
use Rattle.name_kinds.specs.declared.kinds.Kind.TheVariants.{Config, Constant, Region, Direction, Scalar, Array, Procedure}

abbrev pub floods_of : Shape → kind.Shape
floods_of Empty = []
floods_of (One one) = one ∷ []
floods_of (Two one two) = one ∷ two ∷ []
floods_of (Three one two three) = one ∷ two ∷ three ∷ []

-- three truth values, with others behind those of the dimensions
abbrev pub padded_floods : Shape → Bool → Bool × Bool × Bool
padded_floods Empty behind = (behind, behind, behind)
padded_floods (One one) behind = (one, behind, behind)
padded_floods (Two one two) behind = (one, two, behind)
padded_floods (Three one two three) behind = (one, two, three)

abbrev pub shape_of : Option Shape → Option kind.Shape
shape_of None = None
shape_of (Some shape) = Some (floods_of shape)

abbrev pub current_of : Current → current.Current
current_of Absent = current.Absent
current_of Unknown = current.Unknown
current_of (Over shape masked) = current.Over (floods_of shape) masked

abbrev pub shapes_of : Shapes → current.Shapes
shapes_of shapes = record {
  one = current_of shapes.one;
  two = current_of shapes.two;
  three = current_of shapes.three;
}

-- a base type without the name of one that is no type of the language
abbrev pub type_of_base : plain.Base → BaseType
type_of_base plain.Integer = Integer
type_of_base plain.Boolean = Boolean
type_of_base (plain.Other name) = Other

abbrev pub formal_shape : Bool → plain.Base → Option (Option Shape) → kind.Formal
formal_shape by_ref base None = kind.ScalarFormal by_ref base
formal_shape by_ref base (Some shape) = kind.ArrayFormal by_ref base (shape_of shape)

abbrev pub formal_of : Formal → kind.Formal
formal_of formal = formal_shape formal.by_ref (base_type_of formal.base) formal.shape

abbrev pub signature_of : Signature → kind.Signature
signature_of signature = record {
  formals = map formal_of signature.formals.now;
  result = option_map base_type_of signature.result;
}

abbrev pub kind_of : Kind → kind.Kind
kind_of (Config base) = kind.Config (base_type_of base)
kind_of (Constant base) = kind.Constant (base_type_of base)
kind_of (Region shape) = kind.Region (shape_of shape)
kind_of (Direction rank) = kind.Direction rank
kind_of (Scalar base) = kind.Scalar (base_type_of base)
kind_of (Array base shape) = kind.Array (base_type_of base) (shape_of shape)
kind_of (Procedure signature) = kind.Procedure (signature_of signature)

abbrev pub known_of : Option Kind → Option kind.Kind
known_of None = None
known_of (Some kind) = Some (kind_of kind)
