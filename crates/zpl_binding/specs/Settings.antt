-- Settings, which take the place of configs' defaults.
use Rattle.std.specs.Prelude.{ℕ, Bool, true, false, ◌&&◌, ◌==◌, ℤ, pos, neg_ℤ, int_le, if◌then◌else◌, List, [], ◌∷◌, flat_map, find, Option, Some, None, option_map}
use Rattle.std.specs.List.{list_all, list_any}
use Rattle.std.specs.Str.{bytes_eq}
use Rattle.std.specs.Str.Parse.{digits_value}
use Rattle.std.specs.Char.{is_ascii_digit}
use Rattle.zpl_tree.specs.Syntax.{Base, Integer, Boolean, Other}
use Rattle.zpl_tree.specs.of_zpl_nums.Integer.{least, greatest, truth}
use Rattle.zpl_names.specs.Kinds.{Kind, Config}
use Rattle.zpl_names.specs.Scope.{Entry, kind_in}
use Rattle.zpl_binding.specs.Outcome.{BindFault, UnknownConfig, ConfigType, TwiceSet}

-- A name and the text of its value.
pub record Setting : Type 0 where
  pub name : List ℕ
  pub value : List ℕ

-- ---- values

-- an integer of 64 bits
abbrev pub integer_in_range : ℤ → Option ℤ
integer_in_range value = if int_le least value && int_le value greatest then Some value else None

-- one or more digits and nothing else
abbrev pub digits_of : List ℕ → Option ℕ
digits_of [] = None
digits_of (first ∷ rest) =
    if list_all is_ascii_digit (first ∷ rest) then Some (digits_value 10 (first ∷ rest)) else None

abbrev pub number_in_range : (ℤ → ℤ) → Option ℕ → Option ℤ
number_in_range signed None = None
number_in_range signed (Some number) = integer_in_range (signed (pos number))

-- the byte of `-`, and the bytes of `true` and of `false`
abbrev pub minus : ℕ
minus = 45

abbrev pub true_text : List ℕ
true_text = 116 ∷ 114 ∷ 117 ∷ 101 ∷ []

abbrev pub false_text : List ℕ
false_text = 102 ∷ 97 ∷ 108 ∷ 115 ∷ 101 ∷ []

-- digits, with a `-` before them or without a sign
abbrev pub integer_of : List ℕ → Option ℤ
integer_of [] = None
integer_of (first ∷ rest) =
    if first == minus then number_in_range neg_ℤ (digits_of rest)
    else number_in_range (λ number. number) (digits_of (first ∷ rest))

-- `true` or `false`
abbrev pub truth_of : List ℕ → Option ℤ
truth_of text =
    if bytes_eq text true_text then Some (truth true)
    else if bytes_eq text false_text then Some (truth false)
    else None

-- the value of a type that a text is, if it is one
abbrev pub value_in : Base → List ℕ → Option ℤ
value_in Integer text = integer_of text
value_in Boolean text = truth_of text
value_in (Other name) text = integer_of text

-- ---- settings of names

-- the text that a name is set to first, if it is set
abbrev pub setting_of : List Setting → List ℕ → Option (List ℕ)
setting_of settings text =
    option_map (λ setting. setting.value)
    (find (λ setting. bytes_eq setting.name text) settings)

abbrev pub is_set : List Setting → List ℕ → Bool
is_set settings text = list_any (λ setting. bytes_eq setting.name text) settings

-- ---- what is wrong with settings

-- none, where there is a value
abbrev pub value_fault : Option ℤ → List BindFault
value_fault None = ConfigType ∷ []
value_fault (Some value) = []

-- that of a text for what a name stands for
abbrev pub config_fault : Option Kind → List ℕ → List BindFault
config_fault (Some (Config base)) text = value_fault (value_in base text)
config_fault kind text = UnknownConfig ∷ []

-- the faults of each setting, for the global names
abbrev pub setting_faults : List Entry → List Setting → List BindFault
setting_faults globals settings =
    flat_map (λ setting. config_fault (kind_in globals setting.name) setting.value) settings

-- one for each setting of a name that is set again behind it
abbrev pub twice_set : List Setting → List BindFault
twice_set [] = []
twice_set (setting ∷ rest) =
    if is_set rest setting.name then TwiceSet ∷ twice_set rest else twice_set rest
