-- Settings: which texts are values, and what is wrong with settings.
use Rattle.std.proofs.Common.{◌≡◌, true, [], ◌∷◌, Some, None, pos, codes, refl}
use Rattle.std.specs.Prelude.{neg_ℤ}
use Rattle.std.specs.Int.{int_wrap}
use Rattle.zpl_tree.specs.Syntax.{Number, Truth, NoBracket, Value, Prefixed, NoStmt, ThenStmt, Write, Integer, Boolean, Config, Constant, Vars}
use Rattle.zpl_binding.specs.Outcome.{UnknownConfig, ConfigType, TwiceSet}
use Rattle.zpl_binding.specs.Settings.{integer_of, truth_of}
use Rattle.zpl_binding.specs.Bound.{faults_of}
use Rattle.zpl_binding.proofs.Trees.{name, declared, set}

-- ---- texts of values

of_5 : integer_of (codes "5") ≡ Some (pos 5)
unfolding int_wrap
of_5 = refl

of_minus_5 : integer_of (codes "-5") ≡ Some (neg_ℤ (pos 5))
unfolding int_wrap
of_minus_5 = refl

of_007 : integer_of (codes "007") ≡ Some (pos 7)
unfolding int_wrap
of_007 = refl

of_minus_0 : integer_of (codes "-0") ≡ Some (pos 0)
unfolding int_wrap
of_minus_0 = refl

of_9223372036854775807 : integer_of (codes "9223372036854775807") ≡ Some (pos 9223372036854775807)
unfolding int_wrap
of_9223372036854775807 = refl

of_minus_9223372036854775808 : integer_of (codes "-9223372036854775808") ≡ Some (neg_ℤ (pos
    9223372036854775808))
unfolding int_wrap
of_minus_9223372036854775808 = refl

of_9223372036854775808 : integer_of (codes "9223372036854775808") ≡ None
unfolding int_wrap
of_9223372036854775808 = refl

of_minus_9223372036854775809 : integer_of (codes "-9223372036854775809") ≡ None
unfolding int_wrap
of_minus_9223372036854775809 = refl

of_a_plus : integer_of (codes "+5") ≡ None
unfolding int_wrap
of_a_plus = refl

of_a_lone_minus : integer_of (codes "-") ≡ None
unfolding int_wrap
of_a_lone_minus = refl

of_no_bytes : integer_of (codes "") ≡ None
unfolding int_wrap
of_no_bytes = refl

of_two_minuses : integer_of (codes "--5") ≡ None
unfolding int_wrap
of_two_minuses = refl

of_a_space : integer_of (codes " 1") ≡ None
unfolding int_wrap
of_a_space = refl

of_a_point : integer_of (codes "1.0") ≡ None
unfolding int_wrap
of_a_point = refl

of_an_x : integer_of (codes "0x1") ≡ None
unfolding int_wrap
of_an_x = refl

of_a_truth_value : integer_of (codes "true") ≡ None
unfolding int_wrap
of_a_truth_value = refl

truth_true : truth_of (codes "true") ≡ Some (pos 1)
unfolding int_wrap
truth_true = refl

truth_false : truth_of (codes "false") ≡ Some (pos 0)
unfolding int_wrap
truth_false = refl

truth_true_upper : truth_of (codes "True") ≡ None
unfolding int_wrap
truth_true_upper = refl

truth_truex : truth_of (codes "truex") ≡ None
unfolding int_wrap
truth_truex = refl

truth_no_bytes : truth_of (codes "") ≡ None
unfolding int_wrap
truth_no_bytes = refl

truth_1_upper : truth_of (codes "1") ≡ None
unfolding int_wrap
truth_1_upper = refl

-- ---- settings of a program

-- config var n : integer = 8;
nothing_is_set : faults_of (declared ((Config ((record {
  name = (name (codes "n") 11);
  base =
      Integer;
  value = (Number 25 (pos 8));
}) ∷ [])) ∷ []) (ThenStmt (Prefixed 31 [] (Write true
    ((Value (Number 39 (pos 1))) ∷ []))) NoStmt)) [] ≡ []
unfolding int_wrap
nothing_is_set = refl

-- config var n : integer = 8; with n:=3
a_config_is_set : faults_of (declared ((Config ((record {
  name = (name (codes "n") 11);
  base =
      Integer;
  value = (Number 25 (pos 8));
}) ∷ [])) ∷ []) (ThenStmt (Prefixed 31 [] (Write true
    ((Value (Number 39 (pos 1))) ∷ []))) NoStmt)) (set (codes "n") (codes "3") ∷ []) ≡ []
unfolding int_wrap
a_config_is_set = refl

-- config var n : integer = 8; with n:=x
no_integer : faults_of (declared ((Config ((record {
  name = (name (codes "n") 11);
  base = Integer;
  value = (Number 25 (pos 8));
}) ∷ [])) ∷ []) (ThenStmt (Prefixed 31 [] (Write true ((Value
    (Number 39 (pos 1))) ∷ []))) NoStmt)) (set (codes "n") (codes "x") ∷ []) ≡ (ConfigType ∷
    ConfigType ∷ [])
unfolding int_wrap
no_integer = refl

-- config var n : integer = 8; with n:=5 n:=x
the_second_setting_is_no_integer : faults_of (declared ((Config ((record {
  name = (name (codes "n")
      11);
  base = Integer;
  value = (Number 25 (pos 8));
}) ∷ [])) ∷ []) (ThenStmt (Prefixed 31 []
    (Write true ((Value (Number 39 (pos 1))) ∷ []))) NoStmt)) (set (codes "n") (codes "5") ∷ set
    (codes "n") (codes "x") ∷ []) ≡ (ConfigType ∷ TwiceSet ∷ [])
unfolding int_wrap
the_second_setting_is_no_integer = refl

-- config var n : integer = 8; with n:=true
a_truth_value_for_an_integer : faults_of (declared ((Config ((record {
  name = (name (codes "n") 11);
  base = Integer;
  value = (Number 25 (pos 8));
}) ∷ [])) ∷ []) (ThenStmt (Prefixed 31 [] (Write
    true ((Value (Number 39 (pos 1))) ∷ []))) NoStmt)) (set (codes "n") (codes "true") ∷ []) ≡
    (ConfigType ∷ ConfigType ∷ [])
unfolding int_wrap
a_truth_value_for_an_integer = refl

-- config var b : boolean = true; with b:=1
a_number_for_a_truth_value : faults_of (declared ((Config ((record {
  name = (name (codes "b") 11);
  base = Boolean;
  value = (Truth 25 true);
}) ∷ [])) ∷ []) (ThenStmt (Prefixed 34 [] (Write true
    ((Value (Number 42 (pos 1))) ∷ []))) NoStmt)) (set (codes "b") (codes "1") ∷ []) ≡ (ConfigType ∷
    ConfigType ∷ [])
unfolding int_wrap
a_number_for_a_truth_value = refl

-- config var b : boolean = true; with b:=false
a_truth_value : faults_of (declared ((Config ((record {
  name = (name (codes "b") 11);
  base =
      Boolean;
  value = (Truth 25 true);
}) ∷ [])) ∷ []) (ThenStmt (Prefixed 34 [] (Write true ((Value
    (Number 42 (pos 1))) ∷ []))) NoStmt)) (set (codes "b") (codes "false") ∷ []) ≡ []
unfolding int_wrap
a_truth_value = refl

-- config var n : integer = 8; with n:=
an_empty_text : faults_of (declared ((Config ((record {
  name = (name (codes "n") 11);
  base =
      Integer;
  value = (Number 25 (pos 8));
}) ∷ [])) ∷ []) (ThenStmt (Prefixed 31 [] (Write true
    ((Value (Number 39 (pos 1))) ∷ []))) NoStmt)) (set (codes "n") (codes "") ∷ []) ≡ (ConfigType ∷
    ConfigType ∷ [])
unfolding int_wrap
an_empty_text = refl

-- config var n : integer = 8; with m:=3
no_such_config : faults_of (declared ((Config ((record {
  name = (name (codes "n") 11);
  base =
      Integer;
  value = (Number 25 (pos 8));
}) ∷ [])) ∷ []) (ThenStmt (Prefixed 31 [] (Write true
    ((Value (Number 39 (pos 1))) ∷ []))) NoStmt)) (set (codes "m") (codes "3") ∷ []) ≡
    (UnknownConfig ∷ [])
unfolding int_wrap
no_such_config = refl

-- constant c : integer = 1; with c:=1
a_constant_is_set : faults_of (declared ((Constant ((record {
  name = (name (codes "c") 9);
  base =
      Integer;
  value = (Number 23 (pos 1));
}) ∷ [])) ∷ []) (ThenStmt (Prefixed 29 [] (Write true
    ((Value (Number 37 (pos 1))) ∷ []))) NoStmt)) (set (codes "c") (codes "1") ∷ []) ≡
    (UnknownConfig ∷ [])
unfolding int_wrap
a_constant_is_set = refl

-- var x : integer; with x:=1
a_variable_is_set : faults_of (declared ((Vars ((record {
  names = ((name (codes "x") 4) ∷ []);
  shape
      = NoBracket;
  base = Integer;
}) ∷ [])) ∷ []) (ThenStmt (Prefixed 20 [] (Write true ((Value
    (Number 28 (pos 1))) ∷ []))) NoStmt)) (set (codes "x") (codes "1") ∷ []) ≡ (UnknownConfig ∷ [])
unfolding int_wrap
a_variable_is_set = refl

-- config var n : integer = 8; with n:=5 n:=6
set_twice : faults_of (declared ((Config ((record {
  name = (name (codes "n") 11);
  base = Integer;
  value = (Number 25 (pos 8));
}) ∷ [])) ∷ []) (ThenStmt (Prefixed 31 [] (Write true ((Value
    (Number 39 (pos 1))) ∷ []))) NoStmt)) (set (codes "n") (codes "5") ∷ set (codes "n") (codes "6")
    ∷ []) ≡ (TwiceSet ∷ [])
unfolding int_wrap
set_twice = refl

-- config var n : integer = 8; with n:=5 n:=6 n:=5
set_three_times : faults_of (declared ((Config ((record {
  name = (name (codes "n") 11);
  base =
      Integer;
  value = (Number 25 (pos 8));
}) ∷ [])) ∷ []) (ThenStmt (Prefixed 31 [] (Write true
    ((Value (Number 39 (pos 1))) ∷ []))) NoStmt)) (set (codes "n") (codes "5") ∷ set (codes "n")
    (codes "6") ∷ set (codes "n") (codes "5") ∷ []) ≡ (TwiceSet ∷ TwiceSet ∷ [])
unfolding int_wrap
set_three_times = refl

-- config var n : integer = 8; with m:=5 m:=6
an_unknown_name_is_set_twice : faults_of (declared ((Config ((record {
  name = (name (codes "n") 11);
  base = Integer;
  value = (Number 25 (pos 8));
}) ∷ [])) ∷ []) (ThenStmt (Prefixed 31 [] (Write
    true ((Value (Number 39 (pos 1))) ∷ []))) NoStmt)) (set (codes "m") (codes "5") ∷ set (codes
    "m") (codes "6") ∷ []) ≡ (UnknownConfig ∷ UnknownConfig ∷ TwiceSet ∷ [])
unfolding int_wrap
an_unknown_name_is_set_twice = refl
