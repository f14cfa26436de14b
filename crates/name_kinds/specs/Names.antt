-- Names in reach, as a table and a scope hold them.
use Rattle.std.specs.Prelude.{◌≡◌, ℕ, Bool, true, false, List, [], ◌∷◌, ◌++◌, None, IsSome}
use Rattle.std.specs.Borrow.{Bor}
use Rattle.zpl_tree.specs.Syntax as plain
use Rattle.zpl_names.specs.Kinds as kind
use Rattle.zpl_names.specs.Scope as names
use Rattle.name_kinds.specs.declared.names.Known.{Known}
use Rattle.name_kinds.specs.Seen.{kind_of}

-- an entry of the table, by its name's text
abbrev pub entry_of : Bor (List ℕ) × Known → names.Entry
entry_of entry = record {
  name = record { text = entry.0.now; at = entry.1.at };
  kind = kind_of entry.1.kind;
}

-- What a name does to those before it: a new one goes last, and one that is there stays as it is.
abbrev pub Adds : plain.Name → kind.Kind → List names.Entry → List names.Entry → Bool → Type 0
Adds name kind old new true =
    (names.kind_in old name.text ≡ None) × (new ≡ old ++ record { name = name; kind = kind } ∷ [])
Adds name kind old new false = IsSome (names.kind_in old name.text) × (new ≡ old)
