use Rattle.std.proofs.Common.{◌≡◌, ◌++◌, drop, map}
use Rattle.std.specs.List.{flat_map}
use Rattle.zpl_tree.specs.Spelling.{region_words}
use Rattle.zpl_tree.specs.View.{region_of}
use Rattle.zpl_tree.specs.Word.{printed_text}
use Rattle.zpl_tree.proofs.printing.declarations.print_regions.Given as goal

-- what is printed and what is left to print are the whole
abbrev pub invariant-loop-region : goal.invariant-loop-region
invariant-loop-region l =
    l.text.items ++
    printed_text (flat_map region_words (map region_of (drop l.region-index l.regions)))
    ≡ l.initial.text.items ++ printed_text (flat_map region_words (map region_of l.regions))
