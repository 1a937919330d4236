-- The lines that say how far the work of siblings lay apart.
use Rattle.std.specs.Prelude.{ℕ, List, [], ◌++◌, Option, None, Some, codes, decimal, flat_map, slice_get}
use Rattle.conf_tree.specs.declared.class.Class.{Class}
use Rattle.share_gaps.specs.declared.gap.Gap.{Gap}

-- the name of a class
abbrev pub name_in : List Class → (c : ℕ) → List ℕ
name_in classes c = elim (slice_get classes c) [ None ↦ [] | Some k ↦ k.name ]

-- the line of two classes: their gap, where there is one, and the bound that it keeps, or that there is none
abbrev pub pair_line : (first second : List ℕ) → (gap bound : Option ℕ) → List ℕ
pair_line first second None bound = first ++ (codes " " ++ (second ++ codes " bound none\n"))
pair_line first second (Some gap) None =
    first ++ (codes " " ++ (second ++ (codes " gap " ++ (decimal gap ++ codes " bound none\n"))))
pair_line first second (Some gap) (Some bound) =
    first ++ (codes " " ++ (second ++ (codes " gap " ++ (decimal gap ++ (codes " bound " ++ (decimal bound ++ codes "\n"))))))

abbrev pub gap_line : List Class → Gap → List ℕ
gap_line classes g = pair_line (name_in classes g.first) (name_in classes g.second) g.gap g.bound

abbrev pub gap_lines : List Class → List Gap → List ℕ
gap_lines classes gaps = flat_map (gap_line classes) gaps
