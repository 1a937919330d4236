-- The text of the paths is written piece by piece.
use Rattle.std.proofs.Common.{◌≡◌, ◌≤◌, ◌+◌, ◌-◌, ◌++◌, ◌∙◌, ℕ, zero, suc, List, [], ap, sym, subst, append_assoc, arith}
use Rattle.std.proofs.lemmas.List.{append-nil, take-append-drop}
use Rattle.std.specs.Prelude.{IsSome, drop, take}
use Rattle.std.specs.Option.{option_map_or}
use Rattle.std.specs.declared.option.Option.{Option}
use Rattle.play_base.specs.View.{View, Wrote, WroteFront}
use Rattle.play_base.proofs.ViewLaws.{wrote_more_there}
use Rattle.play_chain.specs.declared.outcome.Passage.{Passage}
use Rattle.play_chain.specs.declared.path.Path.{Path}
use Rattle.play_chain.specs.Stands.{bound, rows_to, text_of}
use Rattle.play_chain.specs.Text.{path_header, path_row, rows_below}
use Rattle.chain_command.specs.Writing.{WroteSome}

-- rows go on behind rows
rows_on : (n d : ℕ) (f : ℕ → Option Passage) → (rest : List ℕ) × (rows_below (d + n) f ≡ rows_below n f ++ rest)
rows_on n zero f = let s : 0 + n ≡ n = omega arith in ([], ap (λ (k : ℕ). rows_below k f) s ∙ sym (append-nil (rows_below n f)))
rows_on n (suc d) f =
    let y = rows_on n d f in
    let s : suc d + n ≡ suc (d + n) = omega arith in
    let row = option_map_or (path_row (d + n)) (f (d + n)) [] in
    (y.0 ++ row, ap (λ (k : ℕ). rows_below k f) s ∙ ap (λ (t : List ℕ). t ++ row) y.1 ∙ append_assoc (rows_below n f) y.0 row)

-- what stands up to a number is a front of the text
front_to : (p : Path) (n : ℕ) → n ≤ bound p → (rest : List ℕ) × ((path_header ++ rows_to p n) ++ rest ≡ text_of p)
front_to p n l =
    let s : (bound p - n) + n ≡ bound p = omega (arith, l) in
    let y = rows_on n (bound p - n) _ in (
      y.0,
      append_assoc path_header (rows_to p n) y.0 ∙ ap (λ (t : List ℕ). path_header ++ t) (sym y.1) ∙ ap (λ (k : ℕ). path_header ++ rows_to p k) s,
    )

-- a front of a piece is written behind what stands
pub front_some : {u v w : View} {file : ℕ} (before piece rest : List ℕ) {text : List ℕ} → IsSome (u.part file) → (before ++ piece) ++ rest ≡ text
    → Wrote u v file before → WroteFront v w file piece → WroteSome u w file text
front_some {u} {v} {w} {file} before piece rest there split x y = record {
  front = before ++ take y.0 piece;
  rest = drop y.0 piece ++ rest;
  split =
      sym (append_assoc (before ++ take y.0 piece) (drop y.0 piece) rest)
      ∙ ap (λ (t : List ℕ). t ++ rest) (append_assoc before (take y.0 piece) (drop y.0 piece) ∙ ap (λ (t : List ℕ). before ++ t) (take-append-drop y.0 piece))
      ∙ split;
  wrote = wrote_more_there u v w file before (take y.0 piece) there x y.1;
}

-- the rows of a piece
module _ (u v w : View) (file : ℕ) (p : Path) (from next : ℕ) (piece : List ℕ) (there : IsSome (u.part file)) (rows : rows_to p next ≡ rows_to p from ++ piece)
    (x : Wrote u v file (path_header ++ rows_to p from)) where
  joined : (path_header ++ rows_to p from) ++ piece ≡ path_header ++ rows_to p next
  joined = append_assoc path_header (rows_to p from) piece ∙ ap (λ (t : List ℕ). path_header ++ t) (sym rows)

  pub piece_wrote : Wrote v w file piece → Wrote u w file (path_header ++ rows_to p next)
  piece_wrote y = subst (λ (t : List ℕ). Wrote u w file t) joined (wrote_more_there u v w file (path_header ++ rows_to p from) piece there x y)

  pub piece_some : next ≤ bound p → WroteFront v w file piece → WroteSome u w file (text_of p)
  piece_some l y =
      let z = front_to p next l in front_some (path_header ++ rows_to p from) piece z.0 there (ap (λ (t : List ℕ). t ++ z.0) joined ∙ z.1) x y
