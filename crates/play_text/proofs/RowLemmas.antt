-- How long the row of a fate can be.
use Rattle.std.proofs.Common.{◌≡◌, ◌≤◌, ◌+◌, ◌*◌, ℕ, suc, Bool, true, false, List, [], ◌∷◌, ◌++◌, length, eqb, if◌then◌else◌, ap, arith}
use Rattle.std.proofs.lemmas.List.{length-append}
use Rattle.csv.specs.Writing.{default_writer, escaped, needs_quotes, quoted, field_text, fields_text, row_text, is_blank}

by_quote : (quote : Bool) (b : ℕ) (rest : List ℕ) (n : ℕ) → length rest ≤ 2 * n
    → length (if quote then 34 ∷ b ∷ rest else b ∷ rest) ≤ 2 * suc n
by_quote true b rest n short = omega (arith, short)
by_quote false b rest n short = omega (arith, short)

-- an escaped byte takes at most two
escaped_length : (field : List ℕ) → length (escaped default_writer field) ≤ 2 * length field
unfolding escaped
escaped_length [] = omega arith
escaped_length (b ∷ rest) = by_quote (eqb b 34) b (escaped default_writer rest) (length rest) (escaped_length rest)

-- quotes at most double a field, and add two bytes
field_length : (field : List ℕ) → length (field_text default_writer field) ≤ 2 * length field + 2
field_length field = by_need (needs_quotes default_writer field)
  where
    by_need : (needs : Bool) → length (if needs then quoted default_writer field else field) ≤ 2 * length field + 2
    by_need true = omega (arith, escaped_length field, length-append (escaped default_writer field) (34 ∷ []))
    by_need false = omega arith

-- the lengths of fields with what their quotes and separators may take
abbrev weight : List (List ℕ) → ℕ
weight [] = 0
weight (field ∷ rest) = 2 * length field + 3 + weight rest

fields_length : (fields : List (List ℕ)) → length (fields_text default_writer fields) ≤ weight fields
unfolding fields_text
fields_length [] = omega arith
fields_length (field ∷ rest) =
    omega (arith, field_length field, fields_length rest, length-append (field_text default_writer field) (fields_text default_writer rest))

-- a text with one more row of a fate
pub row_longer : (old new number at len class word start end : List ℕ) → length number ≤ 40 → length at ≤ 40 → length len ≤ 40 → length class ≤ 64
    → length word ≤ 8 → length start ≤ 40 → length end ≤ 40
    → new ≡ old ++ row_text default_writer (number ∷ at ∷ len ∷ class ∷ word ∷ start ∷ end ∷ []) → length new ≤ length old + 565
unfolding is_blank
row_longer old new number at len class word start end a b c d e f g text =
    let rest : List (List ℕ) = at ∷ len ∷ class ∷ word ∷ start ∷ end ∷ [] in
    let body : List ℕ = field_text default_writer number ++ fields_text default_writer rest in
    omega (
      arith,
      a,
      b,
      c,
      d,
      e,
      f,
      g,
      field_length number,
      fields_length rest,
      ap length text,
      length-append old (body ++ 10 ∷ []),
      length-append body (10 ∷ []),
      length-append (field_text default_writer number) (fields_text default_writer rest),
    )
