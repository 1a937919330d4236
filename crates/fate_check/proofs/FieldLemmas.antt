-- The seven fields of a row, as the default writer writes them.
use Rattle.std.proofs.Common.{◌≡◌, ℕ, ◌<◌, ◌++◌, ◌&&◌, Bool, true, false, List, [], ◌∷◌, Option, Some, None, length, eqb, refl, sym, ap, ◌∙◌, arith, append_assoc}
use Rattle.std.specs.Prelude.{◌||◌, nat_le}
use Rattle.std.specs.Int.{IsInRange}
use Rattle.std.specs.List.{list_any}
use Rattle.std.specs.Str.Parse.{AllDigits}
use Rattle.std.proofs.lemmas.Bool.{and_parts, eqb-true}
use Rattle.std.proofs.lemmas.Str.Parse.{tells_digits}
use Rattle.csv.specs.Writing.{default_writer, field_text, fields_text, is_blank, needs_byte, row_text}
use Rattle.line_text.specs.Names.{is_name_byte, are_name_bytes, is_name}
use Rattle.line_text.specs.Numbers.{◌>>=◌, cut}
use Rattle.fate_check.specs.Parse.{Texts, fields_of}
use Rattle.fate_check.proofs.CutLemmas.{Lacks, cut-front, cut-parts}

or-left : (a b : Bool) → (a || b) ≡ false → a ≡ false
or-left false b e = refl
or-left true b e = cc e

or-right : (a b : Bool) → (a || b) ≡ false → b ≡ false
or-right false b e = e
or-right true b e = cc e

-- none of a text's bytes calls for quotes
abbrev pub IsPlain : List ℕ → Type 0
IsPlain text = list_any (needs_byte default_writer) text ≡ false

not-true : (x : Bool) → (x ≡ true → ⊥) → x ≡ false
not-true true n = absurd (n refl)
not-true false n = refl

no_comma : (b : ℕ) → needs_byte default_writer b ≡ false → eqb b 44 ≡ false
no_comma b e = not-true (eqb b 44) (λ t. cc (rw t at e))

no_feed : (b : ℕ) → needs_byte default_writer b ≡ false → eqb b 10 ≡ false
no_feed b e =
    let a = no_comma b e in
    let q = not-true (eqb b 34) (λ t. cc (rw (a, t) at e)) in
    let r = not-true (eqb b 13) (λ t. cc (rw (a, q, t) at e)) in
    not-true (eqb b 10) (λ t. cc (rw (a, q, r, t) at e))

pub lacks_comma : (text : List ℕ) → IsPlain text → Lacks 44 text
lacks_comma [] p = tt
lacks_comma (b ∷ text) p = (no_comma b (or-left _ _ p), lacks_comma text (or-right _ _ p))

pub lacks_feed : (text : List ℕ) → IsPlain text → Lacks 10 text
lacks_feed [] p = tt
lacks_feed (b ∷ text) p = (no_feed b (or-left _ _ p), lacks_feed text (or-right _ _ p))

-- a byte that is none of the four calls for no quotes
plain_byte : (b : ℕ) → eqb b 44 ≡ false → eqb b 34 ≡ false → eqb b 13 ≡ false → eqb b 10 ≡ false → needs_byte default_writer b ≡ false
plain_byte b comma quote cr feed = rw (comma, quote, cr, feed) refl

-- digits
pub digit_is_not : (b m : ℕ) → IsInRange 48 57 b → m < 48 → eqb b m ≡ false
digit_is_not b m h l = not-true (eqb b m) (λ t. omega (arith, h.0, l, eqb-true b m t))

plain_digit : (b : ℕ) → IsInRange 48 57 b → needs_byte default_writer b ≡ false
plain_digit b h = plain_byte b (digit_is_not b 44 h (omega arith)) (digit_is_not b 34 h (omega arith)) (digit_is_not b 13 h (omega arith)) (digit_is_not b 10 h (omega arith))

pub plain_digits : (text : List ℕ) → AllDigits 10 text → IsPlain text
plain_digits [] h = refl
plain_digits (b ∷ text) h = let p = tells_digits.parts b text h in rw (plain_digit b p.0) (plain_digits text p.1)

-- names
name_is_not : (b m : ℕ) → is_name_byte b ≡ true → is_name_byte m ≡ false → eqb b m ≡ false
name_is_not b m h n = not-true (eqb b m) (λ t. let same : is_name_byte b ≡ is_name_byte m = ap is_name_byte (eqb-true b m t) in let q : true ≡ false = sym h ∙ same ∙ n in (cc))

plain_name_byte : (b : ℕ) → is_name_byte b ≡ true → needs_byte default_writer b ≡ false
plain_name_byte b h = plain_byte b (name_is_not b 44 h refl) (name_is_not b 34 h refl) (name_is_not b 13 h refl) (name_is_not b 10 h refl)

plain_bytes : (text : List ℕ) → are_name_bytes text ≡ true → IsPlain text
plain_bytes [] h = refl
plain_bytes (b ∷ text) h =
    let p = and_parts (is_name_byte b) (are_name_bytes text) h in rw (plain_name_byte b p.0) (plain_bytes text p.1)

pub plain_name : (text : List ℕ) → is_name text ≡ true → IsPlain text
plain_name text h = plain_bytes text (and_parts (nat_le 1 (length text) && nat_le (length text) 64) (are_name_bytes text) h).1

-- the fields with what parts them, before the rest
abbrev pub joined : Texts → (rest : List ℕ) → List ℕ
joined t rest =
    t.number ++ 44 ∷ (t.at ++ 44 ∷ (t.len ++ 44 ∷ (t.class ++ 44 ∷ (t.word ++ 44 ∷ (t.start ++ 44 ∷ (t.end ++ 10 ∷ rest))))))

pub record ArePlain (t : Texts) : Type 0 where
  pub number : IsPlain t.number
  pub at : IsPlain t.at
  pub len : IsPlain t.len
  pub class : IsPlain t.class
  pub word : IsPlain t.word
  pub start : IsPlain t.start
  pub end : IsPlain t.end

abbrev pub list_of : Texts → List (List ℕ)
list_of t = t.number ∷ t.at ∷ t.len ∷ t.class ∷ t.word ∷ t.start ∷ t.end ∷ []

field_plain : (text : List ℕ) → IsPlain text → field_text default_writer text ≡ text
field_plain text p = rw p refl

pub row_joined : (t : Texts) (rest : List ℕ) → ArePlain t → row_text default_writer (list_of t) ++ rest ≡ joined t rest
unfolding fields_text is_blank
row_joined t rest p =
    rw (field_plain t.number p.number, field_plain t.at p.at, field_plain t.len p.len, field_plain t.class p.class, field_plain t.word p.word, field_plain t.start p.start, field_plain t.end p.end)
    (simp append_assoc)

pub fields_joined : (t : Texts) (rest : List ℕ) → ArePlain t → fields_of (joined t rest) ≡ Some (t, rest)
unfolding fields_of
fields_joined t rest p =
    let r6 : List ℕ = t.end ++ 10 ∷ rest in
    let r5 : List ℕ = t.start ++ 44 ∷ r6 in
    let r4 : List ℕ = t.word ++ 44 ∷ r5 in
    let r3 : List ℕ = t.class ++ 44 ∷ r4 in
    let r2 : List ℕ = t.len ++ 44 ∷ r3 in
    let r1 : List ℕ = t.at ++ 44 ∷ r2 in
    rw (
      cut-front 44 t.number r1 (lacks_comma t.number p.number),
      cut-front 44 t.at r2 (lacks_comma t.at p.at),
      cut-front 44 t.len r3 (lacks_comma t.len p.len),
      cut-front 44 t.class r4 (lacks_comma t.class p.class),
      cut-front 44 t.word r5 (lacks_comma t.word p.word),
      cut-front 44 t.start r6 (lacks_comma t.start p.start),
      cut-front 10 t.end rest (lacks_feed t.end p.end),
    ) refl

pub some_is : {A : Type 0} (a b : A) → Some a ≡ Some b → a ≡ b
some_is a b e = cc

-- what a step that may fail gave
pub bind_some : {A B : Type 0} (o : Option A) (k : A → Option B) (b : B) → (o >>= k) ≡ Some b → (a : A) × (o ≡ Some a) × (k a ≡ Some b)
bind_some None k b h = absurd (cc)
bind_some (Some a) k b h = (a, refl, h)

pub fields_parts : (text : List ℕ) (p : Texts × List ℕ) → fields_of text ≡ Some p → text ≡ joined p.0 p.1
unfolding fields_of
fields_parts text p h =
    let number = bind_some (cut 44 text) _ p h in
    let at = bind_some (cut 44 number.0.1) _ p number.2 in
    let len = bind_some (cut 44 at.0.1) _ p at.2 in
    let class = bind_some (cut 44 len.0.1) _ p len.2 in
    let word = bind_some (cut 44 class.0.1) _ p class.2 in
    let start = bind_some (cut 44 word.0.1) _ p word.2 in
    let end = bind_some (cut 10 start.0.1) _ p start.2 in
    let t : Texts = record { number = number.0.0; at = at.0.0; len = len.0.0; class = class.0.0; word = word.0.0; start = start.0.0; end = end.0.0 } in
    let same : (t, end.0.1) ≡ p = some_is (t, end.0.1) p end.2 in
    let e7 = cut-parts 10 start.0.1 end.0 end.1 in
    let e6 = cut-parts 44 word.0.1 start.0 start.1 in
    let e5 = cut-parts 44 class.0.1 word.0 word.1 in
    let e4 = cut-parts 44 len.0.1 class.0 class.1 in
    let e3 = cut-parts 44 at.0.1 len.0 len.1 in
    let e2 = cut-parts 44 number.0.1 at.0 at.1 in
    let e1 = cut-parts 44 text number.0 number.1 in
    let whole : text ≡ joined t end.0.1 =
    e1 ∙ ap (λ (r : List ℕ). number.0.0 ++ 44 ∷ r) (e2 ∙ ap (λ (r : List ℕ). at.0.0 ++ 44 ∷ r) (e3 ∙ ap (λ (r : List ℕ). len.0.0 ++ 44 ∷ r) (e4
    ∙ ap (λ (r : List ℕ). class.0.0 ++ 44 ∷ r) (e5 ∙ ap (λ (r : List ℕ). word.0.0 ++ 44 ∷ r) (e6 ∙ ap (λ (r : List ℕ). start.0.0 ++ 44 ∷ r) e7))))) in
    whole ∙ ap (λ (q : Texts × List ℕ). joined q.0 q.1) same
