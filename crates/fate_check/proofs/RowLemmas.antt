-- A row that is read is the row that stands there.
use Rattle.std.proofs.lemmas.List.{append_assoc, append-nil, length-append}
use Rattle.std.proofs.Common.{◌≡◌, ℕ, ◌^◌, ◌<◌, ◌++◌, ◌&&◌, Bool, true, false, cond, List, [], ◌∷◌, Option, Some, None, length, get_or, nat_lt, eqb, refl, sym, ap, subst, ◌∙◌, arith, lt-ltb}
use Rattle.std.specs.Prelude.{codes}
use Rattle.std.specs.Fmt.{decimal}
use Rattle.std.specs.Str.{bytes_eq}
use Rattle.std.proofs.lemmas.Bool.{and_parts, eqb-true, ltb-true}
use Rattle.std.proofs.lemmas.Fmt.{decimal_is_IsNumeral}
use Rattle.std.proofs.lemmas.List.Elements.{recursion_from_All}
use Rattle.std.proofs.lemmas.Slice.Eq.{bytes_eq-Decides}
use Rattle.csv.specs.Writing.{default_writer, row_text}
use Rattle.altq_model.specs.declared.Fate.{Fate}
use Rattle.altq_model.specs.declared.Fate.TheVariants.{Dropped, Sent}
use Rattle.altq_model.specs.declared.Reason.{Reason}
use Rattle.altq_model.specs.declared.Reason.TheVariants.{Full, Early, Forced}
use Rattle.altq_model.specs.declared.Rule.{Rule}
use Rattle.altq_model.specs.declared.Rule.TheVariants.{RealTime, Share, Own, Borrow}
use Rattle.play_text.specs.Texts.{fate_fields, reason_word, rule_word}
use Rattle.play_text.specs.Names.{NameList, AreNames, class_named, name_of}
use Rattle.fate_check.specs.declared.reading.Row.{Row}
use Rattle.fate_check.specs.Parse.{Texts, dropped_of, fate_by, fate_of, fields_of, len_of, number_of, reason_of, row_in, row_of, rule_of, sent_of}
use Rattle.fate_check.specs.Text.{AreRows, FateFits, IsRow, text_of, texts_of, HasNoRow}
use Rattle.fate_check.proofs.FieldLemmas.{ArePlain, IsPlain, bind_some, fields_joined, fields_parts, joined, some_is, plain_digits, plain_name, row_joined}
use Rattle.fate_check.proofs.NameLemmas.{class_is, name_found, of_name}
use Rattle.fate_check.proofs.NumberLemmas.{number_is, number_of_decimal}

-- the fields of a row's text
abbrev pub fate_word : Fate → List ℕ
fate_word (Dropped reason) = reason_word reason
fate_word (Sent start end rule) = rule_word rule

abbrev pub fate_start : Fate → List ℕ
fate_start (Dropped reason) = []
fate_start (Sent start end rule) = decimal start

abbrev pub fate_end : Fate → List ℕ
fate_end (Dropped reason) = []
fate_end (Sent start end rule) = decimal end

abbrev pub texts : NameList → Row → Texts
texts names r = record {
  number = decimal r.number;
  at = decimal r.at;
  len = decimal r.len;
  class = name_of names r.class;
  word = fate_word r.fate;
  start = fate_start r.fate;
  end = fate_end r.fate;
}

-- their bytes call for no quotes
plain_decimal : (n : ℕ) → n < 2 ^ 64 → IsPlain (decimal n)
plain_decimal n small = plain_digits (decimal n) (decimal_is_IsNumeral n small).0.1

pub plain_rule : (rule : Rule) → IsPlain (rule_word rule)
plain_rule RealTime = refl
plain_rule Share = refl
plain_rule Own = refl
plain_rule Borrow = refl

plain_reason : (reason : Reason) → IsPlain (reason_word reason)
plain_reason Full = refl
plain_reason Early = refl
plain_reason Forced = refl

record FateIsPlain (f : Fate) : Type 0 where
  word : IsPlain (fate_word f)
  start : IsPlain (fate_start f)
  end : IsPlain (fate_end f)

plain_fate : (f : Fate) → FateFits f → FateIsPlain f
plain_fate (Dropped reason) h = record { word = plain_reason reason; start = refl; end = refl }
plain_fate (Sent start end rule) h = record { word = plain_rule rule; start = plain_decimal start h.0; end = plain_decimal end h.1 }

plain_class : (names : NameList) (class : ℕ) → AreNames names → IsPlain (name_of names class)
plain_class names class good =
    of_name IsPlain names class refl (recursion_from_All (λ (q : ℕ × List ℕ). IsPlain q.1) names (λ k d inside. plain_name (get_or names k d).1 (good.named k d inside)))

pub plain_row : (names : NameList) (r : Row) → AreNames names → IsRow names r → ArePlain (texts names r)
plain_row names r good is =
    let f = plain_fate r.fate is.fate in
    record {
      number = plain_decimal r.number is.number;
      at = plain_decimal r.at is.at;
      len = plain_decimal r.len (omega (arith, is.len));
      class = plain_class names r.class good;
      word = f.word;
      start = f.start;
      end = f.end;
    }

fields_are : (names : NameList) (n : ℕ) (a : ℕ) (l : ℕ) (c : List ℕ) (f : Fate) → decimal n ∷ decimal a ∷ decimal l ∷ c ∷ fate_fields f
    ≡ decimal n ∷ decimal a ∷ decimal l ∷ c ∷ fate_word f ∷ fate_start f ∷ fate_end f ∷ []
fields_are names n a l c (Dropped reason) = refl
fields_are names n a l c (Sent start end rule) = refl

-- the text of a row is its fields, parted
pub text_joined : (names : NameList) (r : Row) (rest : List ℕ) → AreNames names → IsRow names r → text_of names r ++ rest ≡ joined (texts names r) rest
text_joined names r rest good is =
    ap (λ (fs : List (List ℕ)). row_text default_writer fs ++ rest) (fields_are names r.number r.at r.len (name_of names r.class) r.fate)
    ∙ row_joined (texts names r) rest (plain_row names r good is)

-- the rule and the reason of a word
pub rule_read : (rule : Rule) → rule_of (rule_word rule) ≡ Some rule
unfolding rule_of
rule_read RealTime = refl
rule_read Share = refl
rule_read Own = refl
rule_read Borrow = refl

reason_read : (reason : Reason) → reason_of (reason_word reason) ≡ Some reason
unfolding reason_of
reason_read Full = refl
reason_read Early = refl
reason_read Forced = refl

no_rule : (reason : Reason) → rule_of (reason_word reason) ≡ None
unfolding rule_of
no_rule Full = refl
no_rule Early = refl
no_rule Forced = refl

fate_read : (f : Fate) → FateFits f → fate_of (fate_word f) (fate_start f) (fate_end f) ≡ Some f
unfolding fate_of fate_by dropped_of sent_of
fate_read (Dropped reason) h = rw (no_rule reason, reason_read reason) refl
fate_read (Sent start end rule) h = rw (rule_read rule, number_of_decimal start h.0, number_of_decimal end h.1) refl

len_read : (n : ℕ) → n < 2 ^ 32 → len_of (decimal n) ≡ Some n
unfolding len_of
len_read n small = rw (number_of_decimal n (omega arith), lt-ltb n (2 ^ 32) small) refl

pub row_given : (names : NameList) (r : Row) (c : ℕ) → IsRow names r → class_named names (name_of names r.class) ≡ Some c
    → row_in names (texts names r) ≡ Some (record { number = r.number; at = r.at; len = r.len; class = c; fate = r.fate })
unfolding row_in
row_given names r c is named =
    rw (number_of_decimal r.number is.number, number_of_decimal r.at is.at, len_read r.len is.len, named, fate_read r.fate is.fate) refl

row_read : (names : NameList) (r : Row) → IsRow names r → (s : Row) × (row_in names (texts names r) ≡ Some s)
row_read names r is =
    let c = name_found names r.class is.class in
    (record { number = r.number; at = r.at; len = r.len; class = c.0; fate = r.fate }, row_given names r c.0 is c.1)

pub no_some : {A : Type 0} (a : A) → Some a ≡ None → ⊥
no_some a e = cc

-- where a row stands at the front of a text, one is read
pub row_there : (names : NameList) (text : List ℕ) (r : Row) (rest : List ℕ) → AreNames names → IsRow names r → text ≡ text_of names r ++ rest
    → row_of names text ≡ None → ⊥
unfolding row_of
row_there names text r rest good is e none =
    let same : text ≡ joined (texts names r) rest = e ∙ text_joined names r rest good is in
    let fields : fields_of text ≡ Some (texts names r, rest) = ap fields_of same ∙ fields_joined (texts names r) rest (plain_row names r good is) in
    let s = row_read names r is in
    let q : row_of names text ≡ Some (s.0, rest) = rw (fields, s.1) refl in
    no_some (s.0, rest) (sym q ∙ none)

pub no_row : (names : NameList) (text : List ℕ) → AreNames names → row_of names text ≡ None → HasNoRow names text
no_row names text good none = λ r rest is e. row_there names text r rest good is e none

-- and what is read stands there
test_case : (word w : List ℕ) (rule r : Rule) (o : Option Rule) (b : Bool) → bytes_eq word w ≡ b → w ≡ rule_word rule → cond b (Some rule) o ≡ Some r
    → (o ≡ Some r → word ≡ rule_word r) → word ≡ rule_word r
test_case word w rule r o true t e h more = let same : rule ≡ r = cc in (bytes_eq-Decides word w).0 t ∙ e ∙ ap rule_word same
test_case word w rule r o false t e h more = more h

rule_is : (word : List ℕ) (r : Rule) → rule_of word ≡ Some r → word ≡ rule_word r
unfolding rule_of
rule_is word r h =
    test_case word (codes "realtime") RealTime r _ (bytes_eq word (codes "realtime")) refl refl h
    (λ h. test_case word (codes "share") Share r _ (bytes_eq word (codes "share")) refl refl h
    (λ h. test_case word (codes "own") Own r _ (bytes_eq word (codes "own")) refl refl h
    (λ h. test_case word (codes "borrow") Borrow r None (bytes_eq word (codes "borrow")) refl refl h (λ h. absurd (cc)))))

reason_case : (word w : List ℕ) (reason r : Reason) (o : Option Reason) (b : Bool) → bytes_eq word w ≡ b → w ≡ reason_word reason → cond b (Some reason) o ≡ Some r
    → (o ≡ Some r → word ≡ reason_word r) → word ≡ reason_word r
reason_case word w reason r o true t e h more = let same : reason ≡ r = cc in (bytes_eq-Decides word w).0 t ∙ e ∙ ap reason_word same
reason_case word w reason r o false t e h more = more h

reason_is : (word : List ℕ) (r : Reason) → reason_of word ≡ Some r → word ≡ reason_word r
unfolding reason_of
reason_is word r h =
    reason_case word (codes "full") Full r _ (bytes_eq word (codes "full")) refl refl h
    (λ h. reason_case word (codes "early") Early r _ (bytes_eq word (codes "early")) refl refl h
    (λ h. reason_case word (codes "forced") Forced r None (bytes_eq word (codes "forced")) refl refl h (λ h. absurd (cc))))

-- a fate, and the fields that it has
record IsFate (word start end : List ℕ) (f : Fate) : Type 0 where
  fits : FateFits f
  is_word : word ≡ fate_word f
  is_start : start ≡ fate_start f
  is_end : end ≡ fate_end f

none_left : (xs : List ℕ) → eqb (length xs) 0 ≡ true → xs ≡ []
none_left [] h = refl
none_left (x ∷ xs) h = absurd (omega (arith, eqb-true (length (x ∷ xs)) 0 h))

drop_case : (word start end : List ℕ) (reason : Reason) (f : Fate) (b : Bool) → (eqb (length start) 0 && eqb (length end) 0) ≡ b → word ≡ reason_word reason
    → cond b (Some (Dropped reason)) None ≡ Some f → IsFate word start end f
drop_case word start end reason f true t w h =
    let p = and_parts (eqb (length start) 0) (eqb (length end) 0) t in
    let same : Dropped reason ≡ f = cc in
    let P : Fate → Type 0 = λ g. IsFate word start end g in
    subst P same (record { fits = tt; is_word = w; is_start = none_left start p.0; is_end = none_left end p.1 })
drop_case word start end reason f false t w h = absurd (cc)

drop_is : (word start end : List ℕ) (f : Fate) → dropped_of word start end ≡ Some f → IsFate word start end f
unfolding dropped_of
drop_is word start end f h =
    let r = bind_some (reason_of word) _ f h in
    drop_case word start end r.0 f (eqb (length start) 0 && eqb (length end) 0) refl (reason_is word r.0 r.1) r.2

sent_is : (rule : Rule) (word start end : List ℕ) (f : Fate) → word ≡ rule_word rule → sent_of rule start end ≡ Some f → IsFate word start end f
unfolding sent_of
sent_is rule word start end f w h =
    let s = bind_some (number_of start) _ f h in
    let e = bind_some (number_of end) _ f s.2 in
    let is : Some (Sent s.0 e.0 rule) ≡ Some f = e.2 in
    let same : Sent s.0 e.0 rule ≡ f = cc in
    let first = number_is start s.0 s.1 in
    let last = number_is end e.0 e.1 in
    let P : Fate → Type 0 = λ g. IsFate word start end g in
    subst P same (record { fits = (first.small, last.small); is_word = w; is_start = first.is; is_end = last.is })

fate_case : (word start end : List ℕ) (f : Fate) (o : Option Rule) → rule_of word ≡ o → fate_by o word start end ≡ Some f → IsFate word start end f
unfolding fate_by
fate_case word start end f None e h = drop_is word start end f h
fate_case word start end f (Some rule) e h = sent_is rule word start end f (rule_is word rule e) h

fate_is : (word start end : List ℕ) (f : Fate) → fate_of word start end ≡ Some f → IsFate word start end f
unfolding fate_of
fate_is word start end f h = fate_case word start end f (rule_of word) refl h

-- a length
record IsLen (text : List ℕ) (n : ℕ) : Type 0 where
  small : n < 2 ^ 32
  is : text ≡ decimal n

len_case : (text : List ℕ) (m n : ℕ) (b : Bool) → nat_lt m (2 ^ 32) ≡ b → text ≡ decimal m → cond b (Some m) None ≡ Some n → IsLen text n
len_case text m n true t e h =
    let same : m ≡ n = cc in
    record { small = omega (arith, same, ltb-true m (2 ^ 32) t); is = e ∙ ap decimal same }
len_case text m n false t e h = absurd (cc)

len_is : (text : List ℕ) (n : ℕ) → len_of text ≡ Some n → IsLen text n
unfolding len_of
len_is text n h =
    let m = bind_some (number_of text) _ n h in
    len_case text m.0 n (nat_lt m.0 (2 ^ 32)) refl (number_is text m.0 m.1).is m.2

-- a row, and the fields that it has
pub record StandsAs (names : NameList) (t : Texts) (r : Row) : Type 0 where
  pub is : IsRow names r
  pub fields : t ≡ texts names r

texts_are : (t u : Texts) → t.number ≡ u.number → t.at ≡ u.at → t.len ≡ u.len → t.class ≡ u.class → t.word ≡ u.word → t.start ≡ u.start
    → t.end ≡ u.end → t ≡ u
texts_are t u e1 e2 e3 e4 e5 e6 e7 =
    let field : Texts → Texts = λ x. record { number = x.number; at = x.at; len = x.len; class = x.class; word = x.word; start = x.start; end = x.end } in
    let same : field t ≡ field u = cc in
    same

row_is : (names : NameList) (t : Texts) (r : Row) → AreNames names → row_in names t ≡ Some r → StandsAs names t r
unfolding row_in
row_is names t r good h =
    let number = bind_some (number_of t.number) _ r h in
    let at = bind_some (number_of t.at) _ r number.2 in
    let len = bind_some (len_of t.len) _ r at.2 in
    let class = bind_some (class_named names t.class) _ r len.2 in
    let fate = bind_some (fate_of t.word t.start t.end) _ r class.2 in
    let s : Row = record { number = number.0; at = at.0; len = len.0; class = class.0; fate = fate.0 } in
    let same : s ≡ r = some_is s r fate.2 in
    let n = number_is t.number number.0 number.1 in
    let a = number_is t.at at.0 at.1 in
    let l = len_is t.len len.0 len.1 in
    let c = class_is names t.class class.0 good class.1 in
    let f = fate_is t.word t.start t.end fate.0 fate.1 in
    let whole : IsRow names s = record { class = c.class; number = n.small; at = a.small; len = l.small; fate = f.fits } in
    let fields : t ≡ texts names s =
    texts_are t (texts names s) n.is a.is l.is (sym c.is) f.is_word f.is_start f.is_end in
    let P : Row → Type 0 = λ q. StandsAs names t q in
    subst P same (record { is = whole; fields = fields })

-- what is read of a row, and what stands behind it
pub record ReadsRow (names : NameList) (text : List ℕ) (r : Row) (rest : List ℕ) : Type 0 where
  pub is : IsRow names r
  pub front : text ≡ text_of names r ++ rest

pub row_stands : (names : NameList) (text : List ℕ) (r : Row) (rest : List ℕ) → AreNames names → row_of names text ≡ Some (r, rest) → ReadsRow names text r rest
unfolding row_of
row_stands names text r rest good h =
    let fields = bind_some (fields_of text) _ (r, rest) h in
    let row = bind_some (row_in names fields.0.0) _ (r, rest) fields.2 in
    let same : (row.0, fields.0.1) ≡ (r, rest) = some_is (row.0, fields.0.1) (r, rest) row.2 in
    let s = row_is names fields.0.0 row.0 good row.1 in
    let read : text ≡ joined (texts names row.0) fields.0.1 = fields_parts text fields.0 fields.1 ∙ ap (λ (t : Texts). joined t fields.0.1) s.fields in
    let P : Row × List ℕ → Type 0 = λ q. ReadsRow names text q.0 q.1 in
    subst P same (record { is = s.is; front = read ∙ sym (text_joined names row.0 fields.0.1 good s.is) })

-- one row more
pub rows_more : (names : NameList) (rs : List Row) (r : Row) → AreRows names rs → IsRow names r → AreRows names (rs ++ r ∷ [])
rows_more names [] r are is = (is, tt)
rows_more names (q ∷ rs) r are is = (are.0, rows_more names rs r are.1 is)

texts_more : (names : NameList) (rs : List Row) (r : Row) (more : List ℕ) → texts_of names (rs ++ r ∷ []) ++ more ≡ texts_of names rs ++ (text_of names r ++ more)
texts_more names [] r more = ap (λ (front : List ℕ). front ++ more) (append-nil (text_of names r))
texts_more names (q ∷ rs) r more =
    append_assoc (text_of names q) (texts_of names (rs ++ r ∷ [])) more
    ∙ ap (λ (behind : List ℕ). text_of names q ++ behind) (texts_more names rs r more)
    ∙ sym (append_assoc (text_of names q) (texts_of names rs) (text_of names r ++ more))

pub whole_more : (names : NameList) (head text : List ℕ) (rs : List Row) (r : Row) (rest more : List ℕ) → text ≡ head ++ (texts_of names rs ++ rest)
    → rest ≡ text_of names r ++ more → text ≡ head ++ (texts_of names (rs ++ r ∷ []) ++ more)
whole_more names head text rs r rest more whole front =
    whole ∙ ap (λ (behind : List ℕ). head ++ behind) (ap (λ (behind : List ℕ). texts_of names rs ++ behind) front ∙ sym (texts_more names rs r more))

-- a row has bytes
shorter : (t : Texts) (more : List ℕ) → length more < length (joined t more)
shorter t more =
    let r6 : List ℕ = t.end ++ 10 ∷ more in
    let r5 : List ℕ = t.start ++ 44 ∷ r6 in
    let r4 : List ℕ = t.word ++ 44 ∷ r5 in
    let r3 : List ℕ = t.class ++ 44 ∷ r4 in
    let r2 : List ℕ = t.len ++ 44 ∷ r3 in
    let r1 : List ℕ = t.at ++ 44 ∷ r2 in
    omega (arith, length-append t.number (44 ∷ r1), length-append t.at (44 ∷ r2), length-append t.len (44 ∷ r3), length-append t.class (44 ∷ r4), length-append t.word (44 ∷ r5), length-append t.start (44 ∷ r6), length-append t.end (10 ∷ more))

pub row_shorter : (names : NameList) (text : List ℕ) (r : Row) (more : List ℕ) → AreNames names → ReadsRow names text r more → length more < length text
row_shorter names text r more good reads =
    omega (arith, ap length reads.front, ap length (text_joined names r more good reads.is), shorter (texts names r) more)

pub read_all : (names : NameList) (head text : List ℕ) (rs : List Row) (rest : List ℕ) → text ≡ head ++ (texts_of names rs ++ rest) → eqb (length rest) 0 ≡ true
    → text ≡ head ++ texts_of names rs
read_all names head text rs rest whole none =
    whole ∙ ap (λ (behind : List ℕ). head ++ (texts_of names rs ++ behind)) (none_left rest none) ∙ ap (λ (behind : List ℕ). head ++ behind) (append-nil (texts_of names rs))

pub some_left : (rest : List ℕ) → eqb (length rest) 0 ≡ false → 0 < length rest
some_left [] h = absurd (cc)
some_left (b ∷ rest) h = omega arith
