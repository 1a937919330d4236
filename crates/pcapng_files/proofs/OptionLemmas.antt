-- Options, one after another.
use Rattle.std.specs.Prelude.{◌≡◌, ◌≢◌, ◌≤◌, ◌<◌, ◌+◌, ◌==◌, ◌||◌, ℕ, zero, suc, Bool, true, false, nat_lt, nat_le, List, length, drop, None, Some}
use Rattle.std.specs.Prelude.{if◌then◌else◌}
use Rattle.std.specs.declared.option.Option.{Option}
use Rattle.std.proofs.Common.{◌∙◌, refl, ap, sym, subst, arith, length-drop}
use Rattle.pcapng_model.specs.Interface.{Settings, options_on, set_by}
use Rattle.pcapng_model.specs.Number.{number, padded}

pub is_less : (m n : ℕ) → m < n → nat_lt m n ≡ true
is_less m n h = grind (arith, h)

pub not_less : (m n : ℕ) → n ≤ m → nat_lt m n ≡ false
not_less m n h = grind (arith, h)

pub more_left : (m n : ℕ) → n < m → nat_le m n ≡ false
more_left m n h = grind (arith, h)

pub is_other : (m n : ℕ) → m ≢ n → (m == n) ≡ false
is_other m n h = grind (arith, h)

pub is_same : (m n : ℕ) → m ≡ n → (m == n) ≡ true
is_same m n h = grind (arith, h)

or_left : (a b : Bool) → a ≡ true → (a || b) ≡ true
or_left true b h = refl
or_left false b h = absurd (cc)

neither : (a b : Bool) → a ≡ false → b ≡ false → (a || b) ≡ false
neither true b h k = absurd (cc)
neither false b h k = k

or_right : (a b : Bool) → b ≡ true → (a || b) ≡ true
or_right true b h = refl
or_right false b h = h

-- one turn: where the options end, where one ends past the bytes, what it sets, and what follows
abbrev turn : (ends past : Bool) → Option Settings → Settings → (Settings → Option Settings) → Option Settings
turn ends past set s rest =
    elim ends [
      | true ↦ Some s
      | false ↦ elim (if past then None else set) [
        | None ↦ None
        | Some next ↦ rest next
      ]
    ]

turn_ends : (ends past : Bool) (set : Option Settings) (s : Settings) (rest : Settings → Option Settings) → ends ≡ true → turn ends past set s rest ≡ Some s
turn_ends true past set s rest h = refl
turn_ends false past set s rest h = absurd (cc)

turn_past : (ends past : Bool) (set : Option Settings) (s : Settings) (rest : Settings → Option Settings) → ends ≡ false → past ≡ true → turn ends past set s rest ≡ None
turn_past true past set s rest h k = absurd (cc)
turn_past false true set s rest h k = refl
turn_past false false set s rest h k = absurd (cc)

turn_none : (ends past : Bool) (set : Option Settings) (s : Settings) (rest : Settings → Option Settings) → ends ≡ false → set ≡ None → turn ends past set s rest ≡ None
turn_none true past set s rest h k = absurd (cc)
turn_none false true set s rest h k = refl
turn_none false false None s rest h k = refl
turn_none false false (Some next) s rest h k = absurd (cc)

same_some : (a b : Settings) → Some a ≡ Some b → a ≡ b
same_some a b h = cc

turn_next : (ends past : Bool) (set : Option Settings) (s next : Settings) (rest : Settings → Option Settings) → ends ≡ false → past ≡ false → set ≡ Some next
    → turn ends past set s rest ≡ rest next
turn_next true past set s next rest h p k = absurd (cc)
turn_next false true set s next rest h p k = absurd (cc)
turn_next false false None s next rest h p k = absurd (cc)
turn_next false false (Some found) s next rest h p k = ap rest (same_some found next k)

-- what the options of these bytes are, by their first one
abbrev first_of_them : (n : ℕ) (big : Bool) (rest : List ℕ) (s : Settings) → Option Settings
first_of_them n big rest s =
    turn (nat_lt (length rest) 4 || (number big 2 rest 0 == 0)) (nat_lt (length rest) (4 + padded (number big 2 rest 2)))
    (set_by big (number big 2 rest 0) (number big 2 rest 2) (drop 4 rest) s) s
    (λ next. options_on n big (drop (4 + padded (number big 2 rest 2)) rest) next)

one_turn : (n : ℕ) (big : Bool) (rest : List ℕ) (s : Settings) → options_on (suc n) big rest s ≡ first_of_them n big rest s
one_turn n big rest s = refl

-- fewer bytes than an option has
pub ends_short : (n : ℕ) (big : Bool) (rest : List ℕ) (s : Settings) → length rest < 4 → options_on n big rest s ≡ Some s
ends_short zero big rest s h = refl
ends_short (suc n) big rest s h =
    one_turn n big rest s
    ∙ turn_ends _ (nat_lt (length rest) (4 + padded (number big 2 rest 2))) (set_by big (number big 2 rest 0) (number big 2 rest 2) (drop 4 rest) s) s
    (λ next. options_on n big (drop (4 + padded (number big 2 rest 2)) rest) next) (or_left (nat_lt (length rest) 4) (number big 2 rest 0 == 0) (is_less (length rest) 4 h))

-- code 0
pub ends_coded : (n : ℕ) (big : Bool) (rest : List ℕ) (s : Settings) → number big 2 rest 0 ≡ 0 → options_on n big rest s ≡ Some s
ends_coded zero big rest s h = refl
ends_coded (suc n) big rest s h =
    one_turn n big rest s
    ∙ turn_ends _ (nat_lt (length rest) (4 + padded (number big 2 rest 2))) (set_by big (number big 2 rest 0) (number big 2 rest 2) (drop 4 rest) s) s
    (λ next. options_on n big (drop (4 + padded (number big 2 rest 2)) rest) next) (or_right (nat_lt (length rest) 4) (number big 2 rest 0 == 0) (is_same (number big 2 rest 0) 0 h))

goes_on : (big : Bool) (rest : List ℕ) → 4 ≤ length rest → number big 2 rest 0 ≢ 0 → (nat_lt (length rest) 4 || (number big 2 rest 0 == 0)) ≡ false
goes_on big rest long code = neither (nat_lt (length rest) 4) (number big 2 rest 0 == 0) (not_less (length rest) 4 long) (is_other (number big 2 rest 0) 0 code)

-- an option that ends past the bytes
pub past_the_end : (n : ℕ) (big : Bool) (rest : List ℕ) (s : Settings) → 4 ≤ length rest → length rest ≤ n → number big 2 rest 0 ≢ 0
    → length rest < 4 + padded (number big 2 rest 2) → options_on n big rest s ≡ None
past_the_end zero big rest s long turns code h = absurd (omega (arith, long, turns))
past_the_end (suc n) big rest s long turns code h =
    one_turn n big rest s ∙ turn_past _ _ _ s _ (goes_on big rest long code) (is_less (length rest) (4 + padded (number big 2 rest 2)) h)

-- an option, as it was read
pub record IsOption (big : Bool) (rest : List ℕ) (code len : ℕ) (value : List ℕ) : Type 0 where
  pub long : 4 ≤ length rest
  pub code_is : code ≡ number big 2 rest 0
  pub some : code ≢ 0
  pub len_is : len ≡ number big 2 rest 2
  pub value_is : value ≡ drop 4 rest

same_set : (big : Bool) (rest : List ℕ) (code len : ℕ) (value : List ℕ) (s : Settings) → IsOption big rest code len value
    → set_by big (number big 2 rest 0) (number big 2 rest 2) (drop 4 rest) s ≡ set_by big code len value s
same_set big rest code len value s o =
    ap (λ (k : ℕ). set_by big k (number big 2 rest 2) (drop 4 rest) s) (sym o.code_is)
    ∙ ap (λ (k : ℕ). set_by big code k (drop 4 rest) s) (sym o.len_is)
    ∙ ap (λ (v : List ℕ). set_by big code len v s) (sym o.value_is)

on : (big : Bool) (rest : List ℕ) (code len : ℕ) (value : List ℕ) → IsOption big rest code len value
    → (nat_lt (length rest) 4 || (number big 2 rest 0 == 0)) ≡ false
on big rest code len value o = goes_on big rest o.long (λ e. o.some (o.code_is ∙ e))

-- an option whose code forbids its length
pub forbidden : (n : ℕ) (big : Bool) (rest : List ℕ) (s : Settings) (code len : ℕ) (value : List ℕ) → IsOption big rest code len value
    → length rest ≤ n → set_by big code len value s ≡ None → options_on n big rest s ≡ None
forbidden zero big rest s code len value o turns h = absurd (omega (arith, o.long, turns))
forbidden (suc n) big rest s code len value o turns h =
    one_turn n big rest s ∙ turn_none _ _ _ s _ (on big rest code len value o) (same_set big rest code len value s o ∙ h)

-- the options that follow one, in fewer turns
pub record Follows (n : ℕ) (big : Bool) (rest : List ℕ) (s : Settings) (others : List ℕ) (next : Settings) : Type 0 where
  pub turns : ℕ
  pub enough : length others ≤ turns
  pub same : options_on n big rest s ≡ options_on turns big others next

pub follows : (n : ℕ) (big : Bool) (rest : List ℕ) (s next : Settings) (code len : ℕ) (value others : List ℕ) → IsOption big rest code len value
    → length rest ≤ n → 4 + padded len ≤ length rest → set_by big code len value s ≡ Some next → others ≡ drop (4 + padded len) rest
    → Follows n big rest s others next
follows zero big rest s next code len value others o turns fits h is = absurd (omega (arith, o.long, turns))
follows (suc n) big rest s next code len value others o turns fits h is =
    let room : 4 + padded (number big 2 rest 2) ≤ length rest = subst (λ (k : ℕ). 4 + padded k ≤ length rest) o.len_is fits in
    let same_rest : drop (4 + padded (number big 2 rest 2)) rest ≡ others = ap (λ (k : ℕ). drop (4 + padded k) rest) (sym o.len_is) ∙ sym is in
    record {
      turns = n;
      enough = omega (arith, ap (length {A = ℕ}) is, length-drop (4 + padded len) rest, turns);
      same = one_turn n big rest s
          ∙ turn_next _ _ _ s next _ (on big rest code len value o) (not_less (length rest) (4 + padded (number big 2 rest 2)) room)
          (same_set big rest code len value s o ∙ h)
          ∙ ap (λ (r : List ℕ). options_on n big r next) same_rest;
    }
