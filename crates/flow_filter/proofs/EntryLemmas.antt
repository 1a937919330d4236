-- What an entry in numbers takes is what its filter matches.
use Rattle.std.proofs.Common.{◌≡◌, ◌⊎◌, inl, inr, ⊎_elim, ℕ, ◌&&◌, Bool, true, false, List, length, Option, Some, None, refl, sym, ◌∙◌, ap, arith}
use Rattle.std.proofs.lemmas.Bool.{and_left, and_right}
use Rattle.conf_tree.specs.declared.filter.Addresses.{Addresses}
use Rattle.conf_tree.specs.declared.filter.Addresses.TheVariants as own
use Rattle.conf_tree.specs.declared.filter.Filter.{Filter}
use Rattle.packet_heads.specs.Flow as flow
use Rattle.packet_heads.specs.Flow.{Heads}
use Rattle.flow_filter.specs.declared.entry.Entry4.{Entry4}
use Rattle.flow_filter.specs.declared.entry.Entry6.{Entry6}
use Rattle.flow_filter.specs.declared.numbers.Numbers.TheVariants as numbers
use Rattle.flow_filter.specs.Entries.{Represents4, Represents6, is_under, rest_fits, rest_of}
use Rattle.flow_filter.specs.Matches.{addresses_agree_4, addresses_agree_6, agrees_under, agrees_within, is_none_or, matches, ports_agree, rest_agrees, tos_agrees}
use Rattle.flow_filter.specs.Numbers.{IsNumberOf, first_ones}
use Rattle.flow_filter.proofs.NumberLemmas.{short_under, other_within, under_by_number, within_by_number}

-- the tests in the order of the code, and in that of the definition
in_order : (a b p q t : Bool) → (a && (b && (q && (p && t)))) ≡ ((a && b) && ((p && q) && t))
in_order false b p q t = refl
in_order true false p q t = refl
in_order true true false false t = refl
in_order true true true false t = refl
in_order true true false true t = refl
in_order true true true true t = refl

fails : (a b c : Bool) → (a ≡ false) ⊎ (b ≡ false) → ((a && b) && c) ≡ false
fails a b c h = and_left (a && b) c (⊎_elim (λ e. and_left a b e) (λ e. and_right a b e) h)

ports_same : (f : Filter) (tos : ℕ) (ports : Option (ℕ × ℕ)) → rest_fits (rest_of f) tos ports ≡ (ports_agree f ports && tos_agrees f.tos tos)
ports_same f tos None = refl
ports_same f tos (Some ports) = refl

-- the two numbers of an entry of IPv4 that stand for an address and its mask
pub record IsUnder (mask own : List ℕ) (m o : ℕ) : Type 0 where
  pub mask_long : length mask ≡ 4
  pub own_long : length own ≡ 4
  pub mask_is : IsNumberOf 4 mask m
  pub own_is : IsNumberOf 4 own o

by_number_4 : (mask own : List ℕ) (m o : ℕ) → IsUnder mask own m o → (address : List ℕ) (n : ℕ) → IsNumberOf 4 address n
    → is_under m o n ≡ agrees_under mask own address
by_number_4 mask own m o u address n is = under_by_number address mask own n m o u.mask_long u.own_long is u.mask_is u.own_is

module _ (f : Filter) (t tm s sm : List ℕ) (e : Entry4) (addresses : f.addresses ≡ own.V4 t tm s sm)
    (rest : e.rest ≡ rest_of f) (target : IsUnder tm t e.target_mask e.target) (source : IsUnder sm s e.source_mask e.source) where
  agree_4 : (heads : Heads) → matches f (flow.V4 heads)
      ≡ ((agrees_under tm t heads.target && agrees_under sm s heads.source) && rest_agrees f heads.tos heads.protocol heads.ports)
  agree_4 heads = ap (λ (a : Addresses). addresses_agree_4 a heads.source heads.target && rest_agrees f heads.tos heads.protocol heads.ports) addresses

  pub stands_4 : Represents4 e (Some f)
  stands_4 heads None short =
      let none : (agrees_under tm t heads.target ≡ false) ⊎ (agrees_under sm s heads.source ≡ false) =
      ⊎_elim (λ h. inr (short_under heads.source sm s (omega (arith, source.own_long)))) (λ h. inl (short_under heads.target tm t (omega (arith, target.own_long)))) short in
      sym (agree_4 heads ∙ fails _ _ (rest_agrees f heads.tos heads.protocol heads.ports) none)
  stands_4 heads (Some (numbers.V6 n)) other = absurd other
  stands_4 heads (Some (numbers.V4 n)) is =
      let to = by_number_4 tm t e.target_mask e.target target heads.target n.target is.target in
      let from = by_number_4 sm s e.source_mask e.source source heads.source n.source is.source in
      rw (rest, is.tos, is.protocol, is.ports, to, from, ports_same f heads.tos heads.ports, agree_4 heads)
      (in_order (agrees_under tm t heads.target) (agrees_under sm s heads.source) (ports_agree f heads.ports) (is_none_or f.protocol heads.protocol) (tos_agrees f.tos heads.tos))

-- the same of IPv6, under the first bits
pub record IsInMask (bits : ℕ) (own : List ℕ) (m o : ℕ) : Type 0 where
  pub own_long : length own ≡ 16
  pub mask_is : m ≡ first_ones bits
  pub own_is : IsNumberOf 16 own o

by_number_6 : (bits : ℕ) (own : List ℕ) (m o : ℕ) → IsInMask bits own m o → (address : List ℕ) (n : ℕ) → length address ≡ 16 → IsNumberOf 16 address n
    → is_under m o n ≡ agrees_within bits own address
by_number_6 bits own m o w address n long is =
    ap (λ (k : ℕ). is_under k o n) w.mask_is ∙ within_by_number bits address own n o long w.own_long is w.own_is

module _ (f : Filter) (t : List ℕ) (tl : ℕ) (s : List ℕ) (sl : ℕ) (e : Entry6) (addresses : f.addresses ≡ own.V6 t tl s sl)
    (rest : e.rest ≡ rest_of f) (target : IsInMask tl t e.target_mask e.target) (source : IsInMask sl s e.source_mask e.source) where
  agree_6 : (heads : Heads) → matches f (flow.V6 heads)
      ≡ ((agrees_within tl t heads.target && agrees_within sl s heads.source) && rest_agrees f heads.tos heads.protocol heads.ports)
  agree_6 heads = ap (λ (a : Addresses). addresses_agree_6 a heads.source heads.target && rest_agrees f heads.tos heads.protocol heads.ports) addresses

  pub stands_6 : Represents6 e (Some f)
  stands_6 heads None short =
      let none : (agrees_within tl t heads.target ≡ false) ⊎ (agrees_within sl s heads.source ≡ false) =
      ⊎_elim (λ h. inr (other_within sl heads.source s (λ same. h (same ∙ source.own_long)))) (λ h. inl (other_within tl heads.target t (λ same. h (same ∙ target.own_long)))) short in
      sym (agree_6 heads ∙ fails _ _ (rest_agrees f heads.tos heads.protocol heads.ports) none)
  stands_6 heads (Some (numbers.V4 n)) other = absurd other
  stands_6 heads (Some (numbers.V6 n)) is =
      let to = by_number_6 tl t e.target_mask e.target target heads.target n.target is.target_long is.target in
      let from = by_number_6 sl s e.source_mask e.source source heads.source n.source is.source_long is.source in
      rw (rest, is.tos, is.protocol, is.ports, to, from, ports_same f heads.tos heads.ports, agree_6 heads)
      (in_order (agrees_within tl t heads.target) (agrees_within sl s heads.source) (ports_agree f heads.ports) (is_none_or f.protocol heads.protocol) (tos_agrees f.tos heads.tos))
