-- Filters over every address.
use Rattle.std.proofs.Common.{◌≡◌, ℕ, suc, ◌/◌, ◌<◌, ◌==◌, ◌&&◌, ◌||◌, Bool, true, false, List, [], ◌∷◌, length, replicate, Option, Some, None, refl, arith}
use Rattle.std.specs.Prelude.{All}
use Rattle.std.specs.Int.Bits.{and_zero_r}
use Rattle.std.proofs.Math.Nat.{div-eq_of_lt}
use Rattle.std.proofs.lemmas.List.Elements.{All-head, All-tail}
use Rattle.conf_tree.specs.Masks.{upper}
use Rattle.std.specs.List.{list_any}
use Rattle.conf_tree.specs.declared.filter.Addresses.{Addresses}
use Rattle.packet_heads.specs.Flow.{Flow, Heads, V4, V6, Other}
use Rattle.flow_filter.specs.Laws.{is_control}
use Rattle.flow_filter.proofs.Frames.{IsAddress, HasWholeAddresses}
use Rattle.flow_filter.specs.Matches.{agrees_under, agrees_within, ports_agree, matches}
use Rattle.flow_filter.specs.Rules.{every_4, every_6, protocol_filter, filters_of_control}

-- a mask of `count` zeros
pub under_zero : (address : List ℕ) (count : ℕ) → length address ≡ count → agrees_under (replicate count 0) (replicate count 0) address ≡ true
under_zero [] count h = let none : count ≡ 0 = omega arith in rw none refl
under_zero (byte ∷ address) count h =
    let one : count ≡ suc (length address) = omega arith in
    rw (one, and_zero_r byte) (under_zero address (length address) refl)

upper_zero : (byte : ℕ) → byte < 256 → upper 0 byte ≡ 0
upper_zero byte h = let small : byte / 256 ≡ 0 = div-eq_of_lt h in rw small refl

pub within_zero : (address : List ℕ) (count : ℕ) → length address ≡ count → All (λ byte. byte < 256) address → agrees_within 0 (replicate count 0) address ≡ true
within_zero [] count h all = let none : count ≡ 0 = omega arith in rw none refl
within_zero (byte ∷ address) count h all =
    let one : count ≡ suc (length address) = omega arith in
    rw (one, upper_zero byte (All-head (λ byte. byte < 256) byte address all))
    (within_zero address (length address) refl (All-tail (λ byte. byte < 256) byte address all))

-- without ports every flow agrees
no_ports : (class protocol : ℕ) (addresses : Addresses) (ports : Option (ℕ × ℕ)) → ports_agree (protocol_filter class addresses protocol) ports ≡ true
no_ports class protocol addresses None = refl
no_ports class protocol addresses (Some ports) = refl

only_protocol : (target source ports none equal : Bool) → target ≡ true → source ≡ true → ports ≡ true → none ≡ false
    → ((target && source) && ((ports && (none || equal)) && true)) ≡ equal
only_protocol target source ports none true t s o n = rw (t, s, o, n) refl
only_protocol target source ports none false t s o n = rw (t, s, o, n) refl

pub over_4 : (class protocol : ℕ) (heads : Heads) → IsAddress 4 heads.source → IsAddress 4 heads.target → (protocol == 0) ≡ false
    → matches (protocol_filter class every_4 protocol) (V4 heads) ≡ (protocol == heads.protocol)
over_4 class protocol heads source target n =
    only_protocol (agrees_under (replicate 4 0) (replicate 4 0) heads.target) (agrees_under (replicate 4 0) (replicate 4 0) heads.source)
    (ports_agree (protocol_filter class every_4 protocol) heads.ports) (protocol == 0) (protocol == heads.protocol)
    (under_zero heads.target 4 target.whole) (under_zero heads.source 4 source.whole) (no_ports class protocol every_4 heads.ports) n

pub over_6 : (class protocol : ℕ) (heads : Heads) → IsAddress 16 heads.source → IsAddress 16 heads.target → (protocol == 0) ≡ false
    → matches (protocol_filter class every_6 protocol) (V6 heads) ≡ (protocol == heads.protocol)
over_6 class protocol heads source target n =
    only_protocol (agrees_within 0 (replicate 16 0) heads.target) (agrees_within 0 (replicate 16 0) heads.source)
    (ports_agree (protocol_filter class every_6 protocol) heads.ports) (protocol == 0) (protocol == heads.protocol)
    (within_zero heads.target 16 target.whole target.bytes) (within_zero heads.source 16 source.whole source.bytes) (no_ports class protocol every_6 heads.ports) n

-- those of control
nothing_behind : (a b c : Bool) → (a || (b || (c || (false || false)))) ≡ (a || (b || (c || false)))
nothing_behind true b c = refl
nothing_behind false true c = refl
nothing_behind false false true = refl
nothing_behind false false false = refl

alone : (a : Bool) → (a || false) ≡ a
alone true = refl
alone false = refl

pub control_matches : (class : ℕ) (flow : Flow) → HasWholeAddresses flow → list_any (λ f. matches f flow) (filters_of_control class) ≡ is_control flow
control_matches class (V4 heads) h =
    rw (over_4 class 1 heads h.0 h.1 refl, over_4 class 2 heads h.0 h.1 refl, over_4 class 46 heads h.0 h.1 refl)
    (nothing_behind (1 == heads.protocol) (2 == heads.protocol) (46 == heads.protocol))
control_matches class (V6 heads) h = rw (over_6 class 58 heads h.0 h.1 refl) (alone (58 == heads.protocol))
control_matches class Other h = refl
