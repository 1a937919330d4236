-- A flow in numbers: each of its addresses as the number that its bytes are, the highest first.
use Rattle.std.specs.Prelude.{◌≡◌, ◌≢◌, ◌⊎◌, ◌<◌, ◌≤◌, ◌-◌, ◌^◌, ℕ, List, length, All, Option, Some, None}
use Rattle.byteorder.specs.Endian.{big_number}
use Rattle.packet_heads.specs.Flow.{Flow, Heads, V4, V6, Other}
use Rattle.flow_filter.specs.declared.numbers.Numbers.{Numbers}
use Rattle.flow_filter.specs.declared.numbers.Numbers.TheVariants as numbers
use Rattle.flow_filter.specs.declared.numbers.Numbers4.{Numbers4}
use Rattle.flow_filter.specs.declared.numbers.Numbers6.{Numbers6}

-- the number of the first `count` bytes of an address
pub record IsNumberOf (count : ℕ) (address : List ℕ) (number : ℕ) : Type 0 where
  pub long : count ≤ length address
  pub bytes : All (λ byte. byte < 256) address
  pub number_is : number ≡ big_number count address

-- the number whose first `bits` of 128 bits are 1, and whose others are 0
abbrev pub first_ones : (bits : ℕ) → ℕ
first_ones bits = 2 ^ 128 - 2 ^ (128 - bits)

pub record AreNumbers4 (heads : Heads) (flow : Numbers4) : Type 0 where
  pub source : IsNumberOf 4 heads.source flow.source
  pub target : IsNumberOf 4 heads.target flow.target
  pub tos : flow.tos ≡ heads.tos
  pub protocol : flow.protocol ≡ heads.protocol
  pub ports : flow.ports ≡ heads.ports

pub record AreNumbers6 (heads : Heads) (flow : Numbers6) : Type 0 where
  pub source_long : length heads.source ≡ 16
  pub target_long : length heads.target ≡ 16
  pub source : IsNumberOf 16 heads.source flow.source
  pub target : IsNumberOf 16 heads.target flow.target
  pub tos : flow.tos ≡ heads.tos
  pub protocol : flow.protocol ≡ heads.protocol
  pub ports : flow.ports ≡ heads.ports

-- those of a flow; none where an address has not the bytes that its version asks for
abbrev pub AreNumbersOf : Flow → Option Numbers → Type 0
AreNumbersOf (V4 heads) None = (length heads.source < 4) ⊎ (length heads.target < 4)
AreNumbersOf (V4 heads) (Some (numbers.V4 flow)) = AreNumbers4 heads flow
AreNumbersOf (V4 heads) (Some (numbers.V6 flow)) = ⊥
AreNumbersOf (V6 heads) None = (length heads.source ≢ 16) ⊎ (length heads.target ≢ 16)
AreNumbersOf (V6 heads) (Some (numbers.V4 flow)) = ⊥
AreNumbersOf (V6 heads) (Some (numbers.V6 flow)) = AreNumbers6 heads flow
AreNumbersOf Other found = found ≡ None

-- the ports of a flow that has any, the source's first
abbrev pub ports_in : Numbers → Option (ℕ × ℕ)
ports_in (numbers.V4 flow) = flow.ports
ports_in (numbers.V6 flow) = flow.ports
