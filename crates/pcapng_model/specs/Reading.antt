-- The reading of a file in the pcapng format (IETF draft-ietf-opsawg-pcapng): blocks one after another, in sections that begin with a
-- section header. Interfaces are counted from 0 in each section.
use Rattle.std.specs.Prelude.{◌≡◌, ◌+◌, ◌++◌, ℕ, zero, suc, Bool, false, nat_lt, nat_le, List, [], ◌∷◌, length, if◌then◌else◌}
use Rattle.capture_model.specs.Capture.{Record, most_bytes}
use Rattle.pcapng_model.specs.Block.{Framed, Whole, Broken, Found, NewSection, NewInterface, Packet, Passed, BlockContent, Tells, Refuses, TooMany, framed, told}
use Rattle.pcapng_model.specs.Interface.{Interface}
use Rattle.pcapng_model.specs.declared.fault.NgKind.{NgKind}
use Rattle.pcapng_model.specs.declared.fault.NgPlace.{NgPlace}

-- how far a file was read: the order of bytes and the interfaces of the section, the count of the packets, and the next place
pub record Place : Type 0 where
  pub big : Bool
  pub interfaces : List Interface
  pub count : ℕ
  pub at : ℕ

-- A pcapng file begins with a section header, which shows its order of bytes: the order here is that of no such file.
abbrev pub start : Place
start = record { big = false; interfaces = []; count = 0; at = 0 }

-- a block that was read: what it holds, and the place behind it
pub record Block : Type 0 where
  pub found : Found
  pub after : ℕ

-- what stands at a place: the end of the file, a block, the first test that fails, or a limit
pub data Step : Type 0 where
  End : Step
  Next : Block → Step
  Fault : NgPlace → Step
  Limit : Step

abbrev pub fault : ℕ → NgKind → Step
fault place kind = Fault (record { place = place; kind = kind })

abbrev pub step_by : (at after : ℕ) → BlockContent → Step
step_by at after (Tells found) = Next (record { found = found; after = after })
step_by at after (Refuses kind) = fault at kind
step_by at after TooMany = Limit

abbrev pub step_in : Place → Framed → Step
step_in p (Broken kind) = fault p.at kind
step_in p (Whole big kind body after) = step_by p.at after (told big kind body p.interfaces p.count)

-- the size of the file is tested at every block
abbrev pub step : List ℕ → Place → Step
step bytes p =
    if nat_le (length bytes) p.at then End
    else if nat_lt most_bytes (length bytes) then Limit
    else step_in p (framed p.big bytes p.at)

-- a section header begins a section of its own order and without interfaces
abbrev pub big_after : Bool → Found → Bool
big_after big (NewSection own) = own
big_after big (NewInterface i) = big
big_after big (Packet r) = big
big_after big Passed = big

abbrev pub interfaces_after : List Interface → Found → List Interface
interfaces_after interfaces (NewSection own) = []
interfaces_after interfaces (NewInterface i) = interfaces ++ i ∷ []
interfaces_after interfaces (Packet r) = interfaces
interfaces_after interfaces Passed = interfaces

abbrev pub packets_in : Found → List Record
packets_in (NewSection own) = []
packets_in (NewInterface i) = []
packets_in (Packet r) = r ∷ []
packets_in Passed = []

abbrev pub past : Place → Block → Place
past p b = record {
  big = big_after p.big b.found;
  interfaces = interfaces_after p.interfaces b.found;
  count = p.count + length (packets_in b.found);
  at = b.after;
}

abbrev pub past_all : Place → List Block → Place
past_all p [] = p
past_all p (b ∷ bs) = past_all (past p b) bs

-- the packets of blocks, in their order
abbrev pub packets : List Block → List Record
packets [] = []
packets (b ∷ bs) = packets_in b.found ++ packets bs

-- from a place on these blocks stand, one behind another
abbrev pub Stand : List ℕ → Place → List Block → Type 0
Stand bytes p [] = Unit {0}
Stand bytes p (b ∷ bs) = (step bytes p ≡ Next b) × Stand bytes (past p b) bs

-- what may stand behind the blocks
abbrev pub IsLast : Step → Type 0
IsLast End = Unit {0}
IsLast (Next b) = ⊥
IsLast (Fault f) = Unit {0}
IsLast Limit = Unit {0}

-- from a place on these are the packets of the blocks, and behind these comes the file's end, its first fault or its limit
pub record ReadsFrom (bytes : List ℕ) (p : Place) (records : List Record) (last : Step) : Type 0 where
  pub blocks : List Block
  pub stand : Stand bytes p blocks
  pub ended : step bytes (past_all p blocks) ≡ last
  pub packets_are : packets blocks ≡ records

abbrev pub Reads : List ℕ → List Record → Step → Type 0
Reads bytes records last = ReadsFrom bytes start records last

-- the bytes are a pcapng capture of these packets
abbrev pub IsPcapng : List ℕ → List Record → Type 0
IsPcapng bytes records = Reads bytes records End

-- the reading, computed, over at most as many blocks as are asked for
pub record Outcome : Type 0 where
  pub records : List Record
  pub last : Step

abbrev pub more : List Record → Outcome → Outcome
more rs o = record { records = rs ++ o.records; last = o.last }

abbrev pub outcome_on : (turns : ℕ) → List ℕ → Place → Outcome
outcome_on zero bytes p = record { records = []; last = step bytes p }
outcome_on (suc turns) bytes p =
    elim (step bytes p) [
      | End ↦ record { records = []; last = End }
      | Next b ↦ more (packets_in b.found) (outcome_on turns bytes (past p b))
      | Fault f ↦ record { records = []; last = Fault f }
      | Limit ↦ record { records = []; last = Limit }
    ]

abbrev pub outcome : List ℕ → Outcome
outcome bytes = outcome_on (length bytes) bytes start
