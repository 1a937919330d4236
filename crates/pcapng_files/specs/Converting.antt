-- A file that is being converted in its own place.
use Rattle.std.specs.Prelude.{◌≡◌, ◌≤◌, ◌*◌, ℕ, max, List, ◌++◌, map, take, drop, vec_len, All}
use Rattle.std.specs.declared.option.Option.{Option}
use Rattle.capture_model.specs.Written.{FitsCapture, record_texts}
use Rattle.pcapng_model.specs.Block.{Found, BlockContent, Tells}
use Rattle.pcapng_model.specs.Reading.{Place, Block, Next, step, past, packets_in}
use Rattle.pcapng_files.specs.Views.{interface, records_of}
use Rattle.pcapng_files.specs.declared.conversion.Conversion.{Conversion}
use Rattle.pcapng_files.specs.declared.packet.Packet.{Packet}

-- how far the file was read
abbrev pub place_of : Conversion → Place
place_of c = record { big = c.big; interfaces = map interface c.interfaces.items; count = c.packets; at = c.place }

-- what was written ends before the place, but for the capture's header of 24 bytes, whose bytes are written last; the block of an
-- interface has at least 12 bytes
pub record IsBehind (c : Conversion) : Type 0 where
  pub least : 24 ≤ c.written
  pub most : c.written ≤ max 24 c.place
  pub interfaces : 12 * vec_len c.interfaces ≤ c.place

-- the block with this body was taken, which tells this, and holds this packet
pub record Took (old new : Conversion) (t : BlockContent) (body : List ℕ) (p : Option Packet) : Type 0 where
  pub found : Found
  pub told : t ≡ Tells found
  pub place : place_of new ≡ past (place_of old) (record { found = found; after = old.place })
  pub packets : packets_in found ≡ records_of body p
  pub within : All FitsCapture (packets_in found)

-- the next block of the file was taken, and the record of its packet was written
pub record Advanced (old_bytes new_bytes : List ℕ) (old new : Conversion) : Type 0 where
  pub block : Block
  pub step_is : step old_bytes (place_of old) ≡ Next block
  pub place : place_of new ≡ past (place_of old) block
  pub written : take new.written new_bytes ≡ take old.written old_bytes ++ record_texts (packets_in block.found)
  pub unread : drop new.place new_bytes ≡ drop new.place old_bytes
  pub within : All FitsCapture (packets_in block.found)
