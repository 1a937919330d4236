-- The numbers and the names by which a status and its message tell what is wrong with a pcapng capture: those of the classic form
-- where it has the kind.
use Rattle.std.specs.Prelude.{ℕ, List, codes}
use Rattle.capture_model.specs.Numbers.{damage_name, damage_number}
use Rattle.capture_model.specs.declared.damage.DamageKind.TheVariants as damage
use Rattle.pcapng_model.specs.declared.fault.NgKind.{NgKind}
use Rattle.pcapng_model.specs.declared.fault.NgKind.TheVariants.{ShortBlock, BadBlock, BadMagic, BadVersion, BadResolution, OldPacket, UnknownInterface, BadLink, LongRecord, EmptyRecord, BadStamp}

abbrev pub block_number : NgKind → ℕ
block_number ShortBlock = 9
block_number BadBlock = 8
block_number BadMagic = damage_number damage.BadMagic
block_number BadVersion = damage_number damage.BadVersion
block_number BadResolution = 12
block_number OldPacket = 13
block_number UnknownInterface = 10
block_number BadLink = damage_number damage.BadLink
block_number LongRecord = damage_number damage.LongRecord
block_number EmptyRecord = damage_number damage.EmptyRecord
block_number BadStamp = 11

abbrev pub block_name : NgKind → List ℕ
block_name ShortBlock = codes "ShortBlock"
block_name BadBlock = codes "BadBlock"
block_name BadMagic = damage_name damage.BadMagic
block_name BadVersion = damage_name damage.BadVersion
block_name BadResolution = codes "BadResolution"
block_name OldPacket = codes "OldPacket"
block_name UnknownInterface = codes "UnknownInterface"
block_name BadLink = damage_name damage.BadLink
block_name LongRecord = damage_name damage.LongRecord
block_name EmptyRecord = damage_name damage.EmptyRecord
block_name BadStamp = codes "BadStamp"
