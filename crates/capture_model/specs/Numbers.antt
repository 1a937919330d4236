-- The numbers and the names by which a status and its message tell what is wrong with a capture.
use Rattle.std.specs.Prelude.{ℕ, List, codes}
use Rattle.capture_model.specs.declared.damage.DamageKind.{DamageKind}
use Rattle.capture_model.specs.declared.damage.DamageKind.TheVariants.{ShortHead, BadMagic, BadVersion, BadLink, ShortRecord, EmptyRecord, LongRecord}

abbrev pub damage_number : DamageKind → ℕ
damage_number ShortHead = 1
damage_number BadMagic = 2
damage_number BadVersion = 3
damage_number BadLink = 4
damage_number ShortRecord = 5
damage_number EmptyRecord = 6
damage_number LongRecord = 7

abbrev pub damage_name : DamageKind → List ℕ
damage_name ShortHead = codes "ShortHead"
damage_name BadMagic = codes "BadMagic"
damage_name BadVersion = codes "BadVersion"
damage_name BadLink = codes "BadLink"
damage_name ShortRecord = codes "ShortRecord"
damage_name EmptyRecord = codes "EmptyRecord"
damage_name LongRecord = codes "LongRecord"
