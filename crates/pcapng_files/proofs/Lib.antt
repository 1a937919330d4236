pub mod BackLaws
pub mod ConvertingLemmas
pub mod FrontLaws
pub mod OptionLemmas
pub mod PacketLemmas
pub mod RecordLemmas
pub mod StampLemmas
pub mod UnreadLemmas
