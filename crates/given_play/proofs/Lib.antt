pub mod PacketLemmas
