pub mod Generating
pub mod Packets
