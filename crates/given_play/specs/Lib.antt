pub mod Packets
pub mod Rights
