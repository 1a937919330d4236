pub mod Addresses
pub mod Packets
pub mod Frames
pub mod Words
pub mod Retagging
pub mod Lengths
