pub mod Conditioners
