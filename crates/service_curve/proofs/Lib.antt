pub mod Amounts
pub mod Firsts
