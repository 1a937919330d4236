pub mod Dues
pub mod Leaf
pub mod Overdue
pub mod Timely
