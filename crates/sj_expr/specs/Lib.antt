pub mod Ends
pub mod Factors
pub mod Laws
pub mod Leaves
pub mod Operands
pub mod Read
pub mod Signs
pub mod Viable
