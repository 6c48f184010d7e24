pub mod QuietLemmas
pub mod AgainLemmas
pub mod OnlyLemmas
