pub mod Table
pub mod Trial
