pub mod Bodies
pub mod End
pub mod Lines
pub mod Views
