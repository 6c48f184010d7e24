pub mod Views
pub mod Ends
pub mod Outs
pub mod Forwarder
pub mod Starting
pub mod ForwarderWorld
pub mod Draining
pub mod Forward
