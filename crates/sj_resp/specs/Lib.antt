pub mod Bytes
pub mod Limits
pub mod Token
pub mod Numbers
pub mod Front
pub mod Reads
pub mod Spelling
pub mod Command
