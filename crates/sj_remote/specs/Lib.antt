pub mod Conn
pub mod Answers
pub mod Numbers
pub mod Streams
pub mod Passwords
pub mod Talks
