pub mod Begins
pub mod Fitting
pub mod Headline
