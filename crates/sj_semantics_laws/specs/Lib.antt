pub mod AgencySamples
pub mod Bound
pub mod HandoverSamples
pub mod OpeningSamples
pub mod Openless
pub mod Runs
pub mod Samples
pub mod Unshared
