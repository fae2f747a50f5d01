pub mod Runs
pub mod Report
pub mod Headline
pub mod Images
pub mod Chains
