pub mod Chains
pub mod Pasts
pub mod Reaching
pub mod Rules
