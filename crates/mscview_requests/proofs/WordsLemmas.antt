pub mod HostLemmas
pub mod ReadLemmas
