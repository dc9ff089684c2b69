pub mod Laws
pub mod Mailboxes
pub mod TakingAny
