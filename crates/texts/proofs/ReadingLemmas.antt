pub mod FirstBytes
pub mod NamedWords
