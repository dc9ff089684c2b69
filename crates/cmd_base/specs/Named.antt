pub mod Asked
pub mod NamedRefusals
