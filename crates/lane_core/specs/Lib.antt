pub mod Alone
pub mod Forms
pub mod IndexWords
pub mod Laws
pub mod FlagWords
pub mod Steps
pub mod Traffic
