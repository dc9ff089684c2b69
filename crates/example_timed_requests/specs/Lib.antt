pub mod Clients
pub mod Letters
pub mod Loggers
pub mod Servers
