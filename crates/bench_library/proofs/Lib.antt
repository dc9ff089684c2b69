pub mod Partnering
