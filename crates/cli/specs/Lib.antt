pub mod Tables
pub mod Reading
pub mod Requests
pub mod Forms
