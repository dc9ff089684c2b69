pub mod DiagnosticLines
pub mod EventsRead
pub mod AlikeHosts
pub mod Diagnostics
pub mod Claims
