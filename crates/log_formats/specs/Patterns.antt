pub mod Expressions
pub mod Feeds
pub mod Found
pub mod Groups
pub mod Missing
pub mod Observing
pub mod PatternReading
pub mod Unread
