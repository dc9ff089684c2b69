pub mod Ends
pub mod Indexes
pub mod KeptTurns
pub mod Layouts
pub mod Margin
pub mod Picking
pub mod Searching
pub mod Ways
