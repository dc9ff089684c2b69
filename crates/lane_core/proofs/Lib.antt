pub mod Calls
pub mod FormLaws
pub mod IndexLaws
pub mod IndexRuns
pub mod Passing
pub mod Rings
pub mod FlagLaws
pub mod FlagRuns
