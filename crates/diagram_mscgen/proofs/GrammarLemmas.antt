pub mod ByteLoops
pub mod ItemLoops
pub mod SignLemmas
pub mod TokenLoops
pub mod WordLists
