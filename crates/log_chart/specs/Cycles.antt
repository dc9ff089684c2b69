pub mod Choosing
pub mod Freeing
pub mod HandingOver
pub mod Order
pub mod Searching
pub mod Sources
pub mod Turns
