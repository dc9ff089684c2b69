pub mod Arcs
pub mod Entities
pub mod Reading
pub mod Texts
