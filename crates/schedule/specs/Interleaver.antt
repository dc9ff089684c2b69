pub mod Draws
pub mod Interleavings
pub use Rattle.rand_core.specs.Pcg32Seed
pub use Rattle.rand_core.specs.Steps
pub use Rattle.rand_pcg.specs.Lcg
pub use Rattle.rand_pcg.specs.Pcg
