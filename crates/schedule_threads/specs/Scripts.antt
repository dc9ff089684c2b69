pub use Rattle.behaviour.specs.Scripts
pub use Rattle.schedule.specs.Plans
pub mod InstanceScripts
