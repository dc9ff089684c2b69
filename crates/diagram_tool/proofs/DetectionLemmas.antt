pub mod GapLoops
