pub mod ByteLoops
