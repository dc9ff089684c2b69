pub mod Detection
