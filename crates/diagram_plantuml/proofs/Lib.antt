pub mod CommentLoops
pub mod JointLoops
pub mod TextLoops
