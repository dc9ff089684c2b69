pub mod DiagramPages
