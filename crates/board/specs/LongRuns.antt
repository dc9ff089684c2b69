pub mod CarriedHistories
pub mod CarryingOver
pub mod CarryingSteps
pub mod Laws
