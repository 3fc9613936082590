pub mod Keeping
pub mod Promising
pub mod GoalRuns
pub mod Determined
