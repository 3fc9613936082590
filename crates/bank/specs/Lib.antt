pub mod Rules
pub mod Means
pub mod Checked
pub mod Bindings
pub mod Arguments
