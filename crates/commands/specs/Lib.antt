pub mod Table
pub mod Commands
