pub mod Tokens
pub mod OpenLists
pub mod Inside
pub mod HeldTable
