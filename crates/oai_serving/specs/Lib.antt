pub mod Received
pub mod Links
pub mod Inside
pub mod Accepted
pub mod Tables
pub mod Rounds
pub mod ServerInside
pub mod Wrappers
