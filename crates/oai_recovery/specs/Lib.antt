pub mod Notices
pub mod Archives
pub mod Moments
pub mod Starts
pub mod Renewals
pub mod ServedDisks
