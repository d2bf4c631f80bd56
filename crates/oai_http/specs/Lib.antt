pub mod Statuses
pub mod Exchanges
pub mod Answers
pub mod Bodies
pub mod Targets
