pub mod Asked
pub mod EventLines
pub mod ExchangeLines
pub mod Inputs
pub mod NumberedLines
pub mod Outputs
pub mod Stops
pub mod Traces
