mod Blocks
pub mod Covering
pub mod Parents
pub mod Ancestors
pub mod Additions
pub mod Places
pub mod Cuts
pub mod EscapeCuts
pub mod Lists
pub mod Numbered
pub mod PlainTexts
