pub mod CommandLines
pub mod Faulty
pub mod Parsed
pub mod RunOn
pub mod Told
pub mod Taking
pub mod Givens
