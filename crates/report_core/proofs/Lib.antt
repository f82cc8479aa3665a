pub mod Cutting
pub mod Escaping
pub mod Padding
pub mod Selected
pub mod Uses
