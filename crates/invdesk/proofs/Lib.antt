pub mod Printing
pub mod Ending
pub mod Working
pub mod Asking
