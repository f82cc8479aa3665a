pub mod Lists
pub mod WordRows
