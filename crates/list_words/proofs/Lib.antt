pub mod WordedLists
