pub mod Rows
pub mod Iterators
pub mod Restricting
pub mod Grouping
pub mod Regions
pub mod Layouts
pub mod Views
pub mod Temporaries
