pub mod Cells
pub mod Numbered
pub mod Comparisons
pub mod Faults
pub mod Tables
pub mod Printed
