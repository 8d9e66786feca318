pub mod OfSheets
