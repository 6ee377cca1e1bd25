pub mod Stacked
