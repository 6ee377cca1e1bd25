pub mod Grid
pub mod Plain
pub mod Uniform
pub mod Zones
pub mod Weighted
pub mod Shifted
