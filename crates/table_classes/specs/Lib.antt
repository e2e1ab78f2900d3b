pub mod Classed
pub mod Masks
pub mod ClassesMean
