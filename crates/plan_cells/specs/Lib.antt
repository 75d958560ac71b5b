-- The work slice: its regions, its pairs of cells, and what a step leaves alone in it.
pub mod Cells
pub mod Outside
