-- The laws that several modules, or other crates, use.
mod Choice
pub mod Equal
mod Fields
pub mod MinMaxLaws
pub mod NotANumber
pub mod Numbers
mod Orders
pub mod Signs
mod SmallestUnits
pub mod Whole
