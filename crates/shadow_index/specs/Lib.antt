pub mod Views
pub mod Looks
pub mod Shapes
pub mod Tells
pub mod States
pub mod Forms
