pub mod Puts
pub mod SoFar
pub mod Words
pub mod ForCallers
