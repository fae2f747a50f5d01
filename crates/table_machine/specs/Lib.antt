-- The definitions, in the order to read them. First what the kernel keeps.
pub mod Tables
-- What it does: the pieces of a verdict, a step of a seat, and an event.
pub mod Places
pub mod Seats
pub mod Events
-- Which states of the event machine it stands for, over which device.
pub mod Represents
-- What is to be proved, and what must be true of the device's layout.
pub mod Simulates
-- What the laws speak of: tables and words beside a state.
pub mod Configurations
-- Worked examples.
pub mod Worked
pub mod WorkedKinds
