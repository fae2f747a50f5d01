pub mod FromBytes
