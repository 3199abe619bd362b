pub mod Opposed
