pub mod Fillers
