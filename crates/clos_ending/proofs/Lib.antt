pub use Rattle.clos_system.proofs as clos_system
