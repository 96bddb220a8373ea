pub mod Transcript
pub mod Examples
pub use Rattle.clos_session.specs.clos_world as clos_world
pub use Rattle.clos_session.specs as clos_session
pub use Rattle.clos_transcript.specs as clos_transcript
