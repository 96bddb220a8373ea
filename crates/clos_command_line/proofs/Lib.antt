pub mod OnCommandLine
