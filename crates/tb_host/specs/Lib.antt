pub mod Commands
pub mod Headline
pub mod ScriptHeadline
pub mod ServeRun
pub mod HostRun
