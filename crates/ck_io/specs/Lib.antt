pub mod Contents
pub mod Faults
pub mod Folder
pub mod MemFiles
pub mod MemSink
pub mod NeverFails
pub mod StdSink
