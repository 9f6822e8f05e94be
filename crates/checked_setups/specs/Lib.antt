-- Document 02, A2: "check a setup against it on request".
pub mod Checked
