pub mod ThreadFaults
