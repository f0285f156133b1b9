pub mod Bytes
pub mod Certificates
