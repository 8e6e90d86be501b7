pub mod Splicing
