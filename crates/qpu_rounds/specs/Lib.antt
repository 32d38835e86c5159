pub mod Away
