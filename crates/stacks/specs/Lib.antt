pub mod Venue
